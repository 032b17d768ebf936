use Rattle.import_lines.proofs.Tells.{puts-then}
use Rattle.judge_cli.specs.Lines.{answer_text}
use Rattle.judge_cli.proofs.lines.put_named.Goals as goal

pub returns : goal.returns
returns c =
    puts-then c.args.into.now.items c.put_bytes.new.into.items c.put_answer.new.into.items c.args.name.now (answer_text c.args.answer) c.in_ok-put_bytes.ensures c.in_ok-put_answer.ensures
