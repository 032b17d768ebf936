use Rattle.std.proofs.Common.{codes, decimal}
use Rattle.import_lines.proofs.Tells.{puts-then}
use Rattle.judge_cli.proofs.lines.put_more.Goals as goal

pub returns : goal.returns
returns c =
    puts-then c.args.into.now.items c.put_bytes.new.into.items c.put_number.new.into.items (codes " ") (decimal c.args.number) c.in_ok-put_bytes.ensures c.in_ok-put_number.ensures
