use Rattle.std.proofs.Common.{codes, decimal}
use Rattle.import_lines.proofs.Tells.{puts-then}
use Rattle.judge_cli.proofs.lines.put_part.Goals as goal

pub returns : goal.returns
returns c =
    puts-then c.args.into.now.items c.put_long_number.new.into.items c.put_bytes.new.into.items (decimal c.args.part) (codes ".") c.in_ok-put_long_number.ensures c.in_ok-put_bytes.ensures
