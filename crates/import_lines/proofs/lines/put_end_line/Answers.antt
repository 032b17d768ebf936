use Rattle.std.proofs.Common.{◌++◌, codes}
use Rattle.import_lines.proofs.Tells.{puts-then}
use Rattle.import_lines.proofs.lines.put_end_line.Goals as goal

pub returns : goal.returns
returns c =
    let head = c.put_bytes.new.into.items in
    let reason = c.put_bytes-2.new.into.items in
    let all = c.put_bytes-3.new.into.items in
    let why = c.args.why.now in
    puts-then c.args.into.now.items head all (codes "end of input: ") (why ++ codes "\n") c.in_ok-put_bytes.ensures
    (puts-then head reason all why (codes "\n") c.in_ok-put_bytes-2.ensures c.in_ok-put_bytes-3.ensures)
