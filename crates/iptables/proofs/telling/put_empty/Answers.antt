use Rattle.std.specs.Prelude.{◌++◌, codes}
use Rattle.import_lines.proofs.Tells.{puts-then}
use Rattle.iptables.proofs.telling.put_empty.Goals as goal

pub returns : goal.returns
returns c =
    let one = c.put_bytes.new.into.items in
    let two = c.put_bytes-2.new.into.items in
    let all = c.put_bytes-3.new.into.items in
    puts-then c.args.into.now.items one all (codes "# no packet: ") (c.args.text.now ++ codes "\n") c.in_ok-put_bytes.ensures
    (puts-then one two all c.args.text.now (codes "\n") c.in_ok-put_bytes-2.ensures c.in_ok-put_bytes-3.ensures)
