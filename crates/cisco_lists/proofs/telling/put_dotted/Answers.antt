use Rattle.std.proofs.Common.{◌++◌, ◌/◌, ◌%◌, ◌^◌, codes, decimal}
use Rattle.import_lines.proofs.Tells.{puts-then}
use Rattle.cisco_lists.proofs.telling.put_dotted.Goals as goal

pub returns : goal.returns
returns c =
    let address = c.args.address in
    let first = decimal (address / 2 ^ 24 % 256) ++ codes "." in
    let second = decimal (address / 2 ^ 16 % 256) ++ codes "." in
    let third = decimal (address / 2 ^ 8 % 256) ++ codes "." in
    let last = decimal (address % 256) in
    let one = c.put_part.new.into.items in
    let two = c.put_part-2.new.into.items in
    let three = c.put_part-3.new.into.items in
    let all = c.put_long_number.new.into.items in
    puts-then c.args.into.now.items one all first (second ++ (third ++ last)) c.in_ok-put_part.ensures
    (puts-then one two all second (third ++ last) c.in_ok-put_part-2.ensures
    (puts-then two three all third last c.in_ok-put_part-3.ensures c.in_ok-put_long_number.ensures))
