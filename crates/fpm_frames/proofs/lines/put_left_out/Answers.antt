use Rattle.std.proofs.Common.{◌++◌, codes, decimal}
use Rattle.fpm_frames.proofs.Telling.{puts-then}
use Rattle.fpm_frames.proofs.lines.put_left_out.Goals as goal

pub returns : goal.returns
returns c =
    let head = c.put_bytes.new.into.items in
    let count = c.put_number.new.into.items in
    let colon = c.put_bytes-2.new.into.items in
    let reason = c.put_bytes-3.new.into.items in
    let all = c.put_bytes-4.new.into.items in
    let why = c.args.why.now in
    puts-then c.args.into.now.items head all (codes "# left out: frame ") (decimal c.args.number ++ (codes ": " ++ (why ++ codes "\n"))) c.in_ok-put_bytes.ensures
    (puts-then head count all (decimal c.args.number) (codes ": " ++ (why ++ codes "\n")) c.in_ok-put_number.ensures
    (puts-then count colon all (codes ": ") (why ++ codes "\n") c.in_ok-put_bytes-2.ensures
    (puts-then colon reason all why (codes "\n") c.in_ok-put_bytes-3.ensures c.in_ok-put_bytes-4.ensures)))
