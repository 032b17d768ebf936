use Rattle.std.proofs.Common.{◌++◌, codes, decimal, ap, ◌∙◌}
use Rattle.fpm_frames.proofs.Telling.{puts-then, count-some}
use Rattle.fpm_frames.proofs.lines.put_left_out_count.Goals as goal

pub returns : goal.returns
returns c =
    let head = c.put_bytes.new.into.items in
    let count = c.put_number.new.into.items in
    let all = c.put_bytes-2.new.into.items in
    puts-then c.args.into.now.items head all (codes "# left out: ") (decimal c.args.count ++ codes " frames\n") c.in_ok-put_bytes.ensures
    (puts-then head count all (decimal c.args.count) (codes " frames\n") c.in_ok-put_number.ensures c.in_ok-put_bytes-2.ensures)
    ∙ ap (λ t. c.args.into.now.items ++ t) (count-some c.args.count c.if-count-eq0.false)
