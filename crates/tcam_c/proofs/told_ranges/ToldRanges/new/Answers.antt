use Rattle.tcam_c.proofs.Placed.{nothing_new}
use Rattle.tcam_c.proofs.told_ranges.ToldRanges.new.Goals as goal

pub returns : goal.returns
returns c =
    let all = c.port_at_each_bit-given.ensures in
    nothing_new c.port_at_each_bit-given.result all.map all.full
