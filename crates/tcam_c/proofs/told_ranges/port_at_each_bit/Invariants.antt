use Rattle.tcam_c.proofs.Placed.{IsFilled}
use Rattle.tcam_c.proofs.told_ranges.port_at_each_bit.Given as goal

abbrev pub invariant-loop-port : goal.invariant-loop-port
invariant-loop-port l = IsFilled l.map l.port
