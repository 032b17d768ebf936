use Rattle.tcam_device.specs.Flight.{writes_in}
use Rattle.tcam_device.specs.State.{replay}
use Rattle.tcam_c.specs.Driven.{StandsNotBefore}
use Rattle.tcam_c.proofs.moved.slot_holding.Given as goal

abbrev pub invariant-loop-slot : goal.invariant-loop-slot
invariant-loop-slot l = StandsNotBefore (replay l.device.slots (writes_in l.device.events)).slots l.entry l.slot
