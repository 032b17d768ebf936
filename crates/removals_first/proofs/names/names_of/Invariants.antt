use Rattle.std.proofs.Common.{take}
use Rattle.removals_first.specs.Tests.{AreNames}
use Rattle.removals_first.proofs.names.names_of.Given as goal

abbrev pub invariant-loop-i : goal.invariant-loop-i
invariant-loop-i l = AreNames l.named l.removed (take l.i l.batch)
