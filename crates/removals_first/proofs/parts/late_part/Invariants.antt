use Rattle.std.proofs.Common.{◌≡◌, filter, take}
use Rattle.std.specs.BTreeSet.{contains}
use Rattle.std.specs.Ordering.{nat_cmp}
use Rattle.removals_first.specs.Tests.{stays_late}
use Rattle.removals_first.proofs.parts.late_part.Given as goal

abbrev pub invariant-loop-i : goal.invariant-loop-i
invariant-loop-i l = l.part ≡ filter (stays_late (contains nat_cmp l.early)) (take l.i l.batch)
