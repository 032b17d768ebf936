use Rattle.std.proofs.Common.{◌≡◌, map, take}
use Rattle.settled_changes.specs.declared.Request.TheVariants.{Strict}
use Rattle.settled_changes.proofs.requests.Requests.of_batch.Given as goal

abbrev pub invariant-loop-i : goal.invariant-loop-i
invariant-loop-i l = l.requests ≡ map Strict (take l.i l.batch)
