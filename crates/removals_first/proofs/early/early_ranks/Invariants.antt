use Rattle.removals_first.proofs.FromLowest.{AreLowest}
use Rattle.removals_first.proofs.early.early_ranks.Given as goal

abbrev pub invariant-loop-place : goal.invariant-loop-place
invariant-loop-place l = AreLowest l.rules.rules l.batch l.place l.ranks.items l.set

abbrev pub decreases-loop-place : goal.decreases-loop-place
decreases-loop-place l = l.place
