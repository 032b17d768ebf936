use Rattle.settled_changes.proofs.FromLast.{AreFrom}
use Rattle.settled_changes.proofs.changes.commands_of.Given as goal

abbrev pub invariant-loop-place : goal.invariant-loop-place
invariant-loop-place l = AreFrom l.rules.rules l.requests l.place l.commands.items l.named

abbrev pub decreases-loop-place : goal.decreases-loop-place
decreases-loop-place l = l.place
