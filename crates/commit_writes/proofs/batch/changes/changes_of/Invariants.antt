use Rattle.std.proofs.Common.{length}
use Rattle.commit_writes.proofs.Named.{AreDone}
use Rattle.commit_writes.proofs.batch.changes.changes_of.Given as goal

abbrev pub invariant-loop-place : goal.invariant-loop-place
invariant-loop-place l = AreDone l.rules.rules l.batch l.last.entries l.changes.items

abbrev pub decreases-loop-place : goal.decreases-loop-place
decreases-loop-place l = length l.last.entries
