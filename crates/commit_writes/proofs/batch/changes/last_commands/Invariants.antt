use Rattle.std.proofs.Common.{take}
use Rattle.commit_writes.specs.Changes.{AreLastCommands}
use Rattle.commit_writes.proofs.batch.changes.last_commands.Given as goal

-- of the first commands
abbrev pub invariant-loop-place : goal.invariant-loop-place
invariant-loop-place l = AreLastCommands l.batch (take l.place l.batch) l.last
