use Rattle.std.proofs.Common.{ℕ, ◌<◌}
use Rattle.std.specs.Prelude.{slice_index}
use Rattle.commit_writes.specs.InFlight.{HasBits}
use Rattle.trace_check.proofs.words.is_right_table.Given as goal

-- the words of the first ports are right
abbrev pub invariant-loop-place : goal.invariant-loop-place
invariant-loop-place l = (port : ℕ) → port < l.place → HasBits l.live port (slice_index l.table port)
