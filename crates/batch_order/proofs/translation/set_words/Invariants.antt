use Rattle.std.proofs.Common.{◌≡◌, List, take}
use Rattle.tcam_device.specs.State.{state_after}
use Rattle.commit_writes.specs.declared.Rewrite.{Rewrite}
use Rattle.commit_writes.specs.Planned.{IdEntries}
use Rattle.batch_order.specs.Planning.{all_writes, as_writes}
use Rattle.batch_order.proofs.translation.set_words.Given as goal

-- the tables have the words of the first writes
abbrev pub invariant-loop-place : goal.invariant-loop-place
invariant-loop-place l = (entries : IdEntries) (rewrites : List Rewrite) → l.tables ≡ state_after l.fn.tables (as_writes entries rewrites (take l.place (all_writes l.writes)))
