use Rattle.std.proofs.Common.{◌≡◌, drop}
use Rattle.batch_order.specs.Undoing.{unmade}
use Rattle.batch_order.proofs.undoing.unmake_words.Given as goal

-- the words from a place on are made, the last one first
abbrev pub invariant-loop-place : goal.invariant-loop-place
invariant-loop-place l = l.tables ≡ unmade l.fn.tables (drop l.place l.undo)
