use Rattle.std.proofs.Common.{◌≡◌, take}
use Rattle.commit_writes.specs.Shape.{set_pieces}
use Rattle.commit_writes.specs.Changes.{coded_by, during_of}
use Rattle.commit_writes.proofs.batch.pieces.set_pieces.Given as goal

-- those of the first rules
abbrev pub invariant-loop-place : goal.invariant-loop-place
invariant-loop-place l = l.pieces.items ≡ set_pieces (coded_by l.bits) (during_of l.bits) (take l.place l.rules.rules)
