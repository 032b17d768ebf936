use Rattle.std.proofs.Common.{◌≡◌, ℕ, true, List, Contains, take}
use Rattle.placement.specs.declared.LivePiece.{LivePiece}
use Rattle.placement.specs.Live.{is_live}
use Rattle.overlap_index.specs.Sides.{AreAmong}
use Rattle.overlap_index.specs.Tied.{IsComing}
use Rattle.overlap_index.proofs.pairs.among.Given as goal

-- those so far are on their sides
abbrev pub invariant-loop-id : goal.invariant-loop-id
invariant-loop-id l = (slots : ℕ) (live : List LivePiece) → IsComing slots live l.pieces l.places l.of → ((id : ℕ) → Contains l.ids id → is_live live id ≡ true)
    → AreAmong l.of live (take l.id-index l.ids) l.found.above.items l.found.below.items
