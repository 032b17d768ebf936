-- The live ids after some came and went.
use Rattle.std.specs.Prelude.{List, [], ◌∷◌, ◌++◌}
use Rattle.std.specs.List.{fold}
use Rattle.overlap_index.specs.declared.Change.{Change}
use Rattle.overlap_index.specs.declared.Change.TheVariants.{Came, Went}
use Rattle.placement.specs.declared.LivePiece.{LivePiece}
use Rattle.placement.specs.Live.{without_id}

-- one change
abbrev pub changed : List LivePiece → Change → List LivePiece
changed live (Came one) = live ++ one ∷ []
changed live (Went id) = without_id live id

-- all of them, from none, the oldest first
abbrev pub live_after : List Change → List LivePiece
live_after changes = fold changed [] changes
