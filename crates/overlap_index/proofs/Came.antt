-- Ids on one side of a piece, and what is live after one change more.
use Rattle.std.proofs.Common.{◌≡◌, List, [], ◌∷◌, ◌++◌, map}
use Rattle.std.specs.Prelude.{nat_eq}
use Rattle.std.specs.List.{IsDistinct}
use Rattle.std.proofs.lemmas.List.Sums.{fold_push}
use Rattle.overlap_index.specs.Changes.{changed, live_after}
use Rattle.overlap_index.specs.declared.Change.{Change}
use Rattle.overlap_index.specs.declared.scan.Side.{Side}
use Rattle.placement.specs.declared.LivePiece.{LivePiece}
use Rattle.overlap_index.specs.Sides.{is_on, ids_on}
use Rattle.placement.proofs.Live.{distinct_filter}

-- the ids on one side are distinct
pub distinct_on : (side : Side) (of : LivePiece) (live : List LivePiece) → IsDistinct nat_eq (map (λ one. one.id) live) → IsDistinct nat_eq (ids_on side of live)
distinct_on side of live d = distinct_filter (λ other. is_on side other of) live d

-- what is live after one change more
pub live_more : (changes : List Change) (change : Change) → live_after (changes ++ change ∷ []) ≡ changed (live_after changes) change
live_more changes change = fold_push changed [] changes change
