-- The side of a piece on which another one is, and the ids on one side.
use Rattle.std.specs.Prelude.{◌≡◌, ℕ, List, length, ◌≤◌, Contains, ◌↔◌, nat_eq, None, Option, Some, if◌then◌else◌, Bool, filter, map}
use Rattle.std.specs.List.{IsDistinct}
use Rattle.slot_order.specs.Order.{most_slots}
use Rattle.overlap_index.specs.declared.scan.Side.{Side}
use Rattle.overlap_index.specs.declared.scan.Side.TheVariants.{Above, Below}
use Rattle.placement.specs.declared.LivePiece.{LivePiece}
use Rattle.placement.specs.Live.{ids_above, ids_below, is_over}

-- the first is on this side of the second
abbrev pub is_on : Side → LivePiece → LivePiece → Bool
is_on Above other of = is_over other of
is_on Below other of = is_over of other

-- the ids of some pieces on one side of another piece
abbrev pub ids_on : Side → LivePiece → List LivePiece → List ℕ
ids_on side of live = map (λ one. one.id) (filter (λ other. is_on side other of) live)

-- the live ids on one side of a live one
abbrev pub ids_beside : Side → List LivePiece → ℕ → List ℕ
ids_beside Above live id = ids_above live id
ids_beside Below live id = ids_below live id

-- the side of a piece on which another one is, if it is on one
abbrev pub side_of : LivePiece → LivePiece → Option Side
side_of other of = if is_over other of then Some Above else if is_over of other then Some Below else None

-- these are the ids of the live pieces on one side of a piece, each once, in any order
pub record AreOn (side : Side) (of : LivePiece) (live : List LivePiece) (ids : List ℕ) : Type 0 where
  pub exact : (id : ℕ) → Contains ids id ↔ Contains (ids_on side of live) id
  pub once : IsDistinct nat_eq ids
  pub most : length ids ≤ most_slots

-- these are the ids on either side of a piece of some live pieces that have these ids
pub record AreAmong (of : LivePiece) (live : List LivePiece) (ids above below : List ℕ) : Type 0 where
  pub pieces : List LivePiece
  pub named : map (λ (one : LivePiece). one.id) pieces ≡ ids
  pub standing : (one : LivePiece) → Contains pieces one → Contains live one
  pub on_above : above ≡ ids_on Above of pieces
  pub on_below : below ≡ ids_on Below of pieces
