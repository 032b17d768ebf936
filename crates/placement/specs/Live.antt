-- The live ids of an overlap index, each with its piece and its priority.
use Rattle.std.specs.Prelude.{◌≡◌, ◌≢◌, ◌⊎◌, ℕ, ◌<◌, ◌≤◌, Bool, not, ◌==◌, ◌&&◌, IsTrue, nat_lt, nat_eq, if◌then◌else◌, List, [], ◌∷◌, filter, map, Option, None, Some, MatchOption, slice_index_or, slice_set}
use Rattle.std.specs.List.{list_any, AllByRecursion, IsDistinct}
use Rattle.rule_model.specs.Piece.{pieces_meet}
use Rattle.placement.specs.declared.LivePiece.{LivePiece}

-- the slot in which each id stands, by its id
abbrev pub Homes : Type 0
Homes = List (Option ℕ)

abbrev pub home_in : Homes → ℕ → Option ℕ
home_in homes id = slice_index_or homes id None

-- the live ids, each with its piece and its priority, and the number that ids are below; and where the ids stand, by what was
-- told of them, where that is kept
pub record LivePieces : Type 0 where
  pub slots : ℕ
  pub live : List LivePiece
  pub told : Option Homes

-- the priority of a live id, or 0 where it isn't live
abbrev pub rank_in : List LivePiece → ℕ → ℕ
rank_in [] id = 0
rank_in (one ∷ live) id = if one.id == id then one.rank else rank_in live id

-- the ids are below a number, and no id stands twice
pub record AreApart (slots : ℕ) (live : List LivePiece) : Type 0 where
  pub small : AllByRecursion (λ one. one.id < slots) live
  pub once : IsDistinct nat_eq (map (λ one. one.id) live)

-- the id is live
abbrev pub is_live : List LivePiece → ℕ → Bool
is_live live id = list_any (λ one. one.id == id) live

-- the first overlaps the second and has the higher priority
abbrev pub is_over : LivePiece → LivePiece → Bool
is_over upper lower = pieces_meet upper.piece lower.piece && nat_lt lower.rank upper.rank

-- what is live by this id
abbrev pub with_id : List LivePiece → ℕ → List LivePiece
with_id live id = filter (λ one. one.id == id) live

-- what is live but this id
abbrev pub without_id : List LivePiece → ℕ → List LivePiece
without_id live id = filter (λ one. not (one.id == id)) live

-- the live ids above one, and those below it
abbrev pub ids_above : List LivePiece → ℕ → List ℕ
ids_above live id = map (λ one. one.id) (filter (λ upper. list_any (λ lower. is_over upper lower) (with_id live id)) live)

-- the ids below this one, in the order of the list
abbrev pub ids_below : List LivePiece → ℕ → List ℕ
ids_below live id = map (λ one. one.id) (filter (λ lower. list_any (λ upper. is_over upper lower) (with_id live id)) live)

-- Whether one id is above another, as placements go by.
abbrev pub is_above : List LivePiece → ℕ → ℕ → Bool
is_above live upper lower = list_any (λ id. id == upper) (ids_above live lower)

-- what is told once an id came or went: it stands nowhere, unless nothing is kept any more
abbrev pub MayTell : Option Homes → ℕ → Option Homes → Type 0
MayTell was id now = (now ≡ None) ⊎ ((homes : Homes) × (was ≡ Some homes) × (now ≡ Some (slice_set homes id None)))

-- it is told that an id stands in a slot, or in none, and of other ids nothing
abbrev pub IsToldAt : Option Homes → ℕ → Option ℕ → Option Homes → Type 0
IsToldAt was id slot now =
    (homes : Homes) → now ≡ Some homes
    → (before : Homes) × (was ≡ Some before) × (home_in homes id ≡ slot) × ((other : ℕ) → other ≢ id → home_in homes other ≡ home_in before other)

-- an id that passes a test stands in the slot, by what was told
abbrev pub StandsBy : (ℕ → Bool) → Homes → ℕ → Type 0
StandsBy test homes at = (id : ℕ) × IsTrue (test id) × (home_in homes id ≡ Some at)

-- of the ids that pass a test the greatest slot, by what was told
abbrev pub IsLastTold : (ℕ → Bool) → Homes → Option ℕ → Type 0
IsLastTold test homes found =
    MatchOption found ((at : ℕ) → StandsBy test homes at → ⊥) (λ last. StandsBy test homes last × ((at : ℕ) → StandsBy test homes at → at ≤ last))

-- of the ids below one the slot of that which is above all others of them, by what was told
pub record IsNext (above : ℕ → ℕ → Bool) (homes : Homes) (id at : ℕ) : Type 0 where
  pub next : ℕ
  pub below : IsTrue (above id next)
  pub stands : home_in homes next ≡ Some at
  pub first : (other place : ℕ) → IsTrue (above id other) → home_in homes other ≡ Some place → (other ≡ next) ⊎ IsTrue (above next other)

abbrev pub IsNextTold : (ℕ → ℕ → Bool) → Homes → ℕ → Option ℕ → Type 0
IsNextTold above homes id found = MatchOption found ((at : ℕ) → StandsBy (above id) homes at → ⊥) (IsNext above homes id)
