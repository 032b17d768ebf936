-- Where a new entry goes, and which entries move to make room for it (after Shah and Gupta, "Fast Updating Algorithms
-- for TCAMs", IEEE Micro 2001: only entries that one key can match need their order).
-- Throughout, above a b says that the ids a and b overlap and a has the higher priority.
use Rattle.std.specs.Prelude.{◌≡◌, ℕ, ◌+◌, ◌-◌, ◌*◌, ◌/◌, ◌<◌, ◌≤◌, ◌↔◌, Bool, true, false, IsTrue, IsFalse, nat_lt, Option, Some, None, is_none, unwrap_or, List, [], ◌∷◌, ◌++◌, length, count_by, fold, slice_set}
use Rattle.slot_order.specs.Order.{slot}
use Rattle.slot_moves.specs.Cuts.{holds, early, late, wrong_side, HasRoomNear}
use Rattle.slot_pool.specs.Arrangement.{Slots, first_slot, last_slot, nearest_free, next_free_above, last_free_below}
use Rattle.placement.specs.declared.Aim.{Aim}
use Rattle.placement.specs.declared.Aim.TheVariants.{Middle, At, Start, End}
use Rattle.placement.specs.declared.Move.{Move}
use Rattle.placement.specs.declared.Move.TheVariants.{Put, Erase}

-- whether the first id overlaps the second and has the higher priority
abbrev pub Above : Type 0
Above = ℕ → ℕ → Bool

-- the arrangement after a move
abbrev pub after_move : Slots → Move → Slots
after_move slots (Put slot id) = slice_set slots slot (Some id)
after_move slots (Erase slot) = slice_set slots slot None

-- the arrangement after some moves, one after the other
abbrev pub after_moves : Slots → List Move → Slots
after_moves slots moves = fold after_move slots moves

-- the greatest slot of an id above this one
abbrev pub last_upper : Above → Slots → ℕ → Option ℕ
last_upper above slots id = last_slot (λ other. above other id) slots

-- the least slot of an id below this one
abbrev pub first_lower : Above → Slots → ℕ → Option ℕ
first_lower above slots id = first_slot (λ other. above id other) slots

-- the slot behind this one, or the first of all
abbrev pub next_slot : Option ℕ → ℕ
next_slot None = 0
next_slot (Some slot) = slot + 1

-- the first slot that an entry may stand in: the one behind the last upper entry
abbrev pub gap_start : Above → Slots → ℕ → ℕ
gap_start above slots id = next_slot (last_upper above slots id)

-- the slot of the first lower entry, or behind the last slot
abbrev pub gap_end : Above → Slots → ℕ → ℕ
gap_end above slots id = unwrap_or (first_lower above slots id) (length slots)

-- where an entry with so many before it belongs, of so many in all, each with its share of the slots: in the middle of
-- its share
abbrev pub rank_slot : ℕ → ℕ → ℕ → ℕ
rank_slot slots before all = (2 * before + 1) * slots / (2 * all)

-- an aim, and the priorities of the entries that the same commit inserts later
pub record Aiming : Type 0 where
  pub aim : Aim
  pub coming : List ℕ

-- the slot that an entry aims at, in a gap from one slot on and before another
abbrev pub aimed_at : Aim → ℕ → ℕ → ℕ
aimed_at Middle start end = (start + end - 1) / 2
aimed_at (At slot) start end = slot
aimed_at Start start end = start
aimed_at End start end = end - 1

-- the free slot of the gap that is nearest to the aim, the lower of two
abbrev pub gap_slot : Above → Aim → Slots → ℕ → Option ℕ
gap_slot above aim slots id =
    nearest_free slots (gap_start above slots id) (gap_end above slots id) (aimed_at aim (gap_start above slots id) (gap_end above slots id))

-- how far the last upper entry stands past the first lower one
abbrev pub span_of : Above → Slots → ℕ → ℕ
span_of above slots id = gap_start above slots id - 1 - gap_end above slots id

-- the first lower entry of the one that stands here
abbrev pub lower_of_held : Above → Slots → Option ℕ → Option ℕ
lower_of_held above slots None = None
lower_of_held above slots (Some id) = first_lower above slots id

-- the last upper entry of the one that stands here
abbrev pub upper_of_held : Above → Slots → Option ℕ → Option ℕ
upper_of_held above slots None = None
upper_of_held above slots (Some id) = last_upper above slots id

-- the slot that a down chain goes on to
abbrev pub step_down : Above → Slots → ℕ → Option ℕ
step_down above slots at = lower_of_held above slots (slot slots at)

-- the slot that an up chain goes on to
abbrev pub step_up : Above → Slots → ℕ → Option ℕ
step_up above slots at = upper_of_held above slots (slot slots at)

-- how many entries belong before those of a priority: the higher ones, of those that stand and of those still to come
abbrev pub before_priority : (ℕ → ℕ) → List ℕ → Slots → ℕ → ℕ
before_priority priority coming slots level =
    count_by (λ held. holds (λ id. nat_lt level (priority id)) held) slots + count_by (λ later. nat_lt level later) coming

-- how many entries there are to be: those that stand, the new one and those still to come
abbrev pub entries_to_be : List ℕ → Slots → ℕ
entries_to_be coming slots = length slots - count_by (λ held. is_none held) slots + 1 + length coming

-- where the one that stands here belongs among them. The new one isn't counted before it.
abbrev pub share_of_held : (ℕ → ℕ) → List ℕ → Slots → Option ℕ → ℕ
share_of_held priority coming slots None = 0
share_of_held priority coming slots (Some id) =
    rank_slot (length slots) (before_priority priority coming slots (priority id)) (entries_to_be coming slots)

-- the slot that the last member of a chain would stand in best: that where it belongs; or the far end of its gap, where the
-- aim is an end; with the middle as aim none is
abbrev pub wished_by : Aim → ℕ → ℕ → Option ℕ
wished_by Middle share far = None
wished_by (At slot) share far = Some share
wished_by Start share far = Some far
wished_by End share far = Some far

-- of the free slots from one on and before another that which is nearest to a wish, the lower of two; with no wish this one
abbrev pub landing_in : Slots → ℕ → ℕ → ℕ → Option ℕ → ℕ
landing_in slots start end free None = free
landing_in slots start end free (Some wish) = unwrap_or (nearest_free slots start end wish) free

-- the slot that the last member of a down chain to a free slot goes to: one behind its own and before its first lower entry
abbrev pub landing_down : Above → (ℕ → ℕ) → Aiming → Slots → ℕ → ℕ → ℕ
landing_down above priority aiming slots free last =
    landing_in slots (last + 1) (unwrap_or (step_down above slots last) (length slots)) free
    (wished_by aiming.aim (share_of_held priority aiming.coming slots (slot slots last)) (unwrap_or (step_down above slots last) (length slots) - 1))

-- likewise upwards: one behind its last upper entry and before its own
abbrev pub landing_up : Above → (ℕ → ℕ) → Aiming → Slots → ℕ → ℕ → ℕ
landing_up above priority aiming slots free last =
    landing_in slots (next_slot (step_up above slots last)) last free
    (wished_by aiming.aim (share_of_held priority aiming.coming slots (slot slots last)) (next_slot (step_up above slots last)))

-- there is no slot, or it isn't below the free one
abbrev pub StopsBelow : ℕ → Option ℕ → Type 0
StopsBelow free None = Unit {0}
StopsBelow free (Some slot) = free ≤ slot

-- there is no slot, or it isn't above the free one
abbrev pub StopsAbove : ℕ → Option ℕ → Type 0
StopsAbove free None = Unit {0}
StopsAbove free (Some slot) = slot ≤ free

-- a down chain: each next slot is the first lower entry of the one before, and the last has none before the free slot
abbrev pub IsDownChain : Above → Slots → ℕ → List ℕ → Type 0
IsDownChain above slots free [] = ⊥
IsDownChain above slots free (slot ∷ []) = (slot < free) × StopsBelow free (step_down above slots slot)
IsDownChain above slots free (slot ∷ next ∷ chain) =
    (slot < free) × (step_down above slots slot ≡ Some next) × IsDownChain above slots free (next ∷ chain)

-- An up chain is its mirror.
abbrev pub IsUpChain : Above → Slots → ℕ → List ℕ → Type 0
IsUpChain above slots free [] = ⊥
IsUpChain above slots free (slot ∷ []) = (free < slot) × StopsAbove free (step_up above slots slot)
IsUpChain above slots free (slot ∷ next ∷ chain) =
    (free < slot) × (step_up above slots slot ≡ Some next) × IsUpChain above slots free (next ∷ chain)

-- what stands in a slot is put into another
abbrev pub put_held : ℕ → Option ℕ → List Move
put_held to None = []
put_held to (Some id) = Put to id ∷ []

-- along a chain the last member goes to the free slot, and then each earlier one over the slot of the one after it
abbrev pub moves_along : Slots → ℕ → List ℕ → List Move
moves_along slots free [] = []
moves_along slots free (at ∷ []) = put_held free (slot slots at)
moves_along slots free (at ∷ next ∷ chain) =
    moves_along slots free (next ∷ chain) ++ put_held next (slot slots at)

-- the last of a slot and some more
abbrev pub last_of : ℕ → List ℕ → ℕ
last_of at [] = at
last_of at (next ∷ rest) = last_of next rest

-- a chain from a slot to the nearest free slot beyond another
pub record DownChain (above : Above) (slots : Slots) (from : ℕ) (target : Option ℕ) : Type 0 where
  pub free : ℕ
  pub rest : List ℕ
  pub to : target ≡ Some free
  pub chain : IsDownChain above slots free (from ∷ rest)

-- likewise upwards
pub record UpChain (above : Above) (slots : Slots) (from : ℕ) (target : Option ℕ) : Type 0 where
  pub free : ℕ
  pub rest : List ℕ
  pub to : target ≡ Some free
  pub chain : IsUpChain above slots free (from ∷ rest)

-- a chain of entries that overlap, each of higher priority than the next, leads from one id to another; those between stand
pub data Leads (above : Above) (slots : Slots) : ℕ → ℕ → Type 0 where
  straight : {upper lower : ℕ} → IsTrue (above upper lower) → Leads above slots upper lower
  through : {upper lower : ℕ} (at between : ℕ) → slot slots at ≡ Some between
      → IsTrue (above upper between) → Leads above slots between lower → Leads above slots upper lower

-- which of the entries that stand must stand behind an id, and which before it: those that it leads to, and those that lead
-- to it
pub record AreSides (above : Above) (slots : Slots) (id : ℕ) (behind before : ℕ → Bool) : Type 0 where
  pub after_it : (at other : ℕ) → slot slots at ≡ Some other → IsTrue (behind other) ↔ Leads above slots id other
  pub before_it : (at other : ℕ) → slot slots at ≡ Some other → IsTrue (before other) ↔ Leads above slots other id

-- the boundary with room near it that has the fewest entries on its wrong side, from the first lower entry to behind the
-- last upper one; the last of equal ones
pub record IsCut (above : Above) (slots : Slots) (id : ℕ) (behind before : ℕ → Bool) (cut : ℕ) : Type 0 where
  pub from : gap_end above slots id ≤ cut
  pub to : cut ≤ gap_start above slots id
  pub room : HasRoomNear behind before (gap_end above slots id) (gap_start above slots id) cut slots
  pub fewest : (other : ℕ) → gap_end above slots id ≤ other → other ≤ gap_start above slots id → HasRoomNear behind before (gap_end above slots id) (gap_start above slots id) other slots
      → wrong_side behind before cut slots ≤ wrong_side behind before other slots
  pub last : (other : ℕ) → cut < other → other ≤ gap_start above slots id → HasRoomNear behind before (gap_end above slots id) (gap_start above slots id) other slots
      → wrong_side behind before cut slots < wrong_side behind before other slots

-- the last slot before a boundary, or the first one from it on, whose entry passes a test
pub record IsLastBefore (test : ℕ → Bool) (cut : ℕ) (slots : Slots) (at : ℕ) : Type 0 where
  pub inside : at < cut
  pub passing : holds test (slot slots at) ≡ true
  pub nearest : (other : ℕ) → at < other → other < cut → holds test (slot slots other) ≡ false

pub record IsFirstFrom (test : ℕ → Bool) (cut : ℕ) (slots : Slots) (at : ℕ) : Type 0 where
  pub inside : cut ≤ at
  pub passing : holds test (slot slots at) ≡ true
  pub nearest : (other : ℕ) → cut ≤ other → other < at → holds test (slot slots other) ≡ false

-- The moves that take each entry on the wrong side past a boundary, one after the other, the nearest first:
pub data Pass (above : Above) (behind before : ℕ → Bool) (cut : ℕ) : Slots → List Move → Type 0 where
  -- none is left
  passed : {slots : Slots} → early behind cut slots ≡ 0 → late before cut slots ≡ 0 → Pass above behind before cut slots []
  -- the last one that must stand behind it goes to the least free slot there, unless the first one that must stand before it
  -- has a shorter chain
  pass_down : {slots : Slots} {moves : List Move} (lower : ℕ)
      → IsLastBefore behind cut slots lower
      → (down : DownChain above slots lower (next_free_above slots (cut - 1)))
      → ((upper : ℕ) → IsFirstFrom before cut slots upper → (up : UpChain above slots upper (last_free_below slots cut)) → length down.rest ≤ length up.rest)
      → Pass above behind before cut (after_moves slots (moves_along slots down.free (lower ∷ down.rest) ++ Erase lower ∷ [])) moves
      → Pass above behind before cut slots (moves_along slots down.free (lower ∷ down.rest) ++ Erase lower ∷ moves)
  -- then that one goes to the greatest free slot there
  pass_up : {slots : Slots} {moves : List Move} (upper : ℕ)
      → IsFirstFrom before cut slots upper
      → (up : UpChain above slots upper (last_free_below slots cut))
      → ((lower : ℕ) → IsLastBefore behind cut slots lower → (down : DownChain above slots lower (next_free_above slots (cut - 1))) → length up.rest < length down.rest)
      → Pass above behind before cut (after_moves slots (moves_along slots up.free (upper ∷ up.rest) ++ Erase upper ∷ [])) moves
      → Pass above behind before cut slots (moves_along slots up.free (upper ∷ up.rest) ++ Erase upper ∷ moves)

-- The moves that place a new id with an aim where nothing crosses:
pub data IsPlacing (above : Above) (priority : ℕ → ℕ) (aiming : Aiming) (id : ℕ) : Slots → List Move → Type 0 where
  -- a free slot in the gap: the one nearest to the aim
  into_gap : {slots : Slots} (at : ℕ)
      → gap_start above slots id ≤ gap_end above slots id
      → gap_slot above aiming.aim slots id ≡ Some at
      → IsPlacing above priority aiming id slots (Put at id ∷ [])
  -- none there: the shorter of the two chains moves, the down chain of equal ones, and the id is put over its first slot. The
  -- last member goes to the free slot of its own gap, on the chain's side, that is nearest to its wish.
  push_down : {slots : Slots} (lower : ℕ)
      → gap_start above slots id ≤ gap_end above slots id
      → gap_slot above aiming.aim slots id ≡ None
      → first_lower above slots id ≡ Some lower
      → (down : DownChain above slots lower (next_free_above slots lower))
      → ((upper : ℕ) → last_upper above slots id ≡ Some upper → (up : UpChain above slots upper (last_free_below slots upper)) → length down.rest ≤ length up.rest)
      → IsPlacing above priority aiming id slots (moves_along slots (landing_down above priority aiming slots down.free (last_of lower down.rest)) (lower ∷ down.rest) ++ Put lower id ∷ [])
  push_up : {slots : Slots} (upper : ℕ)
      → gap_start above slots id ≤ gap_end above slots id
      → gap_slot above aiming.aim slots id ≡ None
      → last_upper above slots id ≡ Some upper
      → (up : UpChain above slots upper (last_free_below slots upper))
      → ((lower : ℕ) → first_lower above slots id ≡ Some lower → (down : DownChain above slots lower (next_free_above slots lower)) → length up.rest < length down.rest)
      → IsPlacing above priority aiming id slots (moves_along slots (landing_up above priority aiming slots up.free (last_of upper up.rest)) (upper ∷ up.rest) ++ Put upper id ∷ [])

-- The moves that place a new id with an aim:
pub data IsPlacement (above : Above) (priority : ℕ → ℕ) (aiming : Aiming) (id : ℕ) (slots : Slots) : List Move → Type 0 where
  -- nothing crosses
  straight_in : {moves : List Move} → IsPlacing above priority aiming id slots moves → IsPlacement above priority aiming id slots moves
  -- the last upper entry stands past the first lower one: first the entries on the wrong side of the best boundary pass it
  uncross : {passing moves : List Move} (behind before : ℕ → Bool) (cut : ℕ)
      → gap_end above slots id < gap_start above slots id
      → AreSides above slots id behind before
      → IsCut above slots id behind before cut
      → Pass above behind before cut slots passing
      → IsPlacing above priority aiming id (after_moves slots passing) moves
      → IsPlacement above priority aiming id slots (passing ++ moves)

-- No id stands in a later slot than one that it is above, all copies counted.
abbrev pub IsInOrder : Above → Slots → Type 0
IsInOrder above slots =
    (i j first second : ℕ) → i < j → slot slots i ≡ Some first → slot slots j ≡ Some second
    → IsFalse (above second first)
