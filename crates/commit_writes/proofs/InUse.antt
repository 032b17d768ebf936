-- Planned insertions write slots of the arrangement only.
use Rattle.std.proofs.Common.{◌≡◌, Bool, true, ◌<◌, ◌≤◌, ◌+◌, ◌-◌, ℕ, Option, None, Some, List, [], ◌∷◌, ◌++◌, length, map, refl, sym, ◌∙◌, subst, arith}
use Rattle.std.specs.List.{AllByRecursion}
use Rattle.slot_order.specs.Order.{slot}
use Rattle.slot_moves.specs.Cuts.{holds}
use Rattle.slot_order.proofs.Writes.{slot_inside}
use Rattle.slot_order.proofs.Lists.{all_append}
use Rattle.slot_pool.specs.Arrangement.{Slots, next_free_above, last_free_below}
use Rattle.slot_pool.proofs.Places.{first_slot_is}
use Rattle.slot_pool.proofs.Scan.{last_slot_is, next_free_is, last_free_is, nearest_free_is}
use Rattle.placement.specs.declared.LivePiece.{LivePiece}
use Rattle.placement.specs.Live.{is_above}
use Rattle.placement.specs.declared.Move.{Move}
use Rattle.placement.specs.declared.Move.TheVariants.{Put, Erase}
use Rattle.placement.specs.Placement.{Above, Aiming, after_moves, first_lower, last_upper, next_slot, gap_start, gap_end, span_of, lower_of_held, upper_of_held, IsDownChain, IsUpChain, put_held, moves_along, DownChain, UpChain, Pass, passed, pass_down, pass_up, IsPlacing, into_gap, push_down, push_up, IsPlacement, straight_in, uncross}
use Rattle.placement.proofs.Landing.{landing_free}
use Rattle.placement.proofs.Settled.{length-after_moves}
use Rattle.tcam_device.specs.State.{IsInUse}
use Rattle.commit_writes.specs.Planned.{IdEntries, Planned, ArePlanned, write_for, planned_writes, slots_after}

-- the move's slot is one of so many
abbrev IsInside : ℕ → Move → Type 0
IsInside size (Put slot id) = slot < size
IsInside size (Erase slot) = slot < size

abbrev AreInside : ℕ → List Move → Type 0
AreInside size moves = AllByRecursion (IsInside size) moves

both : (size : ℕ) (first second : List Move) → AreInside size first → AreInside size second → AreInside size (first ++ second)
both size first second a b = all_append (IsInside size) first second a b

lower_inside : (above : Above) (slots : Slots) (id place : ℕ) → first_lower above slots id ≡ Some place → place < length slots
lower_inside above slots id place is = let found = first_slot_is (λ other. above id other) slots place is in let inside : place < 0 + length slots = found.inside in omega arith

upper_inside : (above : Above) (slots : Slots) (id place : ℕ) → last_upper above slots id ≡ Some place → place < length slots
upper_inside above slots id place is = let found = last_slot_is (λ other. above other id) slots place is in let inside : place < 0 + length slots = found.inside in omega arith

lower_held : (above : Above) (slots : Slots) (held : Option ℕ) (place : ℕ) → lower_of_held above slots held ≡ Some place → place < length slots
lower_held above slots None place is = absurd (cc)
lower_held above slots (Some id) place is = lower_inside above slots id place is

upper_held : (above : Above) (slots : Slots) (held : Option ℕ) (place : ℕ) → upper_of_held above slots held ≡ Some place → place < length slots
upper_held above slots None place is = absurd (cc)
upper_held above slots (Some id) place is = upper_inside above slots id place is

put_inside : (size to : ℕ) (held : Option ℕ) → to < size → AreInside size (put_held to held)
put_inside size to None inside = tt
put_inside size to (Some id) inside = (inside, tt)

-- along a chain each member goes to that of the next one, and the last to a free slot
down_inside : (above : Above) (slots : Slots) (free to from : ℕ) (rest : List ℕ) → to < length slots → IsDownChain above slots free (from ∷ rest) → AreInside (length slots) (moves_along slots to (from ∷ rest))
down_inside above slots free to from [] inside chain = put_inside (length slots) to (slot slots from) inside
down_inside above slots free to from (next ∷ rest) inside chain =
    both (length slots) (moves_along slots to (next ∷ rest)) (put_held next (slot slots from)) (down_inside above slots free to next rest inside chain.2)
    (put_inside (length slots) next (slot slots from) (lower_held above slots (slot slots from) next chain.1))

up_inside : (above : Above) (slots : Slots) (free to from : ℕ) (rest : List ℕ) → to < length slots → IsUpChain above slots free (from ∷ rest) → AreInside (length slots) (moves_along slots to (from ∷ rest))
up_inside above slots free to from [] inside chain = put_inside (length slots) to (slot slots from) inside
up_inside above slots free to from (next ∷ rest) inside chain =
    both (length slots) (moves_along slots to (next ∷ rest)) (put_held next (slot slots from)) (up_inside above slots free to next rest inside chain.2)
    (put_inside (length slots) next (slot slots from) (upper_held above slots (slot slots from) next chain.1))

down_chain : (above : Above) (slots : Slots) (from place : ℕ) (down : DownChain above slots from (next_free_above slots place)) → AreInside (length slots) (moves_along slots down.free (from ∷ down.rest))
down_chain above slots from place down = down_inside above slots down.free down.free from down.rest (next_free_is slots place down.free down.to).1.inside down.chain

up_chain : (above : Above) (slots : Slots) (from place : ℕ) (up : UpChain above slots from (last_free_below slots place)) → AreInside (length slots) (moves_along slots up.free (from ∷ up.rest))
up_chain above slots from place up = up_inside above slots up.free up.free from up.rest (last_free_is slots place up.free up.to).1.inside up.chain

-- the moves that place an id where nothing crosses are of slots of the arrangement
placing_inside : (above : Above) {priority : ℕ → ℕ} {aiming : Aiming} (id : ℕ) (slots : Slots) (moves : List Move) → IsPlacing above priority aiming id slots moves → AreInside (length slots) moves
placing_inside above id slots moves (into_gap at low found) =
    ((nearest_free_is slots (gap_start above slots id) (gap_end above slots id) _ at found).free.inside, tt)
placing_inside above id slots moves (push_down lower low none is down shorter) =
    both (length slots) (moves_along slots _ (lower ∷ down.rest)) (Put lower id ∷ [])
    (down_inside above slots down.free _ lower down.rest (landing_free slots _ _ down.free _ (next_free_is slots lower down.free down.to).1).inside down.chain) (lower_inside above slots id lower is, tt)
placing_inside above id slots moves (push_up upper low none is up shorter) =
    both (length slots) (moves_along slots _ (upper ∷ up.rest)) (Put upper id ∷ [])
    (up_inside above slots up.free _ upper up.rest (landing_free slots _ _ up.free _ (last_free_is slots upper up.free up.to).1).inside up.chain) (upper_inside above slots id upper is, tt)

held_inside : (test : ℕ → Bool) (slots : Slots) (at : ℕ) → holds test (slot slots at) ≡ true → at < length slots
held_inside test slots at is = let h = held_by (slot slots at) is in slot_inside slots at h.0 h.1
  where
    held_by : (held : Option ℕ) → holds test held ≡ true → (id : ℕ) × (held ≡ Some id)
    held_by None e = absurd (cc)
    held_by (Some id) e = (id, refl)

-- and so are those that pass a boundary
pass_inside : (above : Above) (behind before : ℕ → Bool) (cut : ℕ) (slots : Slots) (moves : List Move) → Pass above behind before cut slots moves → AreInside (length slots) moves
pass_inside above behind before cut slots moves (passed early late) = tt
pass_inside above behind before cut slots moves (pass_down {moves = rest} lower last down shorter on) =
    both (length slots) (moves_along slots down.free (lower ∷ down.rest)) (Erase lower ∷ rest) (down_chain above slots lower (cut - 1) down) (
      held_inside behind slots lower last.passing,
      subst (λ size. AreInside size rest) (length-after_moves slots (moves_along slots down.free (lower ∷ down.rest) ++ Erase lower ∷ []))
          (pass_inside above behind before cut (after_moves slots (moves_along slots down.free (lower ∷ down.rest) ++ Erase lower ∷ [])) rest on),
    )
pass_inside above behind before cut slots moves (pass_up {moves = rest} upper first up shorter on) =
    both (length slots) (moves_along slots up.free (upper ∷ up.rest)) (Erase upper ∷ rest) (up_chain above slots upper cut up) (
      held_inside before slots upper first.passing,
      subst (λ size. AreInside size rest) (length-after_moves slots (moves_along slots up.free (upper ∷ up.rest) ++ Erase upper ∷ []))
          (pass_inside above behind before cut (after_moves slots (moves_along slots up.free (upper ∷ up.rest) ++ Erase upper ∷ [])) rest on),
    )

placement_inside : (above : Above) {priority : ℕ → ℕ} {aiming : Aiming} (id : ℕ) (slots : Slots) (moves : List Move) → IsPlacement above priority aiming id slots moves → AreInside (length slots) moves
placement_inside above id slots moves (straight_in placing) = placing_inside above id slots moves placing
placement_inside above id slots moves (uncross {passing = passing} {moves = rest} behind before cut crossed sides best pass placing) =
    both (length slots) passing rest (pass_inside above behind before cut slots passing pass)
    (subst (λ size. AreInside size rest) (length-after_moves slots passing) (placing_inside above id (after_moves slots passing) rest placing))

writes_inside : (entries : IdEntries) (size : ℕ) (moves : List Move) → AreInside size moves → AllByRecursion (IsInUse size) (map (write_for entries) moves)
writes_inside entries size [] inside = tt
writes_inside entries size (Put at id ∷ moves) inside = (inside.0, writes_inside entries size moves inside.1)
writes_inside entries size (Erase at ∷ moves) inside = (inside.0, writes_inside entries size moves inside.1)

-- and so are the writes of planned insertions
pub planned_in_use : (live : List LivePiece) (slots : Slots) (entries : IdEntries) (planned : List Planned)
    → ArePlanned live slots planned → AllByRecursion (IsInUse (length slots)) (planned_writes entries planned)
planned_in_use live slots entries [] are = tt
planned_in_use live slots entries (insertion ∷ planned) are =
    all_append (IsInUse (length slots)) (map (write_for entries) insertion.moves) (planned_writes entries planned)
    (writes_inside entries (length slots) insertion.moves (placement_inside (is_above (live ++ insertion.one ∷ [])) insertion.one.id slots insertion.moves are.1))
    (subst (λ size. AllByRecursion (IsInUse size) (planned_writes entries planned)) (length-after_moves slots insertion.moves)
    (planned_in_use (live ++ insertion.one ∷ []) (after_moves slots insertion.moves) entries planned are.3))

span_inside : (above : Above) (slots : Slots) (id : ℕ) → span_of above slots id ≤ length slots
span_inside above slots id = at (last_upper above slots id) (λ place is. upper_inside above slots id place is)
  where
    at : (upper : Option ℕ) → ((place : ℕ) → upper ≡ Some place → place < length slots) → next_slot upper - 1 - gap_end above slots id ≤ length slots
    at None inside = omega arith
    at (Some place) inside = let here = inside place refl in omega arith

-- nor do they cross more slots than it has
pub planned_spans : (live : List LivePiece) (slots : Slots) (planned : List Planned) → ArePlanned live slots planned → AllByRecursion (λ insertion. insertion.span ≤ length slots) planned
planned_spans live slots [] are = tt
planned_spans live slots (insertion ∷ planned) are = (
  subst (λ span. span ≤ length slots) (sym are.2) (span_inside (is_above (live ++ insertion.one ∷ [])) slots insertion.one.id),
  subst (λ size. AllByRecursion (λ insertion. insertion.span ≤ size) planned) (length-after_moves slots insertion.moves)
      (planned_spans (live ++ insertion.one ∷ []) (after_moves slots insertion.moves) planned are.3),
)

-- and they leave the number of slots
pub slots_kept : (slots : Slots) (planned : List Planned) → length (slots_after slots planned) ≡ length slots
slots_kept slots [] = refl
slots_kept slots (insertion ∷ planned) = slots_kept (after_moves slots insertion.moves) planned ∙ length-after_moves slots insertion.moves
