-- What the moves along the last members of a chain have left.
use Rattle.std.proofs.Common.{◌≡◌, ◌≢◌, ℕ, suc, ◌+◌, ◌<◌, None, Some, Option, List, [], ◌∷◌, ◌++◌, length, set, Contains, arith, refl, sym, ◌∙◌, subst, ap, length-set, length-drop, get_or-drop, drop, append-nil, append_assoc}
use Rattle.std.specs.Prelude.{slice_index_or, is_none, cond}
use Rattle.std.proofs.Math.Seq.{drop-cons, drop-append_seam}
use Rattle.std.proofs.lemmas.List.{get_or_default}
use Rattle.std.proofs.lemmas.List.Sums.{sum_by-set, sum_by-cons, fold-append}
use Rattle.slot_order.specs.Order.{slot}
use Rattle.slot_order.proofs.Writes.{slot_same, slot_other, slot_inside}
use Rattle.slot_order.proofs.Lists.{contains_head, contains_tail}
use Rattle.slot_pool.specs.Arrangement.{Slots, HasTwin}
use Rattle.placement.specs.declared.Move.{Move}
use Rattle.placement.specs.declared.Move.TheVariants.{Put}
use Rattle.placement.specs.Placement.{after_move, after_moves, moves_along, put_held}
use Rattle.placement.specs.Insertion.{free_slots, moves_since, AreMade}
use Rattle.placement.specs.Ready.{IsTaken, CanShift}

abbrev pub one_if_free : Option ℕ → ℕ
one_if_free held = cond (is_none held) 1 0

-- one slot fewer is empty where something goes into an empty one, and as many where it goes over something
pub free_put : (slots : Slots) (at id : ℕ) → at < length slots → slot slots at ≡ None → free_slots (set slots at (Some id)) + 1 ≡ free_slots slots
free_put slots at id inside free =
    let k : free_slots (set slots at (Some id)) + one_if_free (slot slots at) ≡ free_slots slots + 0 = sum_by-set one_if_free slots at (Some id) None inside in
    let e : one_if_free (slot slots at) ≡ 1 = ap one_if_free free in
    omega arith

pub free_over : (slots : Slots) (at id held : ℕ) → at < length slots → slot slots at ≡ Some held → free_slots (set slots at (Some id)) ≡ free_slots slots
free_over slots at id held inside taken =
    let k : free_slots (set slots at (Some id)) + one_if_free (slot slots at) ≡ free_slots slots + 0 = sum_by-set one_if_free slots at (Some id) None inside in
    let e : one_if_free (slot slots at) ≡ 0 = ap one_if_free taken in
    omega arith

pub free_erase : (slots : Slots) (at held : ℕ) → at < length slots → slot slots at ≡ Some held → free_slots (set slots at None) ≡ free_slots slots + 1
free_erase slots at held inside taken =
    let k : free_slots (set slots at None) + one_if_free (slot slots at) ≡ free_slots slots + 1 = sum_by-set one_if_free slots at None None inside in
    let e : one_if_free (slot slots at) ≡ 0 = ap one_if_free taken in
    omega arith

-- where some slot is empty there is one
pub free_somewhere : (slots : Slots) → 0 < free_slots slots → (at : ℕ) × (at < length slots) × (slot slots at ≡ None)
free_somewhere [] some = absurd (omega arith)
free_somewhere (None ∷ slots) some = (0, omega arith, refl)
free_somewhere (Some id ∷ slots) some =
    let k : free_slots (Some id ∷ slots) ≡ 0 + free_slots slots = sum_by-cons one_if_free (Some id) slots in
    let w = free_somewhere slots (omega arith) in
    (suc w.0, (let l = w.1 in omega arith), w.2)

-- what has moved: nothing yet, or the first of these stands in one more slot, and one slot fewer is empty
abbrev pub HasMoved : Slots → Slots → List ℕ → Type 0
HasMoved slots slots' [] = slots' ≡ slots
HasMoved slots slots' (at ∷ rest) = HasTwin slots' at × (free_slots slots' + 1 ≡ free_slots slots)

-- the moves along these have been made; the other slots are as they were
pub record Shifted (slots : Slots) (free : ℕ) (members : List ℕ) (slots' : Slots) : Type 0 where
  pub size : length slots' ≡ length slots
  pub kept : (at : ℕ) → at ≢ free → (Contains members at → ⊥) → slot slots' at ≡ slot slots at
  pub moved : HasMoved slots slots' members

-- the slot that the next one goes to
abbrev pub goes_to : ℕ → List ℕ → ℕ
goes_to free members = slice_index_or members 0 free

pub shifted_more : (slots slots' : Slots) (free from id : ℕ) (members : List ℕ) → Shifted slots free members slots' → free < length slots → slot slots free ≡ None
    → slot slots from ≡ Some id → (Contains members from → ⊥) → Shifted slots free (from ∷ members) (set slots' (goes_to free members) (Some id))
shifted_more slots slots' free from id [] w room empty here new =
    let away : from ≢ free = λ k. let z : None ≡ Some id = sym empty ∙ (ap (slot slots) (sym k) ∙ here) in absurd (cc) in
    let size = w.size in
    let inside : free < length slots' = omega arith in
    let empty' : slot slots' free ≡ None = ap (λ d. slot d free) w.moved ∙ empty in
    record {
      size = length-set slots' free (Some id) ∙ w.size;
      kept = λ at n m. slot_other slots' free (Some id) at n ∙ w.kept at n (λ c. m (contains_tail from at [] c));
      moved = (
        (id, free, slot_other slots' free (Some id) from away ∙ (ap (λ d. slot d from) w.moved ∙ here), slot_same slots' free (Some id) inside, λ k. away (sym k)),
        free_put slots' free id inside empty' ∙ ap free_slots w.moved,
      );
    }
shifted_more slots slots' free from id (to ∷ rest) w room empty here new =
    let away : from ≢ free = λ k. let z : None ≡ Some id = sym empty ∙ (ap (slot slots) (sym k) ∙ here) in absurd (cc) in
    let other : from ≢ to = λ k. new (subst (λ z. Contains (to ∷ rest) z) (sym k) (contains_head to rest)) in
    let t = w.moved.0 in
    let inside : to < length slots' = slot_inside slots' to t.0 t.2 in
    record {
      size = length-set slots' to (Some id) ∙ w.size;
      kept = λ at n m. slot_other slots' to (Some id) at (λ k. m (contains_tail from at (to ∷ rest) (subst (λ z. Contains (to ∷ rest) z) (sym k) (contains_head to rest))))
          ∙ w.kept at n (λ c. m (contains_tail from at (to ∷ rest) c));
      moved = (
        (id, to, slot_other slots' to (Some id) from other ∙ (w.kept from away new ∙ here), slot_same slots' to (Some id) inside, λ k. other (sym k)),
        ap (λ n. n + 1) (free_over slots' to id t.0 inside t.2) ∙ w.moved.1,
      );
    }

-- one move more at the end
pub along_more : (slots : Slots) (free from id : ℕ) (members : List ℕ) → slot slots from ≡ Some id
    → moves_along slots free (from ∷ members) ≡ moves_along slots free members ++ Put (goes_to free members) id ∷ []
along_more slots free from id [] here = ap (put_held free) here
along_more slots free from id (to ∷ rest) here = ap (λ held. moves_along slots free (to ∷ rest) ++ put_held to held) here

pub after_more : (slots : Slots) (moves : List Move) (step : Move) → after_moves slots (moves ++ step ∷ []) ≡ after_move (after_moves slots moves) step
after_more slots moves step = fold-append after_move slots moves (step ∷ [])

pub after_append : (slots : Slots) (moves more : List Move) → after_moves slots (moves ++ more) ≡ after_moves (after_moves slots moves) more
after_append slots moves more = fold-append after_move slots moves more

-- the moves along these members have been planned and made
pub record AreShifted (slots : Slots) (plan : List Move) (free : ℕ) (members : List ℕ) (slots' : Slots) (plan' : List Move) : Type 0 where
  pub gained : plan' ≡ plan ++ moves_along slots free members
  pub after : slots' ≡ after_moves slots (moves_along slots free members)
  pub shifted : Shifted slots free members slots'

-- along no members nothing moves
pub shifted_none : (slots : Slots) (plan : List Move) (free : ℕ) → AreShifted slots plan free [] slots plan
shifted_none slots plan free = record {
  gained = sym (append-nil plan);
  after = refl;
  shifted = record { size = refl; kept = λ at away new. refl; moved = refl };
}

-- a member, and those after it
pub record NextMember (slots : Slots) (free : ℕ) (members : List ℕ) (i n from : ℕ) : Type 0 where
  pub id : ℕ
  pub here : slot slots from ≡ Some id
  pub away : from ≢ free
  pub new : Contains (drop n members) from → ⊥
  pub split : drop i members ≡ from ∷ drop n members

pub next_member : (slots : Slots) (free : ℕ) (members : List ℕ) (i n from : ℕ) → CanShift slots free members → i < length members → n ≡ suc i
    → from ≡ slice_index_or members i from → NextMember slots free members i n from
next_member slots free members i n from can inside next is = record {
  id = t.0;
  here = here;
  away = λ k. let z : None ≡ Some t.0 = sym can.empty ∙ (ap (slot slots) (sym k) ∙ here) in absurd (cc);
  new = new;
  split = drop-cons members i from inside ∙ (ap (λ x. x ∷ drop (suc i) members) (sym is) ∙ ap (λ k. from ∷ drop k members) (sym next));
}
  where
    is_free : from ≡ slice_index_or members i free
    is_free = is ∙ get_or_default members i from free inside

    t : IsTaken slots (slice_index_or members i free)
    t = can.taken i inside

    here : slot slots from ≡ Some t.0
    here = ap (slot slots) is_free ∙ t.1

    new : Contains (drop n members) from → ⊥
    new c =
        let size = length-drop n members in
        let later : n + c.0 < length members = (let l = c.1 in omega arith) in
        let there : slice_index_or members (n + c.0) free ≡ from = get_or_default members (n + c.0) free from later ∙ (sym (get_or-drop n members c.0 from) ∙ c.2) in
        can.apart i (n + c.0) (omega arith) later (sym is_free ∙ sym there)

-- a member's slot is one of the arrangement, and holds what it held
pub shift_held : (slots slots' : Slots) (free : ℕ) (members : List ℕ) (i n from : ℕ) → NextMember slots free members i n from → Shifted slots free (drop n members) slots'
    → (id : ℕ) × (slot slots' from ≡ Some id)
shift_held slots slots' free members i n from m w = (m.id, w.kept from m.away m.new ∙ m.here)

pub shift_on : (slots slots' : Slots) (plan plan' : List Move) (now : Slots) (made : List Move) (free : ℕ) (members : List ℕ) (i n from to id : ℕ)
    → CanShift slots free members → NextMember slots free members i n from → to ≡ goes_to free (drop n members)
    → AreShifted slots plan free (drop n members) slots' plan' → slot slots' from ≡ Some id
    → made ≡ plan' ++ Put to id ∷ [] → now ≡ after_move slots' (Put to id) → AreShifted slots plan free (drop i members) now made
shift_on slots slots' plan plan' now made free members i n from to id can m target w held gained after =
    subst (λ xs. AreShifted slots plan free xs now made) (sym m.split) record {
      gained = gained ∙ (ap (λ p. p ++ Put to id ∷ []) w.gained ∙ (append_assoc plan (moves_along slots free (drop n members)) (Put to id ∷ [])
          ∙ ap (λ ms. plan ++ ms) (ap (λ k. moves_along slots free (drop n members) ++ Put k id ∷ []) target ∙ sym (along_more slots free from id (drop n members) here))));
      after = after ∙ (ap (λ d. after_move d (Put to id)) w.after ∙ (sym (after_more slots (moves_along slots free (drop n members)) (Put to id))
          ∙ ap (after_moves slots) (ap (λ k. moves_along slots free (drop n members) ++ Put k id ∷ []) target ∙ sym (along_more slots free from id (drop n members) here))));
      shifted = subst (Shifted slots free (from ∷ drop n members)) (ap (λ k. set slots' k (Some id)) (sym target) ∙ sym after)
          (shifted_more slots slots' free from id (drop n members) w.shifted can.room can.empty here m.new);
    }
  where
    here : slot slots from ≡ Some id
    here = sym (w.shifted.kept from m.away m.new) ∙ held

-- moves that were added to a plan and made in an arrangement
pub made_by : (slots slots' : Slots) (plan plan' moves : List Move) → plan' ≡ plan ++ moves → slots' ≡ after_moves slots moves → AreMade slots slots' plan plan'
made_by slots slots' plan plan' moves gained after =
    let same : moves_since plan plan' ≡ moves = ap (drop (length plan)) gained ∙ drop-append_seam plan moves in
    (gained ∙ ap (λ ms. plan ++ ms) (sym same), after ∙ ap (after_moves slots) (sym same))
