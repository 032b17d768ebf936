-- The pieces in the slots without the one in the twin's, and slots whose twin is erased.
use Rattle.std.proofs.Common.{◌≡◌, ◌≢◌, ℕ, ◌<◌, Option, Some, None, List, length, length-set, IsSome, IsNone, IfSome, get_or, inl, inr, ◌⊎◌, refl, sym, ◌∙◌, subst, ap, arith}
use Rattle.std.specs.Prelude.{slice_set}
use Rattle.std.proofs.lemmas.Bool.{cases_eq, cases_lt}
use Rattle.std.proofs.lemmas.List.{get_or_default, get_or_past}
use Rattle.slot_order.specs.Order.{slot}
use Rattle.slot_order.proofs.Writes.{slot_same, slot_other}
use Rattle.rule_model.specs.Entry.{RankedPiece}
use Rattle.placement.specs.declared.LivePiece.{LivePiece}
use Rattle.tcam_device.specs.State.{State, state_after}
use Rattle.readback.specs.Going.{twin_writes}
use Rattle.batch_order.specs.Entries.{HasId}
use Rattle.batch_order.specs.Standing.{without_twin}

-- an emptied slot is empty, also past the end
pub emptied : {X : Type 0} (held : List (Option X)) (at : ℕ) → slot (slice_set held at None) at ≡ None
emptied held at = elim (cases_lt at (length held)) [
  | inl inside ↦ slot_same held at None inside
  | inr past ↦ get_or_past (slice_set held at None) at None (let size : length (slice_set held at None) ≡ length held = length-set held at None in omega arith)
]

-- the slot is the twin's, or isn't
abbrev pub IsOther : Option ℕ → ℕ → Type 0
IsOther twin at = (gone : ℕ) → twin ≡ Some gone → at ≢ gone

pub is_twin : (twin : Option ℕ) (at : ℕ) → (twin ≡ Some at) ⊎ IsOther twin at
is_twin None at = inr (λ gone is same. absurd (let clash : None ≡ Some gone = is in cc))
is_twin (Some twin) at = elim (cases_eq at twin) [
  | inl same ↦ inl (ap (λ (n : ℕ). Some n) (sym same))
  | inr other ↦ inr (λ gone is same. other (same ∙ (let e : gone ≡ twin = (let both : Some twin ≡ Some gone = is in cc) in e)))
]

-- a lesser slot isn't
pub lesser_other : (twin : Option ℕ) (at lesser : ℕ) → twin ≡ Some at → lesser < at → IsOther twin lesser
lesser_other twin at lesser is less gone other same =
    let e : at ≡ gone = (let both : Some at ≡ Some gone = sym is ∙ other in cc) in omega arith

-- what is in a slot but for the twin's is there, and the slot isn't the twin's
pub of_all : (twin : Option ℕ) (places : List (Option RankedPiece)) (at : ℕ) (x : RankedPiece) → slot (without_twin twin places) at ≡ Some x → slot places at ≡ Some x
of_all None places at x here = here
of_all (Some gone) places at x here = elim (cases_eq at gone) [
  | inl same ↦ absurd (let clash : None ≡ Some x = sym (emptied places gone) ∙ (ap (slot (slice_set places gone None)) (sym same) ∙ here) in cc)
  | inr other ↦ sym (slot_other places gone None at other) ∙ here
]

pub no_twin : (twin : Option ℕ) (places : List (Option RankedPiece)) (at : ℕ) (x : RankedPiece) → slot (without_twin twin places) at ≡ Some x → IsOther twin at
no_twin None places at x here gone is same = absurd (let clash : None ≡ Some gone = is in cc)
no_twin (Some twin) places at x here gone is same =
    let e : at ≡ twin = same ∙ (let back : gone ≡ twin = (let both : Some twin ≡ Some gone = is in cc) in back) in
    absurd (let clash : None ≡ Some x = sym (emptied places twin) ∙ (ap (slot (slice_set places twin None)) (sym e) ∙ here) in cc)

-- another slot has its piece
pub but_twin : (twin : Option ℕ) (places : List (Option RankedPiece)) (at : ℕ) → IsOther twin at → slot (without_twin twin places) at ≡ slot places at
but_twin None places at other = refl
but_twin (Some gone) places at other = slot_other places gone None at (other gone refl)

-- so of the state once the twin is erased
pub erased_other : (twin : Option ℕ) (state : State) (at : ℕ) → IsOther twin at → slot (state_after state (twin_writes twin)).slots at ≡ slot state.slots at
erased_other None state at other = refl
erased_other (Some gone) state at other = slot_other state.slots gone None at (other gone refl)

pub erased_twin : (twin : Option ℕ) (state : State) (at : ℕ) → twin ≡ Some at → slot (state_after state (twin_writes twin)).slots at ≡ None
erased_twin None state at is = absurd (let clash : None ≡ Some at = is in cc)
erased_twin (Some gone) state at is =
    let e : gone ≡ at = (let both : Some gone ≡ Some at = is in cc) in
    subst (λ (n : ℕ). slot (slice_set state.slots gone None) n ≡ None) e (emptied state.slots gone)

pub erased_size : (twin : Option ℕ) (state : State) → length (state_after state (twin_writes twin)).slots ≡ length state.slots
erased_size None state = refl
erased_size (Some gone) state = length-set state.slots gone None

-- what holds of each value that there is
pub if_some : {X : Type 0} (P : X → Type 0) (found : Option X) → ((x : X) → found ≡ Some x → P x) → IfSome found P
if_some P None each = tt
if_some P (Some x) each = each x refl

-- the twin's piece has an id
pub twin_id : (twin : Option ℕ) (places : List (Option RankedPiece)) (live : List LivePiece) (at : ℕ) (x : RankedPiece)
    → IfSome twin (λ at. IfSome (slot places at) (HasId live)) → twin ≡ Some at → slot places at ≡ Some x → HasId live x
twin_id twin places live at x has is here =
    subst (λ (o : Option RankedPiece). IfSome o (HasId live)) here (subst (λ (t : Option ℕ). IfSome t (λ at. IfSome (slot places at) (HasId live))) is has)

-- what isn't missing was found
pub some_found : (found : Option ℕ) → (IsNone found → ⊥) → IsSome found
some_found None there = absurd (there refl)
some_found (Some id) there = refl

-- what is read of a slot that there is, is in it
pub read_slot : {X : Type 0} (held : List (Option X)) (at : ℕ) (other : Option X) (x : X) → at < length held → get_or held at other ≡ Some x → slot held at ≡ Some x
read_slot held at other x inside here = get_or_default held at None other inside ∙ here
