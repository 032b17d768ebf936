-- The tests of tasks say what tasks are.
use Rattle.std.proofs.Common.{◌≡◌, ℕ, Bool, true, false, not, None, Some, Option, List, IsTrue, IsFalse, Contains, refl, sym, ◌∙◌, ap}
use Rattle.std.specs.Prelude.{nat_eq}
use Rattle.std.proofs.lemmas.Bool.{and_parts, and_from, eqb-true, eq-eqb, both_ways}
use Rattle.std.proofs.lemmas.List.{get_or_default}
use Rattle.slot_order.proofs.Lists.{any_is, any_from}
use Rattle.slot_order.specs.Order.{slot}
use Rattle.slot_order.proofs.Writes.{slot_inside}
use Rattle.rule_model.specs.declared.words.Entry.{Entry}
use Rattle.rule_model.specs.Entry.{RankedPiece, entry_for, same_match}
use Rattle.tcam_device.specs.State.{State}
use Rattle.tcam_device.specs.Insertion.{holds_match}
use Rattle.tcam_device.proofs.One.{same_match-same}
use Rattle.readback.specs.Tasks.{Task, Insert, Rewrite, Erase, IsStanding, IsTold, IsDone, IsLeft, stands_in, holds_told, is_told_in, is_done}
use Rattle.readback.proofs.Matches.{match_same}

-- an entry in a slot is in the list of slots, and back
in_slots : (slots : List (Option Entry)) (i : ℕ) (e : Entry) → slot slots i ≡ Some e → Contains slots (Some e)
in_slots slots i e s = let inside = slot_inside slots i e s in (i, inside, get_or_default slots i (Some e) None inside ∙ s)

at_slot : (slots : List (Option Entry)) (e : Entry) → Contains slots (Some e) → (i : ℕ) × (slot slots i ≡ Some e)
at_slot slots e (i, inside, s) = (i, get_or_default slots i None (Some e) inside ∙ s)

pub stands_is : (state : State) (x : RankedPiece) → IsTrue (stands_in state.slots x) → IsStanding state x
stands_is state x found = let w = any_is (holds_match (entry_for x)) state.slots found in go w.0 w.1 w.2
  where
    go : (held : Option Entry) → Contains state.slots held → holds_match (entry_for x) held ≡ true → IsStanding state x
    go None member is = absurd (let wrong : false ≡ true = is in cc)
    go (Some e) member is = let a = at_slot state.slots e member in (a.0, (e, a.1, is))

pub stands_from : (state : State) (x : RankedPiece) → IsStanding state x → IsTrue (stands_in state.slots x)
stands_from state x (i, s) = any_from (holds_match (entry_for x)) state.slots (Some s.0) (in_slots state.slots i s.0 s.1) s.2

pub told_is : (state : State) (x : RankedPiece) → IsTrue (is_told_in state.slots x) → IsTold state x
told_is state x found = let w = any_is (holds_told (entry_for x)) state.slots found in go w.0 w.1 w.2
  where
    go : (held : Option Entry) → Contains state.slots held → holds_told (entry_for x) held ≡ true → IsTold state x
    go None member is = absurd (let wrong : false ≡ true = is in cc)
    go (Some e) member is =
        let a = at_slot state.slots e member in
        let parts = and_parts (same_match (entry_for x) e) (nat_eq x.result e.result) is in
        (a.0, a.1 ∙ ap Some (sym (match_same (entry_for x) e parts.0 (eqb-true x.result e.result parts.1))))

pub told_from : (state : State) (x : RankedPiece) → IsTold state x → IsTrue (is_told_in state.slots x)
told_from state x (i, s) =
    any_from (holds_told (entry_for x)) state.slots (Some (entry_for x)) (in_slots state.slots i (entry_for x) s)
    (and_from (same_match (entry_for x) (entry_for x)) (nat_eq x.result x.result) (same_match-same (entry_for x)) (eq-eqb x.result x.result refl))

-- a task is done where the test says so, and left where it doesn't
pub done_is : (state : State) (task : Task) → IsTrue (is_done state.slots task) → IsDone state task
done_is state (Insert x) found = stands_is state x found
done_is state (Rewrite x) found = told_is state x found
done_is state (Erase x) found = λ stands. both_ways (stands_in state.slots x) (not_true (stands_in state.slots x) found) (stands_from state x stands)
  where
    not_true : (b : Bool) → not b ≡ true → b ≡ false
    not_true true e = absurd (let wrong : false ≡ true = e in cc)
    not_true false e = refl

pub left_is : (state : State) (task : Task) → IsFalse (is_done state.slots task) → IsLeft state task
left_is state (Insert x) none = λ stands. both_ways (stands_in state.slots x) none (stands_from state x stands)
left_is state (Rewrite x) none = λ told. both_ways (is_told_in state.slots x) none (told_from state x told)
left_is state (Erase x) none = stands_is state x (not_false (stands_in state.slots x) none)
  where
    not_false : (b : Bool) → not b ≡ false → b ≡ true
    not_false true e = refl
    not_false false e = absurd (let wrong : true ≡ false = e in cc)
