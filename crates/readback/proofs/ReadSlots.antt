-- Slots that are read one by one, and the pieces that they hold.
use Rattle.std.proofs.Common.{◌≡◌, ℕ, ◌+◌, ◌<◌, ◌≤◌, Option, Some, None, List, [], ◌∷◌, ◌++◌, length, take, Contains, inl, inr, sym, ◌∙◌, ap, subst, arith, length-append, IsNone, IfSome, refl}
use Rattle.std.proofs.Math.ListN.{get_or-append}
use Rattle.std.proofs.Math.Seq.{get_or-append_seam}
use Rattle.std.proofs.lemmas.Bool.{cases_eq}
use Rattle.std.proofs.lemmas.List.{take_more, take_all, length-replicate}
use Rattle.slot_order.specs.Order.{slot}
use Rattle.slot_order.proofs.Writes.{slot_inside}
use Rattle.tcam_device.specs.State.{replay}
use Rattle.tcam_device.specs.declared.Write.{Write}
use Rattle.tcam_device.proofs.Wider.{slots-after}
use Rattle.rule_model.specs.declared.words.Entry.{Entry}
use Rattle.rule_model.specs.Entry.{RankedPiece, entry_for}
use Rattle.readback.specs.Places.{AreIn}

-- a device that was replayed has as many slots as a blank one
pub replay_slots : (slots : ℕ) (writes : List Write) → length (replay slots writes).slots ≡ slots
replay_slots slots writes = slots-after _ writes ∙ length-replicate slots None

-- one more slot
pub next_slot : {X : Type 0} (slots : List (Option X)) (i : ℕ) (x : Option X) → i < length slots → x ≡ slot slots i → take (i + 1) slots ≡ take i slots ++ x ∷ []
next_slot slots i x inside read = take_more slots i None inside ∙ ap (λ y. take i slots ++ y ∷ []) (sym read)

-- so one more is read
pub next_read : {X : Type 0} (slots items more : List (Option X)) (i : ℕ) (x : Option X) → i < length slots → x ≡ slot slots i → items ≡ take i slots → more ≡ items ++ x ∷ [] → more ≡ take (i + 1) slots
next_read slots items more i x inside read first put = put ∙ (ap (λ some. some ++ x ∷ []) first ∙ sym (next_slot slots i x inside read))

-- and in the end all are
pub all_read : {X : Type 0} (slots items : List (Option X)) (i : ℕ) → length slots ≤ i → items ≡ take i slots → items ≡ slots
all_read slots items i past read = read ∙ take_all i slots past

-- what the slots hold behind which one is put
slot_before : {X : Type 0} (slots : List (Option X)) (x : Option X) (at : ℕ) → at < length slots → slot (slots ++ x ∷ []) at ≡ slot slots at
slot_before slots x at inside = get_or-append slots (x ∷ []) None at inside

slot_behind : {X : Type 0} (slots : List (Option X)) (x : Option X) (at : ℕ) → at ≡ length slots → slot (slots ++ x ∷ []) at ≡ x
slot_behind slots x at same = ap (slot (slots ++ x ∷ [])) same ∙ get_or-append_seam slots x [] None

-- the piece of one more slot
pub one_more_in : (held : List (Option Entry)) (pieces : List RankedPiece) (places : List (Option RankedPiece)) (x : Option Entry) (y : Option RankedPiece) → AreIn held pieces places
    → IfSome y (λ ranked. Contains pieces ranked × (x ≡ Some (entry_for ranked)))
    → (IsNone y → (entry : Entry) → x ≡ Some entry → (ranked : RankedPiece) → Contains pieces ranked → entry_for ranked ≡ entry → ⊥)
    → AreIn (held ++ x ∷ []) pieces (places ++ y ∷ [])
one_more_in held pieces places x y are known strange = record {
  size = let a = length-append places (y ∷ []) in let b = length-append held (x ∷ []) in let c = are.size in omega arith;
  known = λ at ranked read.
      let inside = slot_inside (places ++ y ∷ []) at ranked read in
      let all = length-append places (y ∷ []) in
      let size = are.size in
      elim (cases_eq at (length places)) [
        | inl same ↦ let w = at_some y ranked known (sym (slot_behind places y at same) ∙ read) in (w.0, slot_behind held x at (same ∙ size) ∙ w.1)
        | inr other ↦ let w = are.known at ranked (sym (slot_before places y at (omega arith)) ∙ read) in (w.0, slot_before held x at (omega arith) ∙ w.1)
      ];
  strange = λ at entry read none.
      let inside = slot_inside (held ++ x ∷ []) at entry read in
      let all = length-append held (x ∷ []) in
      let size = are.size in
      elim (cases_eq at (length places)) [
        | inl same ↦ strange (at_none y (sym (slot_behind places y at same) ∙ none)) entry (sym (slot_behind held x at (same ∙ size)) ∙ read)
        | inr other ↦ are.strange at entry (sym (slot_before held x at (omega arith)) ∙ read) (sym (slot_before places y at (omega arith)) ∙ none)
      ];
}
  where
    at_some : (place : Option RankedPiece) (ranked : RankedPiece) → IfSome place (λ one. Contains pieces one × (x ≡ Some (entry_for one))) → place ≡ Some ranked → Contains pieces ranked × (x ≡ Some (entry_for ranked))
    at_some place ranked w is = subst (λ (one : Option RankedPiece). IfSome one (λ one. Contains pieces one × (x ≡ Some (entry_for one)))) is w

    at_none : (place : Option RankedPiece) → place ≡ None → IsNone place
    at_none place is = subst (λ (one : Option RankedPiece). IsNone one) (sym is) refl
