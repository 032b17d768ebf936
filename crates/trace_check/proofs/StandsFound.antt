-- Whether a piece stands, or stands with its result, by what a walk by its rank finds.
use Rattle.std.proofs.Common.{◌≡◌, ◌≢◌, ℕ, ◌≤◌, IsTrue, IsNone, Option, Some, None, List, [], length, is_some, inl, inr, refl, sym, ◌∙◌, ap, subst, arith}
use Rattle.std.specs.Prelude.{IfSome, option_map}
use Rattle.std.proofs.lemmas.Bool.{cases_Bool}
use Rattle.slot_order.specs.Order.{slot}
use Rattle.slot_order.proofs.Writes.{slot_inside}
use Rattle.rule_model.specs.declared.words.Entry.{Entry}
use Rattle.rule_model.specs.Entry.{RankedPiece, entry_for, same_match}
use Rattle.tcam_device.specs.State.{State}
use Rattle.readback.specs.Tasks.{stands_in, is_told_in}
use Rattle.readback.proofs.Tests.{stands_is, stands_from, told_is, told_from}
use Rattle.trace_check.specs.Behind.{entries_in}
use Rattle.trace_check.proofs.Comes.{entry_of_place}
use Rattle.trace_check.proofs.LeavesFound.{IsCopyOf}
use Rattle.trace_check.proofs.PlacedEntries.{entry_in}

module _ (places : List (Option RankedPiece)) (x : RankedPiece) (entry : Entry) (is : entry ≡ entry_for x) where
  abbrev held : State
  held = record { slots = entries_in places; src = []; dst = [] }

  pub stands_found : (at : ℕ) → length places ≤ at → (found : Option ℕ) → IfSome found (λ (other : ℕ). IsCopyOf places at entry other)
      → (IsNone found → (other : ℕ) (copy : RankedPiece) → other ≢ at → slot places other ≡ Some copy → IsTrue (same_match entry (entry_for copy)) → ⊥) → is_some found ≡ stands_in (entries_in places) x
  stands_found at past (Some other) some none =
      sym (stands_from held x (
        other,
        (
          entry_for some.1.0,
          entry_in places other ∙ ap (option_map entry_for) some.1.1,
          subst (λ (e : Entry). IsTrue (same_match e (entry_for some.1.0))) is some.1.2,
        ),
      ))
  stands_found at past None some none = elim (cases_Bool (stands_in (entries_in places) x)) [
    | inl stands ↦
        let w = stands_is held x stands in
        let y = entry_of_place (slot places w.0) w.1.0 (sym (entry_in places w.0) ∙ w.1.1) in
        let inside = slot_inside places w.0 y.0 y.1 in
        absurd (none refl w.0 y.0 (λ same. omega arith) y.1
        (subst (λ (e : Entry). IsTrue (same_match e (entry_for y.0))) (sym is) (subst (λ (e : Entry). IsTrue (same_match (entry_for x) e)) (sym y.2) w.1.2)))
    | inr away ↦ sym away
  ]

  pub told_found : (found : Option RankedPiece) → IfSome found (λ (ranked : RankedPiece). (entry_for ranked ≡ entry) × ((at : ℕ) × (slot places at ≡ Some ranked)))
      → (IsNone found → (at : ℕ) (ranked : RankedPiece) → slot places at ≡ Some ranked → entry_for ranked ≡ entry → ⊥) → is_some found ≡ is_told_in (entries_in places) x
  told_found (Some ranked) some none = sym (told_from held x (some.1.0, entry_in places some.1.0 ∙ (ap (option_map entry_for) some.1.1 ∙ ap Some (some.0 ∙ is))))
  told_found None some none = elim (cases_Bool (is_told_in (entries_in places) x)) [
    | inl told ↦
        let w = told_is held x told in
        let y = entry_of_place (slot places w.0) (entry_for x) (sym (entry_in places w.0) ∙ w.1) in
        absurd (none refl w.0 y.0 y.1 (y.2 ∙ sym is))
    | inr away ↦ sym away
  ]
