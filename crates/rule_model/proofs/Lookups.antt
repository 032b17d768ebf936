-- The least slot that hits a word, and the entry that a look-up finds.
use Rattle.std.proofs.Common.{◌≡◌, ℕ, ◌<◌, false, Option, None, Some, List, length, refl, ◌∙◌, ap, arith, le_refl}
use Rattle.std.specs.Prelude.{MatchOption}
use Rattle.std.specs.List.{position_or_len}
use Rattle.std.proofs.lemmas.Bool.{cond-true, cond-false, lt-ltb, le-ltb, false_from_ne_true}
use Rattle.std.proofs.lemmas.List.Sums.{position_or_len_is}
use Rattle.slot_order.specs.Order.{slot, first_hit}
use Rattle.slot_order.proofs.Lookup.{IsFound, found, missed}
use Rattle.slot_order.proofs.Writes.{slot_inside}
use Rattle.rule_model.specs.declared.words.Word.{Word}
use Rattle.rule_model.specs.declared.words.Entry.{Entry}
use Rattle.rule_model.specs.Entry.{hits, slot_hits, first_hitting}

-- a look-up finds the entry of the least slot that hits the word, and nothing only where no slot does
pub first_hitting-is : (slots : List (Option Entry)) (word : Word)
    → MatchOption (first_hit hits slots word) (first_hitting slots word ≡ None) (λ entry. (place : ℕ) × (first_hitting slots word ≡ Some place) × (slot slots place ≡ Some entry))
first_hitting-is slots word = at (first_hit hits slots word) refl
  where
    at : (r : Option Entry) → first_hit hits slots word ≡ r
        → MatchOption r (first_hitting slots word ≡ None) (λ entry. (place : ℕ) × (first_hitting slots word ≡ Some place) × (slot slots place ≡ Some entry))
    at None none =
        let same = position_or_len_is (slot_hits word) slots (length slots) None (le_refl (length slots)) (λ k below. clear k (slot slots k) refl) (λ below. absurd (omega arith)) in
        cond-false _ _ _ (le-ltb (position_or_len (slot_hits word) slots) (length slots) (omega arith))
      where
        clear : (k : ℕ) (here : Option Entry) → slot slots k ≡ here → slot_hits word here ≡ false
        clear k None e = refl
        clear k (Some entry) e = false_from_ne_true (hits entry word) (λ t. missed hits slots word none k entry e t)
    at (Some entry) some =
        let same = position_or_len_is (slot_hits word) slots f.at None (omega (arith, inside)) (λ k below. clear k (slot slots k) refl below) (λ below. ap (slot_hits word) f.stands ∙ f.hit) in
        (f.at, cond-true _ _ _ (lt-ltb (position_or_len (slot_hits word) slots) (length slots) (omega (arith, inside))) ∙ ap Some same, f.stands)
      where
        f : IsFound hits slots word entry
        f = found hits slots word entry some

        inside : f.at < length slots
        inside = slot_inside slots f.at entry f.stands

        clear : (k : ℕ) (here : Option Entry) → slot slots k ≡ here → k < f.at → slot_hits word here ≡ false
        clear k None e below = refl
        clear k (Some entry) e below = false_from_ne_true (hits entry word) (λ t. let least = f.least k entry e t in absurd (omega arith))
