-- The least slot that hits a word holds the entry that a look-up finds.
use Rattle.std.proofs.Common.{◌≡◌, ℕ, Option, None, Some, List, refl, sym, ◌∙◌, subst}
use Rattle.std.specs.Prelude.{MatchOption}
use Rattle.slot_order.specs.Order.{slot, first_hit}
use Rattle.rule_model.specs.declared.words.Word.{Word}
use Rattle.rule_model.specs.declared.words.Entry.{Entry}
use Rattle.rule_model.specs.Entry.{hits, first_hitting}
use Rattle.rule_model.proofs.Lookups.{first_hitting-is}

pub record StandsFirst (slots : List (Option Entry)) (word : Word) (place : ℕ) : Type 0 where
  pub entry : Entry
  pub stands : slot slots place ≡ Some entry
  pub found : first_hit hits slots word ≡ Some entry

pub least_found : (slots : List (Option Entry)) (word : Word) (place : ℕ) → first_hitting slots word ≡ Some place → StandsFirst slots word place
least_found slots word place is = by (first_hit hits slots word) refl (first_hitting-is slots word)
  where
    by : (r : Option Entry) → first_hit hits slots word ≡ r
        → MatchOption r (first_hitting slots word ≡ None) (λ entry. (other : ℕ) × (first_hitting slots word ≡ Some other) × (slot slots other ≡ Some entry))
        → StandsFirst slots word place
    by None none w = absurd (let k : None ≡ Some place = sym w ∙ is in cc)
    by (Some entry) some w =
        let same : w.0 ≡ place = (let k : Some w.0 ≡ Some place = sym w.1 ∙ is in cc) in
        record { entry = entry; stands = subst (λ at. slot slots at ≡ Some entry) same w.2; found = some }

pub none_found : (slots : List (Option Entry)) (word : Word) → first_hitting slots word ≡ None → first_hit hits slots word ≡ None
none_found slots word is = by (first_hit hits slots word) refl (first_hitting-is slots word)
  where
    by : (r : Option Entry) → first_hit hits slots word ≡ r
        → MatchOption r (first_hitting slots word ≡ None) (λ entry. (other : ℕ) × (first_hitting slots word ≡ Some other) × (slot slots other ≡ Some entry))
        → r ≡ None
    by None none w = refl
    by (Some entry) some w = absurd (let k : Some w.0 ≡ None = sym w.1 ∙ is in cc)
