-- Words that hit the same entries find the same slot.
use Rattle.std.proofs.Common.{◌≡◌, ℕ, suc, Option, None, Some, List, [], ◌∷◌, refl, sym, ◌∙◌, ap}
use Rattle.std.specs.List.{position_or_len}
use Rattle.slot_order.specs.Order.{slot}
use Rattle.rule_model.specs.declared.words.Word.{Word}
use Rattle.rule_model.specs.declared.words.Entry.{Entry}
use Rattle.rule_model.specs.Entry.{hits, slot_hits, first_hitting}

first_same : (a b : Word) (slots : List (Option Entry)) → ((at : ℕ) (entry : Entry) → slot slots at ≡ Some entry → hits entry a ≡ hits entry b)
    → position_or_len (slot_hits a) slots ≡ position_or_len (slot_hits b) slots
first_same a b [] same = refl
first_same a b (held ∷ slots) same = rw (one held refl, first_same a b slots (λ at entry s. same (suc at) entry s)) refl
  where
    one : (stands : Option Entry) → held ≡ stands → slot_hits a held ≡ slot_hits b held
    one None e = ap (slot_hits a) e ∙ sym (ap (slot_hits b) e)
    one (Some entry) e = ap (slot_hits a) e ∙ (same 0 entry e ∙ sym (ap (slot_hits b) e))

pub hitting_same : (a b : Word) (slots : List (Option Entry)) → ((at : ℕ) (entry : Entry) → slot slots at ≡ Some entry → hits entry a ≡ hits entry b) → first_hitting slots a ≡ first_hitting slots b
hitting_same a b slots same = rw (first_same a b slots same) refl
