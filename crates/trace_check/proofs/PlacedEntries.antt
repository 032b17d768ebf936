-- The entries of pieces in slots, and walks over them.
use Rattle.std.proofs.Common.{◌≡◌, ℕ, Bool, ◌||◌, Option, List, [], ◌∷◌, zero, suc, refl, ap, length}
use Rattle.std.specs.Prelude.{option_map}
use Rattle.std.specs.List.{list_any}
use Rattle.std.proofs.lemmas.List.{length-map}
use Rattle.slot_order.specs.Order.{slot}
use Rattle.rule_model.specs.declared.words.Entry.{Entry}
use Rattle.rule_model.specs.Entry.{RankedPiece, entry_for}
use Rattle.trace_check.specs.Behind.{entries_in}

-- a test of entries, as one of pieces
pub any_entries : (p : Option Entry → Bool) (places : List (Option RankedPiece)) → list_any p (entries_in places) ≡ list_any (λ place. p (option_map entry_for place)) places
any_entries p [] = refl
any_entries p (place ∷ places) = ap (λ rest. p (option_map entry_for place) || rest) (any_entries p places)

-- what a slot holds is the entry of its piece
pub entry_in : (places : List (Option RankedPiece)) (i : ℕ) → slot (entries_in places) i ≡ option_map entry_for (slot places i)
entry_in [] i = refl
entry_in (place ∷ places) zero = refl
entry_in (place ∷ places) (suc i) = entry_in places i

-- there are as many
pub entries_size : (places : List (Option RankedPiece)) → length (entries_in places) ≡ length places
entries_size places = length-map places (option_map entry_for)
