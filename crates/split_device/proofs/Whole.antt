-- A look-up of a device with parted results is the look-up of its undivided state.
use Rattle.std.proofs.Common.{◌≡◌, ℕ, zero, suc, ◌<◌, Option, None, Some, List, [], ◌∷◌, length, refl, sym, ◌∙◌, ap, set, arith}
use Rattle.std.specs.Prelude.{MatchOption}
use Rattle.std.specs.List.{position_or_len}
use Rattle.slot_order.specs.Order.{slot, first_hit}
use Rattle.rule_model.specs.declared.Key.{Key}
use Rattle.rule_model.specs.declared.words.Word.{Word}
use Rattle.rule_model.specs.declared.words.Entry.{Entry}
use Rattle.rule_model.specs.Entry.{hits, slot_hits, first_hitting}
use Rattle.rule_model.proofs.Lookups.{first_hitting-is}
use Rattle.tcam_device.specs.State.{search_word, told, lookup}
use Rattle.tcam_device.proofs.Flights.{first_hit-word}
use Rattle.split_device.specs.State.{SplitState, no_result, result_at, whole_entry, whole_entries, undivided, parts_hit, hit_slot, read_at, split_lookup}

-- each slot with its result word
pub whole_slot : (slots : List (Option (Word × Word))) (results : List (ℕ × ℕ)) (at : ℕ) → slot (whole_entries slots results) at ≡ whole_entry (slot slots at) (result_at results at)
whole_slot [] results at = refl
whole_slot (held ∷ slots) [] zero = refl
whole_slot (held ∷ slots) [] (suc at) = whole_slot slots [] at
whole_slot (held ∷ slots) (word ∷ results) zero = refl
whole_slot (held ∷ slots) (word ∷ results) (suc at) = whole_slot slots results at

pub whole_length : (slots : List (Option (Word × Word))) (results : List (ℕ × ℕ)) → length (whole_entries slots results) ≡ length slots
whole_length [] results = refl
whole_length (held ∷ slots) [] = ap suc (whole_length slots [])
whole_length (held ∷ slots) (word ∷ results) = ap suc (whole_length slots results)

-- a slot's write, with the result word that stands there
pub whole_slot_set : (slots : List (Option (Word × Word))) (results : List (ℕ × ℕ)) (at : ℕ) (parts : Option (Word × Word))
    → whole_entries (set slots at parts) results ≡ set (whole_entries slots results) at (whole_entry parts (result_at results at))
whole_slot_set [] results at parts = refl
whole_slot_set (held ∷ slots) [] zero parts = refl
whole_slot_set (held ∷ slots) [] (suc at) parts = ap (λ rest. whole_entry held no_result ∷ rest) (whole_slot_set slots [] at parts)
whole_slot_set (held ∷ slots) (word ∷ results) zero parts = refl
whole_slot_set (held ∷ slots) (word ∷ results) (suc at) parts = ap (λ rest. whole_entry held word ∷ rest) (whole_slot_set slots results at parts)

-- a result word's write, with what stands in its slot
pub whole_result_set : (slots : List (Option (Word × Word))) (results : List (ℕ × ℕ)) (at : ℕ) (word : ℕ × ℕ) → at < length results
    → whole_entries slots (set results at word) ≡ set (whole_entries slots results) at (whole_entry (slot slots at) word)
whole_result_set [] results at word inside = refl
whole_result_set (held ∷ slots) [] at word inside = absurd (omega arith)
whole_result_set (held ∷ slots) (old ∷ results) zero word inside = refl
whole_result_set (held ∷ slots) (old ∷ results) (suc at) word inside =
    ap (λ rest. whole_entry held old ∷ rest) (whole_result_set slots results at word (omega arith))

-- a slot hits as its entry does
hits_whole : (word : Word) (held : Option (Word × Word)) (result : ℕ × ℕ) → parts_hit word held ≡ slot_hits word (whole_entry held result)
hits_whole word None result = refl
hits_whole word (Some parts) result = refl

first_whole : (word : Word) (slots : List (Option (Word × Word))) (results : List (ℕ × ℕ))
    → position_or_len (parts_hit word) slots ≡ position_or_len (slot_hits word) (whole_entries slots results)
first_whole word [] results = refl
first_whole word (held ∷ slots) [] = rw (hits_whole word held no_result, first_whole word slots []) refl
first_whole word (held ∷ slots) (result ∷ results) = rw (hits_whole word held result, first_whole word slots results) refl

pub hit_slot-whole : (word : Word) (slots : List (Option (Word × Word))) (results : List (ℕ × ℕ)) → hit_slot slots word ≡ first_hitting (whole_entries slots results) word
hit_slot-whole word slots results = rw (first_whole word slots results, sym (whole_length slots results)) refl

-- what is read at a slot is what its entry tells
read_whole : (held : Option (Word × Word)) (word : ℕ × ℕ) (entry : Entry) → whole_entry held word ≡ Some entry → Some word ≡ told (Some entry)
read_whole None word entry is = absurd (cc)
read_whole (Some parts) word entry is = ap told is

-- A look-up is that of the undivided state.
pub split_lookup-is : (state : SplitState) (key : Key) → split_lookup state key ≡ lookup (undivided state) key
split_lookup-is state key = at (first_hit hits entries word) refl (first_hitting-is entries word) ∙ ap told (first_hit-word (undivided state) entries key)
  where
    word : Word
    word = search_word (undivided state) key

    entries : List (Option Entry)
    entries = whole_entries state.slots state.results

    at : (found : Option Entry) → first_hit hits entries word ≡ found
        → MatchOption found (first_hitting entries word ≡ None) (λ entry. (place : ℕ) × (first_hitting entries word ≡ Some place) × (slot entries place ≡ Some entry))
        → split_lookup state key ≡ told found
    at None is none = ap (read_at state.results) (hit_slot-whole word state.slots state.results ∙ none)
    at (Some entry) is (place, least, stands) =
        ap (read_at state.results) (hit_slot-whole word state.slots state.results ∙ least)
        ∙ read_whole (slot state.slots place) (result_at state.results place) entry (sym (whole_slot state.slots state.results place) ∙ stands)
