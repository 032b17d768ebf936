-- What a device in memory keeps: blank at first, and the least slot that hits.
use Rattle.std.proofs.Common.{◌≡◌, ℕ, ◌<◌, Option, None, Some, List, length, replicate, false, true, refl, sym, ◌∙◌, ap, arith, le_refl, slice_index_or, [], ◌∷◌, ◌++◌, length-set}
use Rattle.std.specs.List.{position_or_len}
use Rattle.std.proofs.lemmas.Bool.{cond-true, cond-false, lt-ltb, le-ltb}
use Rattle.std.proofs.lemmas.List.Sums.{position_or_len_is}
use Rattle.slot_order.specs.Order.{slot}
use Rattle.rule_model.specs.declared.words.Word.{Word}
use Rattle.rule_model.specs.declared.Key.{Key}
use Rattle.rule_model.specs.RuleSet.{Answer}
use Rattle.tcam_device.specs.State.{blank_table, search_word}
use Rattle.std.specs.Prelude.{slice_get, drop}
use Rattle.tcam_device.proofs.Kept.{blank_table-is}
use Rattle.rule_model.specs.declared.Field.TheVariants.{Src, Dst}
use Rattle.split_device.specs.declared.SplitWrite.{SplitWrite}
use Rattle.split_device.specs.declared.SplitWrite.TheVariants.{Slot, Result, Table}
use Rattle.split_device.specs.declared.SplitAction.{SplitAction}
use Rattle.split_device.specs.declared.SplitAction.TheVariants.{Written, Drained}
use Rattle.split_device.specs.State.{SplitState, no_result, blank_split, undivided, parts_hit, hit_slot, read_at, split_lookup, split_apply, split_after, split_replay}
use Rattle.split_device.specs.Flight.{written, Flight, with_word, with_search}

pub blank_split-is : (n : ℕ) (slots : List (Option (Word × Word))) (results : List (ℕ × ℕ)) (src dst : List ℕ) → slots ≡ replicate n None → results ≡ replicate n no_result
    → src ≡ replicate 65536 0 → dst ≡ replicate 65536 0 → ◌≡◌ {A = SplitState} (record { slots = slots; results = results; src = src; dst = dst }) (blank_split n)
blank_split-is n slots results src dst e r s d =
    let s' : src ≡ blank_table = s ∙ sym blank_table-is in
    let d' : dst ≡ blank_table = d ∙ sym blank_table-is in
    ap (λ x. record { slots = x; results = results; src = src; dst = dst }) e ∙ (ap (λ x. record { slots = replicate n None; results = x; src = src; dst = dst }) r
    ∙ (ap (λ x. record { slots = replicate n None; results = replicate n no_result; src = x; dst = dst }) s'
    ∙ ap (λ x. record { slots = replicate n None; results = replicate n no_result; src = blank_table; dst = x }) d'))

pub first_is : (slots : List (Option (Word × Word))) (word : Word) (at : ℕ) → at < length slots → ((k : ℕ) → k < at → parts_hit word (slice_index_or slots k None) ≡ false)
    → parts_hit word (slice_index_or slots at None) ≡ true → Some at ≡ hit_slot slots word
first_is slots word at inside below here =
    let same = position_or_len_is (parts_hit word) slots at None (omega arith) below (λ l. here) in
    sym (cond-true _ _ _ (lt-ltb (position_or_len (parts_hit word) slots) (length slots) (omega arith)) ∙ ap Some same)

pub none_is : (slots : List (Option (Word × Word))) (word : Word) → ((k : ℕ) → k < length slots → parts_hit word (slice_index_or slots k None) ≡ false) → None ≡ hit_slot slots word
none_is slots word below =
    let same = position_or_len_is (parts_hit word) slots (length slots) None (le_refl (length slots)) below (λ l. absurd (omega arith)) in
    sym (cond-false _ _ _ (le-ltb (position_or_len (parts_hit word) slots) (length slots) (omega arith)))

after_one : (state : SplitState) (writes : List SplitWrite) (write : SplitWrite) → split_after state (writes ++ write ∷ []) ≡ split_apply (split_after state writes) write
after_one state [] write = refl
after_one state (first ∷ writes) write = after_one (split_apply state first) writes write

written_one : (made : List SplitAction) (write : SplitWrite) → written (made ++ Written write ∷ []) ≡ written made ++ write ∷ []
written_one [] write = refl
written_one (Written first ∷ made) write = ap (λ rest. first ∷ rest) (written_one made write)
written_one (Drained ∷ made) write = written_one made write

pub written_drain : (made : List SplitAction) → written (made ++ Drained ∷ []) ≡ written made
written_drain [] = refl
written_drain (Written first ∷ made) = ap (λ rest. first ∷ rest) (written_drain made)
written_drain (Drained ∷ made) = written_drain made

slots_kept : (state : SplitState) (write : SplitWrite) → length (split_apply state write).slots ≡ length state.slots
slots_kept state (Slot at parts) = length-set state.slots at parts
slots_kept state (Result at tag answer) = refl
slots_kept state (Table Src port word) = refl
slots_kept state (Table Dst port word) = refl

-- memory that a journal left is, after one more write, what the longer journal leaves
pub replay_more : (memory next : SplitState) (made : List SplitAction) (write : SplitWrite) → memory ≡ split_replay (length memory.slots) (written made) → next ≡ split_apply memory write
    → next ≡ split_replay (length next.slots) (written (made ++ Written write ∷ []))
replay_more memory next made write kept now =
    let size : length next.slots ≡ length memory.slots = ap (λ (s : SplitState). length s.slots) now ∙ slots_kept memory write in
    now ∙ (ap (λ s. split_apply s write) kept ∙ (sym (after_one (blank_split (length memory.slots)) (written made) write)
    ∙ (ap (split_after (blank_split (length memory.slots))) (sym (written_one made write)) ∙ ap (λ n. split_replay n (written (made ++ Written write ∷ []))) (sym size))))

pub replay_drain : (memory : SplitState) (made : List SplitAction) → memory ≡ split_replay (length memory.slots) (written made) → memory ≡ split_replay (length memory.slots) (written (made ++ Drained ∷ []))
replay_drain memory made kept = kept ∙ ap (split_replay (length memory.slots)) (sym (written_drain made))

-- what the memory answers is what the journal's state does
pub looked_is : (memory replayed : SplitState) (key : Key) (word : Word) (slot : Option ℕ) (found : Answer) → memory ≡ replayed → word ≡ search_word (undivided memory) key
    → slot ≡ hit_slot memory.slots word → found ≡ read_at memory.results slot → found ≡ split_lookup replayed key
looked_is memory replayed key word slot found same w s f =
    f ∙ (ap (read_at memory.results) (s ∙ ap (hit_slot memory.slots) w) ∙ ap (λ state. split_lookup state key) same)

pub translated_is : (memory replayed : SplitState) (old new : Flight) (key : Key) (word : Word) → memory ≡ replayed → word ≡ search_word (undivided memory) key
    → new ≡ record old { words = old.words ++ (key, word) ∷ [] } → new ≡ with_word replayed old key
translated_is memory replayed old new key word same w n =
    n ∙ (ap (λ x. record old { words = old.words ++ (key, x) ∷ [] }) w ∙ ap (λ state. with_word state old key) same)

pub searched_is : (memory replayed : SplitState) (words : List (Key × Word)) (found : List (Key × Option ℕ)) (mid new : Flight) (key : Key) (word : Word) (slot : Option ℕ) → memory ≡ replayed
    → Some (key, word) ≡ slice_get words 0 → mid ≡ record { words = drop 1 words; found = found } → slot ≡ hit_slot memory.slots word
    → new ≡ record mid { found = mid.found ++ (key, slot) ∷ [] } → new ≡ with_search replayed (record { words = words; found = found })
searched_is memory replayed [] found mid new key word slot same first m s n = absurd (cc)
searched_is memory replayed (oldest ∷ words) found mid new key word slot same first m s n =
    let one : (key, word) ≡ oldest = cc in
    n ∙ (ap (λ (f : Flight). record f { found = f.found ++ (key, slot) ∷ [] }) m
    ∙ (ap (λ x. record { words = words; found = found ++ (key, x) ∷ [] }) s
    ∙ (ap (λ (x : Key × Word). record { words = words; found = found ++ (x.0, hit_slot memory.slots x.1) ∷ [] }) one
    ∙ ap (λ state. with_search state (record { words = oldest ∷ words; found = found })) same)))
