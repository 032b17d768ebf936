-- What a device in memory keeps: blank at first, and what the events leave.
use Rattle.std.proofs.Common.{◌≡◌, ℕ, min, arith, Option, None, Some, List, length, replicate, refl, sym, ◌∙◌, ap, length-set, [], ◌∷◌, ◌++◌, drop, slice_get}
use Rattle.std.proofs.lemmas.List.{length-replicate}
use Rattle.std.specs.Prelude.{slice_set}
use Rattle.rule_model.specs.declared.words.Word.{Word}
use Rattle.rule_model.specs.declared.words.Entry.{Entry}
use Rattle.rule_model.specs.declared.Key.{Key}
use Rattle.rule_model.specs.RuleSet.{Answer}
use Rattle.tcam_device.specs.State.{blank_table, search_word}
use Rattle.tcam_device.proofs.Kept.{blank_table-is}
use Rattle.split_device.specs.Flight.{Flight, with_search, with_word}
use Rattle.rule_model.specs.declared.Field.TheVariants.{Src, Dst}
use Rattle.split_device.specs.declared.SplitWrite.{SplitWrite}
use Rattle.split_device.specs.declared.SplitWrite.TheVariants.{Slot, Result, Table}
use Rattle.split_device.specs.State.{SplitState, split_apply, blank_split, hit_slot, no_result, read_at, split_lookup, undivided}
use Rattle.split_device.proofs.InMemory.{blank_split-is, looked_is, searched_is}
use Rattle.split_hardware.specs.Shadow.{Follows, RoomyMemory, half, halves}
use Rattle.split_hardware.proofs.Halves.{halves_blank, halves_set, halves_size}

-- a memory by its state and the room that both tables have
roomy_is : (state state' : SplitState) (spare spare' : ℕ) → state ≡ state' → spare ≡ spare'
    → ◌≡◌ {A = RoomyMemory} (record { state = state; spare = spare }) (record { state = state'; spare = spare' })
roomy_is state state' spare spare' s n =
    ap (λ x. let made : RoomyMemory = record { state = x; spare = spare } in made) s ∙ ap (λ x. let made : RoomyMemory = record { state = state'; spare = x } in made) n

-- empty slots, blank result words and tables of words that are 0, without room, are the blank memory
pub blank_is : (n : ℕ) (slots : List (Option Entry)) (results : List (ℕ × ℕ)) (src dst : List ℕ) (src_room dst_room : ℕ) → slots ≡ replicate n None → results ≡ replicate n no_result → src ≡ blank_table
    → dst ≡ blank_table → src_room ≡ 0 → dst_room ≡ 0
    → ◌≡◌ {A = RoomyMemory} (record { state = record { slots = halves slots; results = results; src = src; dst = dst }; spare = min src_room dst_room }) (record { state = blank_split n; spare = 0 })
blank_is n slots results src dst src_room dst_room e r s d no_src no_dst =
    roomy_is (record { slots = halves slots; results = results; src = src; dst = dst }) (blank_split n) (min src_room dst_room) 0
    (blank_split-is n (halves slots) results src dst (halves_blank n slots e) r (s ∙ blank_table-is) (d ∙ blank_table-is)) (omega arith)

-- as many result words as slots
pub blank_results : (n : ℕ) (slots : List (Option Entry)) (results : List (ℕ × ℕ)) → slots ≡ replicate n None → results ≡ replicate n no_result → length results ≡ length (halves slots)
blank_results n slots results e r = ap length r ∙ length-replicate n no_result ∙ sym (ap length (halves_blank n slots e) ∙ length-replicate n None)

-- a slot that is put into the columns is put into the state, and leaves the sizes
pub put_is : (slots now : List (Option Entry)) (results : List (ℕ × ℕ)) (src dst : List ℕ) (at : ℕ) (entry : Option Entry) (parts : Option (Word × Word)) → now ≡ slice_set slots at entry
    → half entry ≡ parts
    → ◌≡◌ {A = SplitState} (record { slots = halves now; results = results; src = src; dst = dst })
    (record { slots = slice_set (halves slots) at parts; results = results; src = src; dst = dst })
put_is slots now results src dst at entry parts is same =
    ap (λ (some : List (Option (Word × Word))). record { slots = some; results = results; src = src; dst = dst }) (halves_set slots now at entry parts is same)

pub put_kept : (slots now : List (Option Entry)) (results : List (ℕ × ℕ)) (at : ℕ) (entry : Option Entry) → now ≡ slice_set slots at entry → length results ≡ length (halves slots)
    → length results ≡ length (halves now)
put_kept slots now results at entry is was = was ∙ halves_size slots ∙ sym (halves_size now ∙ ap length is ∙ length-set slots at entry)

-- a blank memory has no event behind it
pub follows_blank : (n : ℕ) (memory : SplitState) → memory ≡ blank_split n → Follows memory []
follows_blank n memory is = is ∙ ap blank_split (sym (ap (λ (s : SplitState). length s.slots) is ∙ length-replicate n None))

-- what is looked up in the memory is what the definition of a look-up says
pub looks : (memory : SplitState) (key : Key) (word : Word) (slot : Option ℕ) (found : Answer) → word ≡ search_word (undivided memory) key → slot ≡ hit_slot memory.slots word
    → found ≡ read_at memory.results slot → found ≡ split_lookup memory key
looks memory key word slot found w s f = looked_is memory memory key word slot found refl w s f

-- a key's word goes into flight
pub translated : (memory : SplitState) (words words' : List (Key × Word)) (found : List (Key × Option ℕ)) (key : Key) (word : Word) → words' ≡ words ++ (key, word) ∷ [] → word ≡ search_word (undivided memory) key
    → ◌≡◌ {A = Flight} (record { words = words'; found = found }) (with_word memory (record { words = words; found = found }) key)
translated memory words words' found key word is made =
    ap (λ (some : List (Key × Word)). record { words = some; found = found }) (is ∙ ap (λ (w : Word). words ++ (key, w) ∷ []) made)

-- the oldest word is searched
pub searched : (memory : SplitState) (words words' : List (Key × Word)) (found found' : List (Key × Option ℕ)) (key : Key) (word : Word) (slot : Option ℕ) → Some (key, word) ≡ slice_get words 0 → words' ≡ drop 1 words
    → slot ≡ hit_slot memory.slots word → found' ≡ found ++ (key, slot) ∷ []
    → ◌≡◌ {A = Flight} (record { words = words'; found = found' }) (with_search memory (record { words = words; found = found }))
searched memory words words' found found' key word slot first rest hit more =
    let mid : Flight = record { words = words'; found = found } in
    let now : Flight = record { words = words'; found = found' } in
    searched_is memory memory words found mid now key word slot refl first (ap (λ (some : List (Key × Word)). record { words = some; found = found }) rest) hit
    (ap (λ (some : List (Key × Option ℕ)). record { words = words'; found = some }) more)

-- a write keeps the number of slots
pub slots_apply : (state : SplitState) (write : SplitWrite) → length (split_apply state write).slots ≡ length state.slots
slots_apply state (Slot at parts) = length-set state.slots at parts
slots_apply state (Result at tag answer) = refl
slots_apply state (Table Src port word) = refl
slots_apply state (Table Dst port word) = refl
