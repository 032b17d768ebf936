-- The state of a device whose results stand beside the slots, what a look-up answers, and what a journal leaves.
use Rattle.std.specs.Prelude.{◌≡◌, ℕ, ◌<◌, Bool, false, Option, Some, None, List, [], ◌∷◌, length, replicate, fold, position, slice_index_or, slice_set}
use Rattle.rule_model.specs.declared.Key.{Key}
use Rattle.rule_model.specs.declared.Field.TheVariants.{Src, Dst}
use Rattle.rule_model.specs.RuleSet.{Answer}
use Rattle.rule_model.specs.declared.words.Word.{Word}
use Rattle.rule_model.specs.declared.words.Entry.{Entry}
use Rattle.rule_model.specs.Entry.{lanes_match}
use Rattle.tcam_device.specs.State.{State, blank_table, search_word}
use Rattle.split_device.specs.declared.SplitWrite.{SplitWrite}
use Rattle.split_device.specs.declared.SplitWrite.TheVariants.{Slot, Result, Table}

-- A state: the slots, each empty or a value and a mask; a result word of each slot, a tag and a result; both tables.
pub record SplitState : Type 0 where
  pub slots : List (Option (Word × Word))
  pub results : List (ℕ × ℕ)
  pub src : List ℕ
  pub dst : List ℕ

-- each slot has a result word
abbrev pub IsSized : SplitState → Type 0
IsSized state = length state.results ≡ length state.slots

-- the result word of a slot that was never written: the least tag, and 0
abbrev pub no_result : ℕ × ℕ
no_result = (0, 0)

-- the result word of a slot
abbrev pub result_at : List (ℕ × ℕ) → ℕ → ℕ × ℕ
result_at results at = slice_index_or results at no_result

-- the state of a device with this many slots that was never written
abbrev pub blank_split : ℕ → SplitState
blank_split slots =
    record { slots = replicate slots None; results = replicate slots no_result; src = blank_table; dst = blank_table }

-- a slot and its result word as one entry, if the slot isn't empty
abbrev pub whole_entry : Option (Word × Word) → ℕ × ℕ → Option Entry
whole_entry None word = None
whole_entry (Some (value, mask)) word = Some (record { value = value; mask = mask; tag = word.0; result = word.1 })

-- the slots with their result words, each as one entry
abbrev pub whole_entries : List (Option (Word × Word)) → List (ℕ × ℕ) → List (Option Entry)
whole_entries [] results = []
whole_entries (held ∷ slots) [] = whole_entry held no_result ∷ whole_entries slots []
whole_entries (held ∷ slots) (word ∷ results) = whole_entry held word ∷ whole_entries slots results

-- The undivided state: what the slots and their result words are together.
abbrev pub undivided : SplitState → State
undivided state = record { slots = whole_entries state.slots state.results; src = state.src; dst = state.dst }

-- whether a slot's value and mask hit the word
abbrev pub parts_hit : Word → Option (Word × Word) → Bool
parts_hit word None = false
parts_hit word (Some (value, mask)) = lanes_match word.lane value.lane mask.lane

-- the least slot that hits the word, if one does
abbrev pub hit_slot : List (Option (Word × Word)) → Word → Option ℕ
hit_slot slots word = position (parts_hit word) slots

-- the least slot that hits the word of a key by the tables
abbrev pub key_slot : SplitState → Key → Option ℕ
key_slot state key = hit_slot state.slots (search_word (undivided state) key)

-- what is read at a slot that was found, or nothing
abbrev pub read_at : List (ℕ × ℕ) → Option ℕ → Answer
read_at results None = None
read_at results (Some at) = Some (result_at results at)

-- What an undivided look-up answers: the result word of the least slot that hits the key's word, or nothing.
abbrev pub split_lookup : SplitState → Key → Answer
split_lookup state key = read_at state.results (key_slot state key)

-- of so many slots the write's slot is one
abbrev pub IsSplitInUse : ℕ → SplitWrite → Type 0
IsSplitInUse slots (Slot slot parts) = slot < slots
IsSplitInUse slots (Result slot tag answer) = slot < slots
IsSplitInUse slots (Table field port word) = Unit {0}

-- the state after one write: a slot's leaves the result words, and a result word's leaves all else
abbrev pub split_apply : SplitState → SplitWrite → SplitState
split_apply state (Slot slot parts) = record state { slots = slice_set state.slots slot parts }
split_apply state (Result slot tag answer) = record state { results = slice_set state.results slot (tag, answer) }
split_apply state (Table Src port word) = record state { src = slice_set state.src port word }
split_apply state (Table Dst port word) = record state { dst = slice_set state.dst port word }

-- the state after some writes, one after the other
abbrev pub split_after : SplitState → List SplitWrite → SplitState
split_after state writes = fold split_apply state writes

-- the state that a journal of writes leaves a blank device in
abbrev pub split_replay : ℕ → List SplitWrite → SplitState
split_replay slots journal = split_after (blank_split slots) journal
