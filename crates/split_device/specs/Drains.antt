-- Where writes may stand, so that no look-up in flight reads a result word that belongs to another entry than it found.
use Rattle.std.specs.Prelude.{◌≡◌, ℕ, Bool, true, false, ◌||◌, IsFalse, Option, Some, None, List, [], ◌∷◌, nat_eq}
use Rattle.std.specs.List.{list_any}
use Rattle.slot_order.specs.Order.{slot}
use Rattle.rule_model.specs.declared.Key.{Key}
use Rattle.rule_model.specs.declared.words.Word.{Word}
use Rattle.split_device.specs.declared.SplitWrite.{SplitWrite}
use Rattle.split_device.specs.declared.SplitWrite.TheVariants.{Slot, Result, Table}
use Rattle.split_device.specs.State.{SplitState, hit_slot, key_slot, split_apply}
use Rattle.split_device.specs.declared.SplitAction.{SplitAction}
use Rattle.split_device.specs.declared.SplitAction.TheVariants.{Written, Drained}
use Rattle.split_device.specs.Flight.{Event, Makes, Translates, Searches, Reads, Pipeline, happens}

-- What was done since the last drain: the slots that were erased, whether a slot was written, and whether a word of a
-- table was. It runs on over commits, since a look-up may find its slot in one and be read in another.
pub record SinceDrain : Type 0 where
  pub erased : List ℕ
  pub slots : Bool
  pub bits : Bool

-- nothing was done
abbrev pub nothing_since : SinceDrain
nothing_since = record { erased = []; slots = false; bits = false }

-- what was done since the last drain, with one more write
abbrev pub since_write : SinceDrain → SplitWrite → SinceDrain
since_write since (Slot at None) = record since { erased = at ∷ since.erased; slots = true }
since_write since (Slot at (Some parts)) = record since { slots = true }
since_write since (Result at tag answer) = since
since_write since (Table field port word) = record since { bits = true }

-- likewise with one more write or drain
abbrev pub since_made : SinceDrain → SplitAction → SinceDrain
since_made since (Written write) = since_write since write
since_made since Drained = nothing_since

-- whether a slot was erased since the last drain
abbrev pub is_erased : SinceDrain → ℕ → Bool
is_erased since at = list_any (λ erased. nat_eq erased at) since.erased

-- Whether a drain must come before a result word: to an empty slot where the slot was erased since the last drain, and
-- to one that holds an entry where any slot was written since.
abbrev pub result_waits : SinceDrain → ℕ → Option (Word × Word) → Bool
result_waits since at None = is_erased since at
result_waits since at (Some parts) = since.slots

-- Whether a drain must come before a write: as above, and before any write of a slot or a result word where a word of a
-- table was written, so that a bit may have got a new meaning.
abbrev pub is_drain_due : SplitState → SinceDrain → SplitWrite → Bool
is_drain_due state since (Slot at parts) = since.bits
is_drain_due state since (Result at tag answer) = since.bits || result_waits since at (slot state.slots at)
is_drain_due state since (Table field port word) = false

-- Writes and drains in which each write stands where no drain must come before it.
abbrev pub AreTimely : SplitState → SinceDrain → List SplitAction → Type 0
AreTimely state since [] = Unit {0}
AreTimely state since (Written write ∷ made) =
    IsFalse (is_drain_due state since write) × AreTimely (split_apply state write) (since_write since write) made
AreTimely state since (Drained ∷ made) = AreTimely state nothing_since made

-- some writes, with a drain before each for which one is due
abbrev pub with_drains : SplitState → SinceDrain → List SplitWrite → List SplitAction
with_drains state since [] = []
with_drains state since (write ∷ writes) =
    elim (is_drain_due state since write) [
      | true ↦ Drained ∷ Written write ∷ with_drains (split_apply state write) (since_write nothing_since write) writes
      | false ↦ Written write ∷ with_drains (split_apply state write) (since_write since write) writes
    ]

-- what was done since the last drain, after some writes and drains
abbrev pub since_all : SinceDrain → List SplitAction → SinceDrain
since_all since [] = since
since_all since (made ∷ more) = since_all (since_made since made) more

-- A word in flight is current: it finds the slot that its key finds.
abbrev pub IsCurrent : SplitState → Key × Word → Type 0
IsCurrent state word = hit_slot state.slots word.1 ≡ key_slot state word.0

-- the oldest word is current, where there is one
abbrev pub OldestIsCurrent : SplitState → List (Key × Word) → Type 0
OldestIsCurrent state [] = Unit {0}
OldestIsCurrent state (oldest ∷ words) = IsCurrent state oldest

-- An event may happen: a write in its time, a drain where nothing is in flight, and a search of a current word.
abbrev pub MayHappen : Pipeline → SinceDrain → Event → Type 0
MayHappen line since (Makes (Written write)) = IsFalse (is_drain_due line.state since write)
MayHappen line since (Makes Drained) = (line.words ≡ []) × (line.looks ≡ [])
MayHappen line since (Translates key) = Unit {0}
MayHappen line since Searches = OldestIsCurrent line.state line.words
MayHappen line since Reads = Unit {0}

-- what was done since the last drain, after an event
abbrev pub since_event : SinceDrain → Event → SinceDrain
since_event since (Makes made) = since_made since made
since_event since (Translates key) = since
since_event since Searches = since
since_event since Reads = since

-- likewise after some events
abbrev pub since_events : SinceDrain → List Event → SinceDrain
since_events since [] = since
since_events since (event ∷ events) = since_events (since_event since event) events

-- events one after the other, each of which may happen
abbrev pub MayAllHappen : Pipeline → SinceDrain → List Event → Type 0
MayAllHappen line since [] = Unit {0}
MayAllHappen line since (event ∷ events) =
    MayHappen line since event × MayAllHappen (happens line event) (since_event since event) events

-- each search in the course of some events is of a current word
abbrev pub AllCurrent : Pipeline → List Event → Type 0
AllCurrent line [] = Unit {0}
AllCurrent line (Searches ∷ events) = OldestIsCurrent line.state line.words × AllCurrent (happens line Searches) events
AllCurrent line (Makes made ∷ events) = AllCurrent (happens line (Makes made)) events
AllCurrent line (Translates key ∷ events) = AllCurrent (happens line (Translates key)) events
AllCurrent line (Reads ∷ events) = AllCurrent (happens line Reads) events
