-- Look-ups of three events: a key's word is made by the tables, the least slot that hits it is found, and later the
-- slot's result word is read. The moments of a look-up are all from its search to its read.
use Rattle.std.specs.Prelude.{◌≡◌, ℕ, ◌+◌, Option, Some, None, List, [], ◌∷◌, ◌++◌, Contains, length, map, drop}
use Rattle.rule_model.specs.declared.Key.{Key}
use Rattle.rule_model.specs.RuleSet.{Answer}
use Rattle.rule_model.specs.declared.words.Word.{Word}
use Rattle.tcam_device.specs.State.{search_word}
use Rattle.split_device.specs.declared.SplitWrite.{SplitWrite}
use Rattle.split_device.specs.declared.SplitAction.{SplitAction}
use Rattle.split_device.specs.declared.SplitAction.TheVariants.{Written, Drained}
use Rattle.split_device.specs.State.{SplitState, undivided, hit_slot, read_at, split_lookup, split_apply, split_replay}

-- the writes among what was made
abbrev pub written : List SplitAction → List SplitWrite
written [] = []
written (Written write ∷ made) = write ∷ written made
written (Drained ∷ made) = written made

-- the state that a device of so many slots has after some writes and drains since it was blank
abbrev pub state_of_events : ℕ → List SplitAction → SplitState
state_of_events slots events = split_replay slots (written events)

-- what is in flight: words with their keys, and found slots with their keys, the oldest first
pub record Flight : Type 0 where
  pub words : List (Key × Word)
  pub found : List (Key × Option ℕ)

-- nothing is in flight
abbrev pub no_flight : Flight
no_flight = record { words = []; found = [] }

-- how many words and found slots are in flight
abbrev pub flight_count : Flight → ℕ
flight_count flight = length flight.words + length flight.found

-- a key's word is put into flight
abbrev pub with_word : SplitState → Flight → Key → Flight
with_word state flight key = record flight { words = flight.words ++ (key, search_word (undivided state) key) ∷ [] }

-- the slot that a search finds for the oldest word, with the word's key
abbrev pub found_slots : SplitState → List (Key × Word) → List (Key × Option ℕ)
found_slots state [] = []
found_slots state (oldest ∷ words) = (oldest.0, hit_slot state.slots oldest.1) ∷ []

-- the oldest word leaves the flight, and its slot is found
abbrev pub with_search : SplitState → Flight → Flight
with_search state flight =
    record { words = drop 1 flight.words; found = flight.found ++ found_slots state flight.words }

-- the oldest found slot leaves the flight
abbrev pub with_read : Flight → Flight
with_read flight = record flight { found = drop 1 flight.found }

-- what a read of the oldest found slot answers now, and nothing where there is none
abbrev pub oldest_read : SplitState → List (Key × Option ℕ) → Option Answer
oldest_read state [] = None
oldest_read state (oldest ∷ found) = Some (read_at state.results oldest.1)

-- what happens to a device: its manager makes something, or a look-up goes on
pub data Event : Type 0 where
  Makes : (made : SplitAction) → Event
  Translates : (key : Key) → Event
  Searches : Event
  Reads : Event

-- a look-up that was searched and not read yet: its key, the slot found, and the states at its moments so far
pub record Look : Type 0 where
  pub key : Key
  pub slot : Option ℕ
  pub moments : List SplitState

-- a device with the words in flight and the look-ups that wait for their read, the oldest first
pub record Pipeline : Type 0 where
  pub state : SplitState
  pub words : List (Key × Word)
  pub looks : List Look

-- a look-up with one more moment
abbrev pub with_moment : SplitState → Look → Look
with_moment state look = record look { moments = look.moments ++ state ∷ [] }

-- what a search makes of the oldest word: a look-up whose first moment is now
abbrev pub begun_looks : SplitState → List (Key × Word) → List Look
begun_looks state [] = []
begun_looks state (oldest ∷ words) =
    record { key = oldest.0; slot = hit_slot state.slots oldest.1; moments = state ∷ [] } ∷ []

-- the pipeline after an event: a write gives each waiting look-up one more moment
abbrev pub happens : Pipeline → Event → Pipeline
happens line (Makes (Written write)) =
    record line {
      state = split_apply line.state write;
      looks = map (with_moment (split_apply line.state write)) line.looks;
    }
happens line (Makes Drained) = line
happens line (Translates key) =
    record line { words = line.words ++ (key, search_word (undivided line.state) key) ∷ [] }
happens line Searches =
    record line { words = drop 1 line.words; looks = line.looks ++ begun_looks line.state line.words }
happens line Reads = record line { looks = drop 1 line.looks }

-- A look-up that was read: its key, what the read answered, and its moments.
pub record Answered : Type 0 where
  pub key : Key
  pub answer : Answer
  pub moments : List SplitState

-- the pipeline after some events
abbrev pub after_events : Pipeline → List Event → Pipeline
after_events line [] = line
after_events line (event ∷ events) = after_events (happens line event) events

-- the look-up that is read now
abbrev pub read_looks : SplitState → List Look → List Answered
read_looks state [] = []
read_looks state (oldest ∷ looks) =
    record { key = oldest.key; answer = read_at state.results oldest.slot; moments = oldest.moments } ∷ []

-- the look-ups that are read in the course of some events, one after the other
abbrev pub reads : Pipeline → List Event → List Answered
reads line [] = []
reads line (Reads ∷ events) = read_looks line.state line.looks ++ reads (happens line Reads) events
reads line (Makes made ∷ events) = reads (happens line (Makes made)) events
reads line (Translates key ∷ events) = reads (happens line (Translates key)) events
reads line (Searches ∷ events) = reads (happens line Searches) events

-- The look-up is one of a moment: at one of its moments an undivided look-up of its key would have answered so.
abbrev pub IsOfAMoment : Answered → Type 0
IsOfAMoment read = (moment : SplitState) × Contains read.moments moment × (split_lookup moment read.key ≡ read.answer)

-- the flight of a pipeline, without the moments
abbrev pub flight_of : Pipeline → Flight
flight_of line = record { words = line.words; found = map (λ look. (look.key, look.slot)) line.looks }

-- what a device has in flight after an event, by the contracts of its calls
abbrev pub flight_after : SplitState → Flight → Event → Flight
flight_after state flight (Makes made) = flight
flight_after state flight (Translates key) = with_word state flight key
flight_after state flight Searches = with_search state flight
flight_after state flight Reads = with_read flight

-- the answer of the first look-up that is read, and nothing where none is
abbrev pub first_answer : List Answered → Option Answer
first_answer [] = None
first_answer (read ∷ answered) = Some read.answer
