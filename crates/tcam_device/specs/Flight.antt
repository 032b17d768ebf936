-- Look-ups of two events: a key's word is made by the tables and put into flight, and compared with the slots later.
use Rattle.std.specs.Prelude.{◌≡◌, ℕ, ◌<◌, ◌++◌, Option, Some, None, List, [], ◌∷◌, length, drop}
use Rattle.slot_order.specs.Order.{first_hit}
use Rattle.rule_model.specs.declared.Key.{Key}
use Rattle.rule_model.specs.Key.{IsKey}
use Rattle.rule_model.specs.RuleSet.{Answer}
use Rattle.rule_model.specs.declared.words.Word.{Word}
use Rattle.rule_model.specs.Entry.{hits}
use Rattle.tcam_device.specs.declared.Write.{Write}
use Rattle.tcam_device.specs.declared.Action.{Action}
use Rattle.tcam_device.specs.declared.Action.TheVariants.{Written, Drained}
use Rattle.tcam_device.specs.State.{State, apply, search_word, told}

-- An event: an action, a key's word put into flight, or a search of the oldest word in flight.
pub data Event : Type 0 where
  Acted : (action : Action) → Event
  Translated : (key : Key) → Event
  Searched : Event

-- the writes among some actions
abbrev pub writes_in : List Action → List Write
writes_in [] = []
writes_in (Written write ∷ actions) = write ∷ writes_in actions
writes_in (Drained ∷ actions) = writes_in actions

-- the actions among some events
abbrev pub actions_in : List Event → List Action
actions_in [] = []
actions_in (Acted action ∷ events) = action ∷ actions_in events
actions_in (Translated key ∷ events) = actions_in events
actions_in (Searched ∷ events) = actions_in events

-- the words in flight, each with its key, the oldest first
abbrev pub Flight : Type 0
Flight = List (Key × Word)

-- how many words may be in flight
abbrev pub most_in_flight : ℕ
most_in_flight = 256

-- a device's state with the words in flight
pub record Pipeline : Type 0 where
  pub state : State
  pub flight : Flight

-- one word more in flight: a key's word by the tables now
abbrev pub with_word : State → Key → Flight → Flight
with_word state key flight = flight ++ (key, search_word state key) ∷ []

-- the pipeline after an event
abbrev pub happens : Pipeline → Event → Pipeline
happens line (Acted (Written write)) = record line { state = apply line.state write }
happens line (Acted Drained) = line
happens line (Translated key) = record line { flight = with_word line.state key line.flight }
happens line Searched = record line { flight = drop 1 line.flight }

-- what the slots answer a word: tag and result of the least slot that hits it
abbrev pub word_answer : State → Word → Answer
word_answer state word = told (first_hit hits state.slots word)

-- what a search answers: nothing where no word is in flight, and else what the slots answer the oldest one
abbrev pub search_answer : State → Flight → Option Answer
search_answer state [] = None
search_answer state (oldest ∷ flight) = Some (word_answer state oldest.1)

-- the event may happen: a drain only with no word in flight, a translation with room for a word, a search with one
abbrev pub MayHappen : Pipeline → Event → Type 0
MayHappen line (Acted (Written write)) = Unit {0}
MayHappen line (Acted Drained) = line.flight ≡ []
MayHappen line (Translated key) = IsKey key × (length line.flight < most_in_flight)
MayHappen line Searched = 0 < length line.flight

-- each event may happen when it comes
abbrev pub MayGo : Pipeline → List Event → Type 0
MayGo line [] = Unit {0}
MayGo line (event ∷ events) = MayHappen line event × MayGo (happens line event) events

-- of each search the state at that moment, the key of its word, and its answer
abbrev pub searched_by : State → Flight → List (State × Key × Answer)
searched_by state [] = []
searched_by state (oldest ∷ flight) = (state, oldest.0, word_answer state oldest.1) ∷ []

-- the searches of some events, one after the other
abbrev pub searches : Pipeline → List Event → List (State × Key × Answer)
searches line [] = []
searches line (Acted action ∷ events) = searches (happens line (Acted action)) events
searches line (Translated key ∷ events) = searches (happens line (Translated key)) events
searches line (Searched ∷ events) = searched_by line.state line.flight ++ searches (happens line Searched) events
