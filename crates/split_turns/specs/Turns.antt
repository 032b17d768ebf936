-- Turns over a commit under way by parts: steps of the manager, translations, searches and reads in any order.
use Rattle.std.specs.Prelude.{◌≡◌, ℕ, ◌+◌, ◌<◌, ◌++◌, nat_lt, true, false, Option, Some, None, List, [], ◌∷◌, length, map, drop, take, slice_get}
use Rattle.rule_model.specs.declared.Key.{Key}
use Rattle.rule_model.specs.declared.words.Word.{Word}
use Rattle.rule_model.specs.RuleSet.{Answer}
use Rattle.tcam_device.specs.Flight.{most_in_flight}
use Rattle.split_device.specs.State.{SplitState}
use Rattle.split_device.specs.Flight.{Flight, flight_count, with_word}
use Rattle.split_order.specs.declared.SplitStep.{SplitStep}
use Rattle.split_order.specs.declared.SplitStep.TheVariants as step
use Rattle.split_order.specs.Managed.{SplitManaged}
use Rattle.split_order.specs.Left.{left_of, state_on}
use Rattle.split_order.specs.Steps.{IsPartNext, SplitSteps}
use Rattle.split_turns.specs.declared.SplitTurn.{SplitTurn}
use Rattle.split_turns.specs.declared.SplitTurn.TheVariants.{Step, Translate, Search, Read}
use Rattle.split_turns.specs.LookUps.{IsAnswered, LookUp, Moment, moment_of, searched, seen_at, told_in_flight}

-- where turns stand: the manager, the words in flight with their keys, and the look-ups that wait for their read
pub record TurnState : Type 0 where
  pub manager : SplitManaged
  pub words : List (Key × Word)
  pub looks : List LookUp

-- what is in flight then
abbrev pub flight_of : TurnState → Flight
flight_of now = record { words = now.words; found = map told_in_flight now.looks }

-- with these look-ups among what is in flight
abbrev pub turn_state_of : SplitManaged → Flight → List LookUp → TurnState
turn_state_of manager flight looks = record { manager = manager; words = flight.words; looks = looks }

-- what is in flight after a translation, which is passed over where as many are in flight as may be
abbrev pub translated : SplitState → Key → Flight → Flight
translated state key flight = elim (nat_lt (flight_count flight) most_in_flight) [ true ↦ with_word state flight key | false ↦ flight ]

-- a part that is made gives each look-up that waits one more moment
abbrev pub seen_by : Moment → SplitStep → List LookUp → List LookUp
seen_by now (step.Wrote part) looks = map (seen_at now) looks
seen_by now step.Drained looks = looks
seen_by now (step.Waiting flying) looks = looks
seen_by now (step.Finished counts) looks = looks
seen_by now step.Idle looks = looks

-- what a turn leaves: what it answered, if it was a read that found a look-up, and where the turns stand then
pub record Outcome : Type 0 where
  pub answered : Option Answer
  pub after : TurnState

-- what a read does, by the look-ups that wait: with none it is passed over
abbrev pub ReadsOnce : ℕ → TurnState → List LookUp → Outcome → Type 0
ReadsOnce slots before [] left = left ≡ record { answered = None; after = before }
ReadsOnce slots before (oldest ∷ looks) left =
    (found : Answer) × IsAnswered (state_on slots before.manager) oldest found
    × (left ≡ record { answered = Some found; after = record before { looks = looks } })

-- What one turn does on a device of so many slots. A search without a word changes nothing.
abbrev pub TakesSplitTurn : ℕ → TurnState → SplitTurn → Outcome → Type 0
TakesSplitTurn slots before Step left =
    (made : SplitStep) × (next : SplitManaged) × SplitSteps slots before.manager (flight_count (flight_of before)) (left_of slots before.manager) made next
    × (left ≡ record {
      answered = None;
      after = record { manager = next; words = before.words; looks = seen_by (moment_of slots next) made before.looks };
    })
TakesSplitTurn slots before (Translate key) left =
    left ≡ record {
      answered = None;
      after = record before { words = (translated (state_on slots before.manager) key (flight_of before)).words };
    }
TakesSplitTurn slots before Search left =
    left ≡ record {
      answered = None;
      after = record before {
        words = drop 1 before.words;
        looks = before.looks ++ searched (moment_of slots before.manager) before.words;
      };
    }
TakesSplitTurn slots before Read left = ReadsOnce slots before before.looks left

-- the answer of a turn, with the turn's number
abbrev pub with_turn_number : ℕ → Option Answer → List (ℕ × Answer)
with_turn_number number None = []
with_turn_number number (Some found) = (number, found) ∷ []

-- What turns do, from a turn of this number on: the answers of the reads with their turns' numbers, and where they lead.
abbrev pub Drives : ℕ → TurnState → ℕ → List SplitTurn → List (ℕ × Answer) → TurnState → Type 0
Drives slots before number [] answers last = (answers ≡ []) × (last ≡ before)
Drives slots before number (turn ∷ turns) answers last =
    (once : Outcome) × (rest : List (ℕ × Answer)) × TakesSplitTurn slots before turn once × Drives slots once.after (number + 1) turns rest last
    × (answers ≡ with_turn_number number once.answered ++ rest)

-- All turns, where no found slot is unread before them: what is in flight behind them are words, and these look-ups.
pub record AreAllTaken (slots : ℕ) (manager : SplitManaged) (flight : Flight) (turns : List SplitTurn) (answers : List (ℕ × Answer))
    (last : SplitManaged) (left : Flight) : Type 0 where
  pub looks : List LookUp
  pub found : left.found ≡ map told_in_flight looks
  pub driven : Drives slots (turn_state_of manager flight []) 0 turns answers (turn_state_of last left looks)

-- The turns before one of them were made, whatever their reads answered. That one is a step, with a part due.
pub record StandsBefore (slots : ℕ) (manager : SplitManaged) (flight : Flight) (turns : List SplitTurn) (last : SplitManaged) (left : Flight) : Type 0 where
  pub place : ℕ
  pub inside : place < length turns
  pub answers : List (ℕ × Answer)
  pub stands : AreAllTaken slots manager flight (take place turns) answers last left
  pub step : slice_get turns place ≡ Some Step
  pub due : IsPartNext (left_of slots last)
