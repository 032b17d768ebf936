-- Turns over a commit under way: steps of the manager, translations and searches in any order.
use Rattle.std.specs.Prelude.{◌≡◌, ℕ, ◌+◌, ◌<◌, ◌++◌, ◌⊎◌, nat_lt, true, false, Option, Some, None, IsSome, List, [], ◌∷◌, length, take, slice_get}
use Rattle.rule_model.specs.declared.Key.{Key}
use Rattle.rule_model.specs.RuleSet.{Answer, answer}
use Rattle.tcam_device.specs.declared.Action.{Action}
use Rattle.tcam_device.specs.State.{State, lookup, on_device}
use Rattle.tcam_device.specs.Flight.{Flight, with_word, most_in_flight}
use Rattle.tcam_device.specs.View.{DeviceView}
use Rattle.batch_order.specs.declared.Step.{Step as Made}
use Rattle.batch_order.specs.Managed.{Managed}
use Rattle.batch_order.specs.Steps.{Steps, actions_of, next_of}
use Rattle.batch_order.specs.CarriedOut.{ahead}
use Rattle.lookup_turns.specs.declared.Turn.{Turn}
use Rattle.lookup_turns.specs.declared.Turn.TheVariants.{Step, Translate, Search}

-- the words in flight after a translation, which is passed over where as many are in flight as may be
abbrev pub translated : State → Key → Flight → Flight
translated state key flight = elim (nat_lt (length flight) most_in_flight) [ true ↦ with_word state key flight | false ↦ flight ]

-- A search of this key answers as an undivided look-up would now, which is the answer of the old rules or of the new ones.
pub record IsAnswered (slots : ℕ) (manager : Managed) (key : Key) (found : Answer) : Type 0 where
  pub now : found ≡ lookup (on_device slots manager.state) key
  pub old_or_new : (found ≡ answer manager.rules key) ⊎ (found ≡ answer (ahead manager) key)

-- what a turn leaves: what it answered, if it was a search that found a word in flight, what it did to the device, the
-- manager, and the words in flight
pub record Outcome : Type 0 where
  pub answered : Option Answer
  pub actions : List Action
  pub manager : Managed
  pub flight : Flight

-- what a search does, by the words in flight: with none it is passed over
abbrev pub SearchesOnce : ℕ → Managed → Flight → Outcome → Type 0
SearchesOnce slots manager [] left = left ≡ record { answered = None; actions = []; manager = manager; flight = [] }
SearchesOnce slots manager (oldest ∷ flight) left =
    (found : Answer) × IsAnswered slots manager oldest.0 found
    × (left ≡ record { answered = Some found; actions = []; manager = manager; flight = flight })

-- what one turn does on a device of so many slots
abbrev pub TakesTurn : ℕ → Managed → Flight → Turn → Outcome → Type 0
TakesTurn slots manager flight Step left =
    (made : Made) × (next : Managed) × Steps manager (length flight) manager.held made next
    × (left ≡ record { answered = None; actions = actions_of made; manager = next; flight = flight })
TakesTurn slots manager flight (Translate key) left =
    left ≡ record { answered = None; actions = []; manager = manager; flight = translated (on_device slots manager.state) key flight }
TakesTurn slots manager flight Search left = SearchesOnce slots manager flight left

-- the answer of a turn, with the turn's number
abbrev pub with_number : ℕ → Option Answer → List (ℕ × Answer)
with_number number None = []
with_number number (Some found) = (number, found) ∷ []

-- What turns do, from a turn of this number on: the answers of the searches with their turns' numbers, what is done to the
-- device, and the manager and the words in flight that they leave.
abbrev pub Drives : ℕ → Managed → Flight → ℕ → List Turn → List (ℕ × Answer) → List Action → Managed → Flight → Type 0
Drives slots manager flight number [] answers actions last left =
    (answers ≡ []) × (actions ≡ []) × (last ≡ manager) × (left ≡ flight)
Drives slots manager flight number (turn ∷ turns) answers actions last left =
    (once : Outcome) × (rest : List (ℕ × Answer)) × (more : List Action) × TakesTurn slots manager flight turn once
    × Drives slots once.manager once.flight (number + 1) turns rest more last left
    × (answers ≡ with_number number once.answered ++ rest) × (actions ≡ once.actions ++ more)

-- one turn over a device, from one moment to another
pub record IsTurned (old new : DeviceView) (manager : Managed) (turn : Turn) (answered : Option Answer) (last : Managed) : Type 0 where
  pub actions : List Action
  pub turned : TakesTurn old.slots manager old.flight turn (record { answered = answered; actions = actions; manager = last; flight = new.flight })
  pub events : new.events ≡ old.events ++ actions
  pub slots : new.slots ≡ old.slots

-- all turns
pub record AreDriven (old new : DeviceView) (manager : Managed) (turns : List Turn) (answers : List (ℕ × Answer)) (last : Managed) : Type 0 where
  pub actions : List Action
  pub driven : Drives old.slots manager old.flight 0 turns answers actions last new.flight
  pub events : new.events ≡ old.events ++ actions
  pub slots : new.slots ≡ old.slots

-- The turns before one of them were made, whatever their searches answered. That one is a step, with a write due.
pub record StandsBefore (old new : DeviceView) (manager : Managed) (turns : List Turn) (last : Managed) : Type 0 where
  pub place : ℕ
  pub inside : place < length turns
  pub answers : List (ℕ × Answer)
  pub stands : AreDriven old new manager (take place turns) answers last
  pub step : slice_get turns place ≡ Some Step
  pub due : IsSome (next_of last.held)
