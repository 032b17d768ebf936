-- What a look-up of three events answers while a manager leads a device from one set to another.
use Rattle.std.specs.Prelude.{◌≡◌, ◌⊎◌, List, [], ◌∷◌, Contains}
use Rattle.std.specs.List.{AllByRecursion}
use Rattle.rule_model.specs.declared.Rule.{Rule}
use Rattle.rule_model.specs.Key.{IsKey}
use Rattle.rule_model.specs.RuleSet.{answer}
use Rattle.tcam_device.specs.Hitless.{ShowsOldOrNew}
use Rattle.split_device.specs.State.{SplitState, undivided, split_lookup}
use Rattle.split_device.specs.Flight.{Event, Pipeline, Look, happens, Answered}

-- a fact holds of the state before the first and after each of some events
abbrev pub HoldsOfStates : (SplitState → Type 0) → Pipeline → List Event → Type 0
HoldsOfStates Fact line [] = Fact line.state
HoldsOfStates Fact line (event ∷ events) = Fact line.state × HoldsOfStates Fact (happens line event) events

-- a fact holds at each moment so far of each look-up that waits
abbrev pub HoldsOfMoments : (SplitState → Type 0) → List Look → Type 0
HoldsOfMoments Fact looks = AllByRecursion (λ look. AllByRecursion Fact look.moments) looks

-- The look-up is one of a moment at which a fact holds.
pub record IsOfSuchAMoment (Fact : SplitState → Type 0) (read : Answered) : Type 0 where
  pub moment : SplitState
  pub member : Contains read.moments moment
  pub holds : Fact moment
  pub answers : split_lookup moment read.key ≡ read.answer

-- The state shows each key the answer of the old set or that of the new one.
abbrev pub ShowsEither : List Rule → List Rule → SplitState → Type 0
ShowsEither old new state = ShowsOldOrNew (undivided state) old new

-- The look-up of a key gets the answer of the old set or that of the new one.
abbrev pub IsOldOrNew : List Rule → List Rule → Answered → Type 0
IsOldOrNew old new read = (read.answer ≡ answer old read.key) ⊎ (read.answer ≡ answer new read.key)

-- The look-ups that wait are of keys, and each moment of theirs so far showed the old or the new answers: so where none waits.
pub record AreBetweenSets (old new : List Rule) (looks : List Look) : Type 0 where
  pub keys : AllByRecursion (λ look. IsKey look.key) looks
  pub shown : HoldsOfMoments (ShowsEither old new) looks
