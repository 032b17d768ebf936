-- Look-ups of three events in the course of turns, each with its moments: those between its search and its read.
use Rattle.std.specs.Prelude.{◌≡◌, ℕ, ◌⊎◌, Option, List, [], ◌∷◌, ◌++◌, Contains}
use Rattle.rule_model.specs.declared.Key.{Key}
use Rattle.rule_model.specs.declared.Rule.{Rule}
use Rattle.rule_model.specs.declared.words.Word.{Word}
use Rattle.rule_model.specs.RuleSet.{Answer, answer}
use Rattle.batch_order.specs.CarriedOut.{ahead}
use Rattle.split_device.specs.State.{SplitState, hit_slot, read_at, split_lookup}
use Rattle.split_order.specs.Managed.{SplitManaged}
use Rattle.split_order.specs.Left.{state_on}

-- A moment: what the device holds, the rules then, and those that the commit under way leads to, if there is one.
pub record Moment : Type 0 where
  pub state : SplitState
  pub rules : List Rule
  pub ahead : List Rule

-- the one where a manager stands, of a device of so many slots
abbrev pub moment_of : ℕ → SplitManaged → Moment
moment_of slots manager = record { state = state_on slots manager; rules = manager.whole.rules; ahead = ahead manager.whole }

-- a look-up that was searched and not read yet: its key, the slot that it found, and its moments so far
pub record LookUp : Type 0 where
  pub key : Key
  pub slot : Option ℕ
  pub moments : List Moment

-- what is told of it in flight
abbrev pub told_in_flight : LookUp → Key × Option ℕ
told_in_flight look = (look.key, look.slot)

-- with one moment more
abbrev pub seen_at : Moment → LookUp → LookUp
seen_at now look = record look { moments = look.moments ++ now ∷ [] }

-- what a search makes of the oldest word: a look-up whose first moment is now
abbrev pub searched : Moment → List (Key × Word) → List LookUp
searched now [] = []
searched now (oldest ∷ words) = record { key = oldest.0; slot = hit_slot now.state.slots oldest.1; moments = now ∷ [] } ∷ []

-- A read of a look-up is answered by the result word that stands there now, and so as an undivided look-up of its key at one of
-- its moments: that is the answer of the rules then, or of those that the commit under way led to then.
pub record IsAnswered (now : SplitState) (look : LookUp) (found : Answer) : Type 0 where
  pub read : found ≡ read_at now.results look.slot
  pub moment : Moment
  pub member : Contains look.moments moment
  pub undivided : found ≡ split_lookup moment.state look.key
  pub old_or_new : (found ≡ answer moment.rules look.key) ⊎ (found ≡ answer moment.ahead look.key)
