-- What is known of the look-ups that wait in the course of turns, and what a turn does to them.
use Rattle.std.specs.Prelude.{◌≡◌, ℕ, Option, List, map}
use Rattle.std.specs.List.{AllByRecursion}
use Rattle.rule_model.specs.Key.{IsKey}
use Rattle.rule_model.specs.RuleSet.{Answer}
use Rattle.tcam_device.specs.Hitless.{ShowsOldOrNew}
use Rattle.split_device.specs.State.{undivided}
use Rattle.split_device.specs.Flight.{Flight, Look}
use Rattle.split_device.specs.Waiting.{AreWaiting}
use Rattle.split_order.specs.Managed.{SplitManaged}
use Rattle.split_order.specs.Left.{since_of, state_on}
use Rattle.split_turns.specs.declared.SplitTurn.{SplitTurn}
use Rattle.split_turns.specs.LookUps.{LookUp, Moment, told_in_flight}
use Rattle.split_turns.specs.Turns.{TakesSplitTurn, turn_state_of}

-- a look-up as one that waits at a device, which knows of no rules
abbrev pub plain : LookUp → Look
plain look = record { key = look.key; slot = look.slot; moments = map (λ moment. moment.state) look.moments }

-- an undivided look-up of any key gets the old or the new answer then
abbrev pub ShowsThen : Moment → Type 0
ShowsThen moment = ShowsOldOrNew (undivided moment.state) moment.rules moment.ahead

-- They are of keys, wait as they may, and each of their moments showed the old or the new answers.
pub record AreSeen (slots : ℕ) (manager : SplitManaged) (looks : List LookUp) : Type 0 where
  pub keys : AllByRecursion (λ look. IsKey look.key) looks
  pub waiting : AreWaiting (state_on slots manager) (since_of manager) (map plain looks)
  pub shown : AllByRecursion (λ look. AllByRecursion ShowsThen look.moments) looks

-- One turn, from where these look-ups wait: in flight then are words, and the look-ups that wait then.
pub record IsTurned (slots : ℕ) (old : SplitManaged) (flying : Flight) (looks : List LookUp) (turn : SplitTurn) (answered : Option Answer)
    (new : SplitManaged) (left : Flight) : Type 0 where
  pub later : List LookUp
  pub found : left.found ≡ map told_in_flight later
  pub seen : AreSeen slots new later
  pub turned : TakesSplitTurn slots (turn_state_of old flying looks) turn (record { answered = answered; after = turn_state_of new left later })

-- whichever look-ups wait
abbrev pub TurnsOn : ℕ → SplitManaged → Flight → SplitTurn → Option Answer → SplitManaged → Flight → Type 0
TurnsOn slots old flying turn answered new left =
    (looks : List LookUp) → flying.found ≡ map told_in_flight looks → AreSeen slots old looks → IsTurned slots old flying looks turn answered new left
