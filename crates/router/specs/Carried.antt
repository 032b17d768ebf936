-- What carries one table's part of a commit to its end, and where it stops.
use Rattle.std.specs.Prelude.{◌≡◌, ℕ, ◌++◌, ◌∷◌, Bool, true, Option, Result, Ok, Err, List, [], length}
use Rattle.std.specs.Io.KnownBytes.{Appends}
use Rattle.rule_model.specs.declared.IpVersion.{IpVersion}
use Rattle.batch_order.specs.CarriedOut.{IsTried}
use Rattle.split_device.specs.declared.SplitAction.{SplitAction}
use Rattle.split_device.specs.Flight.{Flight, written}
use Rattle.split_order.specs.CarriedOut.{HasMade, finished_split}
use Rattle.split_order.specs.Left.{left_of}
use Rattle.split_order.specs.Managed.{SplitManaged}
use Rattle.split_order.specs.Steps.{IsPartNext}
use Rattle.router.specs.declared.Side.{Side}
use Rattle.router.specs.declared.carrying.Halt.{Halt}
use Rattle.router.specs.declared.carrying.Halt.TheVariants as halt
use Rattle.router.specs.Text.{action_line, parts_behind}
use Rattle.router.specs.Run.{drains_in, printed, told_parts}

-- all that was left of a device of so many slots was made, with so many drains, and the commit has come to its end
pub record IsCarriedTo (slots : ℕ) (old : SplitManaged) (drains : ℕ) (new : SplitManaged) (events events_new : List SplitAction) : Type 0 where
  pub new_is : new ≡ finished_split slots old
  pub count : drains ≡ drains_in (left_of slots old)
  pub grown : events_new ≡ events ++ left_of slots old

-- some of it was made, and a part is next that failed
pub record IsStuckAt (slots : ℕ) (old new : SplitManaged) (events events_new : List SplitAction) : Type 0 where
  pub made : List SplitAction
  pub has_made : HasMade slots made old new
  pub due : IsPartNext (left_of slots new)
  pub grown : events_new ≡ events ++ made

-- or a line of what was made last was refused
pub record IsCutAt (slots : ℕ) (old new : SplitManaged) (events events_new : List SplitAction) : Type 0 where
  pub made : List SplitAction
  pub has_made : HasMade slots made old new
  pub grown : events_new ≡ events ++ made

abbrev pub StopsAt : Halt → ℕ → SplitManaged → SplitManaged → List SplitAction → List SplitAction → Type 0
StopsAt halt.Device slots old new events events_new = IsStuckAt slots old new events events_new
StopsAt halt.Sink slots old new events events_new = IsCutAt slots old new events events_new

-- what was made of a table's device, behind these events, was told line by line, where a trace is wanted
pub record AreTold (trace : Bool) (version : IpVersion) (which : Side) (events events_new : List SplitAction) (before after : Option (List ℕ)) : Type 0 where
  pub made : List SplitAction
  pub grown : events_new ≡ events ++ made
  pub report : Appends before after (printed (told_parts trace version which 0 made))

-- or of the line of the last one a part was, perhaps nothing or all of it
pub record AreToldButOne (trace : Bool) (version : IpVersion) (which : Side) (events events_new : List SplitAction) (before after : Option (List ℕ)) : Type 0 where
  pub made : List SplitAction
  pub last : SplitAction
  pub grown : events_new ≡ events ++ (made ++ last ∷ [])
  pub wanted : trace ≡ true
  pub partial : List ℕ
  pub rest : List ℕ
  pub line_is : action_line version which (parts_behind (length (written made)) last) last ≡ partial ++ rest
  pub report : Appends before after (printed (told_parts trace version which 0 made) ++ partial)

-- what was told, by how it came out
abbrev pub TellsParts : Bool → IpVersion → Side → List SplitAction → List SplitAction → Option (List ℕ) → Option (List ℕ) → Result ℕ Halt → Type 0
TellsParts trace version which events events_new before after (Ok drains) = AreTold trace version which events events_new before after
TellsParts trace version which events events_new before after (Err halt.Device) = AreTold trace version which events events_new before after
TellsParts trace version which events events_new before after (Err halt.Sink) = AreToldButOne trace version which events events_new before after

-- What a call leaves of a device, whatever comes of it: the slots stay, the events only grow, and what is in flight stays. Its
-- count of failures rises by four where the call ended by it, as by four tries of one part, and beside them by at most three
-- for each part that was made.
pub record LeavesDevice {D : Type 0} (slots : D → ℕ) (events : D → List SplitAction) (flight : D → Flight) (faults : D → ℕ) (old new : D) (Failed : Type 0) : Type 0 where
  pub slot_count : slots new ≡ slots old
  pub flight_is : flight new ≡ flight old
  pub made : List SplitAction
  pub grown : events new ≡ events old ++ made
  pub cause : IsTried 4 (length (written made)) Failed (faults old) (faults new)

-- a device that nothing was done to, but that it may have got more room
pub record LeavesAll {D : Type 0} (slots : D → ℕ) (events : D → List SplitAction) (flight : D → Flight) (faults : D → ℕ) (old new : D) : Type 0 where
  pub slot_count : slots new ≡ slots old
  pub events_are : events new ≡ events old
  pub flight_is : flight new ≡ flight old
  pub faults_are : faults new ≡ faults old
