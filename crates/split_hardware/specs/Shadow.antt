-- What a device shows of itself that a memory makes of hardware with split results.
use Rattle.std.specs.Prelude.{◌≡◌, ◌++◌, ◌≤◌, ℕ, Option, Some, None, List, [], ◌∷◌, length, map, Result, Ok, Err}
use Rattle.call_history.specs.Cause.{raised}
use Rattle.rule_model.specs.declared.words.Word.{Word}
use Rattle.rule_model.specs.declared.words.Entry.{Entry}
use Rattle.tcam_device.specs.declared.DeviceFault.{DeviceFault}
use Rattle.tcam_device.specs.Flight.{most_in_flight}
use Rattle.split_device.specs.declared.SplitWrite.{SplitWrite}
use Rattle.split_device.specs.declared.SplitAction.{SplitAction}
use Rattle.split_device.specs.declared.SplitAction.TheVariants.{Written, Drained}
use Rattle.split_device.specs.State.{SplitState}
use Rattle.split_device.specs.Flight.{Flight, flight_count, state_of_events}

-- Hardware with its shadow in memory: the hardware as it was given, alone in a list, and as it is now; its slots, the
-- writes since then that were answered Ok with the drains among them, what is in flight, how many writes and drains have
-- their room, and how often a write failed.
pub record Shadow (H : Type 0) : Type 0 where
  pub given : List H
  pub hardware : H
  pub slots : ℕ
  pub events : List SplitAction
  pub flight : Flight
  pub spare : ℕ
  pub faults : ℕ

-- a memory, and how many writes have their room
pub record RoomyMemory : Type 0 where
  pub state : SplitState
  pub spare : ℕ

-- a memory with what is in flight of it, and how many writes have their room
pub record LookedUp : Type 0 where
  pub state : SplitState
  pub flight : Flight
  pub spare : ℕ

-- A call of hardware: what it was before, and what was asked for, a write with its answer or a drain.
pub data Call (H : Type 0) : Type 0 where
  Put : (before : H) → (write : SplitWrite) → (answer : Result (Unit {0}) DeviceFault) → Call H
  Drain : (before : H) → Call H

-- all calls that lead from the hardware that was given to that of now, the newest first: each is on what the one before
-- it left, and the first on what was given
abbrev pub AreCalls : {H : Type 0} → (H → SplitWrite → Result (Unit {0}) DeviceFault → H → Type 0) → (H → H → Type 0) → List H → List (Call H) → H → Type 0
AreCalls puts drains given [] now = given ≡ now ∷ []
AreCalls puts drains given (Put before write answer ∷ earlier) now = puts before write answer now × AreCalls puts drains given earlier before
AreCalls puts drains given (Drain before ∷ earlier) now = drains before now × AreCalls puts drains given earlier before

-- events after a call for a write: an Ok adds the write
abbrev pub noted : List SplitAction → SplitWrite → Result (Unit {0}) DeviceFault → List SplitAction
noted events write (Ok done) = events ++ Written write ∷ []
noted events write (Err fault) = events

-- a count of failures after a call for a write: an Err adds one, up to the greatest number
abbrev pub counted : ℕ → Result (Unit {0}) DeviceFault → ℕ
counted faults (Ok done) = faults
counted faults (Err fault) = raised faults

-- the writes of the calls that were answered Ok with the drains among them, the oldest first
abbrev pub events_put : {H : Type 0} → List (Call H) → List SplitAction
events_put [] = []
events_put (Put before write answer ∷ earlier) = noted (events_put earlier) write answer
events_put (Drain before ∷ earlier) = events_put earlier ++ Drained ∷ []

-- how many of the calls were answered Err
abbrev pub failures : {H : Type 0} → List (Call H) → ℕ
failures [] = 0
failures (Put before write answer ∷ earlier) = counted (failures earlier) answer
failures (Drain before ∷ earlier) = failures earlier

-- since it was given, the hardware was asked for the writes and drains of some events, in their order, and for other
-- writes only so often as it failed
pub record HasPut {H : Type 0} (puts : H → SplitWrite → Result (Unit {0}) DeviceFault → H → Type 0) (drains : H → H → Type 0) (given : List H) (events : List SplitAction) (faults : ℕ) (now : H) : Type 0 where
  pub calls : List (Call H)
  pub are_calls : AreCalls puts drains given calls now
  pub events_are : events ≡ events_put calls
  pub faults_are : faults ≡ failures calls

-- a memory holds what some events leave in a blank one
abbrev pub Follows : SplitState → List SplitAction → Type 0
Follows memory events = memory ≡ state_of_events (length memory.slots) events

-- the shadow has the slots of the hardware, and in them what the events leave; the hardware was asked for these
pub record IsShadow {H : Type 0} (puts : H → SplitWrite → Result (Unit {0}) DeviceFault → H → Type 0) (drains : H → H → Type 0) (given : List H) (hardware : H) (slots : ℕ) (shadow : SplitState) (events : List SplitAction) (faults : ℕ) : Type 0 where
  pub size : length shadow.slots ≡ slots
  pub follows : Follows shadow events
  pub put : HasPut puts drains given events faults hardware

-- the value and the mask of an entry
abbrev pub half : Option Entry → Option (Word × Word)
half None = None
half (Some entry) = Some (entry.value, entry.mask)

-- those of the entries of some slots
abbrev pub halves : List (Option Entry) → List (Option (Word × Word))
halves slots = map half slots

-- each queue has room for all that may be in flight
pub record HasFlightRoom (flight : Flight) (words_room found_room : ℕ) : Type 0 where
  pub words : words_room ≡ most_in_flight
  pub found : found_room ≡ most_in_flight
  pub few : flight_count flight ≤ most_in_flight
