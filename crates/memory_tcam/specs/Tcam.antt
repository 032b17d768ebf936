-- What devices in memory show of themselves.
use Rattle.std.specs.Prelude.{◌≡◌, ◌++◌, ◌≤◌, ℕ, List, [], ◌∷◌, length, map, take, drop, sum, Result, Ok, Err}
use Rattle.call_history.specs.Cause.{raised}
use Rattle.call_history.specs.Calls.{CallCount}
use Rattle.tcam_device.specs.declared.DeviceFault.{DeviceFault}
use Rattle.tcam_device.specs.declared.Write.{Write}
use Rattle.tcam_device.specs.State.{State, replay}
use Rattle.tcam_device.specs.declared.Action.{Action}
use Rattle.tcam_device.specs.declared.Action.TheVariants.{Written, Drained}
use Rattle.tcam_device.specs.Flight.{Flight, writes_in}
use Rattle.tcam_device.specs.View.{DeviceView}

-- A device in memory: the number of its slots, its writes since blank with the drains among them, the words in flight,
-- and how many writes and drains have their room.
pub record Tcam : Type 0 where
  pub slots : ℕ
  pub events : List Action
  pub flight : Flight
  pub spare : ℕ

-- a device in memory as a device, with its count of failures
abbrev pub as_device : Tcam → ℕ → DeviceView
as_device device faults = record { slots = device.slots; events = device.events; flight = device.flight; spare = device.spare; faults = faults }

-- Hardware with its shadow in memory: the hardware as it was given, alone in a list, and as it is now; its slots, the
-- writes since then that were answered Ok with the drains among them, the words in flight, how many writes and drains
-- have their room, and how often a write failed.
pub record Shadow (H : Type 0) : Type 0 where
  pub given : List H
  pub hardware : H
  pub slots : ℕ
  pub events : List Action
  pub flight : Flight
  pub spare : ℕ
  pub faults : ℕ

-- hardware with its shadow as a device
abbrev pub shadow_as_device : {H : Type 0} → Shadow H → DeviceView
shadow_as_device shadow = record { slots = shadow.slots; events = shadow.events; flight = shadow.flight; spare = shadow.spare; faults = shadow.faults }

-- A call of hardware: what it was before, and what was asked for, a write with its answer or a drain.
pub data Call (H : Type 0) : Type 0 where
  Put : (before : H) → (write : Write) → (answer : Result (Unit {0}) DeviceFault) → Call H
  Drain : (before : H) → Call H

-- all calls that lead from the hardware that was given to that of now, the newest first: each is on what the one before
-- it left, and the first on what was given
abbrev pub AreCalls : {H : Type 0} → (H → Write → Result (Unit {0}) DeviceFault → H → Type 0) → (H → H → Type 0) → List H → List (Call H) → H → Type 0
AreCalls puts drains given [] now = given ≡ now ∷ []
AreCalls puts drains given (Put before write answer ∷ earlier) now = puts before write answer now × AreCalls puts drains given earlier before
AreCalls puts drains given (Drain before ∷ earlier) now = drains before now × AreCalls puts drains given earlier before

-- events after a call for a write: an Ok adds the write
abbrev pub noted : List Action → Write → Result (Unit {0}) DeviceFault → List Action
noted events write (Ok done) = events ++ Written write ∷ []
noted events write (Err fault) = events

-- a count of failures after a call for a write: an Err adds one, up to the greatest number
abbrev pub counted : ℕ → Result (Unit {0}) DeviceFault → ℕ
counted faults (Ok done) = faults
counted faults (Err fault) = raised faults

-- the writes of the calls that were answered Ok with the drains among them, the oldest first
abbrev pub events_put : {H : Type 0} → List (Call H) → List Action
events_put [] = []
events_put (Put before write answer ∷ earlier) = noted (events_put earlier) write answer
events_put (Drain before ∷ earlier) = events_put earlier ++ Drained ∷ []

-- how many of the calls were answered Err
abbrev pub failures : {H : Type 0} → List (Call H) → ℕ
failures [] = 0
failures (Put before write answer ∷ earlier) = counted (failures earlier) answer
failures (Drain before ∷ earlier) = failures earlier

-- since it was given, the hardware was asked for the writes and drains of some events, in their order, and for other
-- writes only so often as it failed
pub record HasPut {H : Type 0} (puts : H → Write → Result (Unit {0}) DeviceFault → H → Type 0) (drains : H → H → Type 0) (given : List H) (events : List Action) (faults : ℕ) (now : H) : Type 0 where
  pub calls : List (Call H)
  pub are_calls : AreCalls puts drains given calls now
  pub events_are : events ≡ events_put calls
  pub faults_are : faults ≡ failures calls

-- a memory holds what the writes among some events leave in a blank one
abbrev pub Follows : State → List Action → Type 0
Follows memory events = memory ≡ replay (length memory.slots) (writes_in events)

-- the shadow has the slots of the hardware, and in them what the journal leaves; the hardware was asked for the events
pub record IsShadow {H : Type 0} (puts : H → Write → Result (Unit {0}) DeviceFault → H → Type 0) (drains : H → H → Type 0) (given : List H) (hardware : H) (slots : ℕ) (shadow : State) (events : List Action) (faults : ℕ) : Type 0 where
  pub size : length shadow.slots ≡ slots
  pub follows : Follows shadow events
  pub put : HasPut puts drains given events faults hardware

-- A device in memory whose listed write calls fail: its calls, and the failures.
pub record Flaky : Type 0 where
  pub device : Tcam
  pub calls : CallCount
  pub faults : ℕ

-- A device in memory that makes room up to a number of writes.
pub record Scarce : Type 0 where
  pub device : Tcam
  pub most : ℕ

-- a memory, and how many writes have their room
pub record RoomyState : Type 0 where
  pub state : State
  pub spare : ℕ

-- and with words in flight
pub record RoomyPipeline : Type 0 where
  pub state : State
  pub flight : Flight
  pub spare : ℕ

-- What is kept of the writes and drains of a device in memory: the events, and how many more have their room.
pub record Logged : Type 0 where
  pub events : List Action
  pub spare : ℕ

-- the events of a journal with drains in it, of each of which is kept how many writes stand between it and the one before
abbrev pub events_of : List Write → List ℕ → List Action
events_of journal [] = map Written journal
events_of journal (gap ∷ gaps) = map Written (take gap journal) ++ (Drained ∷ events_of (drop gap journal) gaps)

-- so many writes stand before the last drain, and what has room has it in both lists
pub record IsLog (journal : List Write) (gaps : List ℕ) (drained room journal_room gaps_room : ℕ) : Type 0 where
  pub before : drained ≡ sum gaps
  pub inside : drained ≤ length journal
  pub writes : room ≤ journal_room
  pub drains : room ≤ gaps_room
