-- What a router keeps, and where it stands by that.
use Rattle.std.specs.Prelude.{◌≡◌, ℕ, ◌+◌, ◌*◌, ◌^◌, ◌≤◌, ◌||◌, ◌++◌, ◌∷◌, Bool, true, false, Option, None, Some, is_some, Result, Ok, Err, List, [], length, codes}
use Rattle.std.specs.List.{AllByRecursion}
use Rattle.rule_model.specs.declared.IpVersion.{IpVersion}
use Rattle.rule_store.specs.declared.Mode.{Mode}
use Rattle.rule_store.specs.declared.Command.{Command}
use Rattle.tcam_device.specs.State.{on_device}
use Rattle.commit_writes.specs.Routes.{IsRoute}
use Rattle.batch_order.specs.declared.Placement.{Placement}
use Rattle.batch_order.specs.Managed.{OnlyChangesRoutes}
use Rattle.split_device.specs.declared.SplitAction.{SplitAction}
use Rattle.split_device.specs.State.{undivided}
use Rattle.split_device.specs.Flight.{written}
use Rattle.split_order.specs.Left.{left_of, state_on}
use Rattle.split_order.specs.Managed.{SplitManaged, fresh_split}
use Rattle.router.specs.declared.Side.{Side}
use Rattle.router.specs.declared.Side.TheVariants as side
use Rattle.router.specs.declared.RouterAct.{RouterAct}
use Rattle.router.specs.declared.RouterAct.TheVariants.{Change, Packet, Commit}
use Rattle.router.specs.declared.RouterFault.{RouterFault}
use Rattle.router.specs.declared.RouterFault.TheVariants.{BatchFull, Sink, Device, Memory, Held}
use Rattle.router.specs.Run.{DeviceSlots, Progress, Setting, Table}
use Rattle.router.specs.Script.{Pending}

-- The manager and the pending batch of each table, the version of IP, whether parts are told, whether large batches may wait,
-- what the report counts, and whether the sink failed.
pub record Routing : Type 0 where
  pub listed : SplitManaged
  pub routed : SplitManaged
  pub list_batch : List Command
  pub route_batch : List Command
  pub version : IpVersion
  pub trace : Bool
  pub large : Bool
  pub commits : ℕ
  pub writes : ℕ
  pub refused : Bool
  pub broken : Bool

-- what the words of a command line asked for
abbrev pub setting_of : Routing → Setting
setting_of router =
    record {
      slots = router.listed.whole.slots;
      mode = router.listed.whole.mode;
      placement = router.listed.whole.placement;
      version = router.version;
      trace = router.trace;
      large = router.large;
    }

-- where a table stands by its manager and its pending batch
abbrev pub managed_table : SplitManaged → List Command → Table
managed_table manager batch = record { rules = manager.whole.rules; batch = batch; bits = manager.whole.bits; events = manager.events }

-- where the router stands
abbrev pub progress_of : Routing → Progress
progress_of router =
    record {
      listed = managed_table router.listed router.list_batch;
      routed = managed_table router.routed router.route_batch;
      commits = router.commits;
      writes = router.writes;
      refused = router.refused;
    }

-- how many changes are pending
abbrev pub pending_of : Routing → Pending
pending_of router = record { listed = length router.list_batch; routed = length router.route_batch }

-- a router before its first act
abbrev pub begun : ℕ → Mode → Placement → IpVersion → Bool → Routing
begun slots mode placement version trace =
    record {
      listed = fresh_split slots mode placement;
      routed = fresh_split slots mode placement;
      list_batch = [];
      route_batch = [];
      version = version;
      trace = trace;
      large = false;
      commits = 0;
      writes = 0;
      refused = false;
      broken = false;
    }

-- no commit is unfinished
pub record IsIdle (router : Routing) : Type 0 where
  pub listed : router.listed.whole.held ≡ None
  pub routed : router.routed.whole.held ≡ None

-- the slots of both devices
abbrev pub slots_of : ℕ → ℕ → DeviceSlots
slots_of listed routed = record { listed = listed; routed = routed }

-- each device has the slots that the router uses
pub record FitsBoth (router : Routing) (slots : DeviceSlots) : Type 0 where
  pub listed : router.listed.whole.slots ≤ slots.listed
  pub routed : router.routed.whole.slots ≤ slots.routed

-- the devices are where the router stands
pub record AreAt (router : Routing) (listed routed : List SplitAction) : Type 0 where
  pub list : listed ≡ router.listed.events
  pub routes : routed ≡ router.routed.events

-- how many parts a manager has still to make
abbrev pub number_left : ℕ → SplitManaged → ℕ
number_left slots manager = length (written (left_of slots manager))

-- of an unfinished commit, the parts that are still to make of both tables
abbrev pub held_left : DeviceSlots → Routing → Option ℕ
held_left slots router =
    elim (is_some router.listed.whole.held || is_some router.routed.whole.held) [
      | true ↦ Some (number_left slots.listed router.listed + number_left slots.routed router.routed)
      | false ↦ None
    ]

-- a manager has at most so many parts to make
pub record HasFewLeft (manager : SplitManaged) : Type 0 where
  pub slots : ℕ
  pub wide : manager.whole.slots ≤ slots
  pub few : number_left slots manager ≤ 2 ^ 41

-- What was made of a manager's device, of any number of slots, left there what its planner keeps of the slots in use.
pub record HasPlannedState (manager : SplitManaged) : Type 0 where
  pub size : length manager.whole.state.slots ≡ manager.whole.slots
  pub on : (slots : ℕ) → manager.whole.slots ≤ slots → undivided (state_on slots manager) ≡ on_device slots manager.whole.state

-- A router between two calls: its tables are alike, the routes are such of its version's prefixes, no count comes near its end,
-- and with no commit under way its devices have what its planners keep.
pub record IsRouter (router : Routing) : Type 0 where
  pub slots : router.routed.whole.slots ≡ router.listed.whole.slots
  pub mode : router.routed.whole.mode ≡ router.listed.whole.mode
  pub placement : router.routed.whole.placement ≡ router.listed.whole.placement
  pub routes : AllByRecursion (IsRoute router.version) router.routed.whole.rules
  pub changes : OnlyChangesRoutes router.version router.route_batch
  pub writes : router.writes ≤ router.commits * 2 ^ 42
  pub list_few : HasFewLeft router.listed
  pub route_few : HasFewLeft router.routed
  pub list_stands : router.listed.whole.held ≡ None → HasPlannedState router.listed
  pub route_stands : router.routed.whole.held ≡ None → HasPlannedState router.routed

-- a change joins the batch of its table
abbrev pub with_push : Routing → Side → Command → Routing
with_push old side.List command = record old { list_batch = old.list_batch ++ command ∷ [] }
with_push old side.Routes command = record old { route_batch = old.route_batch ++ command ∷ [] }

-- a commit was refused
abbrev pub with_refusal : Routing → Routing
with_refusal old = record old { list_batch = []; route_batch = []; commits = old.commits + 1; refused = true }

-- An act of a router's script: a route that is added is one of a prefix of its version, and the list takes any rule.
abbrev pub IsActOf : IpVersion → RouterAct → Type 0
IsActOf version (Change side.List command) = Unit {0}
IsActOf version (Change side.Routes command) = OnlyChangesRoutes version (command ∷ [])
IsActOf version (Packet key) = Unit {0}
IsActOf version Commit = Unit {0}

-- the sink failed
abbrev pub has_failed : Result (Unit {0}) RouterFault → Bool
has_failed (Ok done) = false
has_failed (Err Sink) = true
has_failed (Err Device) = false
has_failed (Err Memory) = false
has_failed (Err BatchFull) = false
has_failed (Err (Held left)) = false

-- the text of the fault of an act for which there was no room
abbrev pub limit_text : Result (Unit {0}) RouterFault → Option (List ℕ)
limit_text (Ok done) = None
limit_text (Err Sink) = None
limit_text (Err Device) = None
limit_text (Err Memory) = None
limit_text (Err BatchFull) = Some (codes "batch full")
limit_text (Err (Held left)) = None
