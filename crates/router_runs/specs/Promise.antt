-- What a run of a router's script promises, over any reading of its lines.
use Rattle.std.specs.Prelude.{◌≡◌, ℕ, ◌-◌, Option, option_map, IfSome, List, length, take}
use Rattle.call_history.specs.Cause.{IsCounted}
use Rattle.script_lines.specs.Given.{ByGiven}
use Rattle.script_runs.specs.declared.Status.{Status}
use Rattle.script_runs.specs.declared.Status.TheVariants.{Done, Refused, Script as ScriptFault, ReadFault, WriteFault, DeviceFault, Memory, Usage}
use Rattle.script_runs.specs.Script.{Reading, script_of, script_so_far}
use Rattle.script_runs.specs.Outcomes.{IsEffectDue, MatchesOutcome, RunKind, TakesFrom}
use Rattle.script_runs.specs.InTime.{ReadsLinesInTime}
use Rattle.batch_order.specs.CarriedOut.{IsTried}
use Rattle.split_device.specs.declared.SplitAction.{SplitAction}
use Rattle.split_device.specs.declared.SplitWrite.{SplitWrite}
use Rattle.split_device.specs.Flight.{written}
use Rattle.router.specs.declared.Side.{Side}
use Rattle.router.specs.declared.Side.TheVariants as side
use Rattle.router.specs.declared.RouterAct.{RouterAct}
use Rattle.router.specs.Run.{DeviceSlots, Effect, Progress, Setting}
use Rattle.router.specs.Script.{Pending}
use Rattle.router.specs.Taken.{MadeOfBoth}
use Rattle.report_lines.specs.Sizes.{sizes_by}
use Rattle.router_runs.specs.Scripts.{router_scripts}
use Rattle.router_runs.specs.Runs.{router_kind}
use Rattle.router_runs.specs.RuleLists.{status_of_lists}
use Rattle.router_runs.specs.AllTheWay.{IsHitlessTable}

-- of one device's table
abbrev pub slots_on : Side → DeviceSlots → ℕ
slots_on side.List slots = slots.listed
slots_on side.Routes slots = slots.routed

abbrev pub events_on : Side → MadeOfBoth → List SplitAction
events_on side.List events = events.list
events_on side.Routes events = events.routes

-- The parts and drains of both devices, and the report where it is told, are those of an outcome of the script. What was taken of the
-- source is the beginning of it, and all of it at the end of the input.
abbrev pub IsRouterCarriedOut : Reading RouterAct → Setting → DeviceSlots → Status → Option (List ℕ) → Option (List ℕ) → Option (List ℕ) → Option (List ℕ) → MadeOfBoth → Type 0
IsRouterCarriedOut reading setting slots status left_old left_new taken_old taken_new events =
    IfSome left_old (λ old. IfSome left_new (λ new.
    TakesFrom status old new
    × MatchesOutcome (router_kind reading setting slots) (script_of (router_scripts (sizes_by setting.large) reading) old)
    (script_so_far (router_scripts (sizes_by setting.large) reading) (take (length old - length new) old)) status events taken_old taken_new))

-- What packets see of each table by itself, on devices that were blank, and at which of them the run is cut, if it is.
abbrev pub IsHitlessRouter : Reading RouterAct → Setting → DeviceSlots → Status → Option (List ℕ) → Option (List ℕ) → MadeOfBoth → Type 0
IsHitlessRouter reading setting slots status left_old left_new events =
    IfSome left_old (λ old. IfSome left_new (λ new.
    (cut : Side) × ((which : Side) → IsHitlessTable cut which setting (slots_on which slots) (script_of (router_scripts (sizes_by setting.large) reading) old)
    (script_so_far (router_scripts (sizes_by setting.large) reading) (take (length old - length new) old)) status (events_on which events))))

-- the rule lists alone decide this status, where the script is told
abbrev pub IsRouterDecided : Reading RouterAct → Setting → Status → Option (List ℕ) → Type 0
IsRouterDecided reading setting status left =
    IfSome (option_map (λ bytes. status_of_lists setting (script_of (router_scripts (sizes_by setting.large) reading) bytes)) left) (λ is. is ≡ status)

-- how a run may end: by a fault of what it uses, for want of memory, or as its script decides
abbrev pub MayRouterEnd : Reading RouterAct → Setting → Status → Option (List ℕ) → Type 0
MayRouterEnd reading setting Done left = IsRouterDecided reading setting Done left
MayRouterEnd reading setting Refused left = IsRouterDecided reading setting Refused left
MayRouterEnd reading setting ScriptFault left = IsRouterDecided reading setting ScriptFault left
MayRouterEnd reading setting ReadFault left = Unit {0}
MayRouterEnd reading setting WriteFault left = Unit {0}
MayRouterEnd reading setting DeviceFault left = Unit {0}
MayRouterEnd reading setting Memory left = Unit {0}
MayRouterEnd reading setting Usage left = ⊥

-- the promise over a source that had these bytes before and has those now
pub record IsRouterPromised (reading : Reading RouterAct) (setting : Setting) (slots : DeviceSlots) (status : Status) (left_old left_new taken_old taken_new : Option (List ℕ)) (events : MadeOfBoth) : Type 0 where
  pub carried_out : IsRouterCarriedOut reading setting slots status left_old left_new taken_old taken_new events
  pub hitless : IsHitlessRouter reading setting slots status left_old left_new events
  pub ends : MayRouterEnd reading setting status left_old

-- The promise by what was given alone: each source that may have given the same is promised it.
abbrev pub IsRouterPromisedByGiven : Reading RouterAct → Setting → DeviceSlots → Status → List (List ℕ) → List (List ℕ) → Option (List ℕ) → Option (List ℕ) → MadeOfBoth → Type 0
IsRouterPromisedByGiven reading setting slots status given_old given_new taken_old taken_new events =
    ByGiven given_old given_new (λ left_old left_new. IsRouterPromised reading setting slots status left_old left_new taken_old taken_new events)

-- Lines are carried out as soon as they are known, and their report is accepted.
abbrev pub RouterReadsInTime : Reading RouterAct → Setting → DeviceSlots → Status → List (List ℕ) → List (List ℕ) → MadeOfBoth → List ℕ → List ℕ → Type 0
RouterReadsInTime reading setting slots status given_old given_new events accepted_old accepted_new =
    ReadsLinesInTime (router_kind reading setting slots) status given_old given_new events accepted_old accepted_new

-- how often the source, the sink and each device have failed
pub record Failures : Type 0 where
  pub source : ℕ
  pub sink : ℕ
  pub list : ℕ
  pub routes : ℕ

abbrev pub failures_of : ℕ → ℕ → ℕ → ℕ → Failures
failures_of source sink list routes = record { source = source; sink = sink; list = list; routes = routes }

-- A run over a script of these bytes has made this of both devices, and a part of this table's device is what it does next.
abbrev pub IsPartDue : RunKind RouterAct Pending Progress Effect (Side × SplitWrite) MadeOfBoth → Side → List ℕ → MadeOfBoth → Type 0
IsPartDue kind which bytes events =
    (effects : List Effect) × (part : SplitWrite) × IsEffectDue kind (script_of kind.scripts bytes) effects (kind.write (which, part))
    × (events ≡ kind.events_in effects)

-- A fault of source or sink exactly where its count rose, by one. A device's where a part of the device that this names is due, and
-- its count rose by four, as by four tries of that part; beside them each device's rose by at most three for each part that was made
-- of it. Else it is want of memory, or the status that the script decides.
pub record HasRouterCauses (reading : Reading RouterAct) (setting : Setting) (slots : DeviceSlots) (left : Option (List ℕ)) (status : Status) (events : MadeOfBoth) (before after : Failures) : Type 0 where
  pub read : IsCounted (status ≡ ReadFault) before.source after.source
  pub write : IsCounted (status ≡ WriteFault) before.sink after.sink
  pub which : Side
  pub list : IsTried 4 (length (written events.list)) ((status ≡ DeviceFault) × (which ≡ side.List)) before.list after.list
  pub routes : IsTried 4 (length (written events.routes)) ((status ≡ DeviceFault) × (which ≡ side.Routes)) before.routes after.routes
  pub due : status ≡ DeviceFault → IfSome left (λ bytes. IsPartDue (router_kind reading setting slots) which bytes events)
  pub ends : MayRouterEnd reading setting status left
