-- What the top call promises, by what its words ask for.
use Rattle.std.specs.Prelude.{◌≡◌, ◌⊎◌, ℕ, ◌++◌, Bool, Option, IfSome, List, []}
use Rattle.call_history.specs.Cause.{IsCounted}
use Rattle.script_lines.specs.Given.{ByGiven}
use Rattle.rule_model.specs.declared.IpVersion.{IpVersion}
use Rattle.rule_store.specs.declared.Mode.{Mode}
use Rattle.batch_order.specs.declared.Placement.{Placement}
use Rattle.script_runs.specs.declared.Status.{Status}
use Rattle.script_runs.specs.declared.Status.TheVariants.{Done, WriteFault, Memory, Usage}
use Rattle.script_runs.specs.Outcomes.{IsPrinted}
use Rattle.report_lines.specs.Text.{usage_line}
use Rattle.router.specs.Run.{DeviceSlots, Setting}
use Rattle.router.specs.Taken.{MadeOfBoth}
use Rattle.router_reader.specs.Readings.{router_reading}
use Rattle.router_runs.specs.Promise.{Failures, HasRouterCauses, IsHitlessRouter, IsRouterCarriedOut, MayRouterEnd, RouterReadsInTime}
use Rattle.router_cli.specs.CommandLine.{RouterJob, NoJob, Tells, Routes}

-- the setting that words ask for
abbrev pub router_setting : IpVersion → ℕ → Mode → Placement → Bool → Bool → Setting
router_setting version slots mode placement trace large =
    record { slots = slots; mode = mode; placement = placement; version = version; trace = trace; large = large }

-- no part and no drain was made of either device
pub record AreBlank (events : MadeOfBoth) : Type 0 where
  pub list : events.list ≡ []
  pub routes : events.routes ≡ []

-- A job that touches neither source nor devices, and prints one text.
pub record PrintsAlone (text : List ℕ) (last status : Status) (left_old left_new taken_old taken_new : Option (List ℕ)) (events : MadeOfBoth) : Type 0 where
  pub source : left_new ≡ left_old
  pub devices : AreBlank events
  pub report : IfSome taken_old (λ before. IfSome taken_new (λ after. (told : List ℕ) × (after ≡ before ++ told) × IsPrinted text last status told))

-- What is done, over devices that were blank.
abbrev pub IsRouterJobCarriedOut : RouterJob → DeviceSlots → Status → Option (List ℕ) → Option (List ℕ) → Option (List ℕ) → Option (List ℕ) → MadeOfBoth → Type 0
IsRouterJobCarriedOut NoJob slots status left_old left_new taken_old taken_new events =
    PrintsAlone usage_line Usage status left_old left_new taken_old taken_new events
IsRouterJobCarriedOut (Tells text) slots status left_old left_new taken_old taken_new events =
    PrintsAlone text Done status left_old left_new taken_old taken_new events
IsRouterJobCarriedOut (Routes version most mode placement trace large) slots status left_old left_new taken_old taken_new events =
    IsRouterCarriedOut (router_reading version) (router_setting version most mode placement trace large) slots status left_old left_new taken_old taken_new events

-- What packets see of each table by itself.
abbrev pub IsRouterJobHitless : RouterJob → DeviceSlots → Status → Option (List ℕ) → Option (List ℕ) → MadeOfBoth → Type 0
IsRouterJobHitless NoJob slots status left_old left_new events = AreBlank events
IsRouterJobHitless (Tells text) slots status left_old left_new events = AreBlank events
IsRouterJobHitless (Routes version most mode placement trace large) slots status left_old left_new events =
    IsHitlessRouter (router_reading version) (router_setting version most mode placement trace large) slots status left_old left_new events

-- how a job that prints one text may end
abbrev pub EndsTold : Status → Status → Type 0
EndsTold last status = (status ≡ last) ⊎ ((status ≡ WriteFault) ⊎ (status ≡ Memory))

-- how a job may end: by a fault of what it uses, for want of memory, or as its words and its script decide
abbrev pub MayRouterJobEnd : RouterJob → Status → Option (List ℕ) → Type 0
MayRouterJobEnd NoJob status left = EndsTold Usage status
MayRouterJobEnd (Tells text) status left = EndsTold Done status
MayRouterJobEnd (Routes version most mode placement trace large) status left = MayRouterEnd (router_reading version) (router_setting version most mode placement trace large) status left

-- the promise over a source that had these bytes before and has those now
pub record IsRouterJobPromised (job : RouterJob) (slots : DeviceSlots) (status : Status) (left_old left_new taken_old taken_new : Option (List ℕ)) (events : MadeOfBoth) : Type 0 where
  pub carried_out : IsRouterJobCarriedOut job slots status left_old left_new taken_old taken_new events
  pub hitless : IsRouterJobHitless job slots status left_old left_new events
  pub ends : MayRouterJobEnd job status left_old

-- The promise by what was given alone: each source that may have given the same is promised it.
abbrev pub IsRouterJobPromisedByGiven : RouterJob → DeviceSlots → Status → List (List ℕ) → List (List ℕ) → Option (List ℕ) → Option (List ℕ) → MadeOfBoth → Type 0
IsRouterJobPromisedByGiven job slots status given_old given_new taken_old taken_new events =
    ByGiven given_old given_new (λ left_old left_new. IsRouterJobPromised job slots status left_old left_new taken_old taken_new events)

-- Lines are carried out as soon as they are known, and their report is accepted. A job without a script reads nothing.
abbrev pub RouterJobReadsInTime : RouterJob → DeviceSlots → Status → List (List ℕ) → List (List ℕ) → MadeOfBoth → List ℕ → List ℕ → Type 0
RouterJobReadsInTime NoJob slots status given_old given_new events accepted_old accepted_new = given_new ≡ given_old
RouterJobReadsInTime (Tells text) slots status given_old given_new events accepted_old accepted_new = given_new ≡ given_old
RouterJobReadsInTime (Routes version most mode placement trace large) slots status given_old given_new events accepted_old accepted_new =
    RouterReadsInTime (router_reading version) (router_setting version most mode placement trace large) slots status given_old given_new events accepted_old accepted_new

-- a job that prints one text: the sink alone may fail
pub record HasTextCauses (last status : Status) (before after : Failures) : Type 0 where
  pub write : IsCounted (status ≡ WriteFault) before.sink after.sink
  pub source : after.source ≡ before.source
  pub list : after.list ≡ before.list
  pub routes : after.routes ≡ before.routes
  pub ends : EndsTold last status

-- Why a job ended so.
abbrev pub HasRouterJobCauses : RouterJob → DeviceSlots → Option (List ℕ) → Status → MadeOfBoth → Failures → Failures → Type 0
HasRouterJobCauses NoJob slots left status events before after = HasTextCauses Usage status before after
HasRouterJobCauses (Tells text) slots left status events before after = HasTextCauses Done status before after
HasRouterJobCauses (Routes version most mode placement trace large) slots left status events before after =
    HasRouterCauses (router_reading version) (router_setting version most mode placement trace large) slots left status events before after
