-- A script from its start to the end of the run.
use Rattle.std.proofs.Common.{◌≡◌, ◌≢◌, ℕ, Option, Some, None, IfSome, List, refl}
use Rattle.script_lines.specs.Given.{GivesPieces, MayGive}
use Rattle.script_lines.proofs.Turns.{may-told}
use Rattle.script_runs.specs.declared.Status.{Status}
use Rattle.script_runs.specs.declared.Status.TheVariants.{Done, Refused, Script as ScriptFault, ReadFault, WriteFault, DeviceFault, Memory, Usage}
use Rattle.script_runs.specs.Script.{Reading, script_of}
use Rattle.script_runs.specs.Outcomes.{RunKind}
use Rattle.script_runs.specs.Rounds.{EndsRun}
use Rattle.script_runs.proofs.Rounds.{EndsTold, TakesSome, matches}
use Rattle.split_device.specs.declared.SplitWrite.{SplitWrite}
use Rattle.router.specs.declared.Side.{Side}
use Rattle.router.specs.declared.RouterAct.{RouterAct}
use Rattle.router.specs.Script.{Pending}
use Rattle.router.specs.Run.{DeviceSlots, Effect, Progress, Setting}
use Rattle.router.specs.Taken.{MadeOfBoth}
use Rattle.report_lines.specs.Sizes.{sizes_by}
use Rattle.router_runs.specs.Scripts.{router_scripts}
use Rattle.router_runs.specs.Runs.{router_kind}
use Rattle.router_runs.specs.RuleLists.{status_of_lists}
use Rattle.router_runs.specs.Promise.{IsPartDue, IsRouterCarriedOut, IsRouterDecided, MayRouterEnd}
use Rattle.router_runs.proofs.Decided.{complete-decided}

module _ (reading : Reading RouterAct) (setting : Setting) (slots : DeviceSlots) (status : Status) where
  pub carried : (left_old left_new : Option (List ℕ)) (events : MadeOfBoth) (taken_old taken_new : Option (List ℕ)) → TakesSome left_old left_new
      → EndsTold (router_kind reading setting slots) status left_old left_new events taken_old taken_new
      → IsRouterCarriedOut reading setting slots status left_old left_new taken_old taken_new events
  carried None left_new events taken_old taken_new takes ends = tt
  carried (Some old) None events taken_old taken_new takes ends = tt
  carried (Some old) (Some new) events taken_old taken_new takes ends =
      let is = ends old takes.0 new refl refl takes.1 in
      (record { taken = takes.0; parts = takes.1; all = is.all }, matches (router_kind reading setting slots) status old takes.0 new events taken_old taken_new takes.1 is)

  decided-by : (left_old left_new : Option (List ℕ)) (events : MadeOfBoth) (taken_old taken_new : Option (List ℕ)) → TakesSome left_old left_new
      → EndsTold (router_kind reading setting slots) status left_old left_new events taken_old taken_new
      → ((left taken now : List ℕ) → EndsRun (router_kind reading setting slots) left taken now status events taken_old taken_new → status_of_lists setting (script_of (router_scripts (sizes_by setting.large) reading) left) ≡ status)
      → IsRouterDecided reading setting status left_old
  decided-by None left_new events taken_old taken_new takes ends so = tt
  decided-by (Some old) None events taken_old taken_new takes ends so = absurd takes.1
  decided-by (Some old) (Some new) events taken_old taken_new takes ends so = so old takes.0 new (ends old takes.0 new refl refl takes.1)

-- where a part is due behind what was given, it is due in a source that is told
pub due-told : (kind : RunKind RouterAct Pending Progress Effect (Side × SplitWrite) MadeOfBoth) (which : Side) (given_old given_new : List (List ℕ)) (left_old left_new : Option (List ℕ)) (pieces : List (List ℕ)) (events : MadeOfBoth)
    → GivesPieces given_old given_new left_old left_new pieces → ((left now : List ℕ) → MayGive left pieces now → IsPartDue kind which left events) → IfSome left_old (λ bytes. IsPartDue kind which bytes events)
due-told kind which given_old given_new None left_new pieces events is due = tt
due-told kind which given_old given_new (Some old) None pieces events is due = absurd is.taken
due-told kind which given_old given_new (Some old) (Some new) pieces events is due = due old new (may-told given_old given_new (Some old) (Some new) pieces old new is refl refl)

pub may-end : (reading : Reading RouterAct) (setting : Setting) (slots : DeviceSlots) (status : Status) (left_old left_new : Option (List ℕ)) (events : MadeOfBoth) (taken_old taken_new : Option (List ℕ))
    → TakesSome left_old left_new → status ≢ Usage → EndsTold (router_kind reading setting slots) status left_old left_new events taken_old taken_new → MayRouterEnd reading setting status left_old
may-end reading setting slots Done left_old left_new events taken_old taken_new takes other ends =
    decided-by reading setting slots Done left_old left_new events taken_old taken_new takes ends (λ left taken now e. complete-decided reading setting slots _ Done e.effects e.outcome.0)
may-end reading setting slots Refused left_old left_new events taken_old taken_new takes other ends =
    decided-by reading setting slots Refused left_old left_new events taken_old taken_new takes ends (λ left taken now e. complete-decided reading setting slots _ Refused e.effects e.outcome.0)
may-end reading setting slots ScriptFault left_old left_new events taken_old taken_new takes other ends =
    decided-by reading setting slots ScriptFault left_old left_new events taken_old taken_new takes ends (λ left taken now e. complete-decided reading setting slots _ ScriptFault e.effects e.outcome.0)
may-end reading setting slots ReadFault left_old left_new events taken_old taken_new takes other ends = tt
may-end reading setting slots WriteFault left_old left_new events taken_old taken_new takes other ends = tt
may-end reading setting slots DeviceFault left_old left_new events taken_old taken_new takes other ends = tt
may-end reading setting slots Memory left_old left_new events taken_old taken_new takes other ends = tt
may-end reading setting slots Usage left_old left_new events taken_old taken_new takes other ends = absurd (other refl)
