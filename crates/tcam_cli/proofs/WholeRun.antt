-- A script from its start to the end of the run.
use Rattle.std.proofs.Common.{◌≡◌, ◌≢◌, ℕ, Bool, Option, Some, None, List, [], refl}
use Rattle.script_runs.specs.declared.Status.{Status}
use Rattle.script_runs.specs.declared.Status.TheVariants.{Done, Refused, Script as ScriptFault, ReadFault, WriteFault, DeviceFault, Memory, Usage}
use Rattle.script_runs.specs.Rounds.{EndsRun}
use Rattle.script_runs.proofs.Rounds.{EndsTold, TakesSome, matches}
use Rattle.tcam_device.specs.declared.Action.{Action}
use Rattle.report_lines.specs.Sizes.{sizes_by}
use Rattle.replay.specs.Script.{script_of}
use Rattle.replay.specs.Effects.{Setting}
use Rattle.tcam_cli.specs.Headline.{IsCarriedOut, IsDecided, MayEnd, Reads, decided, run_kind}
use Rattle.tcam_cli.specs.Readings.{reading_by}
use Rattle.tcam_cli.proofs.Decided.{complete-decided}

pub carried : (setting : Setting) (slots : ℕ) (status : Status) (left_old left_new : Option (List ℕ)) (events : List Action) (taken_old taken_new : Option (List ℕ)) → TakesSome left_old left_new
    → EndsTold (run_kind setting slots) status left_old left_new events taken_old taken_new
    → IsCarriedOut (Reads setting) slots status left_old left_new taken_old taken_new events
carried setting slots status None left_new events taken_old taken_new takes ends = tt
carried setting slots status (Some old) None events taken_old taken_new takes ends = tt
carried setting slots status (Some old) (Some new) events taken_old taken_new takes ends =
    let is = ends old takes.0 new refl refl takes.1 in
    (record { taken = takes.0; parts = takes.1; all = is.all }, matches (run_kind setting slots) status old takes.0 new events taken_old taken_new takes.1 is)

decided-by : (setting : Setting) (slots : ℕ) (status : Status) (left_old left_new : Option (List ℕ)) (events : List Action) (taken_old taken_new : Option (List ℕ)) → TakesSome left_old left_new
    → EndsTold (run_kind setting slots) status left_old left_new events taken_old taken_new
    → ((left taken now : List ℕ) → (e : EndsRun (run_kind setting slots) left taken now status events taken_old taken_new) → (backs : List Bool) × (decided setting backs (script_of (sizes_by setting.large) (reading_by setting) left) ≡ status))
    → IsDecided status (Reads setting) left_old
decided-by setting slots status None left_new events taken_old taken_new takes ends so = ([], tt)
decided-by setting slots status (Some old) None events taken_old taken_new takes ends so = absurd takes.1
decided-by setting slots status (Some old) (Some new) events taken_old taken_new takes ends so =
    so old takes.0 new (ends old takes.0 new refl refl takes.1)

pub may-end : (setting : Setting) (slots : ℕ) (status : Status) (left_old left_new : Option (List ℕ)) (events : List Action) (taken_old taken_new : Option (List ℕ)) → TakesSome left_old left_new
    → status ≢ Usage → EndsTold (run_kind setting slots) status left_old left_new events taken_old taken_new → MayEnd status (Reads setting) left_old
may-end setting slots Done left_old left_new events taken_old taken_new takes other ends =
    decided-by setting slots Done left_old left_new events taken_old taken_new takes ends (λ left taken now e. complete-decided setting slots _ Done e.effects e.outcome.0)
may-end setting slots Refused left_old left_new events taken_old taken_new takes other ends =
    decided-by setting slots Refused left_old left_new events taken_old taken_new takes ends (λ left taken now e. complete-decided setting slots _ Refused e.effects e.outcome.0)
may-end setting slots ScriptFault left_old left_new events taken_old taken_new takes other ends =
    (tt, decided-by setting slots ScriptFault left_old left_new events taken_old taken_new takes ends (λ left taken now e. complete-decided setting slots _ ScriptFault e.effects e.outcome.0))
may-end setting slots ReadFault left_old left_new events taken_old taken_new takes other ends = tt
may-end setting slots WriteFault left_old left_new events taken_old taken_new takes other ends = tt
may-end setting slots DeviceFault left_old left_new events taken_old taken_new takes other ends = tt
may-end setting slots Memory left_old left_new events taken_old taken_new takes other ends = tt
may-end setting slots Usage left_old left_new events taken_old taken_new takes other ends = absurd (other refl)
