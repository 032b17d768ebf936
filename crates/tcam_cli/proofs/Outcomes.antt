-- What an act did that was stopped, and how the run ends by it.
use Rattle.std.proofs.Common.{◌≡◌, ℕ, ◌∷◌, ◌++◌, Option, Err, List, [], refl, subst}
use Rattle.std.specs.Io.KnownBytes.{Appends}
use Rattle.script_runs.specs.Script.{acts_of}
use Rattle.script_runs.specs.Rounds.{Grows}
use Rattle.script_runs.proofs.Endings.{line-outcome, memory-outcome, write-outcome}
use Rattle.tcam_device.specs.declared.Action.{Action}
use Rattle.replay.specs.declared.Act.{Act}
use Rattle.replay.specs.declared.ActFault.TheVariants.{Stopped}
use Rattle.replay.specs.declared.RunFault.{RunFault}
use Rattle.replay.specs.declared.RunFault.TheVariants as fault
use Rattle.replay.specs.Script.{Script}
use Rattle.replay.specs.Effects.{Setting, Effect, events_in, printed}
use Rattle.replay.specs.Run.{Progress}
use Rattle.replay.specs.Carried.{IsAt}
use Rattle.replay.specs.Running.{Running, progress_of, setting_of}
use Rattle.tcam_cli.specs.InTwo.{ComesToBy, CutsAtLineBy, CutsAtWriteBy, RunsBy, WantsBy}
use Rattle.tcam_cli.specs.Headline.{MatchesOutcome, run_kind}
use Rattle.tcam_cli.specs.Rounds.{status_of_fault}
use Rattle.tcam_cli.proofs.Kind.{joins, does-of, grows-of}
use Rattle.tcam_cli.proofs.OneMore.{run-at}

-- what an act did that was stopped, by its fault
abbrev pub Stops : ℕ → Setting → Progress → Act → RunFault → List Action → List Action → Option (List ℕ) → Option (List ℕ) → Type 0
Stops slots setting last act fault.Sink events events_new before after = IsAt slots events last → CutsAtLineBy setting last act events events_new before after
Stops slots setting last act fault.Device events events_new before after = IsAt slots events last → CutsAtWriteBy setting last act events events_new before after
Stops slots setting last act fault.Memory events events_new before after = IsAt slots events last → WantsBy setting last act events events_new before after

pub stops : (slots : ℕ) (old : Running) (act : Act) (new : Running) (why : RunFault) (events events_new : List Action) (before after : Option (List ℕ))
    → ComesToBy slots old act new (Err (Stopped why)) events events_new before after → Stops slots (setting_of old) (progress_of slots old) act why events events_new before after
stops slots old act new fault.Sink events events_new before after comes = comes
stops slots old act new fault.Device events events_new before after comes = comes
stops slots old act new fault.Memory events events_new before after comes = comes

pub stops-memory : (slots : ℕ) (setting : Setting) (last : Progress) (act : Act) (why : RunFault) (events events_new : List Action) (before after : Option (List ℕ))
    → why ≡ fault.Memory → IsAt slots events last → Stops slots setting last act why events events_new before after → WantsBy setting last act events events_new before after
stops-memory slots setting last act why events events_new before after is at stop = (subst (λ why. Stops slots setting last act why events events_new before after) is stop) at

-- events and report have only grown
pub stops-grows : (slots : ℕ) (setting : Setting) (last : Progress) (act : Act) (why : RunFault) (events events_new : List Action) (before after : Option (List ℕ))
    → IsAt slots events last → Stops slots setting last act why events events_new before after → Grows (λ first second. first ++ second) events events_new before after
stops-grows slots setting last act fault.Sink events events_new before after at is = grows-of setting slots _ _ events events_new before after (is at).does
stops-grows slots setting last act fault.Device events events_new before after at is = grows-of setting slots _ _ events events_new before after (is at).does
stops-grows slots setting last act fault.Memory events events_new before after at is = grows-of setting slots _ _ events events_new before after (is at).does

-- these acts were carried out, with these effects, and the next one is cut
module _ (setting : Setting) (slots : ℕ) (script came : Script) (done : List Act) (effects : List Effect) (last : Progress) (events : List Action) (start before : Option (List ℕ))
    (run : RunsBy setting slots done effects last) (events_is : events ≡ events_in effects) (report : Appends start before (printed effects))
    (act : Act) (later : List Act) (acts : acts_of script ≡ done ++ act ∷ later) (events_new : List Action) (after : Option (List ℕ)) where
  at : IsAt slots events last
  at = run-at setting slots done effects last events run events_is

  -- by its fault
  pub stopped-outcome : (why : RunFault) → Stops slots setting last act why events events_new before after
      → MatchesOutcome setting slots script came (status_of_fault why) events_new start after
  stopped-outcome fault.Sink is =
      let cut = is at in
      line-outcome (run_kind setting slots) joins script came done effects last events start before run events_is report act later acts events_new after cut.front cut.partial
      (does-of setting slots cut.front cut.partial events events_new before after cut.does) cut.rest cut.cut
  stopped-outcome fault.Device is =
      let cut = is at in
      write-outcome (run_kind setting slots) joins script came done effects last events start before run events_is report act later acts events_new after cut.front []
      (does-of setting slots cut.front [] events events_new before after cut.does) cut.write refl cut.cut
  stopped-outcome fault.Memory is =
      let wants = is at in
      memory-outcome (run_kind setting slots) joins script came done effects last events start before run events_is report act later acts events_new after wants.effects []
      (does-of setting slots wants.effects [] events events_new before after wants.does) refl wants.needs
