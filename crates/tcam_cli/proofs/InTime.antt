-- Where the device stands between two lines, and a job that reads nothing.
use Rattle.std.proofs.Common.{◌≢◌, inl, ℕ, Option, List, [], refl, sym, ◌∙◌, append-nil}
use Rattle.std.proofs.lemmas.List.{append_cancel_left}
use Rattle.script_lines.specs.Reader.{HeldBytes}
use Rattle.script_runs.specs.declared.Status.{Status}
use Rattle.script_runs.specs.declared.Status.TheVariants.{ReadFault}
use Rattle.script_runs.specs.Rounds.{acts_only, SoFar}
use Rattle.script_runs.proofs.InTime.{nothing-in-time}
use Rattle.tcam_device.specs.declared.Action.{Action}
use Rattle.replay.specs.Effects.{Setting}
use Rattle.replay.specs.Run.{Progress}
use Rattle.replay.specs.Carried.{IsAt}
use Rattle.tcam_cli.specs.Headline.{Job, NoJob, Tells, Reads, Makes, Verifies, run_kind}
use Rattle.tcam_cli.specs.Given.{ReadsInTime}
use Rattle.tcam_cli.proofs.OneMore.{run-at}

-- the device is where the run stands
pub so-far-at : (setting : Setting) (slots : ℕ) (bytes : List ℕ) (held : HeldBytes) (left : List ℕ) (last : Progress) (events : List Action) (start taken : Option (List ℕ))
    → SoFar (run_kind setting slots) bytes held left last events start taken → IsAt slots events last
so-far-at setting slots bytes held left last events start taken s = run-at setting slots (acts_only s.acts) s.effects last events s.run s.events_is

-- a job that reads nothing
pub nothing-read : (job : Job) (slots : ℕ) (status : Status) (given : List (List ℕ)) (events : List Action) (accepted : List ℕ) → status ≢ ReadFault → ReadsInTime job slots status given given events accepted accepted
nothing-read NoJob slots status given events accepted other = refl
nothing-read (Tells own) slots status given events accepted other = refl
nothing-read (Makes setting seed rules batches) slots status given events accepted other = refl
nothing-read (Reads setting) slots status given events accepted other = nothing-in-time (run_kind setting slots) status given events accepted
nothing-read Verifies slots status given events accepted other =
    λ pieces same. (
      inl (append_cancel_left given pieces [] (sym same ∙ sym (append-nil given))),
      λ failed. absurd (other failed),
    )
