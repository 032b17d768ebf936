-- What an explanation of a script finds: by the script that its bytes are to a run, and by the rule lists alone.
use Rattle.std.specs.Prelude.{◌≡◌, ◌≢◌, ℕ, Bool, true, false, List, [], ◌∷◌}
use Rattle.std.specs.List.{AllByRecursion}
use Rattle.rule_model.specs.declared.Rule.{Rule}
use Rattle.rule_store.specs.declared.Command.{Command as Change}
use Rattle.rule_store.specs.Batch.{set_after}
use Rattle.rule_store.specs.Verdict.{Verdict, Accepted, Unsound, OutOfBits, OutOfSlots}
use Rattle.settled_changes.specs.declared.requested.Requested.{Requested}
use Rattle.settled_changes.specs.declared.requested.Requested.TheVariants.{Nothing, Whole as WholeSet}
use Rattle.settled_changes.specs.Requested.{asked_behind, asked_with, batch_behind, batch_with, settled_batch, settled_verdict}
use Rattle.batch_order.specs.declared.Placement.TheVariants.{Middle}
use Rattle.script_runs.specs.declared.Status.{Status}
use Rattle.script_runs.specs.declared.Status.TheVariants as status
use Rattle.script_runs.specs.Script.{Whole, acts_of}
use Rattle.replay.specs.declared.Act.{Act}
use Rattle.replay.specs.declared.Act.TheVariants.{Command, Ask, All, Probe, Packet, Commit, Trial, Crash}
use Rattle.replay.specs.Early.{commit_verdict}
use Rattle.replay.specs.Effects.{Setting}
use Rattle.report_lines.specs.Sizes.{sizes_by}
use Rattle.replay.specs.Script.{Script, script_of}
use Rattle.tcam_cli.specs.Headline.{decided}
use Rattle.tcam_cli.specs.Readings.{reading_by}
use Rattle.explain.specs.declared.explainer.Wanted.{Wanted}

-- a setting of a run that a script is explained for; where insertions aim and what is traced decides nothing here
abbrev pub setting_for : Wanted → Setting
setting_for wanted =
    record { slots = wanted.slots; mode = wanted.mode; placement = Middle; family = wanted.family; trace = false; depth = 0; json = wanted.json; names = false; parts = wanted.parts; large = wanted.large }

-- the script that some bytes are to such a run
abbrev pub script_for : Wanted → List ℕ → Script
script_for wanted bytes = script_of (sizes_by wanted.large) (reading_by (setting_for wanted)) bytes

-- whether a commit is refused, or one behind it, where it is accepted
abbrev pub judged_by : Verdict → Bool → Bool
judged_by Accepted behind = behind
judged_by (Unsound fault) behind = true
judged_by (OutOfBits field needed free) behind = true
judged_by (OutOfSlots needed free) behind = true

-- The same of a trial that comes to these changes. Behind an accepted one with changes nothing is foretold, since the number of
-- its writes decides which set stands; one of none is a commit.
abbrev pub tried_by : List Change → Verdict → Bool → Bool
tried_by [] v behind = judged_by v behind
tried_by (change ∷ changes) v behind = judged_by v false

-- Whether the rule lists alone foretell that a commit of the acts is refused: by the set before the acts, the batch that is
-- pending, and what is asked for beside it. A commit in two parts is judged by its rest.
abbrev pub foretells : Setting → List Rule → List Change → Requested → List Act → Bool
foretells setting rules batch asked [] = false
foretells setting rules batch asked (Command change ∷ acts) = foretells setting rules (batch_with batch asked change) (asked_with asked change) acts
foretells setting rules batch asked (Ask request ∷ acts) = foretells setting rules (batch_behind batch asked) (asked_behind batch asked request) acts
foretells setting rules batch asked (All ∷ acts) = foretells setting rules [] (WholeSet []) acts
foretells setting rules batch asked (Probe key ∷ acts) = foretells setting rules batch asked acts
foretells setting rules batch asked (Packet key ∷ acts) = foretells setting rules batch asked acts
foretells setting rules batch asked (Commit ∷ acts) =
    judged_by (commit_verdict setting rules batch asked) (foretells setting (set_after rules (settled_batch rules batch asked)) [] Nothing acts)
foretells setting rules batch asked (Trial most ∷ acts) =
    tried_by (settled_batch rules batch asked) (settled_verdict setting.slots setting.mode rules batch asked)
    (foretells setting (set_after rules (settled_batch rules batch asked)) [] Nothing acts)
foretells setting rules batch asked (Crash after ∷ acts) =
    judged_by (settled_verdict setting.slots setting.mode rules batch asked) (foretells setting (set_after rules (settled_batch rules batch asked)) [] Nothing acts)

-- the same of a script from its first act on
abbrev pub is_refusal_foretold : Wanted → List Act → Bool
is_refusal_foretold wanted acts = foretells (setting_for wanted) [] [] Nothing acts

-- an act that isn't a trial
abbrev pub IsNoTrial : Act → Type 0
IsNoTrial (Command change) = Unit {0}
IsNoTrial (Ask request) = Unit {0}
IsNoTrial All = Unit {0}
IsNoTrial (Probe key) = Unit {0}
IsNoTrial (Packet key) = Unit {0}
IsNoTrial Commit = Unit {0}
IsNoTrial (Trial most) = ⊥
IsNoTrial (Crash after) = Unit {0}

-- Nothing is wrong: no line is at fault, and no refusal is foretold. So a run over a script without trials ends with no
-- commit refused (`runs`).
pub record IsRightScript (wanted : Wanted) (bytes : List ℕ) : Type 0 where
  pub whole : (script_for wanted bytes).last ≡ Whole
  pub accepted : is_refusal_foretold wanted (acts_of (script_for wanted bytes)) ≡ false
  pub runs : AllByRecursion IsNoTrial (acts_of (script_for wanted bytes)) → (backs : List Bool) → decided (setting_for wanted) backs (script_for wanted bytes) ≡ status.Done

-- Something is wrong: whatever becomes of its trials, a run of the script finds a line at fault or refuses a commit.
abbrev pub IsWrongScript : Wanted → List ℕ → Type 0
IsWrongScript wanted bytes = (backs : List Bool) → decided (setting_for wanted) backs (script_for wanted bytes) ≢ status.Done

-- A status is right of a source that had these bytes to give and has those left: Done exactly where nothing is wrong, and
-- then the input was read to its end; Script where something is.
abbrev pub IsRightOf : Wanted → List ℕ → List ℕ → Status → Type 0
IsRightOf wanted bytes after status.Done = (after ≡ []) × IsRightScript wanted bytes
IsRightOf wanted bytes after status.Script = IsWrongScript wanted bytes
IsRightOf wanted bytes after status.ReadFault = Unit {0}
IsRightOf wanted bytes after status.WriteFault = Unit {0}
IsRightOf wanted bytes after status.Memory = Unit {0}
IsRightOf wanted bytes after status.Refused = ⊥
IsRightOf wanted bytes after status.DeviceFault = ⊥
IsRightOf wanted bytes after status.Usage = ⊥
