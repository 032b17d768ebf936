-- Where an explanation stands between two lines: words that only the contracts of calls need.
use Rattle.std.specs.Prelude.{◌≡◌, ◌≢◌, ℕ, Bool, true, ◌||◌, Option, IfNone, IfSome, List, [], ◌++◌}
use Rattle.rule_model.specs.declared.Rule.{Rule}
use Rattle.rule_store.specs.declared.Command.{Command as Change}
use Rattle.settled_changes.specs.declared.requested.Requested.{Requested}
use Rattle.settled_changes.specs.Requested.{changes_in}
use Rattle.script_lines.specs.Given.{HasEnd, MayGive}
use Rattle.script_lines.specs.Reader.{HeldBytes}
use Rattle.script_lines.specs.declared.Over.TheVariants as over
use Rattle.script_runs.specs.declared.Status.{Status}
use Rattle.script_runs.specs.Script.{NumberedAct, Whole}
use Rattle.script_runs.specs.Rounds.{IsReadSoFar, acts_only}
use Rattle.replay.specs.declared.Act.{Act}
use Rattle.report_lines.specs.Sizes.{sizes_by}
use Rattle.replay.specs.Script.{script_kind}
use Rattle.tcam_cli.specs.Readings.{reading_by}
use Rattle.explain.specs.declared.explainer.Wanted.{Wanted}
use Rattle.explain.specs.declared.explainer.Foretold.{Foretold}
use Rattle.explain.specs.declared.explainer.Foretold.TheVariants as foretold
use Rattle.explain.specs.Explained.{IsRightOf, foretells, is_refusal_foretold, script_for, setting_for}

-- what a contract sees of an explanation: the set, the pending batch, what is asked for beside it, how many probes there were, how
-- far refusals are foretold, and whether something is wrong
pub record Explained : Type 0 where
  pub wanted : Wanted
  pub rules : List Rule
  pub batch : List Change
  pub asked : Requested
  pub probes : ℕ
  pub foretold : Foretold
  pub wrong : Bool

-- What is foretold of the acts so far and of any that follow: where the set is known, what is foretold from here on, if
-- nothing was; behind a trial nothing more.
abbrev pub ForetellsBy : Foretold → Explained → List Act → Type 0
ForetellsBy foretold.Known now acts =
    (more : List Act) → is_refusal_foretold now.wanted (acts ++ more) ≡ (now.wrong || foretells (setting_for now.wanted) now.rules now.batch now.asked more)
ForetellsBy (foretold.BehindTrial line) now acts = (more : List Act) → is_refusal_foretold now.wanted (acts ++ more) ≡ now.wrong
ForetellsBy (foretold.BehindFault line) now acts = ⊥

-- The acts so far, of which none is at fault, and what is read of the script.
pub record IsFaultless (by : Foretold) (bytes : List ℕ) (held : HeldBytes) (left : List ℕ) (now : Explained) : Type 0 where
  pub acts : List (NumberedAct Act)
  pub read : IsReadSoFar held.over (script_kind (sizes_by now.wanted.large) (reading_by (setting_for now.wanted))) bytes held left acts (changes_in now.batch now.asked, now.probes)
  pub tells : ForetellsBy by now (acts_only acts)

-- A line of the script is at fault.
pub record HasFault (bytes : List ℕ) (now : Explained) : Type 0 where
  pub wrong : now.wrong ≡ true
  pub fault : (script_for now.wanted bytes).last ≢ Whole

-- where an explanation stands in a script, by how far refusals are foretold
abbrev pub IsStandingBy : Foretold → List ℕ → HeldBytes → List ℕ → Explained → Type 0
IsStandingBy foretold.Known bytes held left now = IsFaultless foretold.Known bytes held left now
IsStandingBy (foretold.BehindTrial line) bytes held left now = IsFaultless (foretold.BehindTrial line) bytes held left now
IsStandingBy (foretold.BehindFault line) bytes held left now = HasFault bytes now

abbrev pub IsStanding : List ℕ → HeldBytes → List ℕ → Explained → Type 0
IsStanding bytes held left now = IsStandingBy now.foretold bytes held left now

-- What a round comes to whose source gave these pieces.
pub record RoundsBy (old : HeldBytes) (before : Explained) (pieces : List (List ℕ)) (result : Option Status) (new : HeldBytes) (after : Explained) : Type 0 where
  pub goes : IfNone result ((bytes left now : List ℕ) → MayGive left pieces now → IsStanding bytes old left before → IsStanding bytes new now after)
  pub ends : IfSome result (λ status. (bytes left now : List ℕ) → MayGive left pieces now → IsStanding bytes old left before → IsRightOf before.wanted bytes now status)
  pub ended : HasEnd pieces → IfNone result (new.over ≡ over.Ended)
  pub rests : old.over ≢ over.Going → pieces ≡ []
