-- What a run has carried out before its last read, by the pieces that its source gave.
use Rattle.std.specs.Prelude.{◌≡◌, ℕ, List, [], ◌∷◌, ◌++◌}
use Rattle.std.specs.List.{concat}
use Rattle.script_lines.specs.Given.{HasEnd, MayGive}
use Rattle.script_runs.specs.declared.Status.{Status}
use Rattle.script_runs.specs.declared.Status.TheVariants.{Memory}
use Rattle.script_runs.specs.Script.{Script, ScriptKind, Whole, acts_of, script_of, script_so_far}
use Rattle.script_runs.specs.Outcomes.{RunKind, Runs, IsOutOfMemoryAtAct}

-- what these first pieces of a script are so far
abbrev pub given_so_far : {A C : Type 0} → ScriptKind A C → List (List ℕ) → Script A
given_so_far kind pieces = script_so_far kind (concat pieces)

-- before the last read, by the pieces that came before it, the source had not said that the input is at its end; all
-- lines that were whole by then were carried out, and their report was accepted; none was at fault
pub record IsInTime {A C P E W V : Type 0} (kind : RunKind A C P E W V) (before : List (List ℕ)) (events : V) (accepted_old accepted_new : List ℕ) : Type 0 where
  pub open_end : HasEnd before → ⊥
  pub sound : (given_so_far kind.scripts before).last ≡ Whole
  pub effects : List E
  pub progress : P
  pub run : Runs kind (acts_of (given_so_far kind.scripts before)) effects progress
  pub events_rest : V
  pub events_is : events ≡ kind.joined (kind.events_in effects) events_rest
  pub report_rest : List ℕ
  pub report_is : accepted_new ≡ accepted_old ++ kind.printed effects ++ report_rest

-- Memory was wanting at an act of a script that was not whole before the last read, and nothing was done for it but up to
-- its crash: the acts before it begin with those of the pieces that came before that read.
pub record WantsInTime {A C P E W V : Type 0} (kind : RunKind A C P E W V) (before : List (List ℕ)) (bytes : List ℕ) (events : V) (accepted_old accepted_new : List ℕ) : Type 0 where
  pub effects : List E
  pub wants : IsOutOfMemoryAtAct kind (script_of kind.scripts bytes) effects
  pub more : List A
  pub done_is : wants.done ≡ acts_of (given_so_far kind.scripts before) ++ more
  pub events_is : events ≡ kind.events_in effects
  pub report_is : accepted_new ≡ accepted_old ++ kind.printed effects

-- Lines are carried out as soon as they are known, and their report is accepted: no read comes between, since the write
-- after it may fail, which ends the run. Where memory was wanting, no read came after that either, whatever the bytes
-- that were to come.
abbrev pub ReadsLinesInTime : {A C P E W V : Type 0} → RunKind A C P E W V → Status → List (List ℕ) → List (List ℕ) → V → List ℕ → List ℕ → Type 0
ReadsLinesInTime kind status given_old given_new events accepted_old accepted_new =
    (front : List (List ℕ)) (last : List ℕ) → given_new ≡ given_old ++ front ++ last ∷ []
    → IsInTime kind front events accepted_old accepted_new
    × (status ≡ Memory → (left after : List ℕ) → MayGive left (front ++ last ∷ []) after → WantsInTime kind front left events accepted_old accepted_new)
