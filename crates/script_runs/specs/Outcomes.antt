-- How a run over a script ends: at the end of its acts, or cut at a line, at a write, at a read, or for want of memory.
use Rattle.std.specs.Prelude.{◌≡◌, ℕ, true, false, Bool, Option, List, [], ◌∷◌, ◌++◌, ◌⊎◌}
use Rattle.std.specs.Io.KnownBytes.{Appends}
use Rattle.script_runs.specs.declared.Status.{Status}
use Rattle.script_runs.specs.declared.Status.TheVariants.{Done, Refused, Script as ScriptFault, ReadFault, WriteFault, DeviceFault, Memory, Usage}
use Rattle.script_runs.specs.Script.{Script, ScriptKind, ScriptEnd, Whole, FaultAt, acts_of}
use Rattle.script_runs.specs.Runs.{Run}

-- A kind of runs, by acts, what is counted of them, places where a run stands, effects, writes and events: how its scripts
-- are read, and what is counted where a run stands; where a run begins; what an act does; what it has done where it is cut
-- before an effect that is due, or where it takes memory; the last line by where a run and its script end, and whether a
-- commit was refused; which effects a line and a write are; and what some effects print and what devices tell of them, one
-- after the other.
pub record RunKind (A C P E W V : Type 0) : Type 1 where
  pub scripts : ScriptKind A C
  pub counted : P → C
  pub start : P
  pub Step : P → A → List E → P → Type 0
  pub IsCutStep : P → A → List E → E → Type 0
  pub TakesMemory : P → A → List E → Type 0
  pub closing_line : P → ScriptEnd → List ℕ
  pub refused : P → Bool
  pub line : List ℕ → E
  pub write : W → E
  pub printed : List E → List ℕ
  pub events_in : List E → V
  pub joined : V → V → V

-- all that a run does from its start by its acts, before its last line
abbrev pub Runs : {A C P E W V : Type 0} → RunKind A C P E W V → List A → List E → P → Type 0
Runs kind acts effects last = Run kind.Step kind.start acts effects last

-- the status of a script that was carried out to its end, by whether a commit was refused
abbrev pub status_at : Bool → ScriptEnd → Status
status_at refused Whole = elim refused [ true ↦ Refused | false ↦ Done ]
status_at refused (FaultAt line text) = ScriptFault

-- The whole script was carried out: these are its effects, and this is the status.
pub record IsComplete {A C P E W V : Type 0} (kind : RunKind A C P E W V) (script : Script A) (status : Status) (effects : List E) : Type 0 where
  pub body : List E
  pub last : P
  pub run : Runs kind (acts_of script) body last
  pub status_is : status ≡ status_at (kind.refused last) script.last
  pub effects_are : effects ≡ body ++ kind.line (kind.closing_line last script.last) ∷ []

-- The script was carried out up to an effect that is due next: in the middle of an act,
pub record IsAtAct {A C P E W V : Type 0} (kind : RunKind A C P E W V) (script : Script A) (effects : List E) (due : E) : Type 0 where
  pub done : List A
  pub act : A
  pub later : List A
  pub acts : acts_of script ≡ done ++ act ∷ later
  pub body : List E
  pub before : P
  pub run : Runs kind done body before
  pub front : List E
  pub cut : kind.IsCutStep before act front due
  pub effects_are : effects ≡ body ++ front

-- or at the last line
pub record IsAtEnd {A C P E W V : Type 0} (kind : RunKind A C P E W V) (script : Script A) (effects : List E) (due : E) : Type 0 where
  pub last : P
  pub run : Runs kind (acts_of script) effects last
  pub due_is : due ≡ kind.line (kind.closing_line last script.last)

-- either of the two
abbrev pub IsEffectDue : {A C P E W V : Type 0} → RunKind A C P E W V → Script A → List E → E → Type 0
IsEffectDue kind script effects due = IsAtAct kind script effects due ⊎ IsAtEnd kind script effects due

-- A line could not be written: the effects before it, and the part of it that the sink took.
pub record IsCutAtLine {A C P E W V : Type 0} (kind : RunKind A C P E W V) (script : Script A) (effects : List E) (partial : List ℕ) : Type 0 where
  pub line : List ℕ
  pub rest : List ℕ
  pub due : IsEffectDue kind script effects (kind.line line)
  pub part : line ≡ partial ++ rest

-- A device write failed, each time it was tried: the effects before it.
pub record IsCutAtWrite {A C P E W V : Type 0} (kind : RunKind A C P E W V) (script : Script A) (effects : List E) : Type 0 where
  pub write : W
  pub due : IsEffectDue kind script effects (kind.write write)

-- Memory was wanting at an act: the effects of those before it, and those that it had by then.
pub record IsOutOfMemoryAtAct {A C P E W V : Type 0} (kind : RunKind A C P E W V) (script : Script A) (effects : List E) : Type 0 where
  pub done : List A
  pub act : A
  pub later : List A
  pub acts : acts_of script ≡ done ++ act ∷ later
  pub body : List E
  pub before : P
  pub run : Runs kind done body before
  pub front : List E
  pub needs : kind.TakesMemory before act front
  pub effects_are : effects ≡ body ++ front

-- or before the first
abbrev pub IsOutOfMemory : {A C P E W V : Type 0} → RunKind A C P E W V → Script A → List E → Type 0
IsOutOfMemory kind script effects = (effects ≡ []) ⊎ IsOutOfMemoryAtAct kind script effects

-- a read failed: the effects of the whole lines taken before; no line and no byte that was taken is at fault
pub record IsCutAtRead {A C P E W V : Type 0} (kind : RunKind A C P E W V) (came : Script A) (effects : List E) : Type 0 where
  pub sound : came.last ≡ Whole
  pub last : P
  pub run : Runs kind (acts_of came) effects last

-- what a run did by its status: its effects and part of a further line; came is what the bytes taken are of the script
abbrev pub IsOutcome : {A C P E W V : Type 0} → RunKind A C P E W V → Script A → Script A → Status → List E → List ℕ → Type 0
IsOutcome kind script came Done effects partial = IsComplete kind script Done effects × (partial ≡ [])
IsOutcome kind script came Refused effects partial = IsComplete kind script Refused effects × (partial ≡ [])
IsOutcome kind script came ScriptFault effects partial = IsComplete kind script ScriptFault effects × (partial ≡ [])
IsOutcome kind script came ReadFault effects partial = IsCutAtRead kind came effects × (partial ≡ [])
IsOutcome kind script came WriteFault effects partial = IsCutAtLine kind script effects partial
IsOutcome kind script came DeviceFault effects partial = IsCutAtWrite kind script effects × (partial ≡ [])
IsOutcome kind script came Memory effects partial = IsOutOfMemory kind script effects × (partial ≡ [])
IsOutcome kind script came Usage effects partial = ⊥

-- The events of the devices, and the report where it is told, are those of an outcome.
pub record MatchesOutcome {A C P E W V : Type 0} (kind : RunKind A C P E W V) (script came : Script A) (status : Status) (events : V) (taken_old taken_new : Option (List ℕ)) : Type 0 where
  pub effects : List E
  pub partial : List ℕ
  pub outcome : IsOutcome kind script came status effects partial
  pub events_is : events ≡ kind.events_in effects
  pub report_is : Appends taken_old taken_new (kind.printed effects ++ partial)

-- one text was printed, or a part of it where the sink failed, or nothing for want of memory
abbrev pub IsPrinted : List ℕ → Status → Status → List ℕ → Type 0
IsPrinted text last status report =
    ((status ≡ last) × (report ≡ text))
    ⊎ (((status ≡ WriteFault) × ((rest : List ℕ) × (text ≡ report ++ rest)))
    ⊎ ((status ≡ Memory) × (report ≡ [])))

-- what was taken of the source is the beginning of what was left, and all of it at the end of the input
pub record TakesFrom (status : Status) (old new : List ℕ) : Type 0 where
  pub taken : List ℕ
  pub parts : old ≡ taken ++ new
  pub all : (status ≡ Done) ⊎ (status ≡ Refused) → new ≡ []
