-- Where a run over a script stands between two lines, what a round comes to, and how a run ends: words that only the
-- contracts of calls need.
use Rattle.std.specs.Prelude.{◌≡◌, ◌≢◌, ◌⊎◌, ℕ, ◌++◌, ◌∷◌, Option, IfNone, IfSome, Some, List, [], map}
use Rattle.std.specs.Io.KnownBytes.{Appends}
use Rattle.script_lines.specs.declared.Over.{Over}
use Rattle.script_lines.specs.declared.Over.TheVariants as over
use Rattle.script_lines.specs.Given.{HasEnd, MayGive}
use Rattle.script_lines.specs.Lines.{limits, ScriptLines, lines_from, lines_of}
use Rattle.script_lines.specs.Reader.{HeldBytes, LastAtOpenLine}
use Rattle.script_runs.specs.declared.Status.{Status}
use Rattle.script_runs.specs.declared.Status.TheVariants.{Done, Refused, WriteFault, Memory}
use Rattle.script_runs.specs.Script.{Script, ScriptKind, NumberedAct, Whole, acts_of, acts_from, script_of, whole_lines, script_so_far}
use Rattle.script_runs.specs.Outcomes.{RunKind, Runs, IsOutcome}

-- a script with these acts at its front
abbrev pub onto_all : {A : Type 0} → List (NumberedAct A) → Script A → Script A
onto_all acts rest = record rest { acts = acts ++ rest.acts }

-- the acts of some lines, with so much counted before them
abbrev pub acts_next : {A C : Type 0} → ScriptKind A C → C → ScriptLines → Script A
acts_next kind counted lines = acts_from kind counted lines.lines lines.last

-- bytes of whole lines gave these acts, and more lines may come
pub record IsGoing {A C : Type 0} (kind : ScriptKind A C) (bytes : List ℕ) (held : HeldBytes) (left : List ℕ) (acts : List (NumberedAct A)) (counted : C) : Type 0 where
  pub done : List ℕ
  pub parts : bytes ≡ done ++ (held.pending ++ left)
  pub script : (rest : List ℕ) → script_of kind (done ++ rest) ≡ onto_all acts (acts_next kind counted (lines_from limits held.before held.number [] rest))
  pub last : (rest : List ℕ) → (lines_of kind.bytes (done ++ rest)).last ≡ (lines_from limits held.before held.number [] rest).last
  pub whole : (rest : List ℕ) → whole_lines (done ++ rest) ≡ done ++ whole_lines rest

-- the whole script gave these acts
abbrev pub IsAllRead : {A C : Type 0} → ScriptKind A C → List ℕ → List ℕ → List (NumberedAct A) → Type 0
IsAllRead kind bytes left acts = (script_of kind bytes ≡ record { acts = acts; last = Whole }) × (left ≡ [])

-- what of the script is read
abbrev pub IsReadSoFar : {A C : Type 0} → Over → ScriptKind A C → List ℕ → HeldBytes → List ℕ → List (NumberedAct A) → C → Type 0
IsReadSoFar over.Going kind bytes held left acts counted = IsGoing kind bytes held left acts counted
IsReadSoFar over.Ended kind bytes held left acts counted = IsAllRead kind bytes left acts
IsReadSoFar (over.Stopped fault) kind bytes held left acts counted = ⊥

-- the acts alone
abbrev pub acts_only : {A : Type 0} → List (NumberedAct A) → List A
acts_only acts = map (λ numbered. numbered.act) acts

-- these effects and a part of a further line came about
pub record Does {A C P E W V : Type 0} (kind : RunKind A C P E W V) (effects : List E) (partial : List ℕ) (events_old events_new : V) (taken_old taken_new : Option (List ℕ)) : Type 0 where
  pub events : events_new ≡ kind.joined events_old (kind.events_in effects)
  pub report : Appends taken_old taken_new (kind.printed effects ++ partial)

-- the acts so far are carried out, also where no device tells of it
pub record SoFar {A C P E W V : Type 0} (kind : RunKind A C P E W V) (bytes : List ℕ) (held : HeldBytes) (left : List ℕ) (progress : P) (events : V) (taken_old taken_new : Option (List ℕ)) : Type 0 where
  pub acts : List (NumberedAct A)
  pub effects : List E
  pub run : Runs kind (acts_only acts) effects progress
  pub events_is : events ≡ kind.events_in effects
  pub report : Appends taken_old taken_new (kind.printed effects)
  pub read : IsReadSoFar held.over kind.scripts bytes held left acts (kind.counted progress)

-- a run over a script ends, with these bytes taken of it
pub record EndsRun {A C P E W V : Type 0} (kind : RunKind A C P E W V) (bytes taken left : List ℕ) (status : Status) (events : V) (taken_old taken_new : Option (List ℕ)) : Type 0 where
  pub effects : List E
  pub partial : List ℕ
  pub outcome : IsOutcome kind (script_of kind.scripts bytes) (script_so_far kind.scripts taken) status effects partial
  pub events_is : events ≡ kind.events_in effects
  pub report : Appends taken_old taken_new (kind.printed effects ++ partial)
  pub all : (status ≡ Done) ⊎ (status ≡ Refused) → left ≡ []

-- a last line was written, or a part of it where the sink failed
abbrev pub Closes : List ℕ → Status → Status → Option (List ℕ) → Option (List ℕ) → Type 0
Closes line last status taken_old taken_new =
    ((status ≡ last) × Appends taken_old taken_new line)
    ⊎ ((status ≡ WriteFault) × ((partial : List ℕ) × (rest : List ℕ) × (line ≡ partial ++ rest) × Appends taken_old taken_new partial))

-- events and a report that a call has added to
pub record Grows {V : Type 0} (joined : V → V → V) (events_old events_new : V) (taken_old taken_new : Option (List ℕ)) : Type 0 where
  pub more : V
  pub events : events_new ≡ joined events_old more
  pub bytes : List ℕ
  pub report : Appends taken_old taken_new bytes

-- one round more: the acts carried out before it, and perhaps one
pub record RunsOn {A C P E W V : Type 0} (kind : RunKind A C P E W V) (acts : List (NumberedAct A)) (bytes : List ℕ) (held : HeldBytes) (left : List ℕ) (progress : P) (events : V) (taken_old taken_new : Option (List ℕ)) : Type 0 where
  pub so_far : SoFar kind bytes held left progress events taken_old taken_new
  pub more : List A
  pub acts_are : acts_only so_far.acts ≡ acts_only acts ++ more

-- memory is wanting at the act after these, and nothing is done for it but these effects
pub record WantsNext {A C P E W V : Type 0} (kind : RunKind A C P E W V) (acts : List (NumberedAct A)) (bytes : List ℕ) (before : P) (events_old events_new : V) (taken_old taken_new : Option (List ℕ)) : Type 0 where
  pub act : A
  pub later : List A
  pub acts_are : acts_of (script_of kind.scripts bytes) ≡ acts_only acts ++ act ∷ later
  pub effects : List E
  pub needs : kind.TakesMemory before act effects
  pub does : Does kind effects [] events_old events_new taken_old taken_new

-- what has come of a run at a moment: what devices tell, and what a sink has taken of the report, where that is counted
pub record Outputs (V : Type 0) : Type 0 where
  pub events : V
  pub taken : Option (List ℕ)

abbrev pub outputs : {V : Type 0} → V → Option (List ℕ) → Outputs V
outputs events taken = record { events = events; taken = taken }

-- what a round of a run comes to, whatever bytes come after those that were given in it
pub record RoundsBy {A C P E W V : Type 0} (kind : RunKind A C P E W V) (old : HeldBytes) (before : P) (pieces : List (List ℕ)) (result : Option Status) (new : HeldBytes) (after : P) (was comes : Outputs V) : Type 0 where
  pub goes : IfNone result ((bytes left now : List ℕ) (start : Option (List ℕ)) → MayGive left pieces now
      → (so_far : SoFar kind bytes old left before was.events start was.taken) → RunsOn kind so_far.acts bytes new now after comes.events start comes.taken)
  pub ends : IfSome result (λ status. (bytes taken left now : List ℕ) (start : Option (List ℕ)) → MayGive left pieces now → bytes ≡ taken ++ now
      → SoFar kind bytes old left before was.events start was.taken → EndsRun kind bytes taken now status comes.events start comes.taken)
  pub wants : result ≡ Some Memory → (bytes left now : List ℕ) (start : Option (List ℕ)) → MayGive left pieces now
      → (so_far : SoFar kind bytes old left before was.events start was.taken) → WantsNext kind so_far.acts bytes before was.events comes.events was.taken comes.taken
  pub ended : HasEnd pieces → IfNone result (new.over ≡ over.Ended)
  pub rests : old.over ≢ over.Going → pieces ≡ []
  pub last : LastAtOpenLine old.before old.pending pieces
  pub grows : (bytes left now : List ℕ) (start : Option (List ℕ)) → MayGive left pieces now
      → SoFar kind bytes old left before was.events start was.taken → Grows kind.joined was.events comes.events was.taken comes.taken
