-- What an act of a script does, where removals go first if they may: then a commit is made in two parts, each of which is a
-- commit as any other.
use Rattle.std.specs.Prelude.{◌≡◌, ◌⊎◌, ℕ, Bool, true, false, Option, None, Result, Ok, Err, List, [], ◌++◌}
use Rattle.tcam_device.specs.declared.Write.{Write}
use Rattle.tcam_device.specs.declared.Action.{Action}
use Rattle.tcam_device.specs.declared.Action.TheVariants.{Written}
use Rattle.tcam_device.specs.Flight.{Flight}
use Rattle.replay.specs.declared.Act.{Act}
use Rattle.replay.specs.declared.Act.TheVariants.{Command, Ask, All, Probe, Packet, Commit, Trial, Crash}
use Rattle.replay.specs.declared.ActFault.{ActFault}
use Rattle.replay.specs.declared.ActFault.TheVariants.{BatchFull, ChangesPending, ProbesFull, Held, Stopped}
use Rattle.replay.specs.declared.RunFault.TheVariants as fault
use Rattle.replay.specs.Effects.{Setting, Effect, Acts, Prints}
use Rattle.replay.specs.Carried.{Does, IsAt}
use Rattle.replay.specs.Running.{Running, NothingIsDone, progress_of, setting_of}
use Rattle.replay.specs.Run.{Progress, HasEffects, IsCutStep, TakesMemory, start}
use Rattle.script_runs.specs.Runs as runs
use Rattle.replay.specs.Early.{IsPartedAt, at_first, at_rest, parts_at}

-- first the removals are committed, and then the rest
pub record StepsInTwo (setting : Setting) (old : Progress) (effects : List Effect) (new : Progress) : Type 0 where
  pub right : IsPartedAt setting old
  pub middle : Progress
  pub first : List Effect
  pub second : List Effect
  pub early : HasEffects setting (at_first old) Commit first middle
  pub rest : HasEffects setting (at_rest old middle) Commit second new
  pub effects_are : effects ≡ first ++ second

abbrev pub CommitsBy : Bool → Setting → Progress → List Effect → Progress → Type 0
CommitsBy true setting old effects new = StepsInTwo setting old effects new
CommitsBy false setting old effects new = HasEffects setting old Commit effects new

-- From where the run stands, an act has these effects, and the run stands there.
abbrev pub StepsBy : Setting → Progress → Act → List Effect → Progress → Type 0
StepsBy setting old (Command change) effects new = HasEffects setting old (Command change) effects new
StepsBy setting old (Ask request) effects new = HasEffects setting old (Ask request) effects new
StepsBy setting old All effects new = HasEffects setting old All effects new
StepsBy setting old (Probe key) effects new = HasEffects setting old (Probe key) effects new
StepsBy setting old (Packet key) effects new = HasEffects setting old (Packet key) effects new
StepsBy setting old Commit effects new = CommitsBy (parts_at setting old) setting old effects new
StepsBy setting old (Trial most) effects new = HasEffects setting old (Trial most) effects new
StepsBy setting old (Crash after) effects new = HasEffects setting old (Crash after) effects new

-- The removals are committed, and then this comes of the rest.
pub record ComesInRest (setting : Setting) (old : Progress) (effects : List Effect) (Rest : Progress → List Effect → Type 0) : Type 0 where
  pub right : IsPartedAt setting old
  pub middle : Progress
  pub first : List Effect
  pub front : List Effect
  pub early : HasEffects setting (at_first old) Commit first middle
  pub rest : Rest (at_rest old middle) front
  pub effects_are : effects ≡ first ++ front

-- a commit is cut before an effect that is due: in its first part or in its second
abbrev pub CommitIsCut : Bool → Setting → Progress → List Effect → Effect → Type 0
CommitIsCut true setting old effects due =
    (IsPartedAt setting old × IsCutStep setting (at_first old) Commit effects due)
    ⊎ ComesInRest setting old effects (λ middle front. IsCutStep setting middle Commit front due)
CommitIsCut false setting old effects due = IsCutStep setting old Commit effects due

abbrev pub IsCutBy : Setting → Progress → Act → List Effect → Effect → Type 0
IsCutBy setting old (Command change) effects due = IsCutStep setting old (Command change) effects due
IsCutBy setting old (Ask request) effects due = IsCutStep setting old (Ask request) effects due
IsCutBy setting old All effects due = IsCutStep setting old All effects due
IsCutBy setting old (Probe key) effects due = IsCutStep setting old (Probe key) effects due
IsCutBy setting old (Packet key) effects due = IsCutStep setting old (Packet key) effects due
IsCutBy setting old Commit effects due = CommitIsCut (parts_at setting old) setting old effects due
IsCutBy setting old (Trial most) effects due = IsCutStep setting old (Trial most) effects due
IsCutBy setting old (Crash after) effects due = IsCutStep setting old (Crash after) effects due

-- A commit takes memory to be parted, before it does anything, and then as its parts do: so the rest may be wanting behind the
-- removals that went first.
abbrev pub CommitTakes : Bool → Bool → Setting → Progress → List Effect → Type 0
CommitTakes false in_two setting old effects = TakesMemory setting old Commit effects
CommitTakes true false setting old effects = (effects ≡ []) ⊎ TakesMemory setting old Commit effects
CommitTakes true true setting old effects =
    (effects ≡ []) ⊎ (TakesMemory setting (at_first old) Commit effects
    ⊎ ComesInRest setting old effects (λ middle front. TakesMemory setting middle Commit front))

abbrev pub TakesBy : Setting → Progress → Act → List Effect → Type 0
TakesBy setting old (Command change) effects = TakesMemory setting old (Command change) effects
TakesBy setting old (Ask request) effects = TakesMemory setting old (Ask request) effects
TakesBy setting old All effects = TakesMemory setting old All effects
TakesBy setting old (Probe key) effects = TakesMemory setting old (Probe key) effects
TakesBy setting old (Packet key) effects = TakesMemory setting old (Packet key) effects
TakesBy setting old Commit effects = CommitTakes setting.parts (parts_at setting old) setting old effects
TakesBy setting old (Trial most) effects = TakesMemory setting old (Trial most) effects
TakesBy setting old (Crash after) effects = TakesMemory setting old (Crash after) effects

-- the act is carried out, and the run stands there
pub record CarriesBy (setting : Setting) (old : Progress) (act : Act) (new : Progress) (events_old events_new : List Action) (taken_old taken_new : Option (List ℕ)) : Type 0 where
  pub effects : List Effect
  pub step : StepsBy setting old act effects new
  pub does : Does effects [] events_old events_new taken_old taken_new

-- it is cut at a line that the sink didn't take whole
pub record CutsAtLineBy (setting : Setting) (old : Progress) (act : Act) (events_old events_new : List Action) (taken_old taken_new : Option (List ℕ)) : Type 0 where
  pub front : List Effect
  pub partial : List ℕ
  pub rest : List ℕ
  pub cut : IsCutBy setting old act front (Prints (partial ++ rest))
  pub does : Does front partial events_old events_new taken_old taken_new

-- it is cut at a write that the device didn't take
pub record CutsAtWriteBy (setting : Setting) (old : Progress) (act : Act) (events_old events_new : List Action) (taken_old taken_new : Option (List ℕ)) : Type 0 where
  pub front : List Effect
  pub write : Write
  pub cut : IsCutBy setting old act front (Acts (Written write))
  pub does : Does front [] events_old events_new taken_old taken_new

-- it wants memory, behind these effects
pub record WantsBy (setting : Setting) (old : Progress) (act : Act) (events_old events_new : List Action) (taken_old taken_new : Option (List ℕ)) : Type 0 where
  pub effects : List Effect
  pub needs : TakesBy setting old act effects
  pub does : Does effects [] events_old events_new taken_old taken_new

-- What an act comes to, by the answer, as `ComesTo` of a run says it of an act alone. For want of memory nothing is done
-- but where a part was made before.
abbrev pub ComesToBy : ℕ → Running → Act → Running → Result (Unit {0}) ActFault → List Action → List Action → Option (List ℕ) → Option (List ℕ) → Type 0
ComesToBy device_slots old act new (Ok done) events_old events_new taken_old taken_new =
    IsAt device_slots events_old (progress_of device_slots old)
    → CarriesBy (setting_of old) (progress_of device_slots old) act (progress_of device_slots new) events_old events_new taken_old taken_new
ComesToBy device_slots old act new (Err (Stopped fault.Sink)) events_old events_new taken_old taken_new =
    IsAt device_slots events_old (progress_of device_slots old)
    → CutsAtLineBy (setting_of old) (progress_of device_slots old) act events_old events_new taken_old taken_new
ComesToBy device_slots old act new (Err (Stopped fault.Device)) events_old events_new taken_old taken_new =
    IsAt device_slots events_old (progress_of device_slots old)
    → CutsAtWriteBy (setting_of old) (progress_of device_slots old) act events_old events_new taken_old taken_new
ComesToBy device_slots old act new (Err (Stopped fault.Memory)) events_old events_new taken_old taken_new =
    IsAt device_slots events_old (progress_of device_slots old)
    → WantsBy (setting_of old) (progress_of device_slots old) act events_old events_new taken_old taken_new
ComesToBy device_slots old act new (Err BatchFull) events_old events_new taken_old taken_new =
    NothingIsDone old new events_old events_new taken_old taken_new
ComesToBy device_slots old act new (Err ChangesPending) events_old events_new taken_old taken_new =
    NothingIsDone old new events_old events_new taken_old taken_new
ComesToBy device_slots old act new (Err ProbesFull) events_old events_new taken_old taken_new =
    NothingIsDone old new events_old events_new taken_old taken_new
ComesToBy device_slots old act new (Err (Held left)) events_old events_new taken_old taken_new =
    NothingIsDone old new events_old events_new taken_old taken_new

-- A run between two acts: no commit is under way, the sink hasn't failed, the device is where the run stands, and no word is in
-- flight.
pub record IsIdleAt (device_slots : ℕ) (events : List Action) (flight : Flight) (run : Running) : Type 0 where
  pub idle : run.manager.held ≡ None
  pub whole : run.broken ≡ false
  pub at : IsAt device_slots events (progress_of device_slots run)
  pub none_in_flight : flight ≡ []

-- The acts one after the other, and all that a run does by its acts, before its last line.
abbrev pub RunBy : Setting → Progress → List Act → List Effect → Progress → Type 0
RunBy setting old acts effects new = runs.Run (StepsBy setting) old acts effects new

abbrev pub RunsBy : Setting → ℕ → List Act → List Effect → Progress → Type 0
RunsBy setting device_slots acts effects last = RunBy setting (start device_slots) acts effects last
