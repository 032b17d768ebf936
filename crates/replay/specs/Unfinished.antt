-- What becomes of a commit that is unfinished, where it is gone on with.
use Rattle.std.specs.Prelude.{◌≡◌, ◌⊎◌, ℕ, ◌++◌, false, Some, Result, Ok, Err, List, []}
use Rattle.rule_store.specs.Verdict.{Accepted, verdict}
use Rattle.tcam_device.specs.declared.Write.{Write}
use Rattle.tcam_device.specs.declared.Action.{Action}
use Rattle.tcam_device.specs.declared.Action.TheVariants.{Written}
use Rattle.tcam_device.specs.Flight.{Flight}
use Rattle.commit_writes.specs.InFlight.{AreCurrent}
use Rattle.batch_order.specs.Managed.{live_now}
use Rattle.batch_order.specs.Steps.{next_of}
use Rattle.replay.specs.declared.Act.{Act}
use Rattle.replay.specs.declared.Act.TheVariants.{Command, Ask, All, Probe, Packet, Commit, Trial, Crash}
use Rattle.replay.specs.declared.RunFault.{RunFault}
use Rattle.replay.specs.declared.RunFault.TheVariants.{Sink, Device, Memory}
use Rattle.replay.specs.Effects.{Setting, Effect, Acts, Prints}
use Rattle.replay.specs.Run.{Progress, HasEffects, IsCutStep, StopsAtCrash, carried_so_far}
use Rattle.replay.specs.Carried.{IsAt, Does}
use Rattle.replay.specs.Fates.{commit_act}
use Rattle.replay.specs.Running.{Running, IsHalfway, IsOnward, first_actions, progress_of, setting_of}
use Rattle.replay.specs.Outside.{Outside}

-- A commit that began where `before` says is unfinished: these are its effects so far, each of its writes told, and the
-- rest of its writes is held, by its first manager,
pub record StandsHalfway (device_slots : ℕ) (before : Progress) (front : List Effect) (run : Running) : Type 0 where
  pub halfway : IsHalfway run
  pub before_is : before ≡ progress_of device_slots (record run { manager = halfway.begun })
  pub front_is : front ≡ carried_so_far (setting_of run) before halfway.some.made

-- or by the one that goes on.
pub record StandsOnward (device_slots : ℕ) (before : Progress) (front : List Effect) (run : Running) : Type 0 where
  pub onward : IsOnward device_slots run
  pub before_is : before ≡ progress_of device_slots (record run { manager = onward.begun })
  pub front_is : front
      ≡ carried_so_far (setting_of run) before (first_actions run onward.begun onward.holds.1.made onward.after ++ onward.some.made)

abbrev pub IsUnfinished : ℕ → Progress → List Effect → Running → Type 0
IsUnfinished device_slots before front run =
    StandsHalfway device_slots before front run ⊎ StandsOnward device_slots before front run

-- Some effects more of it came about, each write told, and it is cut at the write that is next. The device is where the
-- run stands then, and the words in flight are current. What is to become of it is as the act has it.
pub record StaysUnfinished (device_slots : ℕ) (before : Progress) (act : Act) (front : List Effect) (new : Running) (out_old out_new : Outside) (flight : Flight) : Type 0 where
  pub more : List Effect
  pub due : Write
  pub unfinished : IsUnfinished device_slots before (front ++ more) new
  pub act_is : act ≡ commit_act new.fate
  pub next : next_of new.manager.held ≡ Some due
  pub cut : IsCutStep (setting_of new) before act (front ++ more) (Acts (Written due))
  pub does : Does more [] out_old.events out_new.events out_old.taken out_new.taken
  pub stands : IsAt device_slots out_new.events (progress_of device_slots new)
  pub current : AreCurrent (live_now new.manager) flight

-- The rest of them came about, and it is finished. The device is where the run stands then.
pub record Finishes (device_slots : ℕ) (before : Progress) (act : Act) (front : List Effect) (new : Running) (out_old out_new : Outside) : Type 0 where
  pub rest : List Effect
  pub step : HasEffects (setting_of new) before act (front ++ rest) (progress_of device_slots new)
  pub does : Does rest [] out_old.events out_new.events out_old.taken out_new.taken
  pub stands : IsAt device_slots out_new.events (progress_of device_slots new)

-- Some effects more of it came about, up to a line that the sink didn't take whole.
pub record BreaksOff (device_slots : ℕ) (before : Progress) (act : Act) (front : List Effect) (new : Running) (out_old out_new : Outside) : Type 0 where
  pub more : List Effect
  pub partial : List ℕ
  pub rest : List ℕ
  pub cut : IsCutStep (setting_of new) before act (front ++ more) (Prints (partial ++ rest))
  pub does : Does more partial out_old.events out_new.events out_old.taken out_new.taken

-- Where a call may follow, the device is where the run stands, and the words in flight are current, if so it was before.
abbrev pub StaysInStep : ℕ → Running → Running → List Action → List Action → Flight → Flight → Type 0
StaysInStep device_slots old new events_old events_new flight_old flight_new =
    new.broken ≡ false
    → IsAt device_slots events_old (progress_of device_slots old) → AreCurrent (live_now old.manager) flight_old
    → IsAt device_slots events_new (progress_of device_slots new) × AreCurrent (live_now new.manager) flight_new

-- an act that crashes takes memory when it has had its effects up to its crash
abbrev pub TakesAtCrash : Setting → Progress → Act → List Effect → Type 0
TakesAtCrash setting before (Command change) effects = ⊥
TakesAtCrash setting before (Ask request) effects = ⊥
TakesAtCrash setting before All effects = ⊥
TakesAtCrash setting before (Probe key) effects = ⊥
TakesAtCrash setting before (Packet key) effects = ⊥
TakesAtCrash setting before Commit effects = ⊥
TakesAtCrash setting before (Trial most) effects = ⊥
TakesAtCrash setting before (Crash after) effects =
    (verdict setting.slots setting.mode before.rules before.batch ≡ Accepted) × StopsAtCrash setting before after effects

-- Some effects more of it came about, up to its crash, and there is no memory to go on.
pub record RunsOut (device_slots : ℕ) (before : Progress) (act : Act) (front : List Effect) (new : Running) (out_old out_new : Outside) : Type 0 where
  pub more : List Effect
  pub needs : TakesAtCrash (setting_of new) before act (front ++ more)
  pub does : Does more [] out_old.events out_new.events out_old.taken out_new.taken

-- What going on with it comes to: it is finished, or cut at the write or at the line that failed, or at its crash.
abbrev pub ResumesTo : ℕ → Progress → Act → List Effect → Running → Result (Unit {0}) RunFault → Outside → Outside → Flight → Type 0
ResumesTo device_slots before act front new (Ok done) out_old out_new flight = Finishes device_slots before act front new out_old out_new
ResumesTo device_slots before act front new (Err Device) out_old out_new flight = StaysUnfinished device_slots before act front new out_old out_new flight
ResumesTo device_slots before act front new (Err Sink) out_old out_new flight = BreaksOff device_slots before act front new out_old out_new
ResumesTo device_slots before act front new (Err Memory) out_old out_new flight = RunsOut device_slots before act front new out_old out_new
