-- What a run comes to where its commit is turned, and what is left of it then.
use Rattle.std.specs.Prelude.{◌≡◌, ◌⊎◌, ℕ, ◌+◌, ◌<◌, ◌++◌, Bool, true, false, IsSome, IfSome, Result, Ok, Err, List, [], length}
use Rattle.tcam_device.specs.Flight.{Flight, writes_in}
use Rattle.commit_writes.specs.InFlight.{AreCurrent}
use Rattle.batch_order.specs.Managed.{Managed, fresh, live_now}
use Rattle.replay.specs.declared.Act.{Act}
use Rattle.replay.specs.declared.RunFault.{RunFault}
use Rattle.replay.specs.declared.RunFault.TheVariants as fault
use Rattle.replay.specs.declared.fate.Fate.TheVariants.{Finishes, Turns, Turned}
use Rattle.replay.specs.declared.fate.Then.{Then}
use Rattle.replay.specs.Effects.{Effect}
use Rattle.replay.specs.Run.{Progress}
use Rattle.replay.specs.Carried.{IsAt, Does}
use Rattle.replay.specs.Running.{Running, progress_of}
use Rattle.replay.specs.Unfinished.{IsUnfinished, ResumesTo}
use Rattle.replay.specs.Outside.{Outside}

-- the commit under way has more writes than so many, those included that were made
abbrev pub HasMoreThan : ℕ → Running → Type 0
HasMoreThan after run = IfSome run.manager.held (λ held. after < run.told + length (writes_in held.actions))

-- A commit is where it is turned: so many writes were made, and it has more.
pub record IsAtTurn (after : ℕ) (then : Then) (run : Running) : Type 0 where
  pub fate_is : run.fate ≡ Turns after then
  pub told_is : run.told ≡ after
  pub held : IsSome run.manager.held
  pub more : HasMoreThan after run

-- some effects more of a commit came about, up to its turn, and it is unfinished
pub record Continues (device_slots : ℕ) (before : Progress) (front : List Effect) (new : Running) (out_old out_new : Outside) (flight : Flight) : Type 0 where
  pub more : List Effect
  pub unfinished : IsUnfinished device_slots before (front ++ more) new
  pub does : Does more [] out_old.events out_new.events out_old.taken out_new.taken
  pub stands : IsAt device_slots out_new.events (progress_of device_slots new)
  pub current : AreCurrent (live_now new.manager) flight

-- what its first part comes to: its turn, or the write or the line that failed before
abbrev pub ComesToTurn : ℕ → Progress → Act → List Effect → Running → Result (Unit {0}) RunFault → Outside → Outside → Flight → Type 0
ComesToTurn device_slots before act front new (Ok done) out_old out_new flight = Continues device_slots before front new out_old out_new flight
ComesToTurn device_slots before act front new (Err why) out_old out_new flight = ResumesTo device_slots before act front new (Err why) out_old out_new flight

-- the commit goes on so: it is taken back, or another manager has it
abbrev pub IsTurned : ℕ → Then → Running → Running → Type 0
IsTurned after then old new =
    (manager : Managed) × IsSome manager.held × (new ≡ record old { manager = manager; fate = Turned after then })

-- where there was no memory for another one, nothing is left of the commit
abbrev pub after_loss : Running → Running
after_loss old =
    record old {
      manager = fresh old.manager.slots old.manager.mode old.manager.placement;
      told = 0;
      waiting = 0;
      fate = Finishes;
      broken = true;
    }

-- or all of it, and no call may follow either way
abbrev pub IsLost : Running → Running → Type 0
IsLost old new = (new ≡ after_loss old) ⊎ (new ≡ record old { broken = true })

-- a manager was lost, by the answer of what carries out the commit
abbrev pub memory_wanted : Result (Unit {0}) RunFault → Bool
memory_wanted (Ok done) = false
memory_wanted (Err fault.Sink) = false
memory_wanted (Err fault.Device) = false
memory_wanted (Err fault.Memory) = true
