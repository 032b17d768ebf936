-- What comes of the actions that are left of a commit under way: all are made, or they stop at a write or at a line.
use Rattle.std.specs.Prelude.{◌≡◌, ◌⊎◌, ℕ, ◌+◌, ◌++◌, ◌∷◌, Bool, true, false, Option, None, Some, List, length}
use Rattle.std.specs.Io.KnownBytes.{Appends}
use Rattle.tcam_device.specs.declared.Write.{Write}
use Rattle.tcam_device.specs.declared.Action.{Action}
use Rattle.tcam_device.specs.declared.Action.TheVariants.{Written}
use Rattle.tcam_device.specs.State.{replay, state_after}
use Rattle.tcam_device.specs.Flight.{writes_in}
use Rattle.commit_writes.specs.declared.Done.{Done}
use Rattle.batch_order.specs.Managed.{Managed, HeldCommit}
use Rattle.batch_order.specs.Steps.{is_back, next_of}
use Rattle.replay.specs.declared.watch.Count.{Count}
use Rattle.replay.specs.declared.fate.Fate.{Fate}
use Rattle.replay.specs.declared.fate.Fate.TheVariants.{Finishes, Turns, Turned}
use Rattle.replay.specs.declared.steps.Ended.{Ended}
use Rattle.replay.specs.declared.steps.Ended.TheVariants as ended
use Rattle.replay.specs.Effects.{Setting, Effect, effects_of, printed, probes_told, waiting_after}
use Rattle.replay.specs.Reports.{done_line}
use Rattle.replay.specs.Text.{aborted_line, restarted_line}
use Rattle.replay.specs.declared.RunFault.{RunFault}
use Rattle.replay.specs.declared.RunFault.TheVariants.{Sink, Device}
use Rattle.replay.specs.Carried.{CutsEffects}
use Rattle.replay.specs.Outside.{Outside}
use Rattle.replay.specs.Running.{Watching, MakesSome}

-- what is told while a manager makes the writes of its commit
abbrev pub telling : Managed → Watching → Setting
telling manager watch =
    record {
      slots = manager.slots;
      mode = manager.mode;
      placement = manager.placement;
      family = watch.family;
      trace = watch.trace;
      depth = watch.depth;
      json = watch.json;
      names = watch.names;
      parts = watch.parts;
      large = watch.large;
    }

-- it has come further by some actions
pub record HasCome (watch : Watching) (old new : Count) (made : List Action) : Type 0 where
  pub told : new.told ≡ old.told + length (writes_in made)
  pub waiting : new.waiting ≡ waiting_after watch.depth old.waiting made

-- the effects of a commit's actions from a count on, over a device of so many slots where these were made before
abbrev pub effects_on : Managed → Watching → ℕ → Count → List Action → List Action → List Effect
effects_on manager watch device_slots count before made =
    effects_of (telling manager watch) (probes_told watch.json watch.probes) count.told count.waiting (replay device_slots (writes_in before)) made

-- these actions are told, behind those that were made before
abbrev pub TellsActions : Managed → Watching → ℕ → Count → List Action → List Action → Option (List ℕ) → Option (List ℕ) → Type 0
TellsActions manager watch device_slots count before made taken_old taken_new =
    Appends taken_old taken_new (printed (effects_on manager watch device_slots count before made))

-- a commit ended with these actions: it is finished, or taken back
abbrev pub EndsBy : Managed → HeldCommit → List Action → Ended → Managed → Type 0
EndsBy begun held actions (ended.Finished done) now =
    (is_back held.way ≡ false) × (done ≡ held.counts)
    × (now ≡ record begun { state = state_after begun.state (writes_in actions); rules = held.rules; bits = held.bits; held = None })
EndsBy begun held actions ended.Reverted now =
    (is_back held.way ≡ true) × (now ≡ record begun { state = state_after begun.state (writes_in actions); held = None })

-- the line of one that finished
abbrev pub finished_line : Bool → Bool → ℕ → Fate → Done → ℕ → List ℕ
finished_line json early commit Finishes done writes = done_line json early commit done
finished_line json early commit (Turns after then) done writes = done_line json early commit done
finished_line json early commit (Turned after then) done writes = restarted_line commit after writes

-- its line, by its number, by what became of it, and by its writes
abbrev pub ended_line : Bool → Bool → ℕ → Fate → Ended → ℕ → List ℕ
ended_line json early commit fate (ended.Finished done) writes = finished_line json early commit fate done writes
ended_line json early commit fate ended.Reverted writes = aborted_line commit writes

-- a commit under way at a moment: its manager, how far it has come, and what stands outside of the run
pub record Snapshot : Type 0 where
  pub manager : Managed
  pub count : Count
  pub out : Outside

abbrev pub snapshot : Managed → Count → Outside → Snapshot
snapshot manager count out = record { manager = manager; count = count; out = out }

-- All of them are made, and told where the device and the words in flight were as they should be when they began
-- (`Seen`).
pub record MakesAll (Seen : Type 0) (watch : Watching) (device_slots : ℕ) (begun : Snapshot) (ended : Ended) (now : Snapshot) : Type 0 where
  pub held : HeldCommit
  pub actions : List Action
  pub held_is : begun.manager.held ≡ Some held
  pub actions_are : actions ≡ held.actions
  pub ends : EndsBy begun.manager held actions ended now.manager
  pub come : HasCome watch begun.count now.count actions
  pub events : now.out.events ≡ begun.out.events ++ actions
  pub report : Seen → TellsActions begun.manager watch device_slots begun.count begun.out.events actions begun.out.taken now.out.taken

-- some of them are made and told, and the next one, a write, isn't made
pub record StopsAtWrite (Seen : Type 0) (watch : Watching) (device_slots : ℕ) (begun now : Snapshot) : Type 0 where
  pub some : MakesSome begun.manager now.manager
  pub due : Write
  pub left : List Action
  pub left_is : some.left ≡ Written due ∷ left
  pub next : next_of now.manager.held ≡ Some due
  pub come : HasCome watch begun.count now.count some.made
  pub events : now.out.events ≡ begun.out.events ++ some.made
  pub report : Seen → TellsActions begun.manager watch device_slots begun.count begun.out.events some.made begun.out.taken now.out.taken

-- some of them are made, and a line of the last one, or of the drain that is next, isn't told whole
pub record StopsAtLine (Seen : Type 0) (watch : Watching) (device_slots : ℕ) (begun now : Snapshot) : Type 0 where
  pub some : MakesSome begun.manager now.manager
  pub come : HasCome watch begun.count now.count some.made
  pub events : now.out.events ≡ begun.out.events ++ some.made
  pub cuts : Seen → CutsEffects (effects_on begun.manager watch device_slots begun.count begun.out.events (some.made ++ some.left)) begun.out.events now.out.events begun.out.taken now.out.taken

-- a fault is the sink's, and then this, or the device's, and then that
abbrev pub FailsBy : Type 0 → Type 0 → RunFault → Type 0
FailsBy AtLine AtWrite why = ((why ≡ Sink) × AtLine) ⊎ ((why ≡ Device) × AtWrite)
