-- What a checker keeps of a trace, and when that is right.
use Rattle.std.specs.Prelude.{◌≡◌, ℕ, ◌+◌, ◌⊎◌, Bool, IsFalse, IsSome, Some, None, [], Contains, length}
use Rattle.slot_order.specs.Order.{slot}
use Rattle.rule_model.specs.Entry.{RankedPiece}
use Rattle.tcam_device.specs.declared.Write.{Write}
use Rattle.tcam_device.specs.State.{IsState, apply}
use Rattle.commit_writes.specs.Segments.{IsAtRest}
use Rattle.commit_writes.specs.Shape.{set_pieces}
use Rattle.readback.specs.Stage.{IsStage}
use Rattle.readback.specs.Tasks.{IsStanding}
use Rattle.trace_file.specs.declared.TraceLine.{TraceLine}
use Rattle.trace_check.specs.declared.CheckFault.{CheckFault}
use Rattle.trace_check.specs.declared.CheckFault.TheVariants.{Misplaced, Unordered, Memory}
use Rattle.trace_check.specs.declared.commit.Commit.{Commit}
use Rattle.trace_check.specs.declared.commit.Device.{Device}
use Rattle.trace_check.specs.declared.places.Place.{Place}
use Rattle.trace_check.specs.declared.places.Place.TheVariants.{AtStart, Between, InBatch, InEvents, AtEnd}
use Rattle.trace_check.specs.declared.trace.Trace.{Trace}
use Rattle.trace_check.specs.Kept.{IsKeptRight, IsPair, device_state}
use Rattle.trace_check.specs.Checked.{without_made}
use Rattle.trace_check.specs.Orderly.{Tracing, untraced, traced_on, Keeps}
use Rattle.trace_check.specs.Places.{place_after}

-- what is known, without the writes of the commit under way
abbrev pub now_of : Trace → Tracing
now_of trace =
    record {
      version = trace.version;
      slots = trace.slots;
      mode = trace.mode;
      rules = trace.rules.rules;
      bits = trace.bits;
      batch = trace.batch;
      state = device_state trace.device;
      writes = trace.counts.writes;
      accepted = trace.counts.commits;
      begun = device_state trace.device;
      made = [];
      moved = trace.moved;
      has_put = trace.has_put;
      drained = trace.drained;
    }

-- the device has the slots in use, and a word of 16 bits for each port in both tables
abbrev pub IsTraceSized : Trace → Type 0
IsTraceSized trace = IsState trace.slots (device_state trace.device)

-- Between two commits the set is at rest on the device: each slot has one of its pieces, and no two have one entry.
pub record Rests (trace : Trace) : Type 0 where
  pub at_rest : IsAtRest trace.mode trace.bits trace.rules.rules (device_state trace.device)
  pub placed : (at : ℕ) (ranked : RankedPiece) → slot trace.device.places at ≡ Some ranked → Contains (set_pieces trace.mode trace.bits trace.rules.rules) ranked
  pub alone : IsPair (device_state trace.device).slots None

-- before its first slot write no piece that a commit puts in stands, and no word was looked at for one
pub record IsUnmoved (device : Device) (commit : Commit) : Type 0 where
  pub unserved : IsFalse commit.served
  pub none_put : (ranked : RankedPiece) → Contains commit.inserted.items ranked → IsStanding (device_state device) ranked → ⊥

-- What is kept of a commit under way is right.
pub record IsOpened (trace : Trace) (commit : Commit) : Type 0 where
  pub kept : IsKeptRight trace.slots trace.mode trace.bits trace.rules.rules trace.batch trace.device commit
  pub unmoved : IsFalse trace.moved → IsUnmoved trace.device commit

-- a commit is under way: nothing of it was judged, or what is kept of it is right
abbrev pub IsOpen : Trace → Type 0
IsOpen trace =
    ((trace.commit ≡ None) × Rests trace × IsFalse trace.moved) ⊎ ((held : Commit) × (trace.commit ≡ Some held) × IsOpened trace held)

-- what is right at each place: at the start nothing is known, among the commands of a commit none of it is made, among its events it is judged
abbrev pub IsRightAt : Place → Trace → Type 0
IsRightAt AtStart trace = now_of trace ≡ without_made untraced
IsRightAt (Between n) trace = Rests trace
IsRightAt (InBatch n k) trace = (trace.commit ≡ None) × Rests trace × IsFalse trace.moved × (k ≡ length trace.batch)
IsRightAt (InEvents n) trace = (held : Commit) × (trace.commit ≡ Some held) × IsOpened trace held
IsRightAt AtEnd trace = Unit {0}

-- What is kept of a trace that stands at a place is right.
pub record IsSoundTrace (place : Place) (trace : Trace) : Type 0 where
  pub sized : IsTraceSized trace
  pub right : IsRightAt place trace

-- A line was taken: it keeps the order, all else is known as before but what it changes, and is right at the next place.
pub record TakesLine (before : Trace) (line : TraceLine) (after : Trace) : Type 0 where
  pub keeps : Keeps (now_of before) line
  pub knows : now_of after ≡ without_made (traced_on (now_of before) line)
  pub sound : (next : Place) → place_after before.slots before.place line ≡ Some next → IsSoundTrace next after

-- It wasn't: it breaks the order, or there was no memory.
abbrev pub Breaks : Trace → TraceLine → CheckFault → Type 0
Breaks before line Misplaced = ⊥
Breaks before line Unordered = Keeps (now_of before) line → ⊥
Breaks before line Memory = Unit {0}

-- what a line may be asked: it may stand, and what is kept is right
pub record MayBeJudged (trace : Trace) (line : TraceLine) : Type 0 where
  pub sound : IsSoundTrace trace.place trace
  pub stands : IsSome (place_after trace.slots trace.place line)

-- One write more was made of a commit that is accepted: what is kept of it is right behind it, so it shows a stage.
pub record IsWritten (before : Trace) (write : Write) (moved drained : Bool) (after : Trace) : Type 0 where
  pub device : Device
  pub held : Commit
  pub after_is : after ≡ record before {
    device = device;
    commit = Some held;
    counts = record before.counts { writes = before.counts.writes + 1 };
    moved = moved;
    drained = drained;
  }
  pub state : device_state device ≡ apply (device_state before.device) write
  pub sized : IsState before.slots (device_state device)
  pub kept : IsKeptRight before.slots before.mode before.bits before.rules.rules before.batch device held
  pub unmoved : IsFalse moved → IsUnmoved device held

-- The write leads to no stage, or there was no memory.
abbrev pub WriteStops : Trace → Write → CheckFault → Type 0
WriteStops before write Misplaced = ⊥
WriteStops before write Unordered = IsStage before.slots before.mode before.bits before.rules.rules before.batch (apply (device_state before.device) write) → ⊥
WriteStops before write Memory = Unit {0}
