-- Orderly traces: each commit is one that is accepted, and after each of its events it may have been stopped.
use Rattle.std.specs.Prelude.{◌≡◌, ℕ, ◌+◌, Bool, true, false, IsTrue, Some, None, List, [], ◌∷◌, ◌++◌, if◌then◌else◌}
use Rattle.rule_model.specs.declared.IpVersion.{IpVersion}
use Rattle.rule_model.specs.declared.IpVersion.TheVariants.{V4}
use Rattle.rule_model.specs.declared.Rule.{Rule}
use Rattle.rule_store.specs.declared.Mode.{Mode}
use Rattle.rule_store.specs.declared.Mode.TheVariants.{Cover, Bits}
use Rattle.rule_store.specs.declared.Command.{Command}
use Rattle.rule_store.specs.declared.Command.TheVariants as change
use Rattle.rule_store.specs.Batch.{set_after}
use Rattle.rule_store.specs.Verdict.{Accepted, verdict}
use Rattle.tcam_device.specs.declared.Write.{Write}
use Rattle.tcam_device.specs.declared.Write.TheVariants as write
use Rattle.tcam_device.specs.State.{State, blank, apply}
use Rattle.commit_writes.specs.Actions.{have_bits}
use Rattle.commit_writes.specs.Bits.{FieldBits, no_bits, bits_with, bits_left, new_bits}
use Rattle.trace_file.specs.declared.TraceLine.{TraceLine}
use Rattle.trace_file.specs.declared.TraceLine.TheVariants.{Head, Commit, Add, Set, Del, Put, Erase, Table, Drain, Done, Refused, End, Fault}
use Rattle.trace_check.specs.declared.places.Place.{Place}
use Rattle.trace_check.specs.declared.places.Place.TheVariants.{AtStart, AtEnd}
use Rattle.trace_check.specs.Places.{place_after}
use Rattle.readback.specs.Tasks.{Task}
use Rattle.readback.specs.Stage.{IsStage, IsCommitAt, IsTwinSlot}

-- what is known behind some lines of a trace
pub record Tracing : Type 0 where
  -- the version of IP of its rules
  pub version : IpVersion
  pub slots : ℕ
  pub mode : Mode
  -- the set, its live ranges, and the commands of the commit under way
  pub rules : List Rule
  pub bits : FieldBits
  pub batch : List Command
  -- the device, all its writes so far, and how many commits were accepted
  pub state : State
  pub writes : ℕ
  pub accepted : ℕ
  -- the state in which the commit under way began, and its writes
  pub begun : State
  pub made : List Write
  -- of this commit: whether a slot was written, whether an entry was put, and whether a drain stands behind its table lines
  pub moved : Bool
  pub has_put : Bool
  pub drained : Bool

-- before the first commit, over so many slots
abbrev pub first_tracing : IpVersion → ℕ → Mode → Tracing
first_tracing version slots mode =
    record {
      version = version;
      slots = slots;
      mode = mode;
      rules = [];
      bits = no_bits;
      batch = [];
      state = blank slots;
      writes = 0;
      accepted = 0;
      begun = blank slots;
      made = [];
      moved = false;
      has_put = false;
      drained = false;
    }

-- one command more
abbrev pub with_command : Tracing → Command → Tracing
with_command now command = record now { batch = now.batch ++ command ∷ [] }

-- one write more
abbrev pub with_write : Tracing → Write → Tracing
with_write now made = record now { state = apply now.state made; writes = now.writes + 1; made = now.made ++ made ∷ [] }

-- what is known behind one line more
abbrev pub traced_on : Tracing → TraceLine → Tracing
traced_on now (Head version acl bits slots) = first_tracing version slots (if bits then Bits else Cover)
traced_on now (Commit n) =
    record now { batch = []; begun = now.state; made = []; moved = false; has_put = false; drained = false }
traced_on now (Add rule) = with_command now (change.Add rule)
traced_on now (Set priority answer) = with_command now (change.Set priority answer)
traced_on now (Del priority) = with_command now (change.Del priority)
traced_on now (Put slot entry) = record (with_write now (write.Slot slot (Some entry))) { moved = true; has_put = true }
traced_on now (Erase slot) = record (with_write now (write.Slot slot None)) { moved = true }
traced_on now (Table field port word) = record (with_write now (write.Table field port word)) { drained = false }
traced_on now Drain = record now { drained = true }
traced_on now (Done n) =
    record now {
      rules = set_after now.rules now.batch;
      bits = bits_left (set_after now.rules now.batch) (bits_with now.mode now.rules now.batch now.bits);
      batch = [];
      accepted = now.accepted + 1;
    }
traced_on now (Refused n) = now
traced_on now (End writes) = now
traced_on now (Fault line) = now

-- whether a commit gives a new bit
abbrev pub gives_bit : Mode → FieldBits → List Rule → List Command → Bool
gives_bit mode bits rules batch = have_bits (new_bits bits (bits_with mode rules batch bits))

-- the commit under way is accepted, and may be stopped here
pub record MayBeStopped (now : Tracing) : Type 0 where
  pub taken : verdict now.slots now.mode now.rules now.batch ≡ Accepted
  pub stage : IsStage now.slots now.mode now.bits now.rules now.batch now.state

-- all tasks of the commit under way are done, and no entry stands twice
pub record IsArrived (now : Tracing) : Type 0 where
  pub done : List Task
  pub ended : IsCommitAt now.slots now.mode now.bits now.rules now.batch now.state done []
  pub alone : IsTwinSlot now.state.slots None

-- where a commit gives a new bit, a drain stands between its table lines and its first put
abbrev pub IsDrained : Tracing → Type 0
IsDrained now = now.has_put ≡ false → IsTrue (gives_bit now.mode now.bits now.rules now.batch) → now.drained ≡ true

-- What an orderly trace has of a line that may stand, by what is known before it. A commit is judged from the first line
-- behind its commands on; its done line asks for a stage too, which after an event it has, and without one it has from the
-- commit before.
abbrev pub Keeps : Tracing → TraceLine → Type 0
Keeps now (Head version acl bits slots) = Unit {0}
Keeps now (Commit n) = Unit {0}
Keeps now (Add rule) = Unit {0}
Keeps now (Set priority answer) = Unit {0}
Keeps now (Del priority) = Unit {0}
Keeps now (Put slot entry) = MayBeStopped (traced_on now (Put slot entry)) × IsDrained now
Keeps now (Erase slot) = MayBeStopped (traced_on now (Erase slot))
Keeps now (Table field port word) = MayBeStopped (traced_on now (Table field port word)) × (now.moved ≡ false)
Keeps now Drain = MayBeStopped now
Keeps now (Done n) = MayBeStopped now × IsArrived now
Keeps now (Refused n) = Unit {0}
Keeps now (End writes) = writes ≡ now.writes
Keeps now (Fault line) = Unit {0}

-- each of some lines keeps the order
abbrev pub AllKeepOrder : Tracing → List TraceLine → Type 0
AllKeepOrder now [] = Unit {0}
AllKeepOrder now (line ∷ lines) = Keeps now line × AllKeepOrder (traced_on now line) lines

-- some lines may stand one behind the other, from a place to another one
abbrev pub Follow : Tracing → Place → List TraceLine → Place → Type 0
Follow now place [] end = place ≡ end
Follow now place (line ∷ lines) end =
    (next : Place) × (place_after now.slots place line ≡ Some next) × Follow (traced_on now line) next lines end

-- what is known before the first line, which says what the others are judged by; it has one form in either version
abbrev pub untraced : Tracing
untraced = first_tracing V4 0 Cover

-- The lines are a trace, from the first one to the last.
abbrev pub IsTrace : List TraceLine → Type 0
IsTrace lines = Follow untraced AtStart lines AtEnd

-- The lines are orderly.
abbrev pub IsOrderly : List TraceLine → Type 0
IsOrderly lines = AllKeepOrder untraced lines
