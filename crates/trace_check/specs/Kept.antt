-- What a checker keeps of the device and of the commit under way, and when that is right.
use Rattle.std.specs.Prelude.{◌≡◌, ℕ, IsTrue, IsFalse, Option, Some, None, List, [], ◌∷◌, Contains, length}
use Rattle.slot_order.specs.Order.{slot}
use Rattle.rule_model.specs.declared.Rule.{Rule}
use Rattle.rule_model.specs.declared.words.Entry.{Entry}
use Rattle.rule_model.specs.Entry.{RankedPiece}
use Rattle.rule_store.specs.declared.Mode.{Mode}
use Rattle.rule_store.specs.declared.Command.{Command}
use Rattle.rule_store.specs.Store.{StoredRules}
use Rattle.rule_store.specs.Verdict.{Accepted, verdict}
use Rattle.tcam_device.specs.State.{State, IsState}
use Rattle.tcam_device.specs.Order.{AreAlike}
use Rattle.commit_writes.specs.Bits.{FieldBits, bits_with}
use Rattle.commit_writes.specs.Changes.{coded_by, during_of}
use Rattle.commit_writes.specs.Serving.{AreTranslated}
use Rattle.commit_writes.specs.Shape.{set_pieces}
use Rattle.readback.specs.Laws.{CanCommit}
use Rattle.readback.specs.Stage.{IsCommitAt}
use Rattle.readback.specs.Tasks.{CommitPieces, Task, commit_pieces, known_pieces}
use Rattle.readback.specs.Words.{AreRight}
use Rattle.trace_check.specs.declared.CheckFault.{CheckFault}
use Rattle.trace_check.specs.declared.CheckFault.TheVariants.{Misplaced, Unordered, Memory}
use Rattle.trace_check.specs.declared.commit.Commit.{Commit}
use Rattle.trace_check.specs.declared.commit.Device.{Device}
use Rattle.trace_check.specs.declared.slots.Pair.{Pair}
use Rattle.trace_check.specs.Behind.{entries_in}
use Rattle.trace_check.specs.Orderly.{gives_bit}

-- the state of a device whose slots hold these pieces
abbrev pub device_state : Device → State
device_state device =
    record { slots = entries_in device.places; src = device.src.items; dst = device.dst.items }

-- the first of some sets
abbrev pub first_rules : List StoredRules → List Rule
first_rules [] = []
first_rules (set ∷ later) = set.rules

-- the pieces of a commit
abbrev pub pieces_kept : Commit → CommitPieces
pieces_kept commit =
    record {
      old = set_pieces (coded_by commit.live) (during_of commit.live) (first_rules commit.found.items);
      inserted = commit.inserted.items;
      rewritten = commit.rewritten.items;
      erased = commit.erased.items;
    }

-- these two slots hold one entry, or no two do
abbrev pub IsPair : List (Option Entry) → Option Pair → Type 0
IsPair held None = (lesser at : ℕ) → AreAlike held lesser at → ⊥
IsPair held (Some pair) = AreAlike held pair.lesser pair.greater

-- a slot has a piece with this result
abbrev pub HasResult : Option RankedPiece → ℕ → Type 0
HasResult place answer = (held : RankedPiece) × (place ≡ Some held) × (held.result ≡ answer)

-- nothing of a commit is made
pub record IsJustBegun (commit : Commit) : Type 0 where
  pub done : commit.done ≡ 0
  pub pair : commit.pair ≡ None
  pub served : IsFalse commit.served

-- a batch is refused: it isn't accepted, or there is no memory
abbrev pub IsRefusal : ℕ → Mode → List Rule → List Command → CheckFault → Type 0
IsRefusal slots mode rules batch Misplaced = ⊥
IsRefusal slots mode rules batch Unordered = verdict slots mode rules batch ≡ Accepted → ⊥
IsRefusal slots mode rules batch Memory = Unit {0}

-- A batch may be judged over a set and its live ranges, which some device's tables serve: where it is accepted it can be made.
pub record MayJudge (mode : Mode) (bits : FieldBits) (rules : List Rule) (batch : List Command) : Type 0 where
  pub can : CanCommit mode bits rules batch
  pub device_slots : ℕ
  pub state : State
  pub is : IsState device_slots state
  pub right : AreRight bits state

-- what is kept of a commit, whatever the device holds
pub record IsCommitOf (mode : Mode) (bits : FieldBits) (rules : List Rule) (batch : List Command) (commit : Commit) : Type 0 where
  pub may : MayJudge mode bits rules batch
  pub coded : coded_by commit.live ≡ mode
  pub during : during_of commit.live ≡ bits_with mode rules batch bits
  pub gives : commit.gives_bit ≡ gives_bit mode bits rules batch
  pub pieces : pieces_kept commit ≡ commit_pieces mode bits rules batch

-- What is kept of a commit under way is right: the device shows a stage of it, with so many tasks done.
pub record IsKeptRight (slots : ℕ) (mode : Mode) (bits : FieldBits) (rules : List Rule) (batch : List Command) (device : Device) (commit : Commit) : Type 0 where
  pub accepted : verdict slots mode rules batch ≡ Accepted
  pub is : IsCommitOf mode bits rules batch commit
  -- each slot's piece is one of the commit's
  pub known : (at : ℕ) (ranked : RankedPiece) → slot device.places at ≡ Some ranked → Contains (known_pieces (pieces_kept commit)) ranked
  pub done : List Task
  pub left : List Task
  pub stage : IsCommitAt slots mode bits rules batch (device_state device) done left
  pub number : commit.done ≡ length done
  pub pair : IsPair (device_state device).slots commit.pair
  pub served : IsTrue commit.served → AreTranslated (device_state device) (bits_with mode rules batch bits)
