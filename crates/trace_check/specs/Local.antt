-- One write to a stage of a commit: what of the stage it can break, and where that shows. A write of a slot can break it at
-- that slot alone, and a word of a table at its port alone.
use Rattle.std.specs.Prelude.{◌≡◌, ◌≢◌, ◌↔◌, ℕ, ◌<◌, ◌≤◌, ◌^◌, ◌⊎◌, IsTrue, Option, Some, List, ◌++◌, Contains, length}
use Rattle.slot_order.specs.Order.{slot}
use Rattle.rule_model.specs.declared.Field.{Field}
use Rattle.rule_model.specs.Piece.{PiecesOverlap}
use Rattle.rule_model.specs.declared.words.Entry.{Entry}
use Rattle.rule_model.specs.Entry.{RankedPiece, entry_for, same_match}
use Rattle.tcam_device.specs.declared.Write.TheVariants.{Slot, Table}
use Rattle.tcam_device.specs.State.{State, apply, table_of}
use Rattle.tcam_device.specs.Order.{StandsAt, AreAlike}
use Rattle.commit_writes.specs.Bits.{FieldBits, ranges_in}
use Rattle.commit_writes.specs.InFlight.{HasBits}
use Rattle.commit_writes.specs.Serving.{AreTranslated}
use Rattle.commit_writes.specs.Shape.{Stands}
use Rattle.readback.specs.Tasks.{CommitPieces, Task, known_pieces, tasks_of, piece_of, IsStanding, IsDone, IsLeft}
use Rattle.readback.specs.Stage.{IsStageAt}

-- the content of a slot is an entry of the piece, whatever its result
abbrev pub HoldsPiece : Option Entry → RankedPiece → Type 0
HoldsPiece content ranked = (entry : Entry) × (content ≡ Some entry) × IsTrue (same_match (entry_for ranked) entry)

-- another slot than this one holds an entry of the piece
abbrev pub StandsElsewhere : State → ℕ → RankedPiece → Type 0
StandsElsewhere state at ranked = (other : ℕ) × (other ≢ at) × Stands state other ranked

-- another slot than this one holds the piece of the content that comes here
pub record IsCopied (slots : List (Option Entry)) (at : ℕ) (content : Option Entry) : Type 0 where
  pub other : ℕ
  pub apart : other ≢ at
  pub entry : Entry
  pub copy : Entry
  pub here : content ≡ Some entry
  pub there : slot slots other ≡ Some copy
  pub same : IsTrue (same_match entry copy)

-- two other slots than this one hold one piece
pub record HasOtherTwins (slots : List (Option Entry)) (at : ℕ) : Type 0 where
  pub lesser : ℕ
  pub greater : ℕ
  pub alike : AreAlike slots lesser greater
  pub lesser_apart : lesser ≢ at
  pub greater_apart : greater ≢ at

-- a copy has the content's result, and then no other two slots hold one piece: so none is there three times, or two twice
abbrev pub KeepsTwins : List (Option Entry) → ℕ → Option Entry → Type 0
KeepsTwins slots at content =
    (copied : IsCopied slots at content) → (copied.entry.result ≡ copied.copy.result) × (HasOtherTwins slots at → ⊥)

-- the task is of the piece that stood in the slot, or of the one that comes there
abbrev pub IsTouched : State → ℕ → Option Entry → Task → Type 0
IsTouched state at content task = Stands state at (piece_of task) ⊎ HoldsPiece content (piece_of task)

-- The tasks are parted behind the write: those that it touches by what is done of them then, and all others as before.
pub record ArePartedAnew (state : State) (tasks done left : List Task) (at : ℕ) (content : Option Entry) (later_done later_left : List Task) : Type 0 where
  pub parts : tasks ≡ later_done ++ later_left
  pub are_done : (task : Task) → Contains later_done task
      → (IsTouched state at content task → IsDone (apply state (Slot at content)) task) × ((IsTouched state at content task → ⊥) → Contains done task)
  pub are_left : (task : Task) → Contains later_left task
      → (IsTouched state at content task → IsLeft (apply state (Slot at content)) task) × ((IsTouched state at content task → ⊥) → Contains left task)

-- What is to be asked of a write of a slot, so that a stage leads to a stage.
pub record KeepsStage (during : FieldBits) (pieces : CommitPieces) (state : State) (done left : List Task) (at : ℕ) (content : Option Entry) (later_done later_left : List Task) : Type 0 where
  -- what comes is an entry of a piece of the commit, with its result
  pub known : (entry : Entry) → content ≡ Some entry → (ranked : RankedPiece) × Contains (known_pieces pieces) ranked × (entry_for ranked ≡ entry)
  -- where that is one to be inserted the tables serve the new ranges
  pub words : (ranked : RankedPiece) → Contains pieces.inserted ranked → HoldsPiece content ranked → AreTranslated state during
  -- no piece in a lesser slot that overlaps it is lower, and none in a greater slot is higher
  pub ahead : (i : ℕ) (first second : RankedPiece) → i < at → Contains (known_pieces pieces) first → Contains (known_pieces pieces) second
      → StandsAt state i first → content ≡ Some (entry_for second) → PiecesOverlap first.piece second.piece → second.rank ≤ first.rank
  pub behind : (j : ℕ) (first second : RankedPiece) → at < j → Contains (known_pieces pieces) first → Contains (known_pieces pieces) second
      → content ≡ Some (entry_for first) → StandsAt state j second → PiecesOverlap first.piece second.piece → second.rank ≤ first.rank
  pub twins : KeepsTwins state.slots at content
  -- a piece that stood here and isn't taken out stands elsewhere, or comes here again
  pub stays : (ranked : RankedPiece) → Contains pieces.old ranked → (Contains pieces.erased ranked → ⊥) → Stands state at ranked
      → HoldsPiece content ranked ⊎ StandsElsewhere state at ranked
  pub parted : ArePartedAnew state (tasks_of pieces) done left at content later_done later_left

-- Behind a write of a slot in use a stage is one exactly where that is so, and no other slot is to be judged.
abbrev pub SlotWritesAreLocal : Type 0
SlotWritesAreLocal =
    (slots : ℕ) (before during : FieldBits) (pieces : CommitPieces) (state : State) (done left : List Task) (at : ℕ) (content : Option Entry) (later_done later_left : List Task)
    → IsStageAt slots before during pieces state done left → at < slots → at < length state.slots
    → IsStageAt slots before during pieces (apply state (Slot at content)) later_done later_left
    ↔ KeepsStage during pieces state done left at content later_done later_left

-- Behind a write of a table's word, before a piece was inserted, it is one exactly where that word has the old bits right.
abbrev pub TableWritesAreLocal : Type 0
TableWritesAreLocal =
    (slots : ℕ) (before during : FieldBits) (pieces : CommitPieces) (state : State) (done left : List Task) (field : Field) (port word : ℕ)
    → IsStageAt slots before during pieces state done left → port < 2 ^ 16 → length (table_of field state) ≡ 2 ^ 16
    → ((ranked : RankedPiece) → Contains pieces.inserted ranked → IsStanding state ranked → ⊥)
    → ((later_done : List Task) × (later_left : List Task) × IsStageAt slots before during pieces (apply state (Table field port word)) later_done later_left)
    ↔ HasBits (ranges_in field before) port word
