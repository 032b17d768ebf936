-- What is wrong with a device that shows no stage.
use Rattle.std.specs.Prelude.{◌≡◌, ◌≢◌, ℕ, ◌<◌, ◌≤◌, ◌^◌, ◌⊎◌, ◌↔◌, IsSome, Option, Some, List, [], ◌∷◌, ◌++◌, Contains, slice_index}
use Rattle.slot_order.specs.Order.{slot}
use Rattle.rule_model.specs.declared.Rule.{Rule}
use Rattle.rule_model.specs.declared.Field.{Field}
use Rattle.rule_model.specs.PortRange.{PortRange, is_bit_set, range_holds}
use Rattle.rule_model.specs.Piece.{PiecesOverlap}
use Rattle.rule_model.specs.declared.words.Entry.{Entry}
use Rattle.rule_model.specs.Entry.{RankedPiece, entry_for}
use Rattle.rule_store.specs.declared.Mode.{Mode}
use Rattle.rule_store.specs.declared.Mode.TheVariants.{Cover, Bits}
use Rattle.rule_store.specs.declared.Command.{Command}
use Rattle.rule_store.specs.Verdict.{coded_ranges}
use Rattle.range_bits.specs.LiveRanges.{LiveRanges, bit_of, range_at}
use Rattle.tcam_device.specs.State.{State, table_of}
use Rattle.tcam_device.specs.Order.{StandsAt, AreAlike, IsTwin}
use Rattle.commit_writes.specs.Bits.{FieldBits, bits_with, ranges_in}
use Rattle.readback.specs.declared.StageFault.{StageFault}
use Rattle.readback.specs.declared.StageFault.TheVariants.{BitsDiffer, Word, Foreign, Crossed, Twin, Gap, Memory}
use Rattle.readback.specs.Tasks.{CommitPieces, Task, commit_pieces, known_pieces, tasks_of, piece_of, IsStanding, IsDone, IsLeft}
use Rattle.readback.specs.Stage.{IsStage}

-- the ranges of a set that have a bit: in bits mode those that are no single block, and by covers none
abbrev pub set_ranges : Mode → Field → List Rule → List PortRange
set_ranges Cover field rules = []
set_ranges Bits field rules = coded_ranges field rules

-- the live ranges of a field are those of the set
abbrev pub AreSetRanges : Mode → Field → List Rule → FieldBits → Type 0
AreSetRanges mode field rules bits =
    (range : PortRange) → IsSome (bit_of (ranges_in field bits) range) ↔ Contains (set_ranges mode field rules) range

-- the bits are those of the set's ranges, in both fields
abbrev pub AreSetBits : Mode → List Rule → FieldBits → Type 0
AreSetBits mode rules bits = (field : Field) → AreSetRanges mode field rules bits

-- a live range's bit in a word doesn't say whether the port is in the range
abbrev pub IsWrongWord : LiveRanges → ℕ → ℕ → Type 0
IsWrongWord live port word =
    (bit : ℕ) × (range : PortRange) × (range_at live bit ≡ Some range) × (is_bit_set word bit ≢ range_holds range port)

-- so does a table's word for a range of the old set, or where an inserted piece stands for a new one
abbrev pub HasWrongWord : FieldBits → FieldBits → CommitPieces → State → Field → ℕ → Type 0
HasWrongWord before during pieces state field port =
    (port < 2 ^ 16)
    × (IsWrongWord (ranges_in field before) port (slice_index (table_of field state) port)
    ⊎ ((ranked : RankedPiece) × Contains pieces.inserted ranked × IsStanding state ranked
    × IsWrongWord (ranges_in field during) port (slice_index (table_of field state) port)))

-- the slot holds an entry and isn't in use, or the entry is of none of the pieces
abbrev pub IsForeign : ℕ → CommitPieces → State → ℕ → Type 0
IsForeign slots pieces state at =
    (entry : Entry) × (slot state.slots at ≡ Some entry)
    × ((slots ≤ at) ⊎ ((ranked : RankedPiece) → Contains (known_pieces pieces) ranked → entry_for ranked ≡ entry → ⊥))

-- a lesser slot holds an overlapping piece of lesser tag
pub record IsCrossed (pieces : CommitPieces) (state : State) (at : ℕ) : Type 0 where
  pub lesser : ℕ
  pub less : lesser < at
  pub low : RankedPiece
  pub high : RankedPiece
  pub low_known : Contains (known_pieces pieces) low
  pub high_known : Contains (known_pieces pieces) high
  pub holds_low : StandsAt state lesser low
  pub holds_high : StandsAt state at high
  pub overlap : PiecesOverlap low.piece high.piece
  pub lower : low.rank < high.rank

-- a lesser slot holds the piece too, with another result, or another twin is less
abbrev pub IsOneTooMany : List (Option Entry) → ℕ → Type 0
IsOneTooMany slots at =
    ((lesser : ℕ) × (alike : AreAlike slots lesser at) × (alike.first.result ≢ alike.second.result))
    ⊎ (IsTwin slots at × ((other : ℕ) × IsTwin slots other × (other < at)))

-- an old piece of the rule that isn't taken out is missing
abbrev pub IsMissing : CommitPieces → State → ℕ → Type 0
IsMissing pieces state priority =
    (ranked : RankedPiece) × Contains pieces.old ranked × (Contains pieces.erased ranked → ⊥) × (IsStanding state ranked → ⊥) × (ranked.rank ≡ priority)

-- a task of the rule is done behind one that isn't
pub record IsEarly (pieces : CommitPieces) (state : State) (priority : ℕ) : Type 0 where
  pub front : List Task
  pub first : Task
  pub between : List Task
  pub second : Task
  pub back : List Task
  pub parts : tasks_of pieces ≡ front ++ first ∷ (between ++ second ∷ back)
  pub not_done : IsLeft state first
  pub done : IsDone state second
  pub rank : (piece_of second).rank ≡ priority

-- where a fault may come
abbrev pub IsFaultOf : ℕ → Mode → FieldBits → List Rule → List Command → State → StageFault → Type 0
IsFaultOf slots mode bits rules batch state (BitsDiffer field) = AreSetRanges mode field rules bits → ⊥
IsFaultOf slots mode bits rules batch state (Word field port) =
    HasWrongWord bits (bits_with mode rules batch bits) (commit_pieces mode bits rules batch) state field port
IsFaultOf slots mode bits rules batch state (Foreign slot) = IsForeign slots (commit_pieces mode bits rules batch) state slot
IsFaultOf slots mode bits rules batch state (Crossed slot) = IsCrossed (commit_pieces mode bits rules batch) state slot
IsFaultOf slots mode bits rules batch state (Twin slot) = IsOneTooMany state.slots slot
IsFaultOf slots mode bits rules batch state (Gap priority) =
    IsMissing (commit_pieces mode bits rules batch) state priority ⊎ IsEarly (commit_pieces mode bits rules batch) state priority
IsFaultOf slots mode bits rules batch state Memory = Unit {0}

-- no stage is refused but for want of memory
abbrev pub StagesHaveNoFault : Type 0
StagesHaveNoFault =
    (slots : ℕ) (mode : Mode) (bits : FieldBits) (rules : List Rule) (batch : List Command) (state : State) (fault : StageFault)
    → IsStage slots mode bits rules batch state → AreSetBits mode rules bits → IsFaultOf slots mode bits rules batch state fault → fault ≡ Memory

-- and where no fault but want of memory applies, the state is a stage
abbrev pub OnlyStagesHaveNoFault : Type 0
OnlyStagesHaveNoFault =
    (slots : ℕ) (mode : Mode) (bits : FieldBits) (rules : List Rule) (batch : List Command) (state : State)
    → ((fault : StageFault) → fault ≢ Memory → IsFaultOf slots mode bits rules batch state fault → ⊥) → IsStage slots mode bits rules batch state
