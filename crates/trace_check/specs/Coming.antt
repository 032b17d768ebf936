-- What is found of a write of a slot: of what comes, of what goes, and of the commit's tasks behind it.
use Rattle.std.specs.Prelude.{◌≡◌, ◌≢◌, ◌↔◌, ℕ, ◌+◌, ◌<◌, ◌≤◌, ◌⊎◌, Bool, IsTrue, IsFalse, Option, Some, List, Contains, length, option_map}
use Rattle.std.specs.List.{AllByRecursion}
use Rattle.slot_order.specs.Order.{slot}
use Rattle.rule_model.specs.Piece.{PiecesOverlap}
use Rattle.rule_model.specs.declared.words.Entry.{Entry}
use Rattle.rule_model.specs.declared.Rule.{Rule}
use Rattle.rule_model.specs.Entry.{RankedPiece, IsEncodable, entry_for, same_match}
use Rattle.commit_writes.specs.Changes.{coded_by, during_of}
use Rattle.commit_writes.specs.Serving.{AreTranslated}
use Rattle.commit_writes.specs.Shape.{set_pieces}
use Rattle.readback.specs.Tasks.{known_pieces}
use Rattle.trace_check.specs.declared.commit.Commit.{Commit}
use Rattle.trace_check.specs.declared.commit.Device.{Device}
use Rattle.trace_check.specs.declared.tasks.TaskKind.TheVariants as kind
use Rattle.trace_check.specs.Behind.{ArePlacedTasks}
use Rattle.trace_check.specs.Kept.{device_state, pieces_kept}
use Rattle.trace_check.specs.Local.{HoldsPiece}

-- A commit finds these rules, each of whose pieces has an entry.
pub record FindsRules (commit : Commit) (rules : List Rule) : Type 0 where
  pub old : (pieces_kept commit).old ≡ set_pieces (coded_by commit.live) (during_of commit.live) rules
  pub encodable : AllByRecursion (λ ranked. IsEncodable ranked.piece) (set_pieces (coded_by commit.live) (during_of commit.live) rules)

-- the piece is one of the commit's, or stands
abbrev pub IsFamiliar : Commit → List (Option RankedPiece) → RankedPiece → Type 0
IsFamiliar commit places ranked =
    Contains (known_pieces (pieces_kept commit)) ranked ⊎ ((other : ℕ) × (slot places other ≡ Some ranked))

-- a piece in a lesser slot overlaps it and is lower, or one in a greater slot is higher
abbrev pub IsCrossing : List (Option RankedPiece) → ℕ → RankedPiece → Type 0
IsCrossing places at ranked =
    ((i : ℕ) × (low : RankedPiece) × (i < at) × (slot places i ≡ Some low) × PiecesOverlap low.piece ranked.piece × (low.rank < ranked.rank))
    ⊎ ((j : ℕ) × (high : RankedPiece) × (at < j) × (slot places j ≡ Some high) × PiecesOverlap ranked.piece high.piece × (ranked.rank < high.rank))

-- the content is of a piece that is put in
abbrev pub PutsIn : Commit → Option Entry → Type 0
PutsIn commit entry = (ranked : RankedPiece) × Contains commit.inserted.items ranked × HoldsPiece entry ranked

-- What comes is right: the entry of such a piece, in order with the other slots, and where it is put in the tables serve.
pub record ComesRight (commit : Commit) (device : Device) (at : ℕ) (entry : Option Entry) (content : Option RankedPiece) (puts : Bool) : Type 0 where
  pub is : option_map entry_for content ≡ entry
  pub familiar : (ranked : RankedPiece) → content ≡ Some ranked → IsFamiliar commit device.places ranked
  pub ahead : (ranked : RankedPiece) → content ≡ Some ranked → (i : ℕ) (first : RankedPiece) → i < at → slot device.places i ≡ Some first
      → PiecesOverlap first.piece ranked.piece → ranked.rank ≤ first.rank
  pub behind : (ranked : RankedPiece) → content ≡ Some ranked → (j : ℕ) (second : RankedPiece) → at < j → slot device.places j ≡ Some second
      → PiecesOverlap ranked.piece second.piece → second.rank ≤ ranked.rank
  pub puts_in : IsTrue puts ↔ PutsIn commit entry
  pub serves : IsTrue puts → IsTrue commit.served ⊎ AreTranslated (device_state device) (during_of commit.live)

-- It is wrong: no piece of the commit has the entry, or the one that has it is in no order here, or it is put in too early.
abbrev pub ComesWrong : Commit → Device → ℕ → Option Entry → Type 0
ComesWrong commit device at entry =
    ((held : Entry) × (entry ≡ Some held) × ((ranked : RankedPiece) → Contains (known_pieces (pieces_kept commit)) ranked → entry_for ranked ≡ held → ⊥))
    ⊎ (((ranked : RankedPiece) × (entry ≡ Some (entry_for ranked)) × IsFamiliar commit device.places ranked × IsCrossing device.places at ranked)
    ⊎ (PutsIn commit entry × IsFalse commit.served × (AreTranslated (device_state device) (during_of commit.live) → ⊥)))

-- What stands may go: it comes again, stands elsewhere, or is put in or taken out.
abbrev pub MayLeave : Commit → List (Option RankedPiece) → ℕ → Option RankedPiece → RankedPiece → Type 0
MayLeave commit places at content ranked =
    HoldsPiece (option_map entry_for content) ranked
    ⊎ (((other : ℕ) × (other ≢ at) × ((copy : RankedPiece) × (slot places other ≡ Some copy) × IsTrue (same_match (entry_for ranked) (entry_for copy))))
    ⊎ ((piece : RankedPiece) × (Contains commit.erased.items piece ⊎ Contains commit.inserted.items piece) × IsTrue (same_match (entry_for piece) (entry_for ranked))))

-- the tasks that a write doesn't touch are done where they are among those that were
pub record AreAllPlaced (commit : Commit) (places : List (Option RankedPiece)) (at : ℕ) (before : Option RankedPiece) : Type 0 where
  pub inserts : ArePlacedTasks places at before kind.Insert commit.inserted.items 0 commit.done
  pub rewrites : ArePlacedTasks places at before kind.Rewrite commit.rewritten.items (length commit.inserted.items) commit.done
  pub erases : ArePlacedTasks places at before kind.Erase commit.erased.items (length commit.inserted.items + length commit.rewritten.items) commit.done
