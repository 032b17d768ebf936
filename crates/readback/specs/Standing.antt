-- The pieces that stand where a commit was stopped, each under an id.
use Rattle.std.specs.Prelude.{◌≡◌, ℕ, ◌≤◌, Option, Some, List, Contains, AllPairs, length}
use Rattle.slot_order.specs.Order.{slot, most_slots}
use Rattle.slot_pool.specs.Arrangement.{Slots}
use Rattle.rule_model.specs.declared.Rule.{Rule}
use Rattle.rule_store.specs.declared.Mode.{Mode}
use Rattle.rule_store.specs.declared.Command.{Command}
use Rattle.rule_model.specs.declared.words.Entry.{Entry}
use Rattle.rule_model.specs.Entry.{RankedPiece, entry_for}
use Rattle.placement.specs.declared.LivePiece.{LivePiece}
use Rattle.placement.specs.Live.{AreApart}
use Rattle.placement.specs.Insertion.{IsLive}
use Rattle.tcam_device.specs.State.{State, IsState, state_after, on_device}
use Rattle.commit_writes.specs.Bits.{FieldBits}
use Rattle.commit_writes.specs.Planned.{IdEntries, AreArranged, AreEntriesOf, entry_at, contents}
use Rattle.readback.specs.Tasks.{CommitPieces, Task, commit_pieces, known_pieces}
use Rattle.readback.specs.Stage.{IsCommitAt, IsTwinSlot}
use Rattle.readback.specs.Going.{twin_writes}
use Rattle.readback.specs.Laws.{CanCommit}

-- Some pieces stand in order, each under an id of its own with its entry: each is one of the commit's, and no two are one
-- piece of one rank.
pub record HaveStandingIds (pieces : CommitPieces) (live : List LivePiece) (slots : Slots) (entries : IdEntries) : Type 0 where
  pub standing : List RankedPiece
  pub known : (ranked : RankedPiece) → Contains standing ranked → Contains (known_pieces pieces) ranked
  pub once : AllPairs (λ a b. a.rank ≡ b.rank → a.piece ≡ b.piece → ⊥) standing
  pub arranged : AreArranged live slots
  pub entries_are : AreEntriesOf standing live entries

-- Ids as they are given to what slots hold, one slot after the other: each slot that isn't empty has an id of its own, which is
-- live as that of one of the commit's pieces, whose entry the slot holds.
pub record AreReadIds (pieces : CommitPieces) (held : List (Option Entry)) (live : List LivePiece) (slots : Slots) (entries : IdEntries) : Type 0 where
  pub few : length slots ≤ most_slots
  pub apart : AreApart (length slots) live
  pub mirrors : held ≡ contents entries slots
  pub within : (at id : ℕ) → slot slots at ≡ Some id → IsLive live id
  pub stands : (one : LivePiece) → Contains live one → (at : ℕ) × (slot slots at ≡ Some one.id)
  pub of_known : (one : LivePiece) → Contains live one → (ranked : RankedPiece) × Contains (known_pieces pieces) ranked
      × (ranked.piece ≡ one.piece) × (ranked.rank ≡ one.rank) × (entry_at entries one.id ≡ Some (entry_for ranked))

-- such ids, given once the twin of a stage is erased, are in order
abbrev pub StagesHaveStandingIds : Type 0
StagesHaveStandingIds =
    (device_slots : ℕ) (mode : Mode) (bits : FieldBits) (rules : List Rule) (batch : List Command) (state : State) (done left : List Task) (twin : Option ℕ)
    (live : List LivePiece) (slots : Slots) (entries : IdEntries)
    → CanCommit mode bits rules batch → IsState (length state.slots) state
    → IsCommitAt (length slots) mode bits rules batch (on_device device_slots state) done left → IsTwinSlot (on_device device_slots state).slots twin
    → AreReadIds (commit_pieces mode bits rules batch) (state_after state (twin_writes twin)).slots live slots entries
    → HaveStandingIds (commit_pieces mode bits rules batch) live slots entries
