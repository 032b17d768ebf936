-- Where a commit has arrived its set is at rest, once the tables serve the ranges that are left.
use Rattle.std.proofs.Common.{ℕ, List, [], filter, length, Contains, refl, sym, subst}
use Rattle.rule_model.specs.declared.Rule.{Rule}
use Rattle.rule_model.specs.Entry.{RankedPiece}
use Rattle.rule_store.specs.declared.Mode.{Mode}
use Rattle.rule_store.specs.declared.Command.{Command}
use Rattle.rule_store.specs.Batch.{set_after}
use Rattle.tcam_device.specs.State.{State, IsState, state_after}
use Rattle.tcam_device.specs.Order.{StandsAt, IsOrdered}
use Rattle.commit_writes.specs.Bits.{FieldBits, bits_with, bits_left}
use Rattle.commit_writes.specs.Segments.{IsAtRest}
use Rattle.commit_writes.specs.Serving.{AreBitsOf}
use Rattle.commit_writes.specs.Shape.{set_pieces, fresh_writes}
use Rattle.commit_writes.proofs.BatchRules.{IsSoundChange, set_after-is, right_after}
use Rattle.slot_order.proofs.Lists.{filter_in}
use Rattle.commit_writes.proofs.KeptBits.{pieces_left}
use Rattle.commit_writes.proofs.Mirror.{IsOrdered_same}
use Rattle.commit_writes.proofs.ServedTables.{IsBitsStart, tables_serve}
use Rattle.readback.specs.Laws.{CanCommit}
use Rattle.readback.specs.Stage.{IsCommitAt}
use Rattle.readback.specs.Tasks.{CommitPieces, Task, commit_pieces, known_pieces, is_told_in}
use Rattle.readback.proofs.Begun.{begun, change_of}
use Rattle.readback.proofs.Facts.{ArePieces}
use Rattle.readback.proofs.Pieces.{pieces_are, pieces_lead}
use Rattle.readback.proofs.Shows.{LeadTo, stage_ordered, arrived}
use Rattle.readback.proofs.Tests.{told_from}

module _ (slots : ℕ) (mode : Mode) (bits : FieldBits) (rules : List Rule) (batch : List Command) (state : State) (can : CanCommit mode bits rules batch)
    (is : IsState (length state.slots) state) (done : List Task) (ended : IsCommitAt slots mode bits rules batch state done []) where
  abbrev during : FieldBits
  during = bits_with mode rules batch bits

  abbrev later : List Rule
  later = set_after rules batch

  abbrev p : CommitPieces
  p = commit_pieces mode bits rules batch

  abbrev new : List RankedPiece
  new = set_pieces mode (bits_with mode rules batch bits) (set_after rules batch)

  change : IsSoundChange rules batch
  change = change_of mode bits rules batch can

  start : IsBitsStart mode bits rules batch state
  start = begun mode bits rules batch (length state.slots) state can is ended.old_words

  facts : ArePieces p
  facts = pieces_are mode bits rules batch change (state_after state (fresh_writes mode bits rules batch state)) (tables_serve mode bits rules batch state start)

  leads : LeadTo p new
  leads = pieces_lead mode bits rules batch change

  ordered : IsOrdered state (Contains new)
  ordered = IsOrdered_same state (Contains (filter (λ x. is_told_in state.slots x) (known_pieces p))) (Contains new)
      (arrived slots bits (bits_with mode rules batch bits) p new facts leads state done [] ended refl)
      (stage_ordered slots bits (bits_with mode rules batch bits) p new facts leads state done [] ended)

  -- the set is at rest, where the tables serve what is left
  pub rests_with : AreBitsOf mode (bits_left (set_after rules batch) (bits_with mode rules batch bits)) (set_after rules batch) state
      → IsAtRest mode (bits_left (set_after rules batch) (bits_with mode rules batch bits)) (set_after rules batch) state
  rests_with serve = record {
    is_set = set_after-is rules batch change;
    right = right_after rules batch change;
    is_state = is;
    bits_are = serve;
    ordered = subst (λ (pieces : List RankedPiece). IsOrdered state (Contains pieces)) (sym (pieces_left mode bits rules batch state start)) ordered;
  }

  -- and each piece that stands is one of the new set's
  pub is_new : (at : ℕ) (x : RankedPiece) → Contains (known_pieces p) x → StandsAt state at x
      → Contains (set_pieces mode (bits_left (set_after rules batch) (bits_with mode rules batch bits)) (set_after rules batch)) x
  is_new at x member stands =
      subst (λ (pieces : List RankedPiece). Contains pieces x) (sym (pieces_left mode bits rules batch state start))
      ((arrived slots bits (bits_with mode rules batch bits) p new facts leads state done [] ended refl x).0
      (filter_in (λ y. is_told_in state.slots y) (known_pieces p) x member (told_from state x (at, stands))))
