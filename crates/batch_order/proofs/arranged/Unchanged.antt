-- Entries whose live ids are the same, each with its entry: all is settled and arranged still.
use Rattle.std.proofs.Common.{◌≡◌, ℕ, ◌+◌, ◌≤◌, List, length, sym, ap, subst, ◌∙◌, arith}
use Rattle.slot_order.specs.Order.{most_slots}
use Rattle.slot_pool.specs.Arrangement.{Slots}
use Rattle.rule_model.specs.declared.Rule.{Rule}
use Rattle.rule_store.specs.declared.Mode.{Mode}
use Rattle.placement.specs.declared.LivePiece.{LivePiece}
use Rattle.placement.specs.Live.{AreApart, is_above}
use Rattle.placement.specs.Placement.{IsInOrder}
use Rattle.placement.specs.Insertion.{IsLive, StandOnce, free_slots}
use Rattle.commit_writes.specs.Bits.{FieldBits}
use Rattle.commit_writes.specs.Shape.{set_pieces}
use Rattle.commit_writes.specs.Planned.{AreEntriesOf}
use Rattle.batch_order.specs.Entries.{Entries, KeepEntries}
use Rattle.batch_order.specs.Planning.{IsSettled}
use Rattle.batch_order.specs.Kept.{IsArranged}
use Rattle.batch_order.proofs.arranged.Entered.{AllLive, entries_of_kept}

-- with the same live ids all is settled still
pub settled_same : (old new : Entries) (slots : Slots) → IsSettled old slots → new.live ≡ old.live → new.slots ≡ old.slots → IsSettled new slots
settled_same old new slots settled live size = record {
  size = settled.size ∙ sym size;
  few = subst (λ (n : ℕ). n ≤ most_slots) (sym size) settled.few;
  apart = subst (λ (l : List LivePiece). AreApart new.slots l) (sym live) (subst (λ (n : ℕ). AreApart n old.live) (sym size) settled.apart);
  standing = subst (λ (l : List LivePiece). StandOnce (IsLive l) slots) (sym live) settled.standing;
  order = subst (λ (l : List LivePiece). IsInOrder (is_above l) slots) (sym live) settled.order;
  count = (let same : length new.live ≡ length old.live = ap length live in let was : free_slots slots + length old.live ≡ old.slots = settled.count in omega arith);
}

-- and with the same entries too they are those of the same rules
pub arranged_same : (mode : Mode) (bits : FieldBits) (rules : List Rule) (old new : Entries) (slots : Slots) → IsArranged mode bits rules old slots → new.live ≡ old.live → new.slots ≡ old.slots
    → KeepEntries old.live old.entries new.entries → IsArranged mode bits rules new slots
arranged_same mode bits rules old new slots arranged live size kept = record {
  settled = settled_same old new slots arranged.settled live size;
  entries_are = subst (λ (l : List LivePiece). AreEntriesOf (set_pieces mode bits rules) l new.entries) (sym live) (entries_of_kept (set_pieces mode bits rules) old.live old.entries new.entries kept arranged.entries_are);
}

-- what stands is live
pub settled_live : (kept : Entries) (slots : Slots) → IsSettled kept slots → AllLive kept.live slots
settled_live kept slots settled = record { at = settled.standing.within }
