-- What a manager's device answers, between commits and while one is under way.
use Rattle.std.proofs.Common.{◌≡◌, ℕ, ◌-◌, ◌≤◌, Option, List, [], length, flat_map, None, Some, append-nil, refl, sym, ap, subst}
use Rattle.std.specs.List.{AllZip}
use Rattle.std.specs.Prelude.{reverse}
use Rattle.slot_order.proofs.Lists.{filter_nothing}
use Rattle.slot_pool.specs.Arrangement.{Slots}
use Rattle.rule_model.specs.declared.Rule.{Rule}
use Rattle.rule_model.specs.RuleSet.{rule_at}
use Rattle.rule_store.specs.declared.Mode.{Mode}
use Rattle.rule_store.specs.Batch.{additions, removes, set_after}
use Rattle.rule_store.specs.Store.{StoredRules}
use Rattle.rule_store.specs.Verdict.{replaced_rule, added_pieces_over}
use Rattle.rule_model.specs.Entry.{RankedPiece}
use Rattle.tcam_device.specs.State.{State, Shows, on_device}
use Rattle.tcam_device.specs.Hitless.{ShowsOldOrNew}
use Rattle.tcam_device.proofs.Wider.{Shows-padded}
use Rattle.commit_writes.specs.Bits.{FieldBits}
use Rattle.commit_writes.specs.Serving.{AreServing}
use Rattle.commit_writes.specs.Shape.{names, ranked_pieces, common_pieces, rewritten_pieces, erased_pieces}
use Rattle.commit_writes.specs.PlannedBatch.{AreSlotWrites, IsIdOf, IsRewriteOf}
use Rattle.commit_writes.proofs.WholeBatch.{slot_writes}
use Rattle.batch_order.specs.declared.held.Held.{Held}
use Rattle.batch_order.specs.declared.translation.Translation.{Translation}
use Rattle.batch_order.specs.Entries.{Entries}
use Rattle.batch_order.specs.Going.{around}
use Rattle.batch_order.specs.Kept.{IsManaged, bits_of, current_of, held_of, mode_of, settled_state, state_of, tables_of}
use Rattle.batch_order.proofs.under_way.Going.{stands}
use Rattle.batch_order.proofs.planning.Taken.{are_arranged}
use Rattle.batch_order.proofs.planning.Translated.{bits_same, serving_of, settled_is}

-- an empty batch gives no result, and nothing goes by it
none_rewritten : (mode : Mode) (bits : FieldBits) (rules : List Rule) → rewritten_pieces mode bits rules [] ≡ []
none_rewritten mode bits rules =
    ap (flat_map (λ (new : Rule). ranked_pieces bits new (common_pieces mode (replaced_rule rules new) new))) (filter_nothing (names []) (set_after rules []) (λ rule member. refl))

none_erased : (mode : Mode) (bits : FieldBits) (rules : List Rule) → erased_pieces mode bits rules [] ≡ []
none_erased mode bits rules =
    ap (λ (some : List Rule). flat_map (λ (old : Rule). ranked_pieces bits old (added_pieces_over mode (rule_at (additions []) old.priority) old)) (reverse some))
    (filter_nothing (λ (rule : Rule). removes rule.priority []) rules (λ rule member. refl))

-- the writes of an empty batch, from the state of a manager without a commit under way
pub idle_writes : (translation : Option Translation) (rules : StoredRules) (kept : Entries) (slots : Slots) → IsManaged translation rules kept slots None
    → AreSlotWrites (mode_of translation) (bits_of translation) rules.rules [] (settled_state translation kept.entries slots) []
idle_writes translation rules kept slots managed =
    slot_writes mode bits state rules.rules [] kept.live slots kept.entries [] [] [] record {
      is_set = managed.is_set;
      right = managed.right;
      changes = tt;
      sound = refl;
      is_state = settled_is translation kept.entries slots managed.tables;
      mirrors = refl;
      serving = subst (λ (set : List Rule). AreServing mode bits set state) (sym (append-nil rules.rules))
          (serving_of mode bits rules.rules state (bits_same mode bits rules.rules (tables_of translation) state record { src = refl; dst = refl } managed.translated));
      arranged = are_arranged kept slots managed.carried.settled;
      entries_are = managed.carried.entries_are;
      inserted = refl;
      have_entries = tt;
      are_planned = tt;
      rewrites_are = subst (λ (some : List RankedPiece). AllZip (IsRewriteOf kept.live) some []) (sym (none_rewritten mode bits rules.rules)) tt;
      erased_are = subst (λ (some : List RankedPiece). AllZip (IsIdOf kept.live) some []) (sym (none_erased mode bits rules.rules)) tt;
    }
  where
    mode : Mode
    mode = mode_of translation

    bits : FieldBits
    bits = bits_of translation

    state : State
    state = settled_state translation kept.entries slots

-- without a commit under way the device answers as the rules do
pub idle_answers : (translation : Option Translation) (rules : StoredRules) (kept : Entries) (slots : Slots) → IsManaged translation rules kept slots None
    → (device_slots : ℕ) → length slots ≤ device_slots → Shows (on_device device_slots (settled_state translation kept.entries slots)) rules.rules
idle_answers translation rules kept slots managed device_slots wide =
    let state : State = settled_state translation kept.entries slots in
    Shows-padded (device_slots - length state.slots) state rules.rules (idle_writes translation rules kept slots managed).hitless.on_the_way.before

-- and with one under way, as the old rules or the new ones do
pub held_answers : (translation : Option Translation) (rules : StoredRules) (kept : Entries) (slots : Slots) (held : Held) → IsManaged translation rules kept slots (Some held)
    → (device_slots : ℕ) → length slots ≤ device_slots
    → ShowsOldOrNew (on_device device_slots (state_of translation kept.entries slots (Some held))) rules.rules (set_after rules.rules held.batch)
held_answers translation rules kept slots held managed =
    (stands (around (length slots) rules.rules (bits_of translation) (held_of translation slots rules.rules kept.entries held)) (current_of translation held) (state_of translation kept.entries slots (Some held))
    (held_of translation slots rules.rules kept.entries held).actions managed.carried.going.goes).shows
