-- A new manager: nothing stands, and no range is live.
use Rattle.std.proofs.Common.{◌≡◌, ℕ, ◌≤◌, Option, None, List, [], replicate, cond, sym, subst, arith}
use Rattle.std.specs.Prelude.{is_none}
use Rattle.std.specs.List.{AllByRecursion}
use Rattle.std.proofs.lemmas.List.{length-replicate}
use Rattle.std.proofs.lemmas.List.Folds.{sum_by-replicate}
use Rattle.slot_order.specs.Order.{most_slots}
use Rattle.slot_order.proofs.Lists.{contains_none}
use Rattle.slot_pool.specs.Arrangement.{Slots}
use Rattle.rule_model.specs.declared.Rule.{Rule}
use Rattle.rule_model.specs.Rule.{HasConditions}
use Rattle.rule_model.specs.RuleSet.{IsRuleSet}
use Rattle.rule_store.specs.declared.Mode.{Mode}
use Rattle.rule_store.specs.Store.{StoredRules}
use Rattle.placement.proofs.Live.{apart_none}
use Rattle.placement.specs.Insertion.{free_slots}
use Rattle.tcam_device.specs.State.{IsState, blank}
use Rattle.tcam_device.proofs.States.{IsState-blank}
use Rattle.tcam_device.proofs.Wider.{empty_slot}
use Rattle.commit_writes.specs.Bits.{FieldBits, no_bits}
use Rattle.commit_writes.specs.Serving.{AreBitsOf}
use Rattle.commit_writes.specs.Shape.{set_pieces}
use Rattle.commit_writes.specs.Planned.{AreEntriesOf}
use Rattle.commit_writes.proofs.ServedTables.{bits_blank}
use Rattle.batch_order.specs.declared.translation.Translation.{Translation}
use Rattle.placement.specs.Live.{Homes}
use Rattle.batch_order.specs.Entries.{Entries}
use Rattle.batch_order.specs.Planning.{IsSettled}
use Rattle.batch_order.specs.Kept.{IsManaged, IsArranged, bits_of, mode_of, tables_of}

all_free : (count : ℕ) → free_slots (replicate count None) ≡ count
all_free count = let each = sum_by-replicate {X = Option ℕ} (λ held. cond (is_none held) 1 0) count None in omega arith

-- nothing stands in empty slots
none_settled : (slots : ℕ) (entries : List _) (told : Option Homes) → slots ≤ most_slots → IsSettled (record { slots = slots; live = []; entries = entries; told = told }) (replicate slots None)
none_settled slots entries told few = record {
  size = length-replicate slots None;
  few = few;
  apart = apart_none slots;
  standing = record {
    within = λ at id held. absurd (let free = empty_slot {E = ℕ} slots at in cc);
    placed = λ id live. absurd (cc);
    once = λ i j id held other. absurd (let free = empty_slot {E = ℕ} slots i in cc);
  };
  order = λ i j first second less held other. absurd (let free = empty_slot {E = ℕ} slots i in cc);
  count = (let free = all_free slots in omega arith);
}

none_entries : (mode : Mode) (bits : FieldBits) (entries : List _) → AreEntriesOf (set_pieces mode bits []) [] entries
none_entries mode bits entries = record {
  of_piece = λ one member. absurd (contains_none one member);
  has_id = λ ranked member. absurd (contains_none ranked member);
  once = λ a b member other rank piece. absurd (contains_none a member);
}

-- so a new manager can take its first batch
pub begun_managed : (slots : ℕ) (mode : Mode) (translation : Option Translation) (rules : StoredRules) (kept : Entries) (arrangement : Slots) → slots ≤ most_slots → mode_of translation ≡ mode
    → bits_of translation ≡ no_bits → tables_of translation ≡ blank 0 → rules.rules ≡ [] → kept ≡ record { slots = slots; live = []; entries = replicate slots None; told = kept.told } → arrangement ≡ replicate slots None
    → IsManaged translation rules kept arrangement None
begun_managed slots mode translation rules kept arrangement few coded bits tables none entries free = record {
  right = subst (AllByRecursion HasConditions) (sym none) tt;
  is_set = subst IsRuleSet (sym none) tt;
  tables = subst (IsState 0) (sym tables) (IsState-blank 0);
  translated = subst (λ (m : Mode). AreBitsOf m (bits_of translation) rules.rules (tables_of translation)) (sym coded)
      (subst (λ (b : FieldBits). AreBitsOf mode b rules.rules (tables_of translation)) (sym bits)
      (subst (λ (set : List Rule). AreBitsOf mode no_bits set (tables_of translation)) (sym none) (subst (AreBitsOf mode no_bits []) (sym tables) (bits_blank mode 0))));
  carried = subst (λ (set : List Rule). IsArranged (mode_of translation) (bits_of translation) set kept arrangement) (sym none)
      (subst (λ (k : Entries). IsArranged (mode_of translation) (bits_of translation) [] k arrangement) (sym entries)
      (subst (λ (at : Slots). IsArranged (mode_of translation) (bits_of translation) [] (record { slots = slots; live = []; entries = replicate slots None; told = kept.told }) at) (sym free)
      record { settled = none_settled slots (replicate slots None) kept.told few; entries_are = none_entries (mode_of translation) (bits_of translation) (replicate slots None) }));
}
