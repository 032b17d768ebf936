-- What is kept of the translation when the writes of a commit are made, and the state that they lead to.
use Rattle.std.proofs.Common.{◌≡◌, ℕ, ◌<◌, ◌^◌, Option, Some, None, List, [], ◌∷◌, length, refl, sym, ap, ap₂, subst, ◌∙◌}
use Rattle.std.specs.Prelude.{slice_index, slice_set}
use Rattle.slot_pool.specs.Arrangement.{Slots}
use Rattle.rule_model.specs.declared.Rule.{Rule}
use Rattle.rule_model.specs.declared.Field.TheVariants.{Src, Dst}
use Rattle.rule_store.specs.declared.Mode.{Mode}
use Rattle.rule_store.specs.declared.Mode.TheVariants.{Cover, Bits}
use Rattle.rule_model.specs.declared.words.Entry.{Entry}
use Rattle.tcam_device.specs.declared.Write.{Write}
use Rattle.tcam_device.specs.declared.Write.TheVariants.{Slot, Table}
use Rattle.tcam_device.specs.State.{State, IsState, apply, state_after}
use Rattle.tcam_device.proofs.Wider.{slots-after}
use Rattle.commit_writes.specs.Bits.{FieldBits, bits_left}
use Rattle.commit_writes.specs.Serving.{AreBitsOf, AreRangesOf, AreServing}
use Rattle.commit_writes.specs.Planned.{with_slots}
use Rattle.commit_writes.proofs.SlotWrites.{AreToSlots, LeavesTables, tables_left}
use Rattle.rule_store.specs.Verdict.{coded_ranges}
use Rattle.commit_writes.specs.Changes.{coded_by, during_of}
use Rattle.batch_order.specs.declared.translation.Translation.{Translation}
use Rattle.batch_order.specs.Kept.{bits_of, mode_of, settled_state, tables_of, translated_by}

-- the mode stays
pub mode_kept : (kept : Option Translation) (bits : Option FieldBits) (rules : List Rule) (writes : List Write) → mode_of (translated_by kept bits rules writes) ≡ mode_of kept
mode_kept None bits rules writes = refl
mode_kept (Some kept) None rules writes = refl
mode_kept (Some kept) (Some bits) rules writes = refl

-- the live ranges are those that the rules need still
pub bits_kept : (kept : Option Translation) (bits : Option FieldBits) (rules : List Rule) (writes : List Write) → coded_by bits ≡ mode_of kept
    → bits_of (translated_by kept bits rules writes) ≡ bits_left rules (during_of bits)
bits_kept None None rules writes same = refl
bits_kept None (Some bits) rules writes same = absurd (cc)
bits_kept (Some kept) None rules writes same = absurd (cc)
bits_kept (Some kept) (Some bits) rules writes same = refl

-- writes make of the same tables the same tables
tables_follow : (a b : State) (writes : List Write) → LeavesTables a b → LeavesTables (state_after a writes) (state_after b writes)
tables_follow a b [] same = same
tables_follow a b (Slot at entry ∷ writes) same = tables_follow (apply a (Slot at entry)) (apply b (Slot at entry)) writes record { src = same.src; dst = same.dst }
tables_follow a b (Table Src port word ∷ writes) same =
    tables_follow (apply a (Table Src port word)) (apply b (Table Src port word)) writes record { src = ap (λ (table : List ℕ). slice_set table port word) same.src; dst = same.dst }
tables_follow a b (Table Dst port word ∷ writes) same =
    tables_follow (apply a (Table Dst port word)) (apply b (Table Dst port word)) writes record { src = same.src; dst = ap (λ (table : List ℕ). slice_set table port word) same.dst }

-- what is kept are the tables that the writes leave; by covers they are to slots alone
pub tables_kept : (kept : Option Translation) (bits : Option FieldBits) (rules : List Rule) (writes : List Write) (entries : List (Option Entry)) (slots : Slots) → coded_by bits ≡ mode_of kept
    → (mode_of kept ≡ Cover → AreToSlots writes) → LeavesTables (state_after (settled_state kept entries slots) writes) (tables_of (translated_by kept bits rules writes))
tables_kept None bits rules writes entries slots same plain =
    let left = tables_left (settled_state None entries slots) writes (plain refl) in record { src = sym left.src; dst = sym left.dst }
tables_kept (Some kept) None rules writes entries slots same plain = absurd (cc)
tables_kept (Some kept) (Some bits) rules writes entries slots same plain = tables_follow (settled_state (Some kept) entries slots) kept.tables writes record { src = refl; dst = refl }

-- and no slots
no_slots : (kept : Option Translation) (bits : Option FieldBits) (rules : List Rule) (writes : List Write) → IsState 0 (tables_of kept) → length (tables_of (translated_by kept bits rules writes)).slots ≡ 0
no_slots None bits rules writes is = is.size
no_slots (Some kept) None rules writes is = is.size
no_slots (Some kept) (Some bits) rules writes is = slots-after kept.tables writes ∙ is.size

-- tables of a state are tables of one with other slots
pub same_tables : (slots count : ℕ) (before after : State) → IsState count before → LeavesTables before after → length after.slots ≡ slots → IsState slots after
same_tables slots count before after is left size = record {
  size = size;
  src_size = ap length left.src ∙ is.src_size;
  dst_size = ap length left.dst ∙ is.dst_size;
  src_words = subst (λ (table : List ℕ). (port : ℕ) → slice_index table port < 2 ^ 16) (sym left.src) is.src_words;
  dst_words = subst (λ (table : List ℕ). (port : ℕ) → slice_index table port < 2 ^ 16) (sym left.dst) is.dst_words;
}

pub kept_state : (kept : Option Translation) (bits : Option FieldBits) (rules : List Rule) (writes : List Write) (count : ℕ) (before : State) → IsState 0 (tables_of kept) → IsState count before
    → LeavesTables before (tables_of (translated_by kept bits rules writes)) → IsState 0 (tables_of (translated_by kept bits rules writes))
kept_state kept bits rules writes count before tables is left = same_tables 0 count before (tables_of (translated_by kept bits rules writes)) is left (no_slots kept bits rules writes tables)

-- the state that a manager holds between commits
pub settled_is : (kept : Option Translation) (entries : List (Option Entry)) (slots : Slots) → IsState 0 (tables_of kept)
    → IsState (length (settled_state kept entries slots).slots) (settled_state kept entries slots)
settled_is kept entries slots is = record { size = refl; src_size = is.src_size; dst_size = is.dst_size; src_words = is.src_words; dst_words = is.dst_words }

-- bits are those of rules by the tables alone
pub bits_same : (mode : Mode) (bits : FieldBits) (rules : List Rule) (before after : State) → LeavesTables before after → AreBitsOf mode bits rules before → AreBitsOf mode bits rules after
bits_same Cover bits rules before after left are = are
bits_same Bits bits rules before after left are = (
  subst (λ (table : List ℕ). AreRangesOf (coded_ranges Src rules) bits.src table) (sym left.src) are.0,
  subst (λ (table : List ℕ). AreRangesOf (coded_ranges Dst rules) bits.dst table) (sym left.dst) are.1,
)

-- and these serve the rules
pub serving_of : (mode : Mode) (bits : FieldBits) (rules : List Rule) (state : State) → AreBitsOf mode bits rules state → AreServing mode bits rules state
serving_of Cover bits rules state are = are
serving_of Bits bits rules state are = (are.0.serves, are.1.serves)

-- a state by its parts
pub state_by : (before after : State) (slots : List (Option Entry)) → before.slots ≡ slots → LeavesTables before after → before ≡ with_slots after slots
state_by before after slots is left =
    ap (λ (all : List (Option Entry)). with_slots before all) is
    ∙ ap₂ (λ (src dst : List ℕ). let state : State = record { slots = slots; src = src; dst = dst } in state) (sym left.src) (sym left.dst)
