-- What a manager's device is between commits, and that it serves the ranges for which the words in flight are current.
use Rattle.std.proofs.Common.{Option, List, ◌++◌, length, Some, None, Contains, append-nil, refl, ap, subst, ◌∙◌, arith}
use Rattle.std.specs.List.{AllByRecursion}
use Rattle.std.proofs.Math.Seq.{take-nil}
use Rattle.slot_order.proofs.Lists.{AllByRecursion-member}
use Rattle.slot_pool.specs.Arrangement.{Slots}
use Rattle.rule_model.specs.declared.Field.TheVariants.{Src, Dst}
use Rattle.rule_model.specs.declared.Rule.{Rule}
use Rattle.rule_store.specs.declared.Mode.{Mode}
use Rattle.rule_store.specs.Store.{StoredRules}
use Rattle.rule_store.specs.Verdict.{coded_ranges, pieces_of}
use Rattle.rule_model.specs.Entry.{RankedPiece}
use Rattle.range_bits.proofs.Given.{kept_ranges-parts}
use Rattle.tcam_device.specs.State.{State, on_device}
use Rattle.tcam_device.specs.Order.{IsOrdered}
use Rattle.commit_writes.specs.Bits.{FieldBits, bits_left}
use Rattle.commit_writes.specs.InFlight.{ArePartOf, ServesLive, TestsLive}
use Rattle.commit_writes.specs.Segments.{IsAtRest}
use Rattle.commit_writes.specs.Serving.{AreServing, AreTranslated}
use Rattle.commit_writes.specs.Shape.{set_pieces}
use Rattle.commit_writes.specs.Planned.{IsServedBy}
use Rattle.commit_writes.proofs.AtRest.{rests_on_wider_devices}
use Rattle.commit_writes.proofs.LiveBits.{chosen_live, tests_live}
use Rattle.commit_writes.proofs.LiveRanges.{translated}
use Rattle.commit_writes.proofs.SetPieces.{set_served}
use Rattle.batch_order.specs.declared.Placement.{Placement}
use Rattle.batch_order.specs.declared.held.Held.{Held}
use Rattle.batch_order.specs.declared.translation.Translation.{Translation}
use Rattle.batch_order.specs.Entries.{Entries}
use Rattle.batch_order.specs.Going.{around}
use Rattle.batch_order.specs.Kept.{IsManaged, bits_of, current_of, held_of, mode_of, settled_state, state_of, tables_of}
use Rattle.batch_order.specs.Steps.{ServesNow}
use Rattle.batch_order.specs.Turning.{IsHeldRight}
use Rattle.batch_order.proofs.served.Answered.{idle_writes}
use Rattle.batch_order.proofs.under_way.Carried.{view_of}
use Rattle.batch_order.proofs.under_way.Going.{stands}
use Rattle.batch_order.proofs.planning.Translated.{bits_same, serving_of, settled_is}

-- the ranges that are left are live before, at the same bits
pub left_part : (rules : List Rule) (bits : FieldBits) → ArePartOf (bits_left rules bits) bits
left_part rules bits = record {
  src = λ bit range live. ((kept_ranges-parts bits.src (coded_ranges Src rules) bit range).0 live).0;
  dst = λ bit range live. ((kept_ranges-parts bits.dst (coded_ranges Dst rules) bit range).0 live).0;
}

-- a device at rest serves the live ranges
rest_serves : (mode : Mode) (bits : FieldBits) (rules : List Rule) (state : State) → IsAtRest mode bits rules state → ServesLive bits state
rest_serves mode bits rules state rest =
    let serving : AreServing mode bits rules state = serving_of mode bits rules state rest.bits_are in
    let right : AreTranslated state bits = translated mode bits rules state serving in
    let served : AllByRecursion (IsServedBy state) (set_pieces mode bits rules) = set_served mode bits state rules serving rest.right in
    record {
      src_words = rest.is_state.src_words;
      dst_words = rest.is_state.dst_words;
      src_right = right.src;
      dst_right = right.dst;
      tested = λ at entry held.
          let known = rest.ordered.known at entry held in
          subst (TestsLive bits) known.2
          (tests_live bits state known.0 (AllByRecursion-member (IsServedBy state) (set_pieces mode bits rules) known.0 served known.1)
          (chosen_live bits (pieces_of mode) rules known.0 known.1));
    }

-- a manager without a commit under way has its device at rest
pub rests : (translation : Option Translation) (rules : StoredRules) (kept : Entries) (slots : Slots) → IsManaged translation rules kept slots None
    → IsAtRest (mode_of translation) (bits_of translation) rules.rules (settled_state translation kept.entries slots)
rests translation rules kept slots managed = record {
  is_set = managed.is_set;
  right = managed.right;
  is_state = settled_is translation kept.entries slots managed.tables;
  bits_are = bits_same (mode_of translation) (bits_of translation) rules.rules (tables_of translation) (settled_state translation kept.entries slots) record { src = refl; dst = refl } managed.translated;
  ordered =
      let first = (idle_writes translation rules kept slots managed).order.inserting 0 (omega arith) in
      let pieces = set_pieces (mode_of translation) (bits_of translation) rules.rules in
      subst (λ (some : List RankedPiece). IsOrdered (settled_state translation kept.entries slots) (Contains some)) (ap (λ (more : List RankedPiece). pieces ++ more) (take-nil first.0) ∙ append-nil pieces) first.1.ordered;
}

-- so a manager's device serves the ranges that words are current for now
pub serves_now : (placement : Placement) (translation : Option Translation) (rules : StoredRules) (kept : Entries) (slots : Slots) (held : Option Held) → IsManaged translation rules kept slots held
    → ServesNow (view_of placement translation rules kept slots held)
serves_now placement translation rules kept slots None managed device_slots wide =
    rest_serves (mode_of translation) (bits_of translation) rules.rules (on_device device_slots (settled_state translation kept.entries slots))
    (rests_on_wider_devices (mode_of translation) (bits_of translation) rules.rules (settled_state translation kept.entries slots) device_slots (rests translation rules kept slots managed))
serves_now placement translation rules kept slots (Some held) managed device_slots wide =
    (stands (around (length slots) rules.rules (bits_of translation) (held_of translation slots rules.rules kept.entries held)) (current_of translation held) (state_of translation kept.entries slots (Some held))
    (held_of translation slots rules.rules kept.entries held).actions managed.carried.going.goes).serves device_slots wide

pub right_now : (placement : Placement) (translation : Option Translation) (rules : StoredRules) (kept : Entries) (slots : Slots) (held : Option Held) → IsManaged translation rules kept slots held
    → IsHeldRight (view_of placement translation rules kept slots held)
right_now placement translation rules kept slots None managed = tt
right_now placement translation rules kept slots (Some held) managed = managed.carried.going.right
