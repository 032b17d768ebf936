-- After the last write of a commit the next one may begin, and on a device with more slots, too.
use Rattle.std.proofs.Common.{ℕ, ◌^◌, ◌-◌, ◌<◌, List, length, Contains, refl, sym, ◌∙◌, ap, subst, arith}
use Rattle.std.specs.Prelude.{slice_index}
use Rattle.std.proofs.lemmas.List.Sums.{count_by-le-length}
use Rattle.std.proofs.Math.Seq.{take-length}
use Rattle.rule_model.specs.declared.Field.TheVariants.{Src, Dst}
use Rattle.rule_model.specs.declared.Rule.{Rule}
use Rattle.rule_store.specs.declared.Mode.{Mode}
use Rattle.rule_store.specs.declared.Mode.TheVariants.{Cover, Bits}
use Rattle.rule_store.specs.Batch.{set_after}
use Rattle.rule_store.specs.Verdict.{coded_ranges}
use Rattle.rule_model.specs.Entry.{RankedPiece}
use Rattle.range_bits.proofs.Given.{kept_ranges-parts}
use Rattle.tcam_device.specs.declared.Write.{Write}
use Rattle.tcam_device.specs.State.{State, IsState, state_after, on_device}
use Rattle.tcam_device.specs.Insertion.{is_table_write}
use Rattle.tcam_device.specs.Order.{IsOrdered}
use Rattle.tcam_device.specs.Flight.{writes_in}
use Rattle.tcam_device.proofs.Wider.{IsOrdered-padded}
use Rattle.commit_writes.specs.Bits.{FieldBits, bits_with, bits_left, new_bits}
use Rattle.commit_writes.specs.Actions.{have_bits}
use Rattle.commit_writes.specs.InFlight.{ArePartOf, ServingTo, after_events}
use Rattle.commit_writes.specs.Segments.{CommitsComeToRest, RestsOnWiderDevices}
use Rattle.commit_writes.specs.Serving.{AreBitsOf}
use Rattle.commit_writes.specs.Shape.{set_pieces, fresh_writes}
use Rattle.commit_writes.proofs.Actions.{commits_serve}
use Rattle.commit_writes.proofs.BatchRules.{right_after, set_after-is}
use Rattle.commit_writes.proofs.Current.{are_current_part}
use Rattle.commit_writes.proofs.KeptBits.{pieces_left}
use Rattle.commit_writes.proofs.Searches.{stay_current, state_after-events}
use Rattle.commit_writes.proofs.WritesIn.{writes_of_commit}
use Rattle.commit_writes.proofs.ServedLive.{change_begun, bits_begun, tables_stay}
use Rattle.commit_writes.proofs.ServedTables.{words_done, bits_after}
use Rattle.commit_writes.proofs.SlotWrites.{LeavesTables}

-- with its tables as they were a state is one still
state_left : (before after : State) → IsState (length before.slots) before → LeavesTables before after → IsState (length after.slots) after
state_left before after is left = record {
  size = refl;
  src_size = ap length left.src ∙ is.src_size;
  dst_size = ap length left.dst ∙ is.dst_size;
  src_words = λ port. subst (λ (table : List ℕ). slice_index table port < 2 ^ 16) (sym left.src) (is.src_words port);
  dst_words = λ port. subst (λ (table : List ℕ). slice_index table port < 2 ^ 16) (sym left.dst) (is.dst_words port);
}

-- the ranges that are left are live before, at the same bits
left_part : (rules : List Rule) (bits : FieldBits) → ArePartOf (bits_left rules bits) bits
left_part rules bits = record {
  src = λ bit range live. ((kept_ranges-parts bits.src (coded_ranges Src rules) bit range).0 live).0;
  dst = λ bit range live. ((kept_ranges-parts bits.dst (coded_ranges Dst rules) bit range).0 live).0;
}

pub commits_come_to_rest : CommitsComeToRest
commits_come_to_rest mode bits rules batch line made begin segment =
    let state = line.state in
    let change = change_begun mode bits rules batch state begin in
    let start = bits_begun mode bits rules batch state begin in
    let less = count_by-le-length is_table_write made in
    let left : LeavesTables (state_after state (fresh_writes mode bits rules batch state)) (state_after state made) =
    subst (λ (ws : List Write). LeavesTables (state_after state (fresh_writes mode bits rules batch state)) (state_after state ws)) (take-length made)
    (tables_stay mode bits rules batch state made begin segment (length made) (omega arith)) in (
      record {
        is_set = set_after-is rules batch change;
        right = right_after rules batch change;
        is_state = state_left (state_after state (fresh_writes mode bits rules batch state)) (state_after state made) (words_done mode bits rules batch state start).0 left;
        bits_are = bits_after mode bits rules batch state (state_after state made) start (sym left.src) (sym left.dst);
        ordered = subst (λ (pieces : List RankedPiece). IsOrdered (state_after state made) (Contains pieces)) (sym (pieces_left mode bits rules batch state start)) segment.order.after.ordered;
      },
      λ flight current. are_current_part (bits_left (set_after rules batch) (bits_with mode rules batch bits)) (bits_with mode rules batch bits) flight
          (left_part (set_after rules batch) (bits_with mode rules batch bits)) current,
      λ events actions current may. (
        state_after-events line events ∙ ap (state_after line.state) (ap writes_in actions ∙ writes_of_commit (have_bits (new_bits bits (bits_with mode rules batch bits))) made),
        are_current_part (bits_left (set_after rules batch) (bits_with mode rules batch bits)) (bits_with mode rules batch bits) (after_events line events).flight
            (left_part (set_after rules batch) (bits_with mode rules batch bits))
            (stay_current bits (bits_with mode rules batch bits) line events
            (subst (λ all. ServingTo bits line.state all (bits_with mode rules batch bits)) (sym actions) (commits_serve mode bits rules batch line.state made begin segment).1.0) current may),
      ),
    )

-- empty slots behind the others change nothing
pub rests_on_wider_devices : RestsOnWiderDevices
rests_on_wider_devices mode bits rules state device_slots rest = record {
  is_set = rest.is_set;
  right = rest.right;
  is_state = record {
    size = refl;
    src_size = rest.is_state.src_size;
    dst_size = rest.is_state.dst_size;
    src_words = rest.is_state.src_words;
    dst_words = rest.is_state.dst_words;
  };
  bits_are = same_tables mode rest.bits_are;
  ordered = IsOrdered-padded (device_slots - length state.slots) state (Contains (set_pieces mode bits rules)) rest.ordered;
}
  where
    same_tables : (mode : Mode) → AreBitsOf mode bits rules state → AreBitsOf mode bits rules (on_device device_slots state)
    same_tables Cover are = are
    same_tables Bits are = are
