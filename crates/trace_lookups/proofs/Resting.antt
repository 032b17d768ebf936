-- A set at rest serves its live ranges, and no piece that a commit is to put in stands yet.
use Rattle.std.proofs.Common.{◌≡◌, List, length, Contains, IsTrue, sym, subst}
use Rattle.std.specs.List.{AllByRecursion}
use Rattle.slot_order.proofs.Lists.{AllByRecursion-member}
use Rattle.rule_model.specs.declared.Rule.{Rule}
use Rattle.rule_model.specs.Entry.{RankedPiece, entry_for, same_match}
use Rattle.rule_store.specs.declared.Mode.{Mode}
use Rattle.rule_store.specs.declared.Mode.TheVariants.{Cover, Bits}
use Rattle.rule_store.specs.declared.Command.{Command}
use Rattle.rule_store.specs.Verdict.{pieces_of}
use Rattle.tcam_device.specs.State.{State, state_after}
use Rattle.commit_writes.specs.Bits.{FieldBits}
use Rattle.commit_writes.specs.InFlight.{ServesLive, TestsLive}
use Rattle.commit_writes.specs.Planned.{IsServedBy}
use Rattle.commit_writes.specs.Segments.{IsAtRest}
use Rattle.commit_writes.specs.Serving.{AreServing, AreTranslated, AreBitsOf}
use Rattle.commit_writes.specs.Shape.{set_pieces, fresh_writes}
use Rattle.commit_writes.proofs.KeptBits.{pieces_same}
use Rattle.commit_writes.proofs.LiveBits.{chosen_live, tests_live}
use Rattle.commit_writes.proofs.LiveRanges.{translated}
use Rattle.commit_writes.proofs.ServedTables.{IsBitsStart, tables_serve}
use Rattle.commit_writes.proofs.SetPieces.{set_served}
use Rattle.readback.specs.Laws.{CanCommit}
use Rattle.readback.specs.Tasks.{CommitPieces, commit_pieces, IsStanding}
use Rattle.readback.proofs.Begun.{begun, change_of}
use Rattle.readback.proofs.Facts.{ArePieces, same_sym, old_known, inserted_known}
use Rattle.readback.proofs.Pieces.{pieces_are}

serving_of : (mode : Mode) (bits : FieldBits) (rules : List Rule) (state : State) → AreBitsOf mode bits rules state → AreServing mode bits rules state
serving_of Cover bits rules state are = are
serving_of Bits bits rules state are = (are.0.serves, are.1.serves)

pub rest_serves : (mode : Mode) (bits : FieldBits) (rules : List Rule) (state : State) → IsAtRest mode bits rules state → ServesLive bits state
rest_serves mode bits rules state rest =
    let serving : AreServing mode bits rules state = serving_of mode bits rules state rest.bits_are in
    let right : AreTranslated state bits = translated mode bits rules state serving in
    let served : AllByRecursion (IsServedBy state) (set_pieces mode bits rules) = set_served mode bits state rules serving rest.right in
    record {
      src_words = rest.is_state.src_words;
      dst_words = rest.is_state.dst_words;
      src_right = right.src;
      dst_right = right.dst;
      tested = λ at entry held.
          let known = rest.ordered.known at entry held in
          subst (TestsLive bits) known.2
          (tests_live bits state known.0 (AllByRecursion-member (IsServedBy state) (set_pieces mode bits rules) known.0 served known.1)
          (chosen_live bits (pieces_of mode) rules known.0 known.1));
    }

module _ (mode : Mode) (bits : FieldBits) (rules : List Rule) (batch : List Command) (state : State) (rest : IsAtRest mode bits rules state) (can : CanCommit mode bits rules batch) where
  abbrev p : CommitPieces
  p = commit_pieces mode bits rules batch

  start : IsBitsStart mode bits rules batch state
  start = begun mode bits rules batch (length state.slots) state can rest.is_state (translated mode bits rules state (serving_of mode bits rules state rest.bits_are))

  facts : ArePieces p
  facts = pieces_are mode bits rules batch (change_of mode bits rules batch can) (state_after state (fresh_writes mode bits rules batch state)) (tables_serve mode bits rules batch state start)

  old_same : p.old ≡ set_pieces mode bits rules
  old_same = pieces_same mode bits rules batch state start

  pub none_put : (x : RankedPiece) → Contains p.inserted x → IsStanding state x → ⊥
  none_put x member (i, s) =
      let w = rest.ordered.known i s.0 s.1 in
      let old : Contains p.old w.0 = subst (λ pieces. Contains pieces w.0) (sym old_same) w.1 in
      facts.new_apart w.0 x old member
      (same_sym x w.0 (facts.apart x w.0 (inserted_known p x member) (old_known p w.0 old) (subst (λ e. IsTrue (same_match (entry_for x) e)) (sym w.2) s.2)))
