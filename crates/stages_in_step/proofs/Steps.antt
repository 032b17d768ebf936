-- The stages of a commit are in step.
use Rattle.std.proofs.Common.{List, Contains, filter, inl, inr}
use Rattle.rule_model.specs.Entry.{RankedPiece}
use Rattle.tcam_device.specs.State.{state_after}
use Rattle.commit_writes.specs.Bits.{bits_with}
use Rattle.commit_writes.specs.Shape.{fresh_writes, set_pieces}
use Rattle.commit_writes.proofs.OnTheWay.{AreOnTheWay}
use Rattle.commit_writes.proofs.BatchRules.{IsSoundChange}
use Rattle.commit_writes.proofs.ServedTables.{IsBitsStart, tables_serve}
use Rattle.readback.specs.Tasks.{commit_pieces, known_pieces, is_told_in}
use Rattle.readback.proofs.Begun.{begun, change_of}
use Rattle.readback.proofs.Facts.{ArePieces}
use Rattle.readback.proofs.Pieces.{pieces_are, pieces_lead}
use Rattle.readback.proofs.Shows.{on_the_way, stage_ordered}
use Rattle.any_order.specs.AnyOrder.{AreInStep}
use Rattle.stages_in_step.specs.InStep.{StagesAreInStep}
use Rattle.rule_store.specs.Batch.{set_after}

in_step : (old new standing : List RankedPiece) → AreOnTheWay old new standing → AreInStep (Contains old) (Contains new) (Contains standing)
in_step old new standing way = record {
  each = λ ranked member. elim (way.each ranked member) [
    | inl is ↦ inl (is.0, λ other among meet. is.1 other among)
    | inr is ↦ inr (is.0, λ other among meet. is.1 other among)
  ];
  no_gap = λ was is in_old in_new meet. elim way.whole [ inl all ↦ inl (all was in_old) | inr all ↦ inr (all is in_new) ];
}

pub stages_step : StagesAreInStep
stages_step slots device_slots mode bits rules batch state can is (done, left, stage) =
    let p = commit_pieces mode bits rules batch in
    let change : IsSoundChange rules batch = change_of mode bits rules batch can in
    let start : IsBitsStart mode bits rules batch state = begun mode bits rules batch device_slots state can is stage.old_words in
    let facts : ArePieces p = pieces_are mode bits rules batch change (state_after state (fresh_writes mode bits rules batch state)) (tables_serve mode bits rules batch state start) in
    let new = set_pieces mode (bits_with mode rules batch bits) (set_after rules batch) in
    let leads = pieces_lead mode bits rules batch change in (
      filter (λ x. is_told_in state.slots x) (known_pieces p),
      stage_ordered slots bits (bits_with mode rules batch bits) p new facts leads state done left stage,
      in_step p.old new (filter (λ x. is_told_in state.slots x) (known_pieces p)) (on_the_way slots bits (bits_with mode rules batch bits) p new facts leads state done left stage),
    )
