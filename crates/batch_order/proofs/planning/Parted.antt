-- What a sound batch inserts and rewrites has entries where the tables serve its rules, and what it rewrites and erases has
-- ids.
use Rattle.std.proofs.Common.{List, Contains, ◌++◌, ◌∙◌}
use Rattle.std.specs.List.{AllByRecursion}
use Rattle.slot_order.proofs.Lists.{AllByRecursion-member}
use Rattle.rule_model.specs.declared.Rule.{Rule}
use Rattle.rule_store.specs.declared.Mode.{Mode}
use Rattle.rule_store.specs.declared.Command.{Command}
use Rattle.rule_store.specs.Batch.{additions, set_after}
use Rattle.rule_model.specs.Entry.{RankedPiece, IsEncodable}
use Rattle.placement.specs.declared.LivePiece.{LivePiece}
use Rattle.tcam_device.specs.State.{State}
use Rattle.commit_writes.specs.Bits.{FieldBits}
use Rattle.commit_writes.specs.Planned.{IsServedBy}
use Rattle.commit_writes.specs.Serving.{AreServing}
use Rattle.commit_writes.specs.Shape.{set_pieces, inserted_pieces, rewritten_pieces, erased_pieces}
use Rattle.commit_writes.proofs.Filters.{all_members}
use Rattle.commit_writes.proofs.BatchRules.{IsSoundChange}
use Rattle.commit_writes.proofs.PieceChanges.{inserted_stays}
use Rattle.commit_writes.proofs.BatchPieces.{after_served, rewritten_was, rewritten_stays, erased_was}
use Rattle.batch_order.specs.Entries.{HasId, HaveIds}

module _ (mode : Mode) (bits : FieldBits) (rules : List Rule) (batch : List Command) (change : IsSoundChange rules batch) where
  stays_encodable : (state : State) → AreServing mode bits (rules ++ additions batch) state → (ranked : RankedPiece)
      → Contains (set_pieces mode bits (set_after rules batch)) ranked → IsEncodable ranked.piece
  stays_encodable state serving ranked member =
      (AllByRecursion-member (IsServedBy state) (set_pieces mode bits (set_after rules batch)) ranked (after_served mode bits state rules batch change serving) member).encodable

  -- what goes in has entries, and so has what is rewritten
  pub inserted_encodable : (state : State) → AreServing mode bits (rules ++ additions batch) state
      → AllByRecursion (λ ranked. IsEncodable ranked.piece) (inserted_pieces mode bits rules batch)
  inserted_encodable state serving = all_members (λ (ranked : RankedPiece). IsEncodable ranked.piece) (inserted_pieces mode bits rules batch)
      (λ ranked member. stays_encodable state serving ranked (inserted_stays mode bits rules batch change ranked member).0)

  pub rewritten_encodable : (state : State) → AreServing mode bits (rules ++ additions batch) state
      → AllByRecursion (λ ranked. IsEncodable ranked.piece) (rewritten_pieces mode bits rules batch)
  rewritten_encodable state serving = all_members (λ (ranked : RankedPiece). IsEncodable ranked.piece) (rewritten_pieces mode bits rules batch)
      (λ ranked member. stays_encodable state serving ranked (rewritten_stays mode bits rules batch change ranked member))

  -- what is rewritten has an id where the set's pieces have one, and so has what goes
  pub rewritten_have_ids : (live : List LivePiece) → HaveIds live (set_pieces mode bits rules) → HaveIds live (rewritten_pieces mode bits rules batch)
  rewritten_have_ids live all = all_members (HasId live) (rewritten_pieces mode bits rules batch) (λ ranked member.
      let (was, before, piece, rank) = rewritten_was mode bits rules batch change ranked member in
      let (one, lives, one_piece, one_rank) = AllByRecursion-member (HasId live) (set_pieces mode bits rules) was all before in
      (one, lives, one_piece ∙ piece, one_rank ∙ rank))

  pub erased_have_ids : (live : List LivePiece) → HaveIds live (set_pieces mode bits rules) → HaveIds live (erased_pieces mode bits rules batch)
  erased_have_ids live all = all_members (HasId live) (erased_pieces mode bits rules batch)
      (λ ranked member. AllByRecursion-member (HasId live) (set_pieces mode bits rules) ranked all (erased_was mode bits rules batch change ranked member).0)
