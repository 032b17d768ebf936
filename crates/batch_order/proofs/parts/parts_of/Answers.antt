use Rattle.std.proofs.Common.{◌∙◌, List, subst, sym}
use Rattle.std.specs.List.{AllByRecursion, AllZip}
use Rattle.rule_model.specs.Entry.{RankedPiece, IsEncodable}
use Rattle.commit_writes.specs.PlannedBatch.{IsIdOf, IsRewriteOf}
use Rattle.commit_writes.proofs.BatchRules.{IsSoundChange}
use Rattle.commit_writes.specs.Changes.{coded_by, during_of}
use Rattle.batch_order.specs.Entries.{HaveIds}
use Rattle.batch_order.proofs.planning.Parted.{rewritten_have_ids, erased_have_ids}
use Rattle.batch_order.proofs.parts.parts_of.Goals as goal

pub rewrites-requires : goal.rewrites-requires
rewrites-requires c =
    let rules = c.args.rules.now.rules in
    let batch = c.args.batch.now in
    let change : IsSoundChange rules batch = record { is_set = c.requires.is_set; right = c.requires.right; changes = c.requires.changes; sound = c.requires.sound } in
    let all = c.deref.ensures.value ∙ c.in_ok-pieces.ensures.rewritten in
    record {
      encodable = subst (AllByRecursion (λ (ranked : RankedPiece). IsEncodable ranked.piece)) (sym all) c.requires.encodable;
      live = subst (HaveIds c.args.live.now.live) (sym all) (rewritten_have_ids (coded_by c.args.bits.now) (during_of c.args.bits.now) rules batch change c.args.live.now.live c.requires.live);
    }

pub ids_of-requires : goal.ids_of-requires
ids_of-requires c =
    let rules = c.args.rules.now.rules in
    let batch = c.args.batch.now in
    let change : IsSoundChange rules batch = record { is_set = c.requires.is_set; right = c.requires.right; changes = c.requires.changes; sound = c.requires.sound } in
    record { live = subst (HaveIds c.args.live.now.live) (sym (c.deref-2.ensures.value ∙ c.in_ok-pieces.ensures.erased)) (erased_have_ids (coded_by c.args.bits.now) (during_of c.args.bits.now) rules batch change c.args.live.now.live c.requires.live) }

pub returns : goal.returns
returns c =
    let live = c.args.live.now.live in
    record {
      inserted = c.in_ok-pieces.ensures.inserted;
      rewrites = subst (λ (some : List RankedPiece). AllZip (IsRewriteOf live) some c.in_ok-rewrites.rewrites.items) (c.deref.ensures.value ∙ c.in_ok-pieces.ensures.rewritten) c.in_ok-rewrites.ensures;
      erased = subst (λ (some : List RankedPiece). AllZip (IsIdOf live) some c.in_ok-erased.erased.items) (c.deref-2.ensures.value ∙ c.in_ok-pieces.ensures.erased) c.in_ok-erased.ensures;
    }
