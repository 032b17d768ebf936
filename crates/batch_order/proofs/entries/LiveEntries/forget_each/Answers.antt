use Rattle.std.proofs.Common.{◌∙◌, IsTrue, Option, List, None, take, get_or, set, arith, subst, sym, ap}
use Rattle.rule_model.specs.declared.words.Entry.{Entry}
use Rattle.placement.specs.declared.LivePiece.{LivePiece}
use Rattle.placement.specs.Live.{is_live, without_id}
use Rattle.commit_writes.specs.PlannedBatch.{erased_live}
use Rattle.batch_order.specs.Entries.{KeepEntries}
use Rattle.batch_order.proofs.arranged.Walked.{next_number}
use Rattle.batch_order.proofs.arranged.Erased.{lives_still, erased_more, kept_without}
use Rattle.batch_order.proofs.entries.LiveEntries.forget_each.Goals as goal

pub forget-requires : goal.forget-requires
forget-requires c =
    let before = c.args.self.now.live in
    let done = take c.loop-id.id-index c.args.ids.now in
    let id = get_or c.args.ids.now c.loop-id.id-index 0 in
    let next = next_number (λ other. IsTrue (is_live before other)) c.args.ids.now c.loop-id.id-index c.requires.distinct c.requires.live (omega arith) in
    subst (λ (live : List LivePiece). IsTrue (is_live live id)) (sym c.loop-id.invariant.live) (lives_still before done id next.other next.here)

pub loop-id-preserved : goal.loop-id-preserved
loop-id-preserved c =
    let before = c.args.self.now in
    let now = c.loop-id.self in
    let done = take c.loop-id.id-index c.args.ids.now in
    let id = get_or c.args.ids.now c.loop-id.id-index 0 in
    let next = next_number (λ other. IsTrue (is_live before.live other)) c.args.ids.now c.loop-id.id-index c.requires.distinct c.requires.live (omega arith) in
    let kept : KeepEntries (without_id now.live id) before.entries (set now.entries id None) = kept_without now.live before.entries now.entries id c.loop-id.invariant.kept in
    record {
      live = c.forget.ensures.live ∙ ap (λ (live : List LivePiece). without_id live id) c.loop-id.invariant.live ∙ sym (erased_more before.live done id) ∙ ap (erased_live before.live) (sym next.more);
      kept = subst (λ (live : List LivePiece). KeepEntries live before.entries c.forget.new.self.entries) (sym c.forget.ensures.live)
          (subst (λ (entries : List (Option Entry)). KeepEntries (without_id now.live id) before.entries entries) (sym c.forget.ensures.entries) kept);
      slots = c.forget.ensures.slots ∙ c.loop-id.invariant.slots;
      told = λ slots told. c.forget.ensures.told slots (c.loop-id.invariant.told slots told);
    }
