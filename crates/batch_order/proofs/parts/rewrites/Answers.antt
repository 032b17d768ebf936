use Rattle.std.proofs.Common.{◌+◌, List, take, arith, subst, sym}
use Rattle.std.specs.List.{AllZip}
use Rattle.commit_writes.specs.declared.Rewrite.{Rewrite}
use Rattle.commit_writes.specs.PlannedBatch.{IsRewriteOf}
use Rattle.batch_order.proofs.arranged.Walked.{zip_next}
use Rattle.batch_order.proofs.parts.rewrites.Goals as goal

pub loop-ranked-preserved : goal.loop-ranked-preserved
loop-ranked-preserved c =
    let pieces = c.args.pieces.now in
    let R = IsRewriteOf c.args.live.now.live in
    let place = c.loop-ranked.ranked-index in
    subst (AllZip R (take (place + 1) pieces)) (sym {A = List Rewrite} c.in_ok-push.ensures.items)
    (zip_next R pieces c.loop-ranked.rewrites.items place c.ranked-item.result c.rewrite_of.result (omega arith) (sym c.ranked-item.is) c.loop-ranked.invariant c.rewrite_of.ensures)
