use Rattle.std.proofs.Common.{◌+◌, ℕ, List, take, arith, subst, sym}
use Rattle.std.specs.List.{AllZip}
use Rattle.commit_writes.specs.PlannedBatch.{IsIdOf}
use Rattle.batch_order.proofs.arranged.Walked.{zip_next}
use Rattle.batch_order.proofs.parts.ids_of.Goals as goal

pub loop-ranked-preserved : goal.loop-ranked-preserved
loop-ranked-preserved c =
    let pieces = c.args.pieces.now in
    let R = IsIdOf c.args.live.now.live in
    let place = c.loop-ranked.ranked-index in
    subst (AllZip R (take (place + 1) pieces)) (sym {A = List ℕ} c.in_ok-push.ensures.items)
    (zip_next R pieces c.loop-ranked.ids.items place c.ranked-item.result c.id_of.result (omega arith) (sym c.ranked-item.is) c.loop-ranked.invariant c.id_of.ensures)
