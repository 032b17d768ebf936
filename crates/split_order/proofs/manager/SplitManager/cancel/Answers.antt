use Rattle.std.proofs.Common.{◌≡◌, true, ◌∙◌, ap}
use Rattle.batch_order.specs.Steps.{cancelled}
use Rattle.split_order.proofs.Calls.{drop_kept}
use Rattle.split_order.proofs.manager.SplitManager.cancel.Goals as goal

pub invariant_of-self-2 : goal.invariant_of-self-2
invariant_of-self-2 c =
    let i = c.self.inside in
    let did : c.cancel.result ≡ true = cc in
    drop_kept i.since i.progress.left _ c.self.invariant c.if-self.false c.cancel.new.self (c.cancel.ensures.dropped ∙ ap (λ b. cancelled b i.whole) did)
