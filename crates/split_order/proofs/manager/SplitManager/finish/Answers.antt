use Rattle.std.proofs.Common.{◌≡◌, refl, sym, ap, subst}
use Rattle.commit_writes.specs.InFlight.{ArePartOf}
use Rattle.batch_order.specs.Managed.{Managed, live_now}
use Rattle.split_order.specs.Kept.{IsSplitKept}
use Rattle.split_order.specs.Managed.{SplitManaged, at_rest}
use Rattle.split_order.specs.Steps.{Ends}
use Rattle.split_order.specs.declared.SplitStep.TheVariants as step
use Rattle.split_order.proofs.Live.{ends_current, same_current}
use Rattle.split_order.proofs.Rested.{finish_held, finish_idle}
use Rattle.split_order.proofs.manager.SplitManager.finish.Goals as goal

pub invariant_of-self : goal.invariant_of-self
invariant_of-self c =
    let i = c.self.inside in
    let m : SplitManaged = record { whole = i.whole; events = i.events.items; made = i.progress.made; begun = i.progress.begun; counts = i.progress.counts } in
    (finish_held i.since i.progress.left m c.self.invariant (rw (← c.self.view_is) at c.requires) c.pass.result c.pass.new.self _ c.pass.ensures c.in-Finished.is).0

pub returns-in-Finished-clause-ends : goal.returns-in-Finished-clause-ends
returns-in-Finished-clause-ends c =
    let i = c.self.inside in
    let m : SplitManaged = record { whole = i.whole; events = i.events.items; made = i.progress.made; begun = i.progress.begun; counts = i.progress.counts } in
    let view : m ≡ c.args.self.now = c.self.view_is in
    let ends : Ends m m.whole.held (step.Finished m.counts) (at_rest c.pass.new.self i.events.items) =
    (finish_held i.since i.progress.left m c.self.invariant (rw (← c.self.view_is) at c.requires) c.pass.result c.pass.new.self _ c.pass.ensures c.in-Finished.is).1 in
    subst (λ (old : SplitManaged). Ends old old.whole.held (step.Finished m.counts) (at_rest c.pass.new.self i.events.items)) view ends

pub invariant_of-self-in_default : goal.invariant_of-self-in_default
invariant_of-self-in_default c =
    let i = c.self.inside in
    let m : SplitManaged = record { whole = i.whole; events = i.events.items; made = i.progress.made; begun = i.progress.begun; counts = i.progress.counts } in
    let same = finish_idle i.since i.progress.left m c.self.invariant (rw (← c.self.view_is) at c.requires) c.pass.result c.pass.new.self c.pass.ensures c.in_default.not-Finished in
    subst (λ (w : Managed). IsSplitKept i.since i.progress.left (record { whole = w; events = i.events.items; made = i.progress.made; begun = i.progress.begun; counts = i.progress.counts })) (sym same.0) c.self.invariant

pub returns-in_default-clause-ends : goal.returns-in_default-clause-ends
returns-in_default-clause-ends c =
    let i = c.self.inside in
    let m : SplitManaged = record { whole = i.whole; events = i.events.items; made = i.progress.made; begun = i.progress.begun; counts = i.progress.counts } in
    let same = finish_idle i.since i.progress.left m c.self.invariant (rw (← c.self.view_is) at c.requires) c.pass.result c.pass.new.self c.pass.ensures c.in_default.not-Finished in
    let new : SplitManaged = record { whole = c.pass.new.self; events = i.events.items; made = i.progress.made; begun = i.progress.begun; counts = i.progress.counts } in
    let stays : new ≡ m = ap (λ (w : Managed). record { whole = w; events = i.events.items; made = i.progress.made; begun = i.progress.begun; counts = i.progress.counts }) same.0 in
    let ends : Ends m m.whole.held step.Idle new = subst (λ h. Ends m h step.Idle new) (sym same.1) (refl, stays) in
    let view : m ≡ c.args.self.now = c.self.view_is in
    subst (λ (old : SplitManaged). Ends old old.whole.held step.Idle new) view ends

pub returns-in-Finished-clause-current : goal.returns-in-Finished-clause-current
returns-in-Finished-clause-current c =
    let i = c.self.inside in
    let m : SplitManaged = record { whole = i.whole; events = i.events.items; made = i.progress.made; begun = i.progress.begun; counts = i.progress.counts } in
    let view : m ≡ c.args.self.now = c.self.view_is in
    subst (λ (old : SplitManaged). ArePartOf (live_now c.pass.new.self) (live_now old.whole)) view
    (ends_current i.whole c.pass.result c.pass.new.self _ c.serving.ensures.right c.pass.ensures c.in-Finished.is)

pub returns-in_default-clause-current : goal.returns-in_default-clause-current
returns-in_default-clause-current c =
    let i = c.self.inside in
    let m : SplitManaged = record { whole = i.whole; events = i.events.items; made = i.progress.made; begun = i.progress.begun; counts = i.progress.counts } in
    let same = finish_idle i.since i.progress.left m c.self.invariant (rw (← c.self.view_is) at c.requires) c.pass.result c.pass.new.self c.pass.ensures c.in_default.not-Finished in
    let view : m ≡ c.args.self.now = c.self.view_is in
    subst (λ (old : SplitManaged). ArePartOf (live_now c.pass.new.self) (live_now old.whole)) view (same_current i.whole c.pass.new.self same.0)
