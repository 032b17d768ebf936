use Rattle.std.proofs.Common.{le_refl}
use Rattle.tcam_c.proofs.Parts.{cancel_told, handled_dropped, under_way_is}
use Rattle.tcam_c.proofs.split.SplitTable.cancel.Goals as goal

pub invariant_of-self : goal.invariant_of-self
invariant_of-self c =
    let i = c.self.inside in
    handled_dropped i.manager c.cancel-dropped.new.self c.cancel-dropped.result i.device.slots i.device.spare i.device.events i.device.flight c.cancel-dropped.ensures.dropped c.self.invariant

pub returns-clause-cancels : goal.returns-clause-cancels
returns-clause-cancels c =
    let m = c.self.inside.manager in
    rw (← c.self.view_is, c.what_became.ensures) (cancel_told m c.cancel-dropped.new.self c.cancel-dropped.result c.is_some-under_way.result c.cancel-dropped.ensures.cancels c.cancel-dropped.ensures.dropped
    (under_way_is m.whole.held _ c.left.result c.is_some-under_way.result c.is_some-under_way.ensures (c.left.ensures m.whole.slots (le_refl _))))

pub returns-clause-before : goal.returns-clause-before
returns-clause-before c = rw (← c.self.view_is) (c.serving.ensures.serves c.self.inside.manager.whole.slots (le_refl _))
