use Rattle.std.proofs.Common.{◌≤◌, ◌^◌, ap, sym, ◌∙◌, arith}
use Rattle.batch_order.specs.Managed.{Managed}
use Rattle.split_order.specs.Managed.{SplitManaged}
use Rattle.split_order.proofs.Judged.{busy_judged, dropped_back, none_left}
use Rattle.split_order.proofs.Live.{plan_current}
use Rattle.split_order.proofs.manager.SplitManager.prepare.Goals as goal

pub returns-in-Some-clause-judged : goal.returns-in-Some-clause-judged
returns-in-Some-clause-judged g c =
    let count = g.D.SplitDevice.slot_count c.args.device.now in
    busy_judged count c.args.self.now c.args.self.now.whole.held c.args.batch.now c.in-Some.left (sym c.in-Some.is ∙ c.left.ensures count c.requires.slots)

pub overflow_mul-counts : goal.overflow_mul-counts
overflow_mul-counts g c = let few : c.in_ok-counts.counts.writes ≤ 2 ^ 41 = c.in_ok-counts.ensures.few in omega arith

pub overflow_add-counts : goal.overflow_add-counts
overflow_add-counts g c = let few : c.in_ok-counts.counts.writes ≤ 2 ^ 41 = c.in_ok-counts.ensures.few in omega arith

pub returns-in-Err-clause-refused : goal.returns-in-Err-clause-refused
returns-in-Err-clause-refused g c =
    let now = c.args.self.now in
    let idle = none_left now c.left.result _ (c.left.ensures now.whole.slots (omega arith)) (λ n is. c.in_default.not-Some n is) in
    dropped_back now c.plan.new.self c.cancel.new.self c.args.batch.now c.in_ok-counts.counts c.cancel.result c.in_ok-counts.ensures.ready idle (c.serving.ensures.rest idle) c.cancel.ensures.cancels c.cancel.ensures.dropped

pub returns-in-Ok-clause-current : goal.returns-in-Ok-clause-current
returns-in-Ok-clause-current g c =
    let now = c.args.self.now in
    let idle = none_left now c.left.result _ (c.left.ensures now.whole.slots (omega arith)) (λ n is. c.in_default.not-Some n is) in
    plan_current now c.plan.new.self c.args.batch.now c.in_ok-counts.counts c.in_ok-counts.ensures.ready idle

-- the slots in use stay
pub returns-in-Err-clause-slots : goal.returns-in-Err-clause-slots
returns-in-Err-clause-slots g c = ap (λ (m : SplitManaged). m.whole.slots) (returns-in-Err-clause-refused g c)

pub returns-in-Ok-clause-slots : goal.returns-in-Ok-clause-slots
returns-in-Ok-clause-slots g c = ap (λ (w : Managed). w.slots) c.in_ok-counts.ensures.ready.whole.1.new_is
