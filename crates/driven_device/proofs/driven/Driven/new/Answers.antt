use Rattle.std.proofs.Common.{◌≤◌, arith, refl}
use Rattle.driven_device.proofs.Kept.{begun, can_not}
use Rattle.driven_device.proofs.driven.Driven.new.Goals as goal

pub invariant_of-result : goal.invariant_of-result
invariant_of-result g c =
    let can = c.can_have.ensures.0 c.if-not-can_have.false in
    let most = can.2 in
    let count = c.slots.ensures in
    let wide : c.args.slots ≤ (g.D.Writable.view c.args.device).slots = omega arith in
    begun c.args.slots c.args.mode c.args.placement c.in-Ok.manager (g.D.Writable.view c.args.device)
    c.in-Ok.ensures.fresh c.in-Ok.ensures.on_blank c.requires.blank wide

pub returns-then-not-can_have-clause-fault : goal.returns-then-not-can_have-clause-fault
returns-then-not-can_have-clause-fault g c =
    (refl, can_not c.can_have.result c.args.slots c.slots.result (g.D.Writable.view c.args.device).slots c.can_have.ensures c.slots.ensures c.if-not-can_have.true)
