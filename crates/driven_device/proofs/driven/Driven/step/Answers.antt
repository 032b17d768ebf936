use Rattle.std.proofs.lemmas.Result.{on_err_weaker}
use Rattle.batch_order.proofs.Leaving.{one_way}
use Rattle.driven_device.proofs.Kept.{stepped}
use Rattle.driven_device.proofs.driven.Driven.step.Goals as goal

pub step-requires-clause-room : goal.step-requires-clause-room
step-requires-clause-room g c = one_way c.self.inside.manager.held (g.D.Writable.view c.self.inside.device).spare c.self.invariant.room

pub invariant_of-self : goal.invariant_of-self
invariant_of-self g c =
    let did = c.step.ensures in
    stepped c.self.inside.manager c.step.new.self (g.D.Writable.view c.self.inside.device) (g.D.Writable.view c.step.new.device)
    c.step.result c.self.invariant did.leaves did.made did.unmade did.stays_on

pub returns-clause-serves_err : goal.returns-clause-serves_err
returns-clause-serves_err g c =
    rw (← c.self.view_is) (on_err_weaker c.step.result (λ served. served c.self.invariant.on) c.step.ensures.serves_err)
