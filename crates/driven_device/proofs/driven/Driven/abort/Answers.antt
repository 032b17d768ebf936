use Rattle.driven_device.proofs.Kept.{aborted, served}
use Rattle.driven_device.proofs.driven.Driven.abort.Goals as goal

pub invariant_of-self : goal.invariant_of-self
invariant_of-self g c =
    aborted c.self.inside.manager c.abort-answer.new.self (g.D.Writable.view c.self.inside.device) c.abort-answer.result c.self.invariant c.abort-answer.ensures.aborts

pub returns-clause-serves : goal.returns-clause-serves
returns-clause-serves g c =
    let device = g.D.Writable.view c.self.inside.device in
    let new = c.abort-answer.new.self in
    served new device (aborted c.self.inside.manager new device c.abort-answer.result c.self.invariant c.abort-answer.ensures.aborts) c.serving.ensures.serves
