use Rattle.driven_device.proofs.Kept.{served}
use Rattle.driven_device.proofs.driven.Driven.serving.Goals as goal

pub returns-clause-serves : goal.returns-clause-serves
returns-clause-serves g c =
    rw (← c.self.view_is) (served c.self.inside.manager (g.D.Writable.view c.self.inside.device) c.self.invariant c.serving.ensures.serves)

pub returns-clause-driven : goal.returns-clause-driven
returns-clause-driven g c = rw (← c.self.view_is) c.self.invariant
