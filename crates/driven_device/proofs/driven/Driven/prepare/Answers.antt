use Rattle.driven_device.proofs.Kept.{kept, served}
use Rattle.driven_device.proofs.driven.Driven.prepare.Goals as goal

pub invariant_of-self : goal.invariant_of-self
invariant_of-self g c =
    let did = c.prepare-answer.ensures in
    kept c.self.inside.manager c.prepare-answer.new.self (g.D.Writable.view c.self.inside.device) (g.D.Writable.view c.prepare-answer.new.device)
    c.self.invariant did.leaves did.others.slots did.stays_on

pub returns-clause-before : goal.returns-clause-before
returns-clause-before g c = rw (← c.self.view_is) (c.prepare-answer.ensures.serves c.self.invariant.on)

pub returns-clause-serves : goal.returns-clause-serves
returns-clause-serves g c =
    let did = c.prepare-answer.ensures in
    let new = c.prepare-answer.new.self in
    let before = g.D.Writable.view c.self.inside.device in
    let after = g.D.Writable.view c.prepare-answer.new.device in
    served new after (kept c.self.inside.manager new before after c.self.invariant did.leaves did.others.slots did.stays_on) c.serving.ensures.serves
