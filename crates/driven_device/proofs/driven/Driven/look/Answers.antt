use Rattle.driven_device.proofs.Kept.{answers_old_or_new, answers_rules, served}
use Rattle.driven_device.proofs.driven.Driven.look.Goals as goal

pub returns-clause-rules : goal.returns-clause-rules
returns-clause-rules g c =
    let manager = c.self.inside.manager in
    let device = g.D.Writable.view c.self.inside.device in
    rw (← c.self.view_is) (λ idle. answers_rules manager device c.args.key.now c.look.result c.key_fields.ensures
    (served manager device c.self.invariant c.serving.ensures.serves) c.look.ensures idle)

pub returns-clause-old_or_new : goal.returns-clause-old_or_new
returns-clause-old_or_new g c =
    let manager = c.self.inside.manager in
    let device = g.D.Writable.view c.self.inside.device in
    rw (← c.self.view_is) (answers_old_or_new manager device c.args.key.now c.look.result c.key_fields.ensures
    (served manager device c.self.invariant c.serving.ensures.serves) c.look.ensures)
