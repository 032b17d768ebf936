use Rattle.std.proofs.Common.{◌≡◌, List, ap, ◌∙◌}
use Rattle.rule_model.specs.declared.Rule.{Rule}
use Rattle.rule_model.specs.RuleSet.{answer}
use Rattle.driven_device.proofs.Kept.{answers_device, served}
use Rattle.driven_device.proofs.driven.Driven.answer.Goals as goal

pub returns : goal.returns
returns g c =
    let manager = c.self.inside.manager in
    let device = g.D.Writable.view c.self.inside.device in
    let told : c.best_of.result ≡ answer manager.rules c.args.key.now =
    c.best_of.ensures ∙ ap (λ (rules : List Rule). answer rules c.args.key.now) c.rules.ensures.rules in
    rw (← c.self.view_is) (record {
      rules = told;
      device =
          λ idle. answers_device manager device c.args.key.now c.best_of.result c.key_fields.ensures
          (served manager device c.self.invariant c.serving.ensures.serves) told idle;
    })
