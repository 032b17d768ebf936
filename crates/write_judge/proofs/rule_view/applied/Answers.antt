use Rattle.std.proofs.Common.{◌∙◌, List, ap, subst, sym}
use Rattle.rule_model.specs.declared.Rule.{Rule}
use Rattle.rule_store.specs.declared.Command.{Command}
use Rattle.rule_store.specs.Batch.{IsSound, set_after}
use Rattle.write_judge.proofs.rule_view.applied.Goals as goal

pub apply-requires-clause-sound : goal.apply-requires-clause-sound
apply-requires-clause-sound c =
    subst (λ (rules : List Rule). IsSound rules c.in_ok-commands.commands) (sym c.reserve.ensures.rules)
    (subst (λ (batch : List Command). IsSound c.args.rules.now.rules batch) (sym c.in_ok-commands.ensures) c.requires)

pub returns : goal.returns
returns c =
    c.apply.ensures.rules ∙ ap (λ (rules : List Rule). set_after rules c.in_ok-commands.commands) c.reserve.ensures.rules
    ∙ ap (λ (batch : List Command). set_after c.args.rules.now.rules batch) c.in_ok-commands.ensures
