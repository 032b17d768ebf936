use Rattle.std.proofs.Common.{List, sym, subst}
use Rattle.std.specs.Prelude.{◌≡◌, IfOk}
use Rattle.rule_model.specs.declared.Rule.{Rule}
use Rattle.rule_store.specs.Batch.{IsSound, set_after}
use Rattle.std.proofs.Common.{◌∙◌, ap}
use Rattle.line_judge.proofs.events.made_ahead.Goals as goal

pub set_behind-requires : goal.set_behind-requires
set_behind-requires c = subst (λ (rules : List Rule). IsSound rules c.args.batch.now) (sym c.rules-known.ensures) c.requires

pub returns-in-Ok-clause-set : goal.returns-in-Ok-clause-set
returns-in-Ok-clause-set c =
    subst (λ (set : List Rule). IfOk c.viewed.result (λ view. view ≡ set)) (c.in-Ok.ensures ∙ ap (λ (rules : List Rule). set_after rules c.args.batch.now) c.rules-known.ensures) c.viewed.ensures.set
