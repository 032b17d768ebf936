use Rattle.std.proofs.Common.{[], ◌∷◌, take, sym, subst}
use Rattle.std.specs.List.{AllByRecursion}
use Rattle.slot_order.proofs.Lists.{all_append}
use Rattle.rule_model.specs.Rule.{HasConditions}
use Rattle.rule_store.proofs.Sums.{take-read}
use Rattle.replay.proofs.early.right_rules.Goals as goal

pub loop-place-preserved : goal.loop-place-preserved
loop-place-preserved c =
    subst (λ rules. AllByRecursion HasConditions rules) (sym (take-read c.args.rules.now.rules c.loop-place.place c.at.result.now c.at.ensures))
    (all_append HasConditions (take c.loop-place.place c.args.rules.now.rules) (c.at.result.now ∷ []) c.loop-place.invariant (c.rule_conditions.ensures, tt))
