use Rattle.std.proofs.Common.{◌≡◌, drop}
use Rattle.counted_blocks.specs.Counted.{items_of, start_of}
use Rattle.rule_model.specs.RuleSet.{best_rule}
use Rattle.rule_store.specs.Store.{rules_under}
use Rattle.rule_store.proofs.stored.Store.best.Given as goal

abbrev pub invariant-loop-block : goal.invariant-loop-block
invariant-loop-block l =
    best_rule (rules_under l.self-inside.rules.items (items_of l.self-inside.order.blocks)) l.key
    ≡ best_rule (drop (start_of l.self-inside.order.blocks l.block) (rules_under l.self-inside.rules.items (items_of l.self-inside.order.blocks))) l.key
