use Rattle.std.proofs.Common.{◌≡◌, ◌+◌, drop}
use Rattle.counted_blocks.specs.Counted.{items_of, start_of}
use Rattle.rule_model.specs.RuleSet.{best_rule}
use Rattle.rule_store.specs.Store.{rules_under}
use Rattle.rule_store.proofs.search.best_in.Given as goal

abbrev pub invariant-loop-i : goal.invariant-loop-i
invariant-loop-i l =
    best_rule (drop (start_of l.order.blocks l.block) (rules_under l.rules (items_of l.order.blocks))) l.key
    ≡ best_rule (drop (start_of l.order.blocks l.block + l.i) (rules_under l.rules (items_of l.order.blocks))) l.key
