use Rattle.std.proofs.Common.{ℕ, ◌<◌, ◌≤◌, ◌-◌, length, get_or}
use Rattle.counted_blocks.specs.Counted.{items_of, start_of}
use Rattle.rule_model.specs.declared.Rule.{Rule}
use Rattle.rule_store.specs.Store.{rules_under}
use Rattle.rule_store.proofs.search.block_of.Given as goal

abbrev pub invariant-loop-low : goal.invariant-loop-low
invariant-loop-low l = record {
  least : 1 ≤ l.low;
  ordered : l.low ≤ l.high;
  within : l.high ≤ length l.order.blocks;
  above : (k : ℕ) (none : Rule) → k < start_of l.order.blocks (l.low - 1) → l.priority < (get_or (rules_under l.rules (items_of l.order.blocks)) k none).priority;
  below : (k : ℕ) (none : Rule) → start_of l.order.blocks l.high ≤ k → k < length (items_of l.order.blocks) → (get_or (rules_under l.rules (items_of l.order.blocks)) k none).priority ≤ l.priority;
}

abbrev pub decreases-loop-low : goal.decreases-loop-low
decreases-loop-low l = l.high - l.low
