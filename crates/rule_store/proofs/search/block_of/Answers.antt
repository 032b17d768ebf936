use Rattle.std.proofs.Common.{ℕ, ◌≡◌, ◌+◌, ◌-◌, ◌/◌, ◌<◌, ◌≤◌, length, ap, sym, ◌∙◌, arith}
use Rattle.counted_blocks.specs.Counted.{items_of, start_of}
use Rattle.rule_model.specs.declared.Rule.{Rule}
use Rattle.rule_store.specs.Store.{rules_under}
use Rattle.rule_store.proofs.Ranks.{below-lt, least-lt}
use Rattle.rule_store.proofs.Sets.{above-middle, below-middle}
use Rattle.rule_store.proofs.Slots.{block-keyed, block-under, block-within, count-under}
use Rattle.rule_store.proofs.search.block_of.Goals as goal

pub bounds-rules-item : goal.bounds-rules-item
bounds-rules-item c =
    let high = c.loop-low.invariant.within in
    block-keyed c.args.rules.now c.args.order.now.blocks _ 0 c.item-item.result c.requires.keyed (omega arith) c.item-item.ensures

pub loop-low-preserved-then-lt : goal.loop-low-preserved-then-lt
loop-low-preserved-then-lt c =
    let blocks = c.args.order.now.blocks in
    let rules = rules_under c.args.rules.now (items_of blocks) in
    let middle : ℕ = c.loop-low.low + (c.loop-low.high - c.loop-low.low) / 2 in
    let high = c.loop-low.invariant.within in
    let within : middle < length blocks = omega arith in
    let rule = c.index-rules-item.result in
    let inside = block-within blocks middle 0 c.item-item.result within c.item-item.ensures in
    let count = count-under c.args.rules.now (items_of blocks) in
    let read = block-under c.args.rules.now blocks middle 0 c.item-item.result rule rule c.requires.keyed within c.item-item.ensures c.index-rules-item.is in
    let same_rule = ap (λ (r : Rule). r.priority) c.index-rules-item.is in
    let below = below-lt c.args.priority _ (sym c.lt.ensures ∙ c.if-lt.true) in
    let least : c.args.priority < rule.priority = omega arith in
    let back : middle + 1 - 1 ≡ middle = omega arith in
    let same = ap (start_of blocks) back in
    record {
      least = omega arith;
      ordered = omega arith;
      within = high;
      above = λ k none to. above-middle rules c.args.priority (start_of blocks middle + 0) rule c.requires.falling (omega arith) read least k none (omega arith);
      below = c.loop-low.invariant.below;
    }

pub loop-low-preserved : goal.loop-low-preserved
loop-low-preserved c =
    let blocks = c.args.order.now.blocks in
    let rules = rules_under c.args.rules.now (items_of blocks) in
    let middle : ℕ = c.loop-low.low + (c.loop-low.high - c.loop-low.low) / 2 in
    let high = c.loop-low.invariant.within in
    let within : middle < length blocks = omega arith in
    let rule = c.index-rules-item.result in
    let inside = block-within blocks middle 0 c.item-item.result within c.item-item.ensures in
    let count = count-under c.args.rules.now (items_of blocks) in
    let read = block-under c.args.rules.now blocks middle 0 c.item-item.result rule rule c.requires.keyed within c.item-item.ensures c.index-rules-item.is in
    let same_rule = ap (λ (r : Rule). r.priority) c.index-rules-item.is in
    let not_below = least-lt c.args.priority _ (sym c.lt.ensures ∙ c.if-lt.false) in
    let least : rule.priority ≤ c.args.priority = omega arith in
    record {
      least = c.loop-low.invariant.least;
      ordered = omega arith;
      within = omega arith;
      above = c.loop-low.invariant.above;
      below = λ k none from to. below-middle rules c.args.priority (start_of blocks middle + 0) rule c.requires.falling (omega arith) read least k none (omega arith) (omega arith);
    }
