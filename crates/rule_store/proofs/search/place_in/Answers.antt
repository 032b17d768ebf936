use Rattle.std.proofs.Common.{ℕ, ◌+◌, ◌-◌, ◌/◌, ◌<◌, ◌≤◌, ap, sym, ◌∙◌, arith}
use Rattle.counted_blocks.specs.Counted.{items_of, start_of}
use Rattle.counted_blocks.proofs.Flat.{count-around}
use Rattle.rule_model.specs.declared.Rule.{Rule}
use Rattle.rule_store.specs.Store.{rules_under}
use Rattle.rule_store.proofs.Ranks.{below-lt, least-lt}
use Rattle.rule_store.proofs.Sets.{above-middle, below-middle}
use Rattle.rule_store.proofs.Slots.{block-keyed, block-under, block-within, count-under}
use Rattle.rule_store.proofs.search.place_in.Goals as goal

pub bounds-rules-item : goal.bounds-rules-item
bounds-rules-item c =
    block-keyed c.args.rules.now c.args.order.now.blocks c.args.block _ c.item-item.result c.requires.keyed c.requires.around.within c.item-item.ensures

pub loop-low-preserved-then-lt : goal.loop-low-preserved-then-lt
loop-low-preserved-then-lt c =
    let blocks = c.args.order.now.blocks in
    let rules = rules_under c.args.rules.now (items_of blocks) in
    let middle : ℕ = c.loop-low.low + (c.loop-low.high - c.loop-low.low) / 2 in
    let place : ℕ = start_of blocks c.args.block + middle in
    let rule = c.index-rules-item.result in
    let inside = block-within blocks c.args.block middle c.item-item.result c.requires.around.within c.item-item.ensures in
    let count = count-under c.args.rules.now (items_of blocks) in
    let read = block-under c.args.rules.now blocks c.args.block middle c.item-item.result rule rule c.requires.keyed c.requires.around.within c.item-item.ensures c.index-rules-item.is in
    let same_rule = ap (λ (r : Rule). r.priority) c.index-rules-item.is in
    let below = below-lt c.args.priority _ (sym c.lt.ensures ∙ c.if-lt.true) in
    let least : c.args.priority < rule.priority = omega arith in
    record {
      ordered = omega arith;
      within = c.loop-low.invariant.within;
      above = λ k none to. above-middle rules c.args.priority place rule c.requires.falling (omega arith) read least k none (omega arith);
      below = c.loop-low.invariant.below;
    }

pub loop-low-preserved : goal.loop-low-preserved
loop-low-preserved c =
    let blocks = c.args.order.now.blocks in
    let rules = rules_under c.args.rules.now (items_of blocks) in
    let middle : ℕ = c.loop-low.low + (c.loop-low.high - c.loop-low.low) / 2 in
    let place : ℕ = start_of blocks c.args.block + middle in
    let high = c.loop-low.invariant.within in
    let rule = c.index-rules-item.result in
    let inside = block-within blocks c.args.block middle c.item-item.result c.requires.around.within c.item-item.ensures in
    let count = count-under c.args.rules.now (items_of blocks) in
    let read = block-under c.args.rules.now blocks c.args.block middle c.item-item.result rule rule c.requires.keyed c.requires.around.within c.item-item.ensures c.index-rules-item.is in
    let same_rule = ap (λ (r : Rule). r.priority) c.index-rules-item.is in
    let not_below = least-lt c.args.priority _ (sym c.lt.ensures ∙ c.if-lt.false) in
    let least : rule.priority ≤ c.args.priority = omega arith in
    record {
      ordered = omega arith;
      within = omega arith;
      above = c.loop-low.invariant.above;
      below = λ k none from to. below-middle rules c.args.priority place rule c.requires.falling (omega arith) read least k none (omega arith) (omega arith);
    }

pub returns-clause-place : goal.returns-clause-place
returns-clause-place c =
    let blocks = c.args.order.now.blocks in
    let count = count-under c.args.rules.now (items_of blocks) in
    let around = count-around blocks c.args.block c.requires.around.within in
    let high = c.loop-low.invariant.within in
    let ordered = c.loop-low.invariant.ordered in
    record {
      within = omega arith;
      above = c.loop-low.invariant.above;
      below = λ k none from to. c.loop-low.invariant.below k none (omega arith) (omega arith);
    }
