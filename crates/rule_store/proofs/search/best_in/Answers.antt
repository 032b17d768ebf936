use Rattle.std.proofs.Common.{◌≡◌, ◌+◌, ℕ, ap, sym, ◌∙◌, drop, arith}
use Rattle.counted_blocks.specs.Counted.{items_of, start_of}
use Rattle.rule_model.specs.RuleSet.{best_rule}
use Rattle.rule_store.specs.Store.{rules_under}
use Rattle.rule_store.proofs.Best.{best-at, best-past}
use Rattle.rule_store.proofs.Slots.{block-keyed, block-under, block-within, count-under}
use Rattle.rule_store.proofs.search.best_in.Goals as goal

pub bounds-rules-item : goal.bounds-rules-item
bounds-rules-item c =
    block-keyed c.args.rules.now c.args.order.now.blocks c.args.block c.loop-i.i c.item.result c.requires.keyed c.requires.block c.item.ensures

pub returns-then-matches : goal.returns-then-matches
returns-then-matches c =
    let blocks = c.args.order.now.blocks in
    let rules = rules_under c.args.rules.now (items_of blocks) in
    let place : ℕ = start_of blocks c.args.block + c.loop-i.i in
    let rule = c.index-rules-item.result in
    let inside = block-within blocks c.args.block c.loop-i.i c.item.result c.requires.block c.item.ensures in
    let count = count-under c.args.rules.now (items_of blocks) in
    let read = block-under c.args.rules.now blocks c.args.block c.loop-i.i c.item.result rule rule c.requires.keyed c.requires.block c.item.ensures c.index-rules-item.is in
    c.loop-i.invariant ∙ best-at rules c.args.key.now place rule c.requires.falling (omega arith) read (sym c.matches.ensures ∙ c.if-matches.true)

pub loop-i-preserved : goal.loop-i-preserved
loop-i-preserved c =
    let blocks = c.args.order.now.blocks in
    let rules = rules_under c.args.rules.now (items_of blocks) in
    let place : ℕ = start_of blocks c.args.block + c.loop-i.i in
    let rule = c.index-rules-item.result in
    let inside = block-within blocks c.args.block c.loop-i.i c.item.result c.requires.block c.item.ensures in
    let count = count-under c.args.rules.now (items_of blocks) in
    let read = block-under c.args.rules.now blocks c.args.block c.loop-i.i c.item.result rule rule c.requires.keyed c.requires.block c.item.ensures c.index-rules-item.is in
    let next : place + 1 ≡ start_of blocks c.args.block + (c.loop-i.i + 1) = omega arith in
    c.loop-i.invariant
    ∙ best-past rules c.args.key.now place rule (omega arith) read (sym c.matches.ensures ∙ c.if-matches.false)
    ∙ ap (λ (n : ℕ). best_rule (drop n rules) c.args.key.now) next
