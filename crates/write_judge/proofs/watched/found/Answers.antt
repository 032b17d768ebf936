use Rattle.std.proofs.Common.{◌∙◌, sym, arith}
use Rattle.write_judge.proofs.Lookups.{held_hit, held_miss, none_held}
use Rattle.write_judge.proofs.watched.found.Goals as goal

pub returns-in-Some : goal.returns-in-Some
returns-in-Some c =
    sym (c.loop-held.invariant
    ∙ held_hit c.args.slots.now c.loop-held.held-index c.held-item.result (omega arith) c.held-item.is c.args.word.now c.in-Some.told c.in-Some.ensures)

pub loop-held-preserved : goal.loop-held-preserved
loop-held-preserved c =
    c.loop-held.invariant
    ∙ held_miss c.args.slots.now c.loop-held.held-index c.held-item.result (omega arith) c.held-item.is c.args.word.now c.in-None.ensures

pub returns : goal.returns
returns c = sym (c.loop-held.invariant ∙ none_held c.args.slots.now c.loop-held.held-index c.args.word.now (omega arith))
