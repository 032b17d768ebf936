use Rattle.std.proofs.Common.{arith}
use Rattle.slot_pool.proofs.FlatRows.{up_none, up_some}
use Rattle.slot_pool.proofs.flat.next_marked.Goals as goal

pub returns-then-at-to : goal.returns-then-at-to
returns-then-at-to c =
    let i = c.loop-word.invariant in
    let h = up_some c.args.words.now c.args.from c.loop-word.word c.loop-word.first c.in-Some.bit i.none c.in-Some.ensures in
    (let low = c.in-Some.ensures.0 in let start = i.start in omega arith, c.if-at-to.true, h.0, h.1)

pub returns-else-at-to : goal.returns-else-at-to
returns-else-at-to c = λ k low high.
    (up_some c.args.words.now c.args.from c.loop-word.word c.loop-word.first c.in-Some.bit c.loop-word.invariant.none c.in-Some.ensures).1 k low (omega arith)

pub loop-word-preserved : goal.loop-word-preserved
loop-word-preserved c = record {
  bit = omega arith;
  start = omega arith;
  none = λ k low high. up_none c.args.words.now c.args.from c.loop-word.word c.loop-word.first c.loop-word.invariant.none c.in_default.ensures k low (omega arith);
}
