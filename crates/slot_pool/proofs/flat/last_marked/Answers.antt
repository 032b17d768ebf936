use Rattle.std.proofs.Common.{arith, ◌-◌}
use Rattle.slot_pool.proofs.FlatRows.{down_none, down_some}
use Rattle.slot_pool.proofs.flat.last_marked.Goals as goal

pub returns-then-from-at : goal.returns-then-from-at
returns-then-from-at c =
    let i = c.loop-word.invariant in
    let h = down_some c.args.words.now c.args.to (c.loop-word.word - 1) c.loop-word.end c.in-Some.bit (λ k low high. i.none k (omega arith) high) i.bit c.in-Some.ensures in
    (c.if-from-at.true, (let high = c.in-Some.ensures.0 in let end = i.end in omega arith), h.0, λ k low high. h.1 k (omega arith) high)

pub returns-else-from-at : goal.returns-else-from-at
returns-else-from-at c = λ k low high.
    (down_some c.args.words.now c.args.to (c.loop-word.word - 1) c.loop-word.end c.in-Some.bit (λ k low high. c.loop-word.invariant.none k (omega arith) high) c.loop-word.invariant.bit c.in-Some.ensures).1 k (omega arith) high

pub loop-word-preserved : goal.loop-word-preserved
loop-word-preserved c = record {
  bit = omega arith;
  end = omega arith;
  none = λ k low high. down_none c.args.words.now c.args.to (c.loop-word.word - 1) c.loop-word.end (λ k low high. c.loop-word.invariant.none k (omega arith) high) c.loop-word.invariant.bit c.in_default.ensures k (omega arith) high;
}
