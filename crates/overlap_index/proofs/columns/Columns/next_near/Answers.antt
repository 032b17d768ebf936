use Rattle.std.proofs.Common.{◌+◌, arith, inl, inr}
use Rattle.std.proofs.lemmas.Bool.{cases_lt}
use Rattle.overlap_index.specs.Near.{is_near}
use Rattle.eight_lanes.proofs.Lanes.{none_further}
use Rattle.overlap_index.proofs.columns.Columns.next_near.Goals as goal

pub returns-then-before-lt8-clause-passed : goal.returns-then-before-lt8-clause-passed
returns-then-before-lt8-clause-passed c =
    none_further (is_near c.args.self.now c.args.spans) c.args.at c.loop-next.next c.before_near-before.result c.loop-next.invariant.passed c.before_near-before.ensures.before

pub loop-next-preserved : goal.loop-next-preserved
loop-next-preserved c = record {
  from = omega arith;
  inside = c.pass_far-next-in-loop-next.ensures.most;
  passed = λ k above below. elim (cases_lt k (c.loop-next.next + 8)) [
    | inl eight ↦ none_further (is_near c.args.self.now c.args.spans) c.args.at c.loop-next.next 8 c.loop-next.invariant.passed (λ j l. c.before_near-before.ensures.before j (omega arith)) k above eight
    | inr further ↦ c.pass_far-next-in-loop-next.ensures.passed k further below
  ];
}
