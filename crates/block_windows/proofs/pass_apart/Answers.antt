use Rattle.std.proofs.Common.{arith, sym, ◌∙◌}
use Rattle.block_windows.specs.Windows.{meets_at}
use Rattle.eight_lanes.proofs.Lanes.{none_further}
use Rattle.block_windows.proofs.pass_apart.Goals as goal

pub loop-next-preserved : goal.loop-next-preserved
loop-next-preserved c = record {
  from = omega arith;
  inside = omega arith;
  passed = none_further (meets_at c.args.firsts.now c.args.lasts.now c.args.span) c.args.at c.loop-next.next 8 c.loop-next.invariant.passed
      (λ j l. sym (c.apart_eight.ensures.near j l) ∙ c.first_zero.ensures.before j (omega arith));
}
