use Rattle.std.proofs.Common.{◌≡◌, ◌==◌, ◌+◌, ◌<◌, ℕ, arith, sym, ◌∙◌, ap}
use Rattle.std.specs.Prelude.{◌&&◌, slice_index}
use Rattle.eight_lanes.proofs.Lanes.{none_further}
use Rattle.block_windows.specs.Windows.{meets_at}
use Rattle.trace_check.specs.Columns.{may_meet}
use Rattle.trace_check.proofs.placed.next_meeting.Goals as goal

pub returns-then-before-lt8-clause-passed : goal.returns-then-before-lt8-clause-passed
returns-then-before-lt8-clause-passed c =
    none_further (may_meet c.args.ranks.now c.args.firsts.now c.args.lasts.now c.args.of_ranks c.args.of_windows) c.args.from c.loop-next.next c.first_zero-before.result c.loop-next.invariant.passed
    (λ j l. sym (lane j (omega arith)) ∙ c.first_zero-before.ensures.before j l)
  where
    lane : (j : ℕ) → j < 8 → (slice_index c.also_apart.result j == 0) ≡ may_meet c.args.ranks.now c.args.firsts.now c.args.lasts.now c.args.of_ranks c.args.of_windows (c.loop-next.next + j)
    lane j l = c.also_apart.ensures.near j l ∙ ap (λ b. b && meets_at c.args.firsts.now c.args.lasts.now c.args.of_windows (c.loop-next.next + j)) (c.apart_eight-apart.ensures.near j l)

pub loop-next-preserved : goal.loop-next-preserved
loop-next-preserved c = record {
  from = omega arith;
  most = omega arith;
  passed = none_further (may_meet c.args.ranks.now c.args.firsts.now c.args.lasts.now c.args.of_ranks c.args.of_windows) c.args.from c.loop-next.next 8 c.loop-next.invariant.passed
      (λ j l. sym (lane j l) ∙ c.first_zero-before.ensures.before j (omega arith));
}
  where
    lane : (j : ℕ) → j < 8 → (slice_index c.also_apart.result j == 0) ≡ may_meet c.args.ranks.now c.args.firsts.now c.args.lasts.now c.args.of_ranks c.args.of_windows (c.loop-next.next + j)
    lane j l = c.also_apart.ensures.near j l ∙ ap (λ b. b && meets_at c.args.firsts.now c.args.lasts.now c.args.of_windows (c.loop-next.next + j)) (c.apart_eight-apart.ensures.near j l)
