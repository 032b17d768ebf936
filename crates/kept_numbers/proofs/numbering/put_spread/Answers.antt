use Rattle.std.proofs.Common.{◌+◌, sym, ◌∙◌, arith}
use Rattle.kept_numbers.proofs.Loops.{spread-end, spread-next, spread-start}
use Rattle.kept_numbers.proofs.numbering.put_spread.Goals as goal

pub loop-place-init : goal.loop-place-init
loop-place-init c = record { put = spread-start c.args.low c.args.gap c.args.count c.args.into.now.items }

pub loop-place-preserved : goal.loop-place-preserved
loop-place-preserved c = record {
  put = spread-next c.args.low c.args.gap (c.args.count + 1) c.loop-place.place c.loop-place.into.items _ (omega arith) c.in_ok-push.ensures.items ∙ c.loop-place.invariant.put;
}

pub returns : goal.returns
returns c = sym (spread-end c.args.low c.args.gap (c.args.count + 1) c.loop-place.place _ (omega arith)) ∙ c.loop-place.invariant.put
