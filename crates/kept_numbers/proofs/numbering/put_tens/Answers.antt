use Rattle.std.proofs.Common.{◌+◌, ◌*◌, sym, ◌∙◌, arith}
use Rattle.kept_numbers.proofs.Loops.{tens-end, tens-next, tens-start}
use Rattle.kept_numbers.proofs.numbering.put_tens.Goals as goal

pub loop-place-init : goal.loop-place-init
loop-place-init c = record { put = tens-start c.args.first c.args.count c.args.into.now.items }

pub loop-place-preserved : goal.loop-place-preserved
loop-place-preserved c = record {
  put = tens-next c.args.first c.args.count c.loop-place.place c.loop-place.into.items _ (omega arith) c.in_ok-push.ensures.items ∙ c.loop-place.invariant.put;
}

pub returns : goal.returns
returns c = sym (tens-end (c.args.first + 10 * c.loop-place.place) c.args.count c.loop-place.place _ (omega arith)) ∙ c.loop-place.invariant.put
