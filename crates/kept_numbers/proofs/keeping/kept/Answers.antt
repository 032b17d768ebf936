use Rattle.std.proofs.Common.{◌+◌, sym, ap, ◌∙◌, arith}
use Rattle.std.proofs.lemmas.List.{take_rest}
use Rattle.kept_numbers.specs.Kept.{standing}
use Rattle.kept_numbers.proofs.Loops.{mark-end, mark-next}
use Rattle.kept_numbers.proofs.keeping.kept.Goals as goal

pub loop-place-preserved : goal.loop-place-preserved
loop-place-preserved c = record {
  told = mark-next c.loop-place.rest.now _ _ c.args.lines.now _ _ c.loop-place.place c.index-lines-place.result c.index-lines-place.result _ (omega arith) c.index-lines-place.is
      (c.standing-at.ensures ∙ ap (λ l. standing c.loop-place.rest.now c.index-lines-place.result l) (take_rest c.args.lines.now (c.loop-place.place + 1))) c.mark_of.ensures c.rest_of-rest.ensures c.in_ok-push.ensures.items
      ∙ c.loop-place.invariant.told;
}

pub returns : goal.returns
returns c = sym (mark-end c.loop-place.rest.now c.args.lines.now c.loop-place.marks.items c.loop-place.place (omega arith)) ∙ c.loop-place.invariant.told
