use Rattle.std.proofs.Common.{◌≤◌, ◌+◌, drop, refl, ap, ◌∙◌, arith}
use Rattle.kept_numbers.specs.Numbered.{went}
use Rattle.kept_numbers.proofs.Loops.{last-full, last-put, mark-told, some-is}
use Rattle.kept_numbers.proofs.numbering.numbered.Goals as goal

pub returns-then-at-gt-TOP : goal.returns-then-at-gt-TOP
returns-then-at-gt-TOP c =
    c.loop-mark.invariant.told ∙ last-full c.loop-mark.mark-index c.args.marks.now c.loop-mark.at.low c.loop-mark.at.wait c.loop-mark.numbers.items (omega arith) (omega arith)

pub returns : goal.returns
returns c =
    c.loop-mark.invariant.told
    ∙ last-put c.loop-mark.mark-index c.args.marks.now c.loop-mark.at.low c.loop-mark.at.wait c.loop-mark.numbers.items _ (omega arith) (omega arith) c.in_ok-put_tens.ensures

pub loop-mark-preserved : goal.loop-mark-preserved
loop-mark-preserved c = record {
  told = c.loop-mark.invariant.told
      ∙ mark-told c.loop-mark.mark-index c.args.marks.now _ _ c.loop-mark.at c.loop-mark.numbers.items _ _ (omega arith) refl (c.in_ok-next.ensures.goes _)
      ∙ ap (λ o. went o c.put_mark.new.into.items (drop (c.loop-mark.mark-index + 1) c.args.marks.now)) c.in-Some.is;
  low = some-is (λ next. next.low ≤ 4294967295) _ c.in-Some.next c.in-Some.is c.in_ok-next.ensures.low;
  few = let most : c.in-Some.next.wait ≤ c.loop-mark.at.wait + 1 = some-is (λ next. next.wait ≤ c.loop-mark.at.wait + 1) _ c.in-Some.next c.in-Some.is c.in_ok-next.ensures.few in
      omega (arith, most, c.loop-mark.invariant.few);
}

pub returns-in-None : goal.returns-in-None
returns-in-None c =
    c.loop-mark.invariant.told
    ∙ mark-told c.loop-mark.mark-index c.args.marks.now _ _ c.loop-mark.at c.loop-mark.numbers.items _ _ (omega arith) refl (c.in_ok-next.ensures.goes _)
    ∙ ap (λ o. went o c.put_mark.new.into.items (drop (c.loop-mark.mark-index + 1) c.args.marks.now)) c.in-None.is
