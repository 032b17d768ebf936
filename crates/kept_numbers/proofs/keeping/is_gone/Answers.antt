use Rattle.std.proofs.Common.{sym, ap, ◌∙◌, arith}
use Rattle.std.specs.Str.{bytes_eq}
use Rattle.kept_numbers.specs.declared.words.OlderLine.{OlderLine}
use Rattle.kept_numbers.proofs.Loops.{gone-begun, gone-end, gone-on, gone-same}
use Rattle.kept_numbers.proofs.keeping.is_gone.Goals as goal

pub returns-then-begins : goal.returns-then-begins
returns-then-begins c =
    sym (gone-begun c.args.words.now c.args.behind.now c.args.line.now c.args.lines.now c.loop-place.place (omega arith) (sym c.begins.ensures ∙ c.if-begins.true)) ∙ c.loop-place.invariant.told

pub returns-then-same : goal.returns-then-same
returns-then-same c =
    sym (gone-same c.args.words.now c.args.behind.now c.args.line.now c.args.lines.now c.loop-place.place c.index-behind-place.result (omega arith) c.index-behind-place.is
    (sym c.begins.ensures ∙ c.if-begins.false) (ap (λ (f : OlderLine). bytes_eq f.words c.args.line.now) c.index-behind-place.is ∙ sym c.same.ensures ∙ c.if-same.true)) ∙ c.loop-place.invariant.told

pub loop-place-preserved : goal.loop-place-preserved
loop-place-preserved c = record {
  told = gone-on c.args.words.now c.args.behind.now c.args.line.now c.args.lines.now c.loop-place.place c.index-behind-place.result (omega arith) c.index-behind-place.is
      (sym c.begins.ensures ∙ c.if-begins.false) (ap (λ (f : OlderLine). bytes_eq f.words c.args.line.now) c.index-behind-place.is ∙ sym c.same.ensures ∙ c.if-same.false) ∙ c.loop-place.invariant.told;
}

pub returns : goal.returns
returns c = sym (gone-end c.args.words.now c.args.behind.now c.args.line.now c.args.lines.now c.loop-place.place (omega arith)) ∙ c.loop-place.invariant.told
