use Rattle.std.proofs.Common.{refl, sym, ◌∙◌, arith}
use Rattle.iptables.proofs.Puts.{numbered-end, numbered-on, numbered-short}
use Rattle.iptables.proofs.telling.put_numbered.Goals as goal

pub returns-then-place-words : goal.returns-then-place-words
returns-then-place-words c =
    sym (numbered-short c.loop-place.place c.args.numbers.now c.args.words.now c.loop-place.into.items (omega arith)) ∙ c.loop-place.invariant.text

pub loop-place-preserved : goal.loop-place-preserved
loop-place-preserved c = record {
  text = numbered-on c.loop-place.place _ 0 c.args.numbers.now c.args.words.now c.index-words-place.result c.index-words-place.result c.loop-place.into.items _
      (omega arith) (omega arith) refl c.index-words-place.is c.in_ok-put_line.ensures ∙ c.loop-place.invariant.text;
}

pub returns : goal.returns
returns c =
    sym (numbered-end c.loop-place.place c.args.numbers.now c.args.words.now c.loop-place.into.items (omega arith)) ∙ c.loop-place.invariant.text
