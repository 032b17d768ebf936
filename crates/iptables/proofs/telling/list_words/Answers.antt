use Rattle.std.proofs.Common.{◌≡◌, ◌+◌, sym, ap, ◌∙◌, arith, length}
use Rattle.std.proofs.lemmas.List.{length_push}
use Rattle.iptables.proofs.Puts.{words-end, words-on}
use Rattle.iptables.proofs.telling.list_words.Goals as goal

pub loop-line-preserved : goal.loop-line-preserved
loop-line-preserved c = record {
  words = words-on c.args.version c.args.policy c.args.last.now c.loop-line.line-index c.args.lines.now c.line-item.result c.line-item.result c.unwrap_or-permits.result _ _ _ (omega arith) c.line-item.is c.unwrap_or-permits.ensures
      c.in_ok-line_words.ensures c.in_ok-push.ensures.items ∙ c.loop-line.invariant.words;
  many = ap length c.in_ok-push.ensures.items ∙ length_push _ _ ∙ ap (λ n. n + 1) c.loop-line.invariant.many;
}

pub returns-clause-words : goal.returns-clause-words
returns-clause-words c =
    sym (sym c.loop-line.invariant.words
    ∙ words-end c.args.version c.args.policy c.args.last.now c.loop-line.line-index c.args.lines.now _ _ _ (omega arith) c.in_ok-line_words-2.ensures c.in_ok-push-2.ensures.items)

pub returns-clause-few : goal.returns-clause-few
returns-clause-few c =
    let many : length c.push-2.new.self.items ≡ length c.loop-line.words.items + 1 = ap length c.in_ok-push-2.ensures.items ∙ length_push _ _ in
    omega (arith, many, c.loop-line.invariant.many)
