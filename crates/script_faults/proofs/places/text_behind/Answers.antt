use Rattle.std.proofs.Common.{◌≡◌, suc, ◌+◌, drop, sym, ◌∙◌, subst, arith}
use Rattle.line_words.specs.Words.{words_of}
use Rattle.script_faults.proofs.Passed.{none-further, rest-behind}
use Rattle.script_faults.proofs.places.text_behind.Goals as goal

pub loop-preserved : goal.loop-preserved
loop-preserved c =
    let words = words_of c.args.line.now in
    let next : suc c.loop.counter ≡ c.loop.counter + 1 = omega arith in
    let i = c.loop.invariant in
    let come = c.loop-test.true in
    let short = c.in-Some.ensures.short in
    let rest = rest-behind words c.loop.counter _ _ (sym i.words ∙ c.in-Some.ensures.words) in
    record {
      words = sym (subst (λ n. drop n words ≡ words_of c.in-Some.rest.now) next rest);
      within = omega (arith, come);
      short = omega (arith, short, i.short);
    }

pub returns-in-None-clause-words : goal.returns-in-None-clause-words
returns-in-None-clause-words c =
    let none = c.in-None.ensures.words in
    none ∙ sym (none-further (words_of c.args.line.now) c.loop.counter c.args.count (sym c.loop.invariant.words ∙ none) (omega (arith, c.loop-test.true)))

pub returns-clause-words : goal.returns-clause-words
returns-clause-words c =
    let i = c.loop.invariant in
    let past = c.loop-test.false in
    let same : c.loop.counter ≡ c.args.count = omega (arith, i.within, past) in
    rw same at i.words
