use Rattle.std.proofs.Common.{refl, sym, ◌∙◌}
use Rattle.ip_monitor.proofs.EventWords.{value-none, value-one, value-encap, value-found, value-next, value-fewer}
use Rattle.ip_monitor.proofs.events.value_of.Goals as goal

pub words-init : goal.words-init
words-init c = record { same = refl }

pub words-preserved : goal.words-preserved
words-preserved c = record {
  same = c.words.invariant.same ∙ value-next c.args.name.now _ _ c.words.rest.now _ _ _ c.in-Some.ensures c.in-Some-first_word.ensures (sym c.is_named.ensures ∙ c.if-is_named.false) (sym c.is_named-in-words.ensures ∙ c.if-is_named-2.false) c.behind_word-rest.ensures;
}

pub words-smaller : goal.words-smaller
words-smaller c = value-fewer _ _ c.words.rest.now _ _ _ c.in-Some.ensures c.in-Some-first_word.ensures c.behind_word-rest.ensures

pub returns-in-None : goal.returns-in-None
returns-in-None c = c.words.invariant.same ∙ value-none c.args.name.now _ c.in-None.ensures

pub returns-in-None-first_word : goal.returns-in-None-first_word
returns-in-None-first_word c = c.words.invariant.same ∙ value-one c.args.name.now _ _ _ c.in-Some.ensures c.in-None-first_word.ensures

pub returns-then-is_named : goal.returns-then-is_named
returns-then-is_named c = c.words.invariant.same ∙ value-encap c.args.name.now _ _ _ _ _ c.in-Some.ensures c.in-Some-first_word.ensures (sym c.is_named.ensures ∙ c.if-is_named.true)

pub returns-then-is_named-2 : goal.returns-then-is_named-2
returns-then-is_named-2 c =
    c.words.invariant.same ∙ value-found c.args.name.now _ _ _ _ _ c.in-Some.ensures c.in-Some-first_word.ensures (sym c.is_named.ensures ∙ c.if-is_named.false) (sym c.is_named-in-words.ensures ∙ c.if-is_named-2.true)
