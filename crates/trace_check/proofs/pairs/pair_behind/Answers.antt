use Rattle.std.proofs.Common.{◌≡◌, Some, None, IsTrue, refl, sym, ◌∙◌, ap, subst}
use Rattle.std.specs.Prelude.{option_map}
use Rattle.std.proofs.lemmas.Result.{IfErr-weaker}
use Rattle.rule_model.specs.declared.words.Entry.{Entry}
use Rattle.rule_model.specs.Entry.{entry_for, same_match}
use Rattle.trace_check.proofs.PairsFound.{no_copy, no_copied, copy_ok, copy_wrong}
use Rattle.trace_check.proofs.pairs.pair_behind.Goals as goal

pub returns-in-None-clause-kept : goal.returns-in-None-clause-kept
returns-in-None-clause-kept c =
    no_copy c.args.places.now c.args.at c.requires.inside c.args.pair c.pair_without-others.result c.pair_without-others.ensures.some c.pair_without-others.ensures.none (option_map entry_for c.args.content.now)
    (λ copied. let bad : None ≡ Some copied.entry = sym (ap (option_map entry_for) c.in-None.is) ∙ copied.here in cc)

pub returns-in-None-copy_of-clause-kept : goal.returns-in-None-copy_of-clause-kept
returns-in-None-copy_of-clause-kept c =
    no_copy c.args.places.now c.args.at c.requires.inside c.args.pair c.pair_without-others.result c.pair_without-others.ensures.some c.pair_without-others.ensures.none (option_map entry_for c.args.content.now)
    (no_copied c.args.places.now c.args.at c.requires.inside c.args.pair c.pair_without-others.result c.pair_without-others.ensures.some c.pair_without-others.ensures.none c.in-Some.comes c.args.content.now c.in-Some.is c.comes.inside.entry (c.comes.invariant ∙ ap entry_for c.comes.view_is) (c.in-None-copy_of.ensures.none refl))

pub returns-in-Some-copy_of-clause-kept : goal.returns-in-Some-copy_of-clause-kept
returns-in-Some-copy_of-clause-kept c =
    copy_ok c.args.places.now c.args.at c.requires.inside c.args.pair c.pair_without-others.result c.pair_without-others.ensures.some c.pair_without-others.ensures.none c.in-Some.comes c.in-Some-copy_of.other c.in-Some-copy_of.ensures.some.0 c.in-Some-copy_of.ensures.some.1.0 c.in-Some-copy_of.ensures.some.1.1
    (subst (λ (e : Entry). IsTrue (same_match e (entry_for c.in-Some-copy_of.ensures.some.1.0))) (c.comes.invariant ∙ ap entry_for c.comes.view_is) c.in-Some-copy_of.ensures.some.1.2)
    c.pair_with.result c.args.content.now c.comes.inside.entry.result c.in-Some.is (ap (λ (e : Entry). e.result) (c.comes.invariant ∙ ap entry_for c.comes.view_is)) c.pair_with.ensures.pair c.pair_with.ensures.alone

pub returns-in-Some-copy_of-clause-broken : goal.returns-in-Some-copy_of-clause-broken
returns-in-Some-copy_of-clause-broken c =
    IfErr-weaker c.pair_with.result _ _ (λ fault wrong. copy_wrong c.args.places.now c.args.at c.requires.inside c.args.pair c.pair_without-others.result c.pair_without-others.ensures.some c.pair_without-others.ensures.none c.in-Some.comes c.in-Some-copy_of.other c.in-Some-copy_of.ensures.some.0 c.in-Some-copy_of.ensures.some.1.0 c.in-Some-copy_of.ensures.some.1.1
    (subst (λ (e : Entry). IsTrue (same_match e (entry_for c.in-Some-copy_of.ensures.some.1.0))) (c.comes.invariant ∙ ap entry_for c.comes.view_is) c.in-Some-copy_of.ensures.some.1.2)
    c.args.content.now c.comes.inside.entry.result c.in-Some.is (ap (λ (e : Entry). e.result) (c.comes.invariant ∙ ap entry_for c.comes.view_is)) wrong) c.pair_with.ensures.broken
