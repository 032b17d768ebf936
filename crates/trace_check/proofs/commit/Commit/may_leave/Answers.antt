use Rattle.std.proofs.Common.{Contains, IsTrue, inl, inr, sym, ◌∙◌, ap, subst}
use Rattle.std.specs.Prelude.{◌↔◌}
use Rattle.rule_model.specs.Entry.{RankedPiece, entry_for, same_match}
use Rattle.trace_check.proofs.LeavesFound.{leaves_copied, leaves_listed, stays_put}
use Rattle.trace_check.proofs.commit.Commit.may_leave.Goals as goal

pub returns-then-comes_again-clause-right : goal.returns-then-comes_again-clause-right
returns-then-comes_again-clause-right c _ = inl (c.comes_again.ensures.0 c.if-comes_again.true)

pub returns-then-is_some-clause-right : goal.returns-then-is_some-clause-right
returns-then-is_some-clause-right c _ =
    leaves_copied c.args.self.now c.args.places.now c.args.at c.args.content.now c.args.before.now c.before-2.inside.entry (c.before-2.invariant ∙ ap entry_for c.before-2.view_is) c.copy_of.result c.copy_of.ensures.some
    (sym c.is_some.ensures ∙ c.if-is_some.true)

pub returns-then-any_matches-clause-right : goal.returns-then-any_matches-clause-right
returns-then-any_matches-clause-right c _ =
    let w = leaves_listed c.args.self.now c.args.places.now c.args.at c.args.content.now c.args.before.now c.before-2.inside.entry (c.before-2.invariant ∙ ap entry_for c.before-2.view_is) c.deref.result.now c.any_matches.result
    c.any_matches.ensures c.if-any_matches.true in
    inr (inr (w.0, inl (subst (λ l. Contains l w.0) c.deref.ensures.value w.1), w.2))

pub returns-clause-right : goal.returns-clause-right
returns-clause-right c true_is =
    let w = leaves_listed c.args.self.now c.args.places.now c.args.at c.args.content.now c.args.before.now c.before-2.inside.entry (c.before-2.invariant ∙ ap entry_for c.before-2.view_is) c.deref-2.result.now c.any_matches-2.result
    c.any_matches-2.ensures true_is in
    inr (inr (w.0, inr (subst (λ l. Contains l w.0) c.deref-2.ensures.value w.1), w.2))

pub returns-clause-wrong : goal.returns-clause-wrong
returns-clause-wrong c false_is =
    stays_put c.args.self.now c.args.places.now c.args.at c.args.content.now c.args.before.now c.before-2.inside.entry (c.before-2.invariant ∙ ap entry_for c.before-2.view_is) c.comes_again.result c.comes_again.ensures
    c.if-comes_again.false c.copy_of.result c.copy_of.ensures.none (sym c.is_some.ensures ∙ c.if-is_some.false) c.any_matches.result
    (subst (λ l. IsTrue c.any_matches.result ↔ ((y : RankedPiece) × Contains l y × IsTrue (same_match (entry_for y) c.before-2.inside.entry))) c.deref.ensures.value c.any_matches.ensures) c.if-any_matches.false
    c.any_matches-2.result (subst (λ l. IsTrue c.any_matches-2.result ↔ ((y : RankedPiece) × Contains l y × IsTrue (same_match (entry_for y) c.before-2.inside.entry))) c.deref-2.ensures.value c.any_matches-2.ensures) false_is
