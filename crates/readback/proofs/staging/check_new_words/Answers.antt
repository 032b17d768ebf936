use Rattle.std.proofs.Common.{◌≡◌, Contains, sym, ◌∙◌, ap, subst}
use Rattle.std.proofs.lemmas.Bool.{both_ways}
use Rattle.std.proofs.lemmas.Result.{IfErr-weaker}
use Rattle.slot_order.proofs.Lists.{any_is, any_from}
use Rattle.readback.specs.Tasks.{CommitPieces, stands_in}
use Rattle.readback.proofs.staging.check_new_words.Goals as goal

pub returns-then-any_stands-clause-wrong : goal.returns-then-any_stands-clause-wrong
returns-then-any_stands-clause-wrong g c =
    let inserted : c.deref.result.now ≡ c.args.commit.now.inserted = c.deref.ensures.value ∙ ap (λ (p : CommitPieces). p.inserted) c.commit.view_is in
    let w = any_is (stands_in c.args.held.now) c.deref.result.now (sym c.any_stands.ensures ∙ c.if-any_stands.true) in
    IfErr-weaker c.check_words.result _ _ (λ fault names. (c.in-Some.during, c.in-Some.is, names, (w.0, subst (λ l. Contains l w.0) inserted w.1, w.2))) c.check_words.ensures.wrong

pub returns-else-any_stands-clause-right : goal.returns-else-any_stands-clause-right
returns-else-any_stands-clause-right g c ranked member stands =
    let inserted : c.deref.result.now ≡ c.args.commit.now.inserted = c.deref.ensures.value ∙ ap (λ (p : CommitPieces). p.inserted) c.commit.view_is in
    absurd (both_ways c.any_stands.result c.if-any_stands.false
    (c.any_stands.ensures ∙ any_from (stands_in c.args.held.now) c.deref.result.now ranked (subst (λ l. Contains l ranked) (sym inserted) member) stands))
