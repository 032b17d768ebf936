use Rattle.std.proofs.Common.{◌≡◌, Some, None, sym, ◌∙◌, subst}
use Rattle.trace_check.specs.Coming.{MayLeave}
use Rattle.trace_check.proofs.commit.Commit.may_go.Goals as goal

pub returns-in-None-clause-right : goal.returns-in-None-clause-right
returns-in-None-clause-right c _ ranked there =
    absurd (let bad : None ≡ Some ranked = sym c.in-None.is ∙ (c.at.ensures ∙ there) in cc)

pub returns-in-Some-clause-right : goal.returns-in-Some-clause-right
returns-in-Some-clause-right c true_is ranked there =
    let one : c.in-Some.before ≡ ranked = (let k : Some c.in-Some.before ≡ Some ranked = sym c.in-Some.is ∙ (c.at.ensures ∙ there) in cc) in
    subst (MayLeave c.args.self.now c.args.places.now c.args.at c.args.content.now) one (c.may_leave.ensures.right true_is)

pub returns-in-Some-clause-wrong : goal.returns-in-Some-clause-wrong
returns-in-Some-clause-wrong c false_is =
    (c.in-Some.before, sym c.at.ensures ∙ c.in-Some.is, c.may_leave.ensures.wrong false_is)
