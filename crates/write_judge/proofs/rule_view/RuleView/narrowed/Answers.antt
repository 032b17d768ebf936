use Rattle.std.proofs.Common.{◌≡◌, ◌∙◌, IfOk, ap, subst}
use Rattle.std.specs.Prelude.{IfSome}
use Rattle.leak_search.specs.Found.{AnswerAlike}
use Rattle.rule_entries.specs.RuleEntries.{rule_entries}
use Rattle.write_judge.proofs.rule_view.RuleView.narrowed.Goals as goal

pub narrowed_anew-requires-clause-is_set : goal.narrowed_anew-requires-clause-is_set
narrowed_anew-requires-clause-is_set c = c.self.invariant.0

pub narrowed_anew-requires-clause-right : goal.narrowed_anew-requires-clause-right
narrowed_anew-requires-clause-right c = c.self.invariant.1

pub returns-in-Some : goal.returns-in-Some
returns-in-Some c =
    subst (λ all. IfOk c.narrowed.result (λ some. AnswerAlike c.args.cube.now some.items all))
    (c.as_slice.ensures.value ∙ subst (λ held. IfSome held (λ entries. entries.items ≡ rule_entries c.self.inside.rules.rules)) c.in-Some.is c.self.invariant.2 ∙ ap rule_entries c.self.view_is)
    c.narrowed.ensures

pub returns-in-None : goal.returns-in-None
returns-in-None c =
    subst (λ rules. IfOk c.narrowed_anew.result (λ some. AnswerAlike c.args.cube.now some.items (rule_entries rules))) c.self.view_is c.narrowed_anew.ensures
