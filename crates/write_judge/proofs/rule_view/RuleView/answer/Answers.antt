use Rattle.write_judge.proofs.Judgement.{none_answers, one_answers}
use Rattle.write_judge.proofs.rule_view.RuleView.answer.Goals as goal

pub returns-in-None : goal.returns-in-None
returns-in-None c = none_answers _ _ c.args.key.now c.self.view_is c.in-None.ensures

pub returns-in-Some : goal.returns-in-Some
returns-in-Some c = one_answers _ _ c.args.key.now _ c.self.view_is c.in-Some.ensures
