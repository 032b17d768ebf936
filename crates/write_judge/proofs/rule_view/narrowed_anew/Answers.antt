use Rattle.std.proofs.Common.{◌∙◌, subst}
use Rattle.leak_search.specs.Found.{AnswerAlike}
use Rattle.write_judge.proofs.rule_view.narrowed_anew.Goals as goal

pub returns : goal.returns
returns c = subst (AnswerAlike c.args.cube.now c.in_ok-some.some.items) (c.as_slice-all.ensures.value ∙ c.in_ok-made.ensures) c.in_ok-some.ensures
