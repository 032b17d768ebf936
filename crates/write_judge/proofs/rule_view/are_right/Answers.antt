use Rattle.std.proofs.Common.{subst, arith}
use Rattle.std.specs.List.{AllByRecursion}
use Rattle.std.proofs.lemmas.List.{take_all}
use Rattle.rule_model.specs.Rule.{HasConditions}
use Rattle.write_judge.proofs.Judgement.{right_next}
use Rattle.write_judge.proofs.rule_view.are_right.Goals as goal

pub loop-i-preserved : goal.loop-i-preserved
loop-i-preserved c = right_next c.args.rules.now.rules c.loop-i.i c.at.result.now c.at.ensures c.loop-i.invariant c.rule_conditions.ensures

pub returns : goal.returns
returns c = subst (AllByRecursion HasConditions) (take_all c.loop-i.i c.args.rules.now.rules (omega arith)) c.loop-i.invariant
