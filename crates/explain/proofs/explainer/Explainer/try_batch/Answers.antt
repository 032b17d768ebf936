use Rattle.explain.proofs.Lines.{tried-as}
use Rattle.explain.proofs.explainer.Explainer.try_batch.Goals as goal

pub returns-then-is_empty : goal.returns-then-is_empty
returns-then-is_empty c = tried-as c.judge_batch.result c.args.number _ c.args.self.now c.judge_batch.new.self c.self.view_is (c.is_empty.ensures.0 c.if-is_empty.true) c.judge_batch.ensures
