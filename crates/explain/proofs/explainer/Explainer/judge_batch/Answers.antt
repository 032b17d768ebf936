use Rattle.std.proofs.Common.{sym}
use Rattle.explain.proofs.Lines.{judge-refused, judge-taken, sound-as}
use Rattle.explain.proofs.explainer.Explainer.judge_batch.Goals as goal

pub returns-in-Err : goal.returns-in-Err
returns-in-Err c = judge-refused c.refuse.result c.in-Err.rejection _ c.args.self.now c.refuse.new.self c.self.view_is c.requires (sym c.in-Err.ensures.answer) c.refuse.ensures

pub apply-requires-clause-sound : goal.apply-requires-clause-sound
apply-requires-clause-sound c = sound-as _ c.args.self.now c.self.view_is c.in-Ok.ensures.accepted

pub returns-in-Ok : goal.returns-in-Ok
returns-in-Ok c = judge-taken c.apply.result _ c.args.self.now c.apply.new.self c.self.view_is c.requires c.in-Ok.ensures.accepted c.apply.ensures
