use Rattle.explain.proofs.Lines.{stopped-as}
use Rattle.explain.proofs.explainer.Explainer.stop_at.Goals as goal

pub returns : goal.returns
returns c = stopped-as c.args.number c.behind_fault-self-inside.result _ c.args.self.now c.self.view_is c.behind_fault-self-inside.ensures
