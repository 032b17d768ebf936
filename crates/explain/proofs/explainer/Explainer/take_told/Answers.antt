use Rattle.std.proofs.Common.{Ok, Err, Some, ap, ◌∙◌}
use Rattle.tcam_cli.specs.Readings.{told_by}
use Rattle.explain.specs.Rounds.{Explained}
use Rattle.explain.proofs.Lines.{line-as}
use Rattle.explain.proofs.explainer.Explainer.take_told.Goals as goal

pub returns-in-Ok : goal.returns-in-Ok
returns-in-Ok c =
    line-as c.take_act.result c.args.number (λ (e : Explained). told_by e.wanted.json c.args.act.now) (λ (e : Explained). Ok (Some c.args.act.now)) _ c.args.self.now c.take_act.new.self
    c.self.view_is (c.in-Ok.ensures.ok ∙ ap Ok c.in-Ok.ensures.same) c.take_act.ensures

pub returns-in-Err : goal.returns-in-Err
returns-in-Err c =
    line-as c.fault.result c.args.number (λ (e : Explained). told_by e.wanted.json c.args.act.now) (λ (e : Explained). Err c.in-Err.field-0.now) _ c.args.self.now c.fault.new.self
    c.self.view_is c.in-Err.ensures.err c.fault.ensures
