use Rattle.std.proofs.Common.{sym, ◌∙◌}
use Rattle.explain.proofs.Lines.{acts-as, fault-rests}
use Rattle.explain.proofs.explainer.Explainer.take_act.Goals as goal

pub returns-then-is_behind_fault : goal.returns-then-is_behind_fault
returns-then-is_behind_fault c = fault-rests c.args.number c.args.act.now _ c.args.self.now c.self.view_is (sym c.is_behind_fault.ensures ∙ c.if-is_behind_fault.true)

pub returns : goal.returns
returns c =
    acts-as c.act.result c.args.number c.args.act.now _ c.args.self.now c.act.new.self c.self.view_is (sym c.is_behind_fault.ensures ∙ c.if-is_behind_fault.false) c.act.ensures
