use Rattle.std.proofs.Common.{sym, ap, ◌∙◌}
use Rattle.explain.specs.Rounds.{Explained}
use Rattle.explain.proofs.Lines.{try-refused, try-taken}
use Rattle.explain.proofs.explainer.Explainer.try_changes.Goals as goal

pub returns-in-Err : goal.returns-in-Err
returns-in-Err c = try-refused c.refuse.result c.args.number c.in-Err.rejection _ c.args.self.now c.refuse.new.self c.self.view_is c.requires.strict (sym c.in-Err.ensures.answer) c.refuse.ensures

pub returns-in-Ok : goal.returns-in-Ok
returns-in-Ok c =
    try-taken c.args.number _ c.args.self.now c.clear.new.self c.self.view_is c.requires.strict c.in-Ok.ensures.accepted
    (λ none. c.requires.some (ap (λ (e : Explained). e.batch) (sym c.self.view_is) ∙ none)) c.clear.ensures
