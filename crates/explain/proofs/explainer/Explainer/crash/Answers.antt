use Rattle.std.proofs.Common.{sym, ◌∙◌}
use Rattle.explain.specs.Steps.{committed, verdict_in}
use Rattle.explain.proofs.Lines.{known-judged, other-passed}
use Rattle.explain.proofs.explainer.Explainer.crash.Goals as goal

pub returns-then-is_known : goal.returns-then-is_known
returns-then-is_known c =
    known-judged c.judge.result (committed (verdict_in c.args.self.now) c.args.self.now) _ c.args.self.now c.judge.new.self c.self.view_is (sym c.is_known.ensures ∙ c.if-is_known.true) c.judge.ensures

pub returns : goal.returns
returns c =
    other-passed (committed (verdict_in c.args.self.now) c.args.self.now) _ c.args.self.now c.pass.new.self c.self.view_is (sym c.is_known.ensures ∙ c.if-is_known.false) c.pass.ensures
