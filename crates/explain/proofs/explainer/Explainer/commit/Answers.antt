use Rattle.std.proofs.Common.{sym, ◌∙◌}
use Rattle.explain.specs.Steps.{commit_verdict_in, committed}
use Rattle.explain.proofs.Lines.{known-judged, other-passed}
use Rattle.explain.proofs.explainer.Explainer.commit.Goals as goal

pub returns-then-is_known : goal.returns-then-is_known
returns-then-is_known c =
    known-judged c.judge_commit.result (committed (commit_verdict_in c.args.self.now) c.args.self.now) _ c.args.self.now c.judge_commit.new.self c.self.view_is (sym c.is_known.ensures ∙ c.if-is_known.true) c.judge_commit.ensures

pub returns : goal.returns
returns c =
    other-passed (committed (commit_verdict_in c.args.self.now) c.args.self.now) _ c.args.self.now c.pass.new.self c.self.view_is (sym c.is_known.ensures ∙ c.if-is_known.false) c.pass.ensures
