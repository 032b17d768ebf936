use Rattle.std.proofs.Common.{◌∙◌, ap, ap₂}
use Rattle.rule_model.specs.Entry.{entry_for, same_match}
use Rattle.trace_check.proofs.LeavesFound.{again_is}
use Rattle.trace_check.proofs.commit.comes_again.Goals as goal

pub returns-in-Some : goal.returns-in-Some
returns-in-Some c =
    again_is c.args.before.now c.in-Some.comes c.args.content.now c.in-Some.is c.same_match.result
    (c.same_match.ensures ∙ ap₂ same_match (c.before-2.invariant ∙ ap entry_for c.before-2.view_is) (c.comes.invariant ∙ ap entry_for c.comes.view_is))
