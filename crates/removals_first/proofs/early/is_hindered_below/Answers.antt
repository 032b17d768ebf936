use Rattle.std.proofs.Common.{sym, ◌∙◌}
use Rattle.std.specs.BTreeSet.{contains}
use Rattle.std.specs.Ordering.{nat_cmp}
use Rattle.removals_first.specs.Tests.{hinders_below}
use Rattle.removals_first.proofs.Searches.{any-at, any-past}
use Rattle.removals_first.proofs.early.is_hindered_below.Goals as goal

pub returns-then-hinders_below : goal.returns-then-hinders_below
returns-then-hinders_below c =
    sym (c.loop-i.invariant ∙ any-at (hinders_below (contains nat_cmp c.args.names.now.named) (contains nat_cmp c.args.early.now) c.args.rules.now.rules c.args.rule.now) c.args.rules.now.rules c.loop-i.i
    c.at.result.now c.at.ensures (sym c.hinders_below.ensures ∙ c.if-hinders_below.true))

pub loop-i-preserved : goal.loop-i-preserved
loop-i-preserved c =
    c.loop-i.invariant ∙ any-past (hinders_below (contains nat_cmp c.args.names.now.named) (contains nat_cmp c.args.early.now) c.args.rules.now.rules c.args.rule.now) c.args.rules.now.rules c.loop-i.i
    c.at.result.now c.at.ensures (sym c.hinders_below.ensures ∙ c.if-hinders_below.false)
