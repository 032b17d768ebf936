use Rattle.std.proofs.Common.{sym, ◌∙◌}
use Rattle.std.specs.BTreeSet.{contains}
use Rattle.std.specs.Ordering.{nat_cmp}
use Rattle.removals_first.specs.Tests.{spares}
use Rattle.removals_first.proofs.Searches.{any-at, any-past}
use Rattle.removals_first.proofs.early.is_spared.Goals as goal

pub returns-then-spares : goal.returns-then-spares
returns-then-spares c =
    sym (c.loop-i.invariant ∙ any-at (spares (contains nat_cmp c.args.names.now.named) c.args.rule.now c.args.other.now) c.args.rules.now.rules c.loop-i.i
    c.at.result.now c.at.ensures (sym c.spares.ensures ∙ c.if-spares.true))

pub loop-i-preserved : goal.loop-i-preserved
loop-i-preserved c =
    c.loop-i.invariant ∙ any-past (spares (contains nat_cmp c.args.names.now.named) c.args.rule.now c.args.other.now) c.args.rules.now.rules c.loop-i.i
    c.at.result.now c.at.ensures (sym c.spares.ensures ∙ c.if-spares.false)
