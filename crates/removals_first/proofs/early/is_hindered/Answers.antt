use Rattle.std.proofs.Common.{Option, Some, sym, ap, ◌∙◌}
use Rattle.std.specs.BTreeSet.{contains}
use Rattle.std.specs.Ordering.{nat_cmp}
use Rattle.rule_store.specs.declared.Command.{Command}
use Rattle.removals_first.specs.Tests.{hinders}
use Rattle.removals_first.proofs.Searches.{added-at, added-past, added-other}
use Rattle.removals_first.proofs.early.is_hindered.Goals as goal
use Rattle.removals_first.proofs.early.is_hindered.Goals.{in-Add+else-hinders, in_default}

pub returns-then-hinders : goal.returns-then-hinders
returns-then-hinders c =
    sym (c.loop-i.invariant ∙ added-at (hinders (contains nat_cmp c.args.names.now.named) c.args.rules.now.rules c.args.rule.now) c.args.batch.now c.loop-i.i
    c.in-Add.new (c.at.ensures ∙ ap (λ (one : Command). let is : Option Command = Some one in is) c.in-Add.is) (sym c.hinders.ensures ∙ c.if-hinders.true))

pub loop-i-preserved : goal.loop-i-preserved
loop-i-preserved c = elim c.match-at.branch [
  | in-Add+else-hinders w ↦
      c.loop-i.invariant ∙ added-past (hinders (contains nat_cmp c.args.names.now.named) c.args.rules.now.rules c.args.rule.now) c.args.batch.now c.loop-i.i
      w.in-Add.new (c.at.ensures ∙ ap (λ (one : Command). let is : Option Command = Some one in is) w.in-Add.is) (sym w.hinders.ensures ∙ w.if-hinders.false)
  | in_default w ↦
      c.loop-i.invariant ∙ added-other (hinders (contains nat_cmp c.args.names.now.named) c.args.rules.now.rules c.args.rule.now) c.args.batch.now c.loop-i.i
      c.at.result c.at.ensures w.in_default.not-Add
]
