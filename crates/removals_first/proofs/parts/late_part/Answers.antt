use Rattle.std.proofs.Common.{sym, ◌∙◌}
use Rattle.std.specs.BTreeSet.{contains}
use Rattle.std.specs.Ordering.{nat_cmp}
use Rattle.removals_first.specs.Tests.{stays_late}
use Rattle.removals_first.proofs.Searches.{kept-next, left-next}
use Rattle.removals_first.proofs.parts.late_part.Goals as goal
use Rattle.removals_first.proofs.parts.late_part.Goals.{then-stays_late+in-Ok, else-stays_late}

pub loop-i-preserved : goal.loop-i-preserved
loop-i-preserved c = elim c.if-stays_late.branch [
  | then-stays_late+in-Ok w ↦
      kept-next (stays_late (contains nat_cmp c.args.early.now)) c.args.batch.now c.loop-i.i c.at-command.result c.at-command.ensures c.loop-i.part c.if-stays_late.part
      (sym c.stays_late.ensures ∙ w.if-stays_late.true) c.loop-i.invariant (w.part-is ∙ w.in-Ok.ensures.pushed)
  | else-stays_late w ↦
      left-next (stays_late (contains nat_cmp c.args.early.now)) c.args.batch.now c.loop-i.i c.at-command.result c.at-command.ensures c.loop-i.part c.if-stays_late.part
      (sym c.stays_late.ensures ∙ w.if-stays_late.false) c.loop-i.invariant w.part-is
]
