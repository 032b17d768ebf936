use Rattle.std.proofs.Common.{ℕ, ◌+◌, true, take, sym, ap, subst}
use Rattle.std.specs.BTreeSet.{BTreeSet, Updates}
use Rattle.std.specs.Ordering.{nat_cmp}
use Rattle.rule_store.specs.Batch.{is_removal}
use Rattle.removals_first.specs.Tests.{AreNames}
use Rattle.removals_first.proofs.NameSets.{not-removal, names-removed, names-other}
use Rattle.removals_first.proofs.names.names_of.Goals as goal
use Rattle.removals_first.proofs.names.names_of.Goals.{in-Del+in_ok-insert-2, in_default}

pub loop-i-preserved : goal.loop-i-preserved
loop-i-preserved c = elim c.match-command.branch [
  | in-Del+in_ok-insert-2 w ↦
      subst (λ (set : BTreeSet ℕ). AreNames c.insert.new.self set (take (c.loop-i.i + 1) c.args.batch.now)) (sym w.removed-is)
      (names-removed c.args.batch.now c.loop-i.i c.at-command.result c.at-command.ensures c.loop-i.named c.insert.new.self c.loop-i.removed w.insert-in-Del.new.self
      (ap is_removal w.in-Del.is) c.loop-i.invariant
      (subst (λ n. Updates nat_cmp c.loop-i.named c.insert.new.self n true) c.priority-priority.ensures c.in_ok-insert.ensures.updates)
      (subst (λ n. Updates nat_cmp c.loop-i.removed w.insert-in-Del.new.self n true) c.priority-priority.ensures w.in_ok-insert-2.ensures.updates))
  | in_default w ↦
      names-other c.args.batch.now c.loop-i.i c.at-command.result c.at-command.ensures c.loop-i.named c.insert.new.self c.loop-i.removed c.match-command.removed
      (not-removal c.at-command.result w.in_default.not-Del) c.loop-i.invariant
      (subst (λ n. Updates nat_cmp c.loop-i.named c.insert.new.self n true) c.priority-priority.ensures c.in_ok-insert.ensures.updates) w.removed-is
]
