use Rattle.std.proofs.Common.{None, Some, sym, ◌∙◌, subst}
use Rattle.split_order.specs.Next.{IsPartDue}
use Rattle.split_order.proofs.Told.{drain_first, nothing_left, own_drain, part_first, part_in_use}
use Rattle.split_order.proofs.manager.SplitManager.next.Goals as goal

pub is_due-requires : goal.is_due-requires
is_due-requires c =
    let due : IsPartDue c.args.self.now (Some c.in-Some.due) = subst (IsPartDue c.args.self.now) c.in-Some.is c.next_part.ensures in
    part_in_use c.self.inside.since c.self.inside.progress.left _ c.self.invariant c.in-Some.due (rw (← c.self.view_is) at due)

pub returns-then-is_due : goal.returns-then-is_due
returns-then-is_due c =
    let due : IsPartDue c.args.self.now (Some c.in-Some.due) = subst (IsPartDue c.args.self.now) c.in-Some.is c.next_part.ensures in
    rw (← c.self.view_is) (drain_first c.self.inside.since c.self.inside.progress.left _ c.self.invariant c.in-Some.due (rw (← c.self.view_is) at due) c.is_due.result c.is_due.ensures c.if-is_due.true)

pub returns-else-is_due : goal.returns-else-is_due
returns-else-is_due c =
    let due : IsPartDue c.args.self.now (Some c.in-Some.due) = subst (IsPartDue c.args.self.now) c.in-Some.is c.next_part.ensures in
    rw (← c.self.view_is) (part_first c.self.inside.since c.self.inside.progress.left _ c.self.invariant c.in-Some.due (rw (← c.self.view_is) at due) c.is_due.result c.is_due.ensures c.if-is_due.false)

pub returns-then-drains_next : goal.returns-then-drains_next
returns-then-drains_next c =
    rw (← c.self.view_is) (own_drain c.self.inside.since c.self.inside.progress.left _ c.self.invariant (sym c.drains_next.ensures ∙ c.if-drains_next.true))

pub returns-else-drains_next : goal.returns-else-drains_next
returns-else-drains_next c =
    let none : IsPartDue c.args.self.now None = subst (IsPartDue c.args.self.now) c.in-None.is c.next_part.ensures in
    rw (← c.self.view_is) (nothing_left c.self.inside.since c.self.inside.progress.left _ c.self.invariant (rw (← c.self.view_is) at none) (sym c.drains_next.ensures ∙ c.if-drains_next.false))
