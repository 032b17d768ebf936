use Rattle.std.proofs.Common.{◌≡◌, Some, sym, ◌∙◌}
use Rattle.batch_order.specs.Steps.{next_of}
use Rattle.split_order.proofs.Told.{due_told, plainly}
use Rattle.split_order.proofs.manager.SplitManager.next_part.Goals as goal

pub returns-in-None : goal.returns-in-None
returns-in-None c = rw (← c.self.view_is) (sym c.next_write.ensures.next ∙ c.in-None.is)

pub returns-in-Some : goal.returns-in-Some
returns-in-Some c =
    let i = c.self.inside in
    let next : next_of i.whole.held ≡ Some c.in-Some.write = sym c.next_write.ensures.next ∙ c.in-Some.is in
    rw (← c.self.view_is) (due_told i.since i.progress.left _ c.self.invariant c.in-Some.write next c.in-Some.ensures.in_use c.standing-held.result
    (rw (c.replaced.ensures c.in-Some.write (plainly i.since i.progress.left _ c.self.invariant c.in-Some.write next) next) at c.standing-held.ensures) c.due_part.result c.due_part.ensures)
