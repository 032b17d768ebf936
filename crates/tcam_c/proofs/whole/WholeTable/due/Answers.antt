use Rattle.std.proofs.Common.{◌≡◌, ◌∙◌, sym, arith}
use Rattle.tcam_device.specs.Flight.{writes_in}
use Rattle.batch_order.specs.Managed.{Managed}
use Rattle.batch_order.proofs.served.Ahead.{by_journal}
use Rattle.tcam_c.specs.Driven.{due_of}
use Rattle.tcam_c.proofs.Due.{due_ahead}
use Rattle.tcam_c.proofs.Ways.{drain_forward}
use Rattle.tcam_c.proofs.whole.WholeTable.due.Goals as goal

pub returns-clause-serves : goal.returns-clause-serves
returns-clause-serves c =
    let m : Managed = c.self.inside.manager in
    rw (← c.self.view_is) (c.self.invariant.on, by_journal m.slots (writes_in c.self.inside.device.events) m (omega arith) c.serving.ensures.serves c.self.invariant.on)

pub returns-clause-ahead : goal.returns-clause-ahead
returns-clause-ahead c =
    let m : Managed = c.self.inside.manager in
    let due = c.due.ensures in
    rw (← c.self.view_is) (due_ahead m c.self.inside.device.events c.due.result due.due due.in_use due.size c.self.invariant.on
    c.serving.ensures.ahead)

pub returns-clause-drain : goal.returns-clause-drain
returns-clause-drain c is =
    let due : c.due.result ≡ due_of c.self.inside.manager.held = c.due.ensures.due in
    rw (← c.self.view_is) (drain_forward c.self.inside.manager c.serving.ensures.right (sym due ∙ is))
