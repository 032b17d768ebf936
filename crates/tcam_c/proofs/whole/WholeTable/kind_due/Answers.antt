use Rattle.std.proofs.Common.{arith}
use Rattle.tcam_device.specs.Flight.{writes_in}
use Rattle.batch_order.specs.Managed.{Managed}
use Rattle.batch_order.proofs.served.Ahead.{by_journal}
use Rattle.tcam_c.proofs.whole.WholeTable.kind_due.Goals as goal

pub returns-clause-serves : goal.returns-clause-serves
returns-clause-serves c =
    let m : Managed = c.self.inside.manager in
    rw (← c.self.view_is) (c.self.invariant.on, by_journal m.slots (writes_in c.self.inside.device.events) m (omega arith) c.serving.ensures.serves c.self.invariant.on)
