use Rattle.std.proofs.lemmas.Result.{on_err_weaker}
use Rattle.batch_order.proofs.Leaving.{one_way}
use Rattle.driven_device.proofs.Kept.{kept, takes_rules}
use Rattle.driven_device.proofs.driven.Driven.carry_out.Goals as goal

pub carry_out-requires-clause-room : goal.carry_out-requires-clause-room
carry_out-requires-clause-room g c =
    one_way c.self.inside.manager.held (g.D.Writable.view c.self.inside.device).spare c.self.invariant.room

pub invariant_of-self : goal.invariant_of-self
invariant_of-self g c =
    let did = c.carry_out.ensures in
    kept c.self.inside.manager c.carry_out.new.self (g.D.Writable.view c.self.inside.device) (g.D.Writable.view c.carry_out.new.device)
    c.self.invariant did.leaves did.carried.slots did.stays_on

pub returns : goal.returns
returns g c =
    let did = c.carry_out.ensures in
    let on = c.self.invariant.on in
    rw (← c.self.view_is) (record {
      done = did.done;
      was_forward = did.was_forward;
      finished = did.finished;
      rules = takes_rules c.self.inside.manager c.carry_out.new.self c.carry_out.result did.finished;
      carried = did.carried;
      stopped = did.stopped;
      way_back = did.way_back;
      leaves = did.leaves;
      tried = did.tried;
      hitless = did.hitless on;
      serves = did.serves on;
      serves_err = on_err_weaker c.carry_out.result (λ served. served on) did.serves_err;
    })
