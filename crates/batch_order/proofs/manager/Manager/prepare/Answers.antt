use Rattle.std.proofs.Common.{◌≡◌, ℕ, Ok, subst, arith}
use Rattle.batch_order.specs.Managed.{Judges}
use Rattle.batch_order.proofs.Leaving.{same_leaves, taking_leaves}
use Rattle.batch_order.proofs.served.Ahead.{by_journal}
use Rattle.batch_order.proofs.planning.Prepared.{dropped, reserved, wants_memory}
use Rattle.batch_order.proofs.manager.Manager.prepare.Given.{Over}
use Rattle.batch_order.proofs.manager.Manager.prepare.Goals as goal
use Rattle.tcam_device.specs.View.{journal}

pub returns-in_err-counts-clause-serves : goal.returns-in_err-counts-clause-serves
returns-in_err-counts-clause-serves g c =
    by_journal (g.D.Writable.view c.args.device.now).slots (journal (g.D.Writable.view c.args.device.now)) c.args.self.now c.requires.slots c.serving.ensures.serves

pub returns-in-Ok-clause-serves : goal.returns-in-Ok-clause-serves
returns-in-Ok-clause-serves g c =
    rw (c.reserve.ensures.others.slots, c.reserve.ensures.others.events)
    (by_journal (g.D.Writable.view c.args.device.now).slots (journal (g.D.Writable.view c.args.device.now)) c.args.self.now c.requires.slots c.serving.ensures.serves)

pub returns-in-Err-clause-serves : goal.returns-in-Err-clause-serves
returns-in-Err-clause-serves g c =
    rw (c.reserve.ensures.others.slots, c.reserve.ensures.others.events)
    (by_journal (g.D.Writable.view c.args.device.now).slots (journal (g.D.Writable.view c.args.device.now)) c.args.self.now c.requires.slots c.serving.ensures.serves)

pub returns-in-Ok-clause-reserved : goal.returns-in-Ok-clause-reserved
returns-in-Ok-clause-reserved g c =
    reserved c.args.self.now c.plan_commit.new.self c.args.batch.now c.in_ok-counts.counts c.in_ok-counts.ensures.ready (g.D.Writable.view c.reserve.new.self).spare c.in-Ok.ensures.enough

-- the batch was taken
taken : (g : Over) (c : goal.After-cancel g) → Judges c.args.self.now c.args.self.now.held c.args.batch.now (Ok c.in_ok-counts.counts)
taken g c =
    let is : c.plan_commit.result ≡ Ok c.in_ok-counts.counts = cc in
    subst (Judges c.args.self.now c.args.self.now.held c.args.batch.now) is c.plan_commit.ensures.judged

pub returns-in-Err-clause-judged : goal.returns-in-Err-clause-judged
returns-in-Err-clause-judged g c = wants_memory c.args.self.now c.args.self.now.held c.args.batch.now c.in_ok-counts.counts (taken g c)

pub returns-in-Err-clause-refused : goal.returns-in-Err-clause-refused
returns-in-Err-clause-refused g c =
    dropped c.args.self.now c.plan_commit.new.self c.args.batch.now c.in_ok-counts.counts c.in_ok-counts.ensures.ready (taken g c) c.cancel.new.self c.cancel.result c.cancel.ensures.cancels c.cancel.ensures.dropped

pub returns-in_err-counts-clause-leaves : goal.returns-in_err-counts-clause-leaves
returns-in_err-counts-clause-leaves g c =
    let room : ℕ = (g.D.Writable.view c.args.device.now).spare in
    same_leaves c.args.self.now c.plan_commit.new.self room room c.in_err-counts.ensures.refused (omega arith)

pub returns-in-Ok-clause-leaves : goal.returns-in-Ok-clause-leaves
returns-in-Ok-clause-leaves g c =
    taking_leaves c.args.self.now c.plan_commit.new.self c.args.batch.now c.in_ok-counts.counts (g.D.Writable.view c.args.device.now).spare (g.D.Writable.view c.reserve.new.self).spare
    c.in_ok-counts.ensures.ready (returns-in-Ok-clause-reserved g c)

pub returns-in-Err-clause-leaves : goal.returns-in-Err-clause-leaves
returns-in-Err-clause-leaves g c =
    same_leaves c.args.self.now c.cancel.new.self (g.D.Writable.view c.args.device.now).spare (g.D.Writable.view c.reserve.new.self).spare
    (returns-in-Err-clause-refused g c) c.reserve.ensures.least
