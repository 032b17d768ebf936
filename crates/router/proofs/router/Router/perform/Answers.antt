-- A change that joins its batch, a packet, and a commit.
use Rattle.std.proofs.Common.{refl}
use Rattle.router.specs.declared.Side.TheVariants as side
use Rattle.router.specs.Routing.{slots_of}
use Rattle.router.proofs.Acts.{leaves_still, never_device, never_push, never_sink, push_acts}
use Rattle.router.proofs.router.Router.perform.Goals as goal

pub returns-in-Change-clause-acts : goal.returns-in-Change-clause-acts
returns-in-Change-clause-acts g c = λ which.
    let slots = slots_of (g.D.SplitDevice.slot_count c.args.list.now) (g.D.SplitDevice.slot_count c.args.routes.now) in
    push_acts c.push.result slots c.args.self.now c.push.new.self c.args.act.now c.in-Change.side c.in-Change.command _ c.in-Change.is c.push.ensures.pushed c.push.ensures.unchanged c.push.ensures.kind

pub returns-in-Change-clause-list : goal.returns-in-Change-clause-list
returns-in-Change-clause-list g c =
    leaves_still g.D.SplitDevice.slot_count g.D.SplitDevice.events g.D.SplitDevice.flight g.D.SplitDevice.faults c.args.list.now c.args.list.now _ refl refl refl refl
    (never_device side.List c.push.new.self c.push.result (never_push c.push.result c.push.ensures.kind))

pub returns-in-Change-clause-routes : goal.returns-in-Change-clause-routes
returns-in-Change-clause-routes g c =
    leaves_still g.D.SplitDevice.slot_count g.D.SplitDevice.events g.D.SplitDevice.flight g.D.SplitDevice.faults c.args.routes.now c.args.routes.now _ refl refl refl refl
    (never_device side.Routes c.push.new.self c.push.result (never_push c.push.result c.push.ensures.kind))

pub returns-in-Packet-clause-list : goal.returns-in-Packet-clause-list
returns-in-Packet-clause-list g c =
    leaves_still g.D.SplitDevice.slot_count g.D.SplitDevice.events g.D.SplitDevice.flight g.D.SplitDevice.faults c.args.list.now c.args.list.now _ refl refl refl refl
    (never_device side.List c.args.self.now c.packet.result (never_sink c.packet.result c.packet.ensures.kind))

pub returns-in-Packet-clause-routes : goal.returns-in-Packet-clause-routes
returns-in-Packet-clause-routes g c =
    leaves_still g.D.SplitDevice.slot_count g.D.SplitDevice.events g.D.SplitDevice.flight g.D.SplitDevice.faults c.args.routes.now c.args.routes.now _ refl refl refl refl
    (never_device side.Routes c.args.self.now c.packet.result (never_sink c.packet.result c.packet.ensures.kind))
