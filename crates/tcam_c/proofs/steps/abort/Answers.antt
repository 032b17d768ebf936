use Rattle.std.proofs.Common.{sym, ◌∙◌}
use Rattle.batch_order.specs.Laws.{TurnLeaves}
use Rattle.batch_order.proofs.Leaving.{turns_leave}
use Rattle.tcam_c.proofs.steps.abort.Goals as goal

pub settle-requires-clause-slots : goal.settle-requires-clause-slots
settle-requires-clause-slots c =
    let leaves : TurnLeaves c.args.manager.now c.abort-turned.new.self = turns_leave c.args.manager.now c.abort-turned.new.self c.abort-turned.result c.abort-turned.ensures.aborts in
    c.requires.driven.same_slots ∙ sym leaves.slots

pub settle-requires-clause-on : goal.settle-requires-clause-on
settle-requires-clause-on c =
    let leaves : TurnLeaves c.args.manager.now c.abort-turned.new.self = turns_leave c.args.manager.now c.abort-turned.new.self c.abort-turned.result c.abort-turned.ensures.aborts in
    rw (leaves.slots, leaves.state) c.requires.driven.on

pub settle-requires-clause-room : goal.settle-requires-clause-room
settle-requires-clause-room c =
    let leaves : TurnLeaves c.args.manager.now c.abort-turned.new.self = turns_leave c.args.manager.now c.abort-turned.new.self c.abort-turned.result c.abort-turned.ensures.aborts in
    leaves.both_ways c.args.device.now.spare c.requires.driven.room
