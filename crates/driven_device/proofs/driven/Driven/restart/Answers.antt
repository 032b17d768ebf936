use Rattle.std.proofs.Common.{◌≤◌, subst, arith, refl}
use Rattle.tcam_device.specs.View.{device_state}
use Rattle.driven_device.specs.Driven.{CanHave}
use Rattle.driven_device.proofs.Kept.{can_not, has_words, refused, resumed}
use Rattle.driven_device.proofs.driven.Driven.restart.Goals as goal

pub invariant_of-result : goal.invariant_of-result
invariant_of-result g c =
    let can = c.can_have.ensures.0 c.if-not-can_have.false in
    let most = can.2 in
    let count = c.slots.ensures in
    let before = g.D.Writable.view c.args.device in
    let wide : c.args.slots ≤ before.slots = omega arith in
    let did = c.in-Ok.ensures in
    resumed c.args.slots c.args.mode c.args.placement c.args.parts c.args.batch.now before (g.D.Writable.view c.restart.new.device) c.in-Ok.manager
    did.answers c.restart.ensures.others wide did.both_ways did.on

pub returns-then-not-can_have-clause-fault : goal.returns-then-not-can_have-clause-fault
returns-then-not-can_have-clause-fault g c =
    let device = g.D.Writable.view c.args.device in
    (refl, can_not c.can_have.result c.args.slots c.slots.result device.slots c.can_have.ensures c.slots.ensures c.if-not-can_have.true)

pub returns-then-not-takes_tables-clause-fault : goal.returns-then-not-takes_tables-clause-fault
returns-then-not-takes_tables-clause-fault g c =
    let device = g.D.Writable.view c.args.device in
    let can : CanHave c.args.slots device.slots = subst (CanHave c.args.slots) c.slots.ensures (c.can_have.ensures.0 c.if-not-can_have.false) in
    let words = has_words c.takes_tables.result c.args.mode (device_state device) c.takes_tables.ensures c.if-not-takes_tables.true in
    (can, words.0, words.1)

pub returns-in-Err-clause-fault : goal.returns-in-Err-clause-fault
returns-in-Err-clause-fault g c =
    let device = g.D.Writable.view c.args.device in
    let can : CanHave c.args.slots device.slots = subst (CanHave c.args.slots) c.slots.ensures (c.can_have.ensures.0 c.if-not-can_have.false) in
    refused c.args.slots c.args.mode c.args.placement c.args.parts c.args.batch.now device c.in-Err.fault c.in-Err.back can
    (c.takes_tables.ensures.0 c.if-not-takes_tables.false) c.in-Err.ensures.answers
