use Rattle.std.proofs.Common.{refl}
use Rattle.tcam_device.specs.View.{DeviceView}
use Rattle.batch_order.specs.Managed.{Managed}
use Rattle.route_daemon.proofs.Led.{idle_led, led_after}
use Rattle.route_daemon.proofs.daemon.commit.Goals as goal

-- it is refused, so nothing is said of other answers
pub returns-in-Err-clause-taken : goal.returns-in-Err-clause-taken
returns-in-Err-clause-taken g c = λ other. absurd (other c.in-Err.refusal refl)

pub resume-requires : goal.resume-requires
resume-requires g c =
    let old : Managed = c.args.manager.now in
    let before : DeviceView = g.D.Writable.view c.args.device.now in
    let did = c.prepare.ensures in
    let was = c.requires in
    record {
      led = led_after old c.prepare.new.self before (g.D.Writable.view c.prepare.new.device) did.leaves did.others.slots did.others.flight (did.stays_on was.on)
          (idle_led old before was.slots was.on was.none_in_flight was.idle);
    }

-- and where the batch is refused
pub returns-in-Err-clause-led : goal.returns-in-Err-clause-led
returns-in-Err-clause-led g c =
    let old : Managed = c.args.manager.now in
    let before : DeviceView = g.D.Writable.view c.args.device.now in
    let did = c.prepare.ensures in
    let was = c.requires in
    led_after old c.prepare.new.self before (g.D.Writable.view c.prepare.new.device) did.leaves did.others.slots did.others.flight (did.stays_on was.on)
    (idle_led old before was.slots was.on was.none_in_flight was.idle)
