-- Where a write failed, some of the actions were made and the rest is held.
use Rattle.std.proofs.Common.{◌≡◌, ◌++◌, Option, None, ap, ◌∙◌, append-nil}
use Rattle.tcam_device.specs.View.{journal}
use Rattle.batch_order.specs.Managed.{HeldCommit, Managed}
use Rattle.batch_order.specs.CarriedOut.{writes_left}
use Rattle.batch_order.proofs.Leaving.{carrying_ends}
use Rattle.batch_order.specs.declared.Unfinished.TheVariants.{Stuck}
use Rattle.route_daemon.proofs.Led.{led_after}
use Rattle.route_daemon.proofs.Stopped.{stuck-made, stuck-stuck}
use Rattle.route_daemon.proofs.daemon.resume.Goals as goal

pub returns-in-Err-Stuck-clause-made : goal.returns-in-Err-Stuck-clause-made
returns-in-Err-Stuck-clause-made g c =
    let same : c.in-Err-Stuck.field-0 ≡ Stuck c.in-Err-Stuck.field-0-0 = cc in
    stuck-made _ _ _ _ _ _ _ same c.in-Err-Stuck.ensures-1.stopped

pub returns-in-Err-Stuck-clause-stuck : goal.returns-in-Err-Stuck-clause-stuck
returns-in-Err-Stuck-clause-stuck g c =
    let same : c.in-Err-Stuck.field-0 ≡ Stuck c.in-Err-Stuck.field-0-0 = cc in
    stuck-stuck _ _ _ _ _ _ _ same c.in-Err-Stuck.ensures-1.stopped _ (c.in-Err-Stuck.ensures-1.serves_err c.requires.led.on)

pub returns-in-Ok-clause-led : goal.returns-in-Ok-clause-led
returns-in-Ok-clause-led g c =
    let did = c.carry_out-carried.ensures in
    led_after _ _ _ _ did.leaves did.carried.slots did.carried.flight (did.stays_on c.requires.led.on) c.requires.led

pub returns-in-Err-Stuck-clause-led : goal.returns-in-Err-Stuck-clause-led
returns-in-Err-Stuck-clause-led g c =
    let did = c.carry_out-carried.ensures in
    led_after _ _ _ _ did.leaves did.carried.slots did.carried.flight (did.stays_on c.requires.led.on) c.requires.led

pub returns-in-Ok-clause-made : goal.returns-in-Ok-clause-made
returns-in-Ok-clause-made g c =
    let none : c.carry_out-carried.new.self.held ≡ None = ap (λ (m : Managed). m.held) c.in-Ok.ensures.finished in
    let all = carrying_ends _ _ _ _ c.carry_out-carried.ensures.carried none in
    ap (λ (held : Option HeldCommit). journal (g.D.Writable.view c.carry_out-carried.new.device) ++ writes_left held) none ∙ append-nil _ ∙ all.journal
