use Rattle.std.proofs.Common.{◌≡◌, ◌≤◌, ◌+◌, ◌++◌, ◌∷◌, [], ℕ, List, length, sym, ◌∙◌, ap, ap₂, subst}
use Rattle.split_device.specs.declared.SplitAction.{SplitAction}
use Rattle.split_device.specs.declared.SplitAction.TheVariants.{Written}
use Rattle.split_device.specs.Flight.{flight_count}
use Rattle.split_order.specs.Managed.{SplitManaged}
use Rattle.split_order.specs.Steps.{made_by}
use Rattle.split_order.proofs.Live.{drain_current, leaves, live_current}
use Rattle.split_order.proofs.Stepped.{advances_slots, drain_slots, drain_told, ends_events, ends_slots, led_is, room_taken}
use Rattle.split_order.proofs.manager.SplitManager.step.Goals as goal

pub returns-in_err-write-in-Part-clause-led : goal.returns-in_err-write-in-Part-clause-led
returns-in_err-write-in-Part-clause-led g c same =
    let count = g.D.SplitDevice.slot_count c.args.device.now in
    let events : g.D.SplitDevice.events c.write.new.self ≡ g.D.SplitDevice.events c.args.device.now = c.in_err-write-in-Part.ensures.events_err in
    rw (c.write.ensures.slots, events) (led_is count (g.D.SplitDevice.events c.args.device.now) c.args.self.now same (c.serving.ensures.serves count c.requires.slots) (c.serving.ensures.ahead count c.requires.slots))

pub returns-in-Nothing-clause-led : goal.returns-in-Nothing-clause-led
returns-in-Nothing-clause-led g c same =
    let count = g.D.SplitDevice.slot_count c.args.device.now in
    let old : SplitManaged = c.args.self.now in
    let new : SplitManaged = c.finish-step.new.self in
    let slots : new.whole.slots ≡ old.whole.slots = ends_slots old old.whole.held c.finish-step.result new c.finish-step.ensures.ends in
    let wide : new.whole.slots ≤ count = subst (λ n. n ≤ count) (sym slots) c.requires.slots in
    led_is count (g.D.SplitDevice.events c.args.device.now) new (same ∙ sym (ends_events old old.whole.held c.finish-step.result new c.finish-step.ensures.ends)) (c.serving-in-Nothing.ensures.serves count wide) (c.serving-in-Nothing.ensures.ahead count wide)

pub returns-in-Drain-clause-led : goal.returns-in-Drain-clause-led
returns-in-Drain-clause-led g c same =
    let count = g.D.SplitDevice.slot_count c.args.device.now in
    let flying = flight_count (g.D.SplitDevice.flight c.args.device.now) in
    let old : SplitManaged = c.args.self.now in
    let new : SplitManaged = c.drain-step.new.self in
    let slots : new.whole.slots ≡ old.whole.slots = drain_slots count old flying c.drain-step.result new c.drain-step.ensures.stepped in
    let wide : new.whole.slots ≤ count = subst (λ n. n ≤ count) (sym slots) c.requires.slots in
    let events : g.D.SplitDevice.events c.drain-step.new.device ≡ new.events =
    c.drain-step.ensures.events ∙ (ap (λ some. some ++ made_by c.drain-step.result) same ∙ sym (drain_told count old flying c.drain-step.result new c.drain-step.ensures.stepped)) in
    rw c.drain-step.ensures.slot_count (led_is count (g.D.SplitDevice.events c.drain-step.new.device) new events (c.serving-in-Drain.ensures.serves count wide) (c.serving-in-Drain.ensures.ahead count wide))

pub returns-in_ok-write-in-Part-clause-led : goal.returns-in_ok-write-in-Part-clause-led
returns-in_ok-write-in-Part-clause-led g c same =
    let count = g.D.SplitDevice.slot_count c.args.device.now in
    let old : SplitManaged = c.args.self.now in
    let new : SplitManaged = c.advance.new.self in
    let did = c.advance.ensures count c.requires.slots in
    let slots : new.whole.slots ≡ old.whole.slots = advances_slots count _ old new did in
    let wide : new.whole.slots ≤ count = subst (λ n. n ≤ count) (sym slots) c.requires.slots in
    let events : g.D.SplitDevice.events c.write.new.self ≡ new.events =
    c.in_ok-write-in-Part.ensures.written ∙ (ap (λ some. some ++ Written c.in-Part.due.part ∷ []) same ∙ sym did.events) in
    rw c.write.ensures.slots (led_is count (g.D.SplitDevice.events c.write.new.self) new events (c.serving-in-Part.ensures.serves count wide) (c.serving-in-Part.ensures.ahead count wide))

pub returns-in-Nothing-clause-current : goal.returns-in-Nothing-clause-current
returns-in-Nothing-clause-current g c = leaves c.args.self.now c.finish-step.result c.finish-step.new.self c.finish-step.ensures.current

pub returns-in-Drain-clause-current : goal.returns-in-Drain-clause-current
returns-in-Drain-clause-current g c =
    drain_current (g.D.SplitDevice.slot_count c.args.device.now) c.args.self.now (flight_count (g.D.SplitDevice.flight c.args.device.now)) c.drain-step.result c.drain-step.new.self c.drain-step.ensures.stepped

pub returns-in_ok-write-in-Part-clause-current : goal.returns-in_ok-write-in-Part-clause-current
returns-in_ok-write-in-Part-clause-current g c =
    let count = g.D.SplitDevice.slot_count c.args.device.now in
    live_current c.args.self.now c.advance.new.self (c.advance.ensures count c.requires.slots).live

pub returns-in-Drain-clause-spare : goal.returns-in-Drain-clause-spare
returns-in-Drain-clause-spare g c =
    room_taken (g.D.SplitDevice.events c.args.device.now) (g.D.SplitDevice.events c.drain-step.new.device) (made_by c.drain-step.result) (g.D.SplitDevice.spare c.args.device.now)
    (g.D.SplitDevice.spare c.drain-step.new.device) c.drain-step.ensures.events c.drain-step.ensures.spare

pub returns-in_ok-write-in-Part-clause-spare : goal.returns-in_ok-write-in-Part-clause-spare
returns-in_ok-write-in-Part-clause-spare g c =
    room_taken (g.D.SplitDevice.events c.args.device.now) (g.D.SplitDevice.events c.write.new.self) (Written c.in-Part.due.part ∷ []) (g.D.SplitDevice.spare c.args.device.now)
    (g.D.SplitDevice.spare c.write.new.self) c.in_ok-write-in-Part.ensures.written c.in_ok-write-in-Part.ensures.spare

pub returns-in_err-write-in-Part-clause-spare : goal.returns-in_err-write-in-Part-clause-spare
returns-in_err-write-in-Part-clause-spare g c =
    ap₂ (λ (spare : ℕ) (events : List SplitAction). spare + length events) c.in_err-write-in-Part.ensures.spare_err c.in_err-write-in-Part.ensures.events_err
