use Rattle.std.proofs.Common.{◌<◌, Some, None, sym, subst}
use Rattle.std.proofs.lemmas.Result.{on_ok_weaker, IfErr-weaker}
use Rattle.tcam_device.specs.declared.Write.TheVariants as writes
use Rattle.trace_file.specs.declared.TraceLine.TheVariants as lines
use Rattle.trace_check.specs.declared.trace.Trace.{Trace}
use Rattle.trace_check.specs.Places.{place_after}
use Rattle.trace_check.specs.Traced.{IsTraceSized}
use Rattle.trace_check.proofs.LinesTaken.{some_place, event_open, event_used, takes_from, breaks_from, refused_breaks, stop_breaks}
use Rattle.trace_check.proofs.WritesTaken.{erase_takes}
use Rattle.trace_check.proofs.trace.Trace.erase.Goals as goal

pub under_way-requires-clause-open : goal.under_way-requires-clause-open
under_way-requires-clause-open c =
    let n = some_place (place_after c.args.self.now.slots c.args.self.now.place (lines.Erase c.args.slot)) c.requires.stands in
    event_open c.args.self.now.slots (Some c.args.slot) c.args.self.now.place n.0 c.args.self.now n.1 c.requires.sound.right

pub write_slot-requires-clause-sized : goal.write_slot-requires-clause-sized
write_slot-requires-clause-sized c = subst IsTraceSized (sym c.in-Ok.ensures.same) c.requires.sound.sized

pub write_slot-requires-clause-used : goal.write_slot-requires-clause-used
write_slot-requires-clause-used c =
    let n = some_place (place_after c.args.self.now.slots c.args.self.now.place (lines.Erase c.args.slot)) c.requires.stands in
    subst (λ (t : Trace). c.args.slot < t.slots) (sym c.in-Ok.ensures.same) (event_used c.args.self.now.slots c.args.slot c.args.self.now.place n.0 n.1)

pub returns-in-Err-clause-broken : goal.returns-in-Err-clause-broken
returns-in-Err-clause-broken c = refused_breaks c.args.self.now (lines.Erase c.args.slot) c.in-Err.fault c.in-Err.ensures.refused (λ keeps. keeps.taken)

pub returns-in-Ok-clause-taken : goal.returns-in-Ok-clause-taken
returns-in-Ok-clause-taken c =
    on_ok_weaker c.write_slot.result (λ w. takes_from c.args.self.now c.under_way.new.self c.write_slot.new.self (lines.Erase c.args.slot) c.in-Ok.ensures.same
    (erase_takes c.under_way.new.self c.write_slot.new.self c.args.slot w)) c.write_slot.ensures.written

pub returns-in-Ok-clause-broken : goal.returns-in-Ok-clause-broken
returns-in-Ok-clause-broken c =
    IfErr-weaker c.write_slot.result _ _ (λ fault stops. breaks_from c.args.self.now c.under_way.new.self (lines.Erase c.args.slot) fault c.in-Ok.ensures.same
    (stop_breaks c.under_way.new.self c.under_way.new.self (lines.Erase c.args.slot) (writes.Slot c.args.slot None) fault stops (λ keeps. keeps.stage))) c.write_slot.ensures.broken
