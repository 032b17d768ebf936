use Rattle.std.proofs.Common.{Some, refl}
use Rattle.std.proofs.lemmas.Result.{on_ok_weaker, IfErr-weaker}
use Rattle.tcam_device.specs.declared.Write.TheVariants as writes
use Rattle.tcam_device.specs.State.{apply}
use Rattle.trace_file.specs.declared.TraceLine.TheVariants as lines
use Rattle.driver_trace.specs.declared.DriverLine.TheVariants as driver
use Rattle.line_judge.proofs.LinesTaken.{event_stops, event_takes, opens, uses}
use Rattle.line_judge.proofs.track.Track.put.Goals as goal

pub write_slot-requires-clause-open : goal.write_slot-requires-clause-open
write_slot-requires-clause-open c = opens c.args.self.now (driver.Common (lines.Put c.args.slot c.args.entry.now)) (Some c.args.slot) refl c.requires

pub write_slot-requires-clause-used : goal.write_slot-requires-clause-used
write_slot-requires-clause-used c = uses c.args.self.now (driver.Common (lines.Put c.args.slot c.args.entry.now)) c.args.slot refl c.requires

pub returns-clause-taken : goal.returns-clause-taken
returns-clause-taken c =
    on_ok_weaker c.write_slot.result (λ judged. event_takes c.args.self.now c.write_slot.new.self (driver.Common (lines.Put c.args.slot c.args.entry.now)) (Some c.args.slot) (apply c.args.self.now.device (writes.Slot c.args.slot (Some c.args.entry.now))) refl refl refl refl refl judged) c.write_slot.ensures.written

pub returns-clause-stopped : goal.returns-clause-stopped
returns-clause-stopped c =
    IfErr-weaker c.write_slot.result _ _ (λ fault is. event_stops c.args.self.now (driver.Common (lines.Put c.args.slot c.args.entry.now)) (apply c.args.self.now.device (writes.Slot c.args.slot (Some c.args.entry.now))) fault refl refl refl is) c.write_slot.ensures.stopped
