use Rattle.std.proofs.Common.{Some, None, refl}
use Rattle.std.proofs.lemmas.Result.{on_ok_weaker, IfErr-weaker}
use Rattle.tcam_device.specs.declared.Write.TheVariants as writes
use Rattle.tcam_device.specs.State.{apply}
use Rattle.trace_file.specs.declared.TraceLine.TheVariants as lines
use Rattle.driver_trace.specs.declared.DriverLine.TheVariants as driver
use Rattle.line_judge.proofs.LinesTaken.{event_takes, memory_stops, opens, uses}
use Rattle.line_judge.proofs.track.Track.follow_erase.Goals as goal

pub follow_slot-requires-clause-open : goal.follow_slot-requires-clause-open
follow_slot-requires-clause-open c = opens c.args.self.now (driver.Common (lines.Erase c.args.slot)) (Some c.args.slot) refl c.requires.may

pub follow_slot-requires-clause-used : goal.follow_slot-requires-clause-used
follow_slot-requires-clause-used c = uses c.args.self.now (driver.Common (lines.Erase c.args.slot)) c.args.slot refl c.requires.may

pub follow_slot-requires-clause-shown : goal.follow_slot-requires-clause-shown
follow_slot-requires-clause-shown c = c.requires.hitless

pub returns-clause-taken : goal.returns-clause-taken
returns-clause-taken c =
    on_ok_weaker c.follow_slot.result (λ judged. event_takes c.args.self.now c.follow_slot.new.self (driver.Common (lines.Erase c.args.slot)) (Some c.args.slot) (apply c.args.self.now.device (writes.Slot c.args.slot (None))) refl refl refl refl refl judged) c.follow_slot.ensures.written

pub returns-clause-stopped : goal.returns-clause-stopped
returns-clause-stopped c = IfErr-weaker c.follow_slot.result _ _ (λ fault is. memory_stops c.args.self.now (driver.Common (lines.Erase c.args.slot)) fault is) c.follow_slot.ensures.memory
