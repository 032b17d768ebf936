use Rattle.std.proofs.Common.{refl}
use Rattle.trace_check.specs.Kept.{device_state}
use Rattle.trace_check.proofs.LinesTaken.{start_of, start_sound}
use Rattle.trace_check.proofs.trace.Trace.new.Goals as goal

pub returns-clause-known : goal.returns-clause-known
returns-clause-known c = start_of c.new.result.rules c.new-2.result c.new-3.result (device_state c.in_ok-device.device) c.new.ensures.rules c.new-2.ensures c.new-3.ensures c.in_ok-device.ensures

pub returns-clause-sound : goal.returns-clause-sound
returns-clause-sound c = start_sound _ refl c.in_ok-device.ensures (start_of c.new.result.rules c.new-2.result c.new-3.result (device_state c.in_ok-device.device) c.new.ensures.rules c.new-2.ensures c.new-3.ensures c.in_ok-device.ensures)
