use Rattle.std.proofs.Common.{◌≡◌, take}
use Rattle.tcam_device.specs.View.{device_state}
use Rattle.readback.proofs.reading.read_slots.Given as goal

-- the first slots are read
abbrev pub invariant-loop-slot : goal.invariant-loop-slot
invariant-loop-slot g l = l.held.items ≡ take l.slot (device_state (g.D.Writable.view l.device)).slots
