use Rattle.std.proofs.Common.{◌≡◌, take, replicate}
use Rattle.tcam_device.specs.State.{table_of}
use Rattle.tcam_device.specs.View.{device_state}
use Rattle.driven_device.proofs.restarting.is_blank.Given as goal

-- the first words are 0
abbrev pub invariant-loop-port : goal.invariant-loop-port
invariant-loop-port g l = replicate l.port 0 ≡ take l.port (table_of l.field (device_state (g.D.Writable.view l.device)))
