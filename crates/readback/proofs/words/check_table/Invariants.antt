use Rattle.std.proofs.Common.{ℕ, ◌<◌, ◌^◌}
use Rattle.std.specs.Prelude.{slice_index}
use Rattle.tcam_device.specs.State.{table_of}
use Rattle.tcam_device.specs.View.{device_state}
use Rattle.commit_writes.specs.InFlight.{HasBits}
use Rattle.readback.proofs.words.check_table.Given as goal

-- the words of the first ports are right, each of 16 bits
abbrev pub invariant-loop-place : goal.invariant-loop-place
invariant-loop-place g l = record {
  right : (port : ℕ) → port < l.place → HasBits l.live port
      (slice_index (table_of l.field (device_state (g.D.Writable.view l.device))) port);
  short : (port : ℕ) → port < l.place → slice_index (table_of l.field (device_state (g.D.Writable.view l.device))) port < 2 ^ 16;
}
