use Rattle.std.proofs.Common.{◌≡◌, ℕ, ◌<◌, ◌^◌, take}
use Rattle.std.specs.Prelude.{slice_index}
use Rattle.tcam_device.specs.State.{table_of}
use Rattle.tcam_device.specs.View.{device_state}
use Rattle.commit_writes.proofs.translation.tables.read_table.Given as goal

-- the first words are read
abbrev pub invariant-loop-port : goal.invariant-loop-port
invariant-loop-port g l =
    (l.words.items ≡ take l.port (table_of l.field (device_state (g.D.Writable.view l.device))))
    × ((port : ℕ) → slice_index l.words.items port < 2 ^ 16)
