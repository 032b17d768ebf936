use Rattle.std.proofs.Common.{ℕ, ◌<◌}
use Rattle.std.specs.Prelude.{slice_index}
use Rattle.word_cubes.specs.Cube.{IsCovered}
use Rattle.word_cubes.proofs.lanes.free_bit.Given as goal

-- in the lanes before the cube tests what the entry does
abbrev pub invariant-loop-i : goal.invariant-loop-i
invariant-loop-i l = (lane : ℕ) → lane < l.i → IsCovered (slice_index l.entry.mask.lane lane) (slice_index l.cube.mask.lane lane)
