use Rattle.std.proofs.Common.{◌≡◌, ℕ, ◌<◌, length}
use Rattle.std.specs.Prelude.{slice_index}
use Rattle.word_cubes.specs.Cube.{clash}
use Rattle.word_cubes.proofs.lanes.is_apart.Given as goal

-- in none of the lanes before they clash
abbrev pub invariant-loop-i : goal.invariant-loop-i
invariant-loop-i l =
    (lane : ℕ) → lane < l.i → (lane < length l.cube.value.lane) × (lane < length l.cube.mask.lane)
    × (clash (slice_index l.entry.value.lane lane) (slice_index l.entry.mask.lane lane) (slice_index l.cube.value.lane lane) (slice_index l.cube.mask.lane lane) ≡ 0)
