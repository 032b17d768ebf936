use Rattle.std.proofs.Common.{◌≡◌, ◌+◌, ◌<◌, ℕ, length, drop}
use Rattle.std.specs.Prelude.{◌&&◌, ◌==◌, slice_index}
use Rattle.lane_lookup.specs.Columns.{row_hits}
use Rattle.lane_lookup.proofs.Used.{used_agree}
use Rattle.lane_lookup.proofs.eight.first_of_eight.Given as goal

abbrev pub invariant-loop-lane : goal.invariant-loop-lane
invariant-loop-lane l = record {
  len : length l.off ≡ 8;
  same : (k : ℕ) → k < 8 → row_hits l.lanes l.vacant l.word (l.at + k)
      ≡ ((slice_index l.off k == 0) && used_agree (drop l.lane-index l.used) l.lanes l.word.lane (l.at + k));
}
