use Rattle.std.proofs.Common.{◌≡◌, ◌≤◌, ◌++◌, drop, vec_len, vec_capacity}
use Rattle.lane_lookup.specs.Columns.{used_from}
use Rattle.lane_lookup.proofs.columns.list_used.Given as goal

abbrev pub invariant-loop-lane : goal.invariant-loop-lane
invariant-loop-lane l = record {
  so_far : used_from l.lanes 0 ≡ l.used.items ++ used_from (drop l.lane l.lanes) l.lane;
  few : vec_len l.used ≤ l.lane;
  room : vec_capacity l.used ≡ vec_capacity l.initial.used;
}
