use Rattle.std.proofs.Common.{◌≡◌, replicate}
use Rattle.lane_lookup.specs.Columns.{blank_lane}
use Rattle.lane_lookup.proofs.columns.blank_lanes.Given as goal

abbrev pub invariant-loop-lane : goal.invariant-loop-lane
invariant-loop-lane l = l.lanes.items ≡ replicate l.lane (blank_lane l.slots)
