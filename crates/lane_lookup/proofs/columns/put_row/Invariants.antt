use Rattle.std.proofs.Common.{◌≡◌, ◌++◌, length, take, drop}
use Rattle.std.specs.List.{AllByRecursion}
use Rattle.lane_lookup.specs.Columns.{HasPlace, with_row}
use Rattle.lane_lookup.proofs.columns.put_row.Given as goal

abbrev pub invariant-loop-lane : goal.invariant-loop-lane
invariant-loop-lane l = record {
  count : length l.lanes.items ≡ 11;
  place : AllByRecursion (HasPlace l.slot) l.lanes.items;
  rest : with_row l.fn.lanes.items l.value.lane l.mask.lane l.slot
      ≡ take l.lane l.lanes.items ++ with_row (drop l.lane l.lanes.items) (drop l.lane l.value.lane) (drop l.lane l.mask.lane) l.slot;
}
