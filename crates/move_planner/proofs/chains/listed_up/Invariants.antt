use Rattle.std.proofs.Common.{◌≡◌, ◌<◌, ◌≤◌, ◌++◌}
use Rattle.slot_pool.specs.Arrangement.{last_slot}
use Rattle.placement.specs.Live.{is_above}
use Rattle.move_planner.proofs.Ends.{among}
use Rattle.move_planner.proofs.Sought.{HoldNoUpper}
use Rattle.move_planner.proofs.chains.listed_up.Given as goal

-- the last slot of the ids so far, those that are left, and the slots that were passed
abbrev pub invariant-loop-other : goal.invariant-loop-other
invariant-loop-other l = record {
  last : l.last ≡ last_slot (among l.yielded) l.slots;
  left : l.yielded ++ l.other-iterator ≡ l.initial.other-iterator;
  high : l.at ≤ l.slot;
  low : l.free < l.at;
  passed : HoldNoUpper (is_above l.index.live) l.slots l.id l.slot l.at;
}
