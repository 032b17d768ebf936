use Rattle.std.proofs.Common.{◌≡◌, ◌<◌, ◌≤◌, ◌++◌}
use Rattle.slot_pool.specs.Arrangement.{first_slot}
use Rattle.placement.specs.Live.{is_above}
use Rattle.move_planner.proofs.Ends.{among}
use Rattle.move_planner.proofs.Sought.{HoldNoLower}
use Rattle.move_planner.proofs.chains.listed_down.Given as goal

-- the first slot of the ids so far, those that are left, and the slots that were passed
abbrev pub invariant-loop-other : goal.invariant-loop-other
invariant-loop-other l = record {
  first : l.first ≡ first_slot (among l.yielded) l.slots;
  left : l.yielded ++ l.other-iterator ≡ l.initial.other-iterator;
  low : l.slot ≤ l.at;
  high : l.at < l.free;
  passed : HoldNoLower (is_above l.index.live) l.slots l.id l.slot l.at;
}
