use Rattle.std.proofs.Common.{◌≡◌, ◌++◌}
use Rattle.slot_pool.specs.Arrangement.{last_slot}
use Rattle.move_planner.proofs.Ends.{among}
use Rattle.move_planner.proofs.places.last_listed.Given as goal

-- the last slot of the ids so far, and those that are left
abbrev pub invariant-loop-other : goal.invariant-loop-other
invariant-loop-other l = record {
  last : l.last ≡ last_slot (among l.yielded) l.slots;
  left : l.yielded ++ l.other-iterator ≡ l.initial.other-iterator;
}
