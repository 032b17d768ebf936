use Rattle.std.proofs.Common.{◌≡◌, ◌-◌, length}
use Rattle.placement.specs.Live.{is_above}
use Rattle.move_planner.proofs.Walked.{IsWalkedDown, IsWalkedUp}
use Rattle.move_planner.proofs.shorter.first_to_end.Given as goal

-- both chains, as far as they were walked, with as many members of one as of the other
abbrev pub invariant-loop-lower : goal.invariant-loop-lower
invariant-loop-lower l = record {
  down : IsWalkedDown (is_above l.index.live) l.slots l.down l.downwards.last l.downwards.members.items;
  up : IsWalkedUp (is_above l.index.live) l.slots l.up l.upwards.last l.upwards.members.items;
  level : length l.downwards.members.items ≡ length l.upwards.members.items;
}

abbrev pub decreases-loop-lower : goal.decreases-loop-lower
decreases-loop-lower l = l.down.free - l.downwards.last
