use Rattle.std.proofs.Common.{◌-◌}
use Rattle.placement.specs.Live.{is_above}
use Rattle.move_planner.proofs.Walked.{IsWalkedDown}
use Rattle.move_planner.proofs.shorter.walk_down.Given as goal

-- the members so far are the first part of a chain
abbrev pub invariant-loop-next : goal.invariant-loop-next
invariant-loop-next l = IsWalkedDown (is_above l.index.live) l.slots l.ends l.walk.last l.walk.members.items

abbrev pub decreases-loop-next : goal.decreases-loop-next
decreases-loop-next l = l.ends.free - l.walk.last
