use Rattle.std.proofs.Common.{◌≡◌, drop}
use Rattle.move_planner.specs.Noted.{taken_back}
use Rattle.move_planner.proofs.Moves.take_back.Given as goal

-- the moves from a place on are made, the last one first
abbrev pub invariant-loop-place : goal.invariant-loop-place
invariant-loop-place l = l.slots ≡ taken_back l.fn.slots (drop l.place l.self)
