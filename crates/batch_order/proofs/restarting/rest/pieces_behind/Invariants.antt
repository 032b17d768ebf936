use Rattle.std.proofs.Common.{◌≡◌, ◌++◌, drop}
use Rattle.batch_order.proofs.restarting.rest.pieces_behind.Given as goal

-- the pieces so far and those to come are all that are left
abbrev pub invariant-loop-place : goal.invariant-loop-place
invariant-loop-place l = l.left.items ++ drop l.place l.pieces ≡ drop l.done l.pieces
