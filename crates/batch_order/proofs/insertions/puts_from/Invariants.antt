use Rattle.std.proofs.Common.{◌≡◌, ◌+◌, ◌≤◌, drop}
use Rattle.batch_order.specs.ByParts.{moves_put}
use Rattle.batch_order.proofs.insertions.puts_from.Given as goal

-- the entries so far and those to come are all that are put
abbrev pub invariant-loop-place : goal.invariant-loop-place
invariant-loop-place l = record {
  counted : l.puts + moves_put (drop l.place l.moves) ≡ moves_put (drop l.first l.moves);
  few : l.puts + l.first ≤ l.place;
}
