use Rattle.std.proofs.Common.{◌≡◌, ℕ, ◌<◌, Some, None, length, get_or}
use Rattle.order_chains.specs.Nodes.{node_at}
use Rattle.order_chains.proofs.block.copy_into.Given as goal

abbrev pub invariant-loop-i : goal.invariant-loop-i
invariant-loop-i l = record {
  at : l.to.at ≡ l.fn.to.at;
  size : length l.to.nodes ≡ length l.fn.to.nodes;
  copied : (k : ℕ) → k < l.i → get_or l.to.nodes k None ≡ Some (node_at l.from k);
}
