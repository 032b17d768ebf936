use Rattle.std.proofs.Common.{◌≡◌, ℕ, ◌<◌, ◌≤◌, Some, None, length, get_or}
use Rattle.order_chains.proofs.block.fill.Given as goal

abbrev pub invariant-loop-i : goal.invariant-loop-i
invariant-loop-i l = record {
  at : l.places.at ≡ l.fn.places.at;
  size : length l.places.nodes ≡ l.to;
  kept : (k : ℕ) → k < l.from → get_or l.places.nodes k None ≡ get_or l.fn.places.nodes k None;
  filled : (k : ℕ) → l.from ≤ k → k < l.i → get_or l.places.nodes k None ≡ Some l.node;
}
