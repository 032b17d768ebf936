use Rattle.std.proofs.Common.{◌≡◌, ℕ, List, length}
use Rattle.order_chains.specs.Pairs.{AreChains, upper_at, lower_at}
use Rattle.order_chains.proofs.chains.free_all.Given as goal

abbrev pub invariant-loop-at : goal.invariant-loop-at
invariant-loop-at l = record {
  size : length l.block ≡ length l.fn.block;
  uppers : (k : ℕ) → upper_at l.block k ≡ upper_at l.fn.block k;
  lowers : (k : ℕ) → lower_at l.block k ≡ lower_at l.fn.block k;
  chains : (above : List ℕ) → AreChains l.ids l.fn.block l.fn.below above l.from → AreChains l.ids l.block l.below above l.at;
}
