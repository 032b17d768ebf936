use Rattle.std.proofs.Common.{◌≡◌, take}
use Rattle.counted_blocks.specs.Counted.{count_sum, size_sum}
use Rattle.counted_blocks.proofs.weights.sum.Given as goal

abbrev pub invariant-loop-weight : goal.invariant-loop-weight
invariant-loop-weight l = record {
  count : l.count ≡ count_sum (take l.weight-index l.weights);
  size : l.size ≡ size_sum (take l.weight-index l.weights);
}
