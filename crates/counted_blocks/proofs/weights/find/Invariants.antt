use Rattle.std.proofs.Common.{◌≡◌, ◌≤◌, ◌-◌, take}
use Rattle.counted_blocks.specs.Counted.{count_sum}
use Rattle.counted_blocks.proofs.weights.find.Given as goal

abbrev pub invariant-loop-block : goal.invariant-loop-block
invariant-loop-block l = record {
  within : l.block ≤ l.last;
  start_is : l.start ≡ count_sum (take l.block l.weights);
  from : l.start ≤ l.place;
}

abbrev pub decreases-loop-block : goal.decreases-loop-block
decreases-loop-block l = l.last - l.block
