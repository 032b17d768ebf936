use Rattle.std.proofs.Common.{◌≡◌, ◌+◌, ◌-◌, ◌*◌, ◌<◌, length, vec_capacity}
use Rattle.counted_blocks.specs.Finding.{AreSums}
use Rattle.counted_blocks.proofs.weights.regroup.Given as goal

abbrev pub invariant-loop-groups : goal.invariant-loop-groups
invariant-loop-groups l = record {
  few : 32 * length l.groups.items < length l.weights + 32;
  sums : AreSums l.weights l.groups.items (length l.groups.items);
  capacity : vec_capacity l.groups ≡ vec_capacity l.fn.groups;
}

abbrev pub decreases-loop-groups : goal.decreases-loop-groups
decreases-loop-groups l = length l.weights + 32 - 32 * length l.groups.items
