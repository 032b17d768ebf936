use Rattle.std.proofs.Common.{◌≡◌, ◌≤◌, ◌-◌, [], All, length, vec_capacity}
use Rattle.counted_blocks.proofs.fill.Given as goal

abbrev pub invariant-loop-alloc : goal.invariant-loop-alloc
invariant-loop-alloc l = record {
  empty : All (λ block. block ≡ []) l.stock.items;
  least : length l.fn.stock.items ≤ length l.stock.items;
  most : length l.stock.items ≤ l.wanted;
  capacity : vec_capacity l.stock ≡ vec_capacity l.fn.stock;
}

abbrev pub decreases-loop-alloc : goal.decreases-loop-alloc
decreases-loop-alloc l = l.wanted - length l.stock.items
