use Rattle.std.proofs.Common.{◌≡◌, ◌≤◌, ◌*◌, take}
use Rattle.counted_blocks.specs.Counted.{size_of}
use Rattle.counted_blocks.proofs.block.sizes.Given as goal

abbrev pub invariant-loop-item : goal.invariant-loop-item
invariant-loop-item l = record {
  so_far : l.total ≡ size_of (take l.item-index l.items);
  most : l.total ≤ 65535 * l.item-index;
}
