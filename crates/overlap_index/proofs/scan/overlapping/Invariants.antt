use Rattle.std.proofs.Common.{◌≡◌, ◌≤◌, ◌-◌, ◌++◌, length, drop}
use Rattle.overlap_index.specs.declared.scan.Side.TheVariants.{Above, Below}
use Rattle.overlap_index.specs.Sides.{ids_on}
use Rattle.overlap_index.proofs.scan.overlapping.Given as goal

-- with those of the pieces that weren't looked at yet, the ids that were found are all there are
abbrev pub invariant-loop-next : goal.invariant-loop-next
invariant-loop-next l = record {
  inside : l.next ≤ length l.pieces;
  above : l.found.above.items ++ ids_on Above l.of (drop l.next l.pieces) ≡ ids_on Above l.of l.pieces;
  below : l.found.below.items ++ ids_on Below l.of (drop l.next l.pieces) ≡ ids_on Below l.of l.pieces;
}

abbrev pub decreases-loop-next : goal.decreases-loop-next
decreases-loop-next l = length l.pieces - l.next
