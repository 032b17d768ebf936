use Rattle.std.proofs.Common.{take}
use Rattle.overlap_index.specs.Tied.{ArePaired}
use Rattle.overlap_index.proofs.pairs.Linked.of.Given as goal

-- those so far are paired
abbrev pub invariant-loop-place : goal.invariant-loop-place
invariant-loop-place l = ArePaired l.ids (take l.place l.pieces) (take l.place l.pieces) l.linked
