use Rattle.std.proofs.Common.{◌≡◌, flat_map, reverse, take}
use Rattle.commit_writes.specs.Changes.{inserted_by, rewritten_by, erased_by, coded_by, during_of}
use Rattle.commit_writes.proofs.batch.pieces.pieces_of.Given as goal

-- the pieces of the first changes
abbrev pub invariant-loop-change : goal.invariant-loop-change
invariant-loop-change l = record {
  inserted : l.pieces.inserted.items ≡ flat_map (inserted_by (coded_by l.bits) (during_of l.bits)) (take l.change-index l.changes);
  rewritten : l.pieces.rewritten.items ≡ flat_map (rewritten_by (coded_by l.bits) (during_of l.bits)) (take l.change-index l.changes);
  erased : l.pieces.erased.items ≡ reverse (flat_map (erased_by (coded_by l.bits) (during_of l.bits)) (reverse (take l.change-index l.changes)));
}
