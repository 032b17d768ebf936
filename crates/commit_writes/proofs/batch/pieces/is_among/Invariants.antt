use Rattle.std.proofs.Common.{◌≡◌, false, take}
use Rattle.commit_writes.specs.Changes.{is_among}
use Rattle.commit_writes.proofs.batch.pieces.is_among.Given as goal

-- none of the first ones has them
abbrev pub invariant-loop-other : goal.invariant-loop-other
invariant-loop-other l = is_among (take l.other-index l.others) l.ranked ≡ false
