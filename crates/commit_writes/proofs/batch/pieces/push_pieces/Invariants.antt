use Rattle.std.proofs.Common.{◌≡◌, ◌++◌, take}
use Rattle.commit_writes.specs.Changes.{chosen_pieces}
use Rattle.commit_writes.proofs.batch.pieces.push_pieces.Given as goal

-- those of the first pieces that are meant
abbrev pub invariant-loop-piece : goal.invariant-loop-piece
invariant-loop-piece l = l.ranked.items ≡ l.fn.ranked.items ++ chosen_pieces l.choice l.others (take l.piece-index l.pieces)
