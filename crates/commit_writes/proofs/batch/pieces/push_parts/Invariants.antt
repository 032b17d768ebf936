use Rattle.std.proofs.Common.{◌≡◌, ◌++◌, map, take}
use Rattle.rule_model.specs.Piece.{piece_of}
use Rattle.commit_writes.specs.Bits.{no_bits}
use Rattle.commit_writes.specs.Shape.{ranked_piece}
use Rattle.commit_writes.proofs.batch.pieces.push_parts.Given as goal

-- the parts with the first ranges
abbrev pub invariant-loop-place : goal.invariant-loop-place
invariant-loop-place l = l.pieces.items ≡ l.fn.pieces.items ++ map (λ dport. ranked_piece no_bits l.rule (piece_of l.rule l.sport dport)) (take l.place l.dports)
