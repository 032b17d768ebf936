use Rattle.std.proofs.Common.{◌≡◌, ◌++◌, map, flat_map, take}
use Rattle.rule_model.specs.Piece.{piece_of}
use Rattle.rule_model.specs.PortRange.{cover}
use Rattle.commit_writes.specs.Bits.{no_bits}
use Rattle.commit_writes.specs.Shape.{ranked_piece}
use Rattle.commit_writes.proofs.batch.pieces.push_blocks.Given as goal

-- the pieces with the first source ranges
abbrev pub invariant-loop-place : goal.invariant-loop-place
invariant-loop-place l = l.pieces.items ≡ l.fn.pieces.items ++ flat_map (λ sport. map (λ dport. ranked_piece no_bits l.rule (piece_of l.rule sport dport)) (cover l.rule.dport)) (take l.place (cover l.rule.sport))
