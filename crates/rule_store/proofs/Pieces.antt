-- How many pieces a rule has, and how many of them the rule that it replaces has too.
use Rattle.std.proofs.Common.{◌≡◌, ℕ, ◌+◌, ◌-◌, ◌*◌, ◌≤◌, ◌&&◌, length, refl, arith}
use Rattle.std.specs.List.{list_any}
use Rattle.rule_model.specs.declared.Rule.{Rule}
use Rattle.rule_model.specs.PortRange.{PortRange, same_range, cover, cover_size}
use Rattle.rule_model.specs.Piece.{same_piece, piece_of, cover_pieces}
use Rattle.rule_model.proofs.Pairs.{any_products}
use Rattle.rule_model.proofs.CoverPieces.{length-cover_pieces}
use Rattle.rule_store.specs.declared.Mode.{Mode}
use Rattle.rule_store.specs.declared.Mode.TheVariants.{Cover, Bits}
use Rattle.rule_store.specs.Common.{same_ends, kept_size}
use Rattle.rule_store.specs.Verdict.{entries_needed, pieces_of, has_piece, fresh_pieces}
use Rattle.rule_store.proofs.Counts.{count_by-left, count_by-products}

-- bounds and sums of numbers that stand for covers, which a tactic would unfold

rest-is : (fresh count all kept needed : ℕ) → fresh + count ≡ all → count ≡ kept → all ≡ needed → fresh + kept ≡ needed
rest-is fresh count all kept needed both is_kept is_needed = omega arith

difference-is : (fresh kept all a b : ℕ) → fresh + kept ≡ all → a ≡ all → b ≡ kept → (b ≤ a) × (a - b ≡ fresh)
difference-is fresh kept all a b sum is_a is_b = (omega arith, omega arith)

-- as many pieces as entries
pub pieces_of-length : (mode : Mode) (rule : Rule) → length (pieces_of mode rule) ≡ entries_needed mode rule
pieces_of-length Cover rule = length-cover_pieces rule
pieces_of-length Bits rule = refl

-- a piece by covers stands among another rule's where its blocks stand among that rule's blocks
has_piece-cover : (old new : Rule) (sport dport : PortRange) → has_piece (cover_pieces old) (piece_of new sport dport) ≡ (same_ends new old && list_any (same_range sport) (cover old.sport) && list_any (same_range dport) (cover old.dport))
has_piece-cover old new sport dport =
    any_products (same_ends new old) (same_range sport) (same_range dport) (piece_of old) (same_piece (piece_of new sport dport)) (λ x y. refl) (cover old.sport) (cover old.dport)

-- the fresh pieces and the kept ones are all
pub fresh-kept : (old new : Rule) → length (fresh_pieces Cover old new) + kept_size old new ≡ cover_size new.sport * cover_size new.dport
fresh-kept old new =
    rest-is _ _ _ _ _ (count_by-left (has_piece (cover_pieces old)) (cover_pieces new))
    (count_by-products (same_ends new old) (λ sport. list_any (same_range sport) (cover old.sport)) (λ dport. list_any (same_range dport) (cover old.dport)) (piece_of new) (has_piece (cover_pieces old)) (has_piece-cover old new) (cover new.sport) (cover new.dport))
    (length-cover_pieces new)

pub fresh-cover : (old new : Rule) (needed kept : ℕ) → needed ≡ entries_needed Cover new → kept ≡ kept_size old new → (kept ≤ needed) × (needed - kept ≡ length (fresh_pieces Cover old new))
fresh-cover old new needed kept is_needed is_kept =
    difference-is _ _ _ needed kept (fresh-kept old new) is_needed is_kept
