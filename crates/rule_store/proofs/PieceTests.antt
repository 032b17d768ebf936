-- The test for a piece among the pieces of a rule is exact.
use Rattle.std.proofs.Common.{◌≡◌, true, List, Contains, sym, ◌∙◌, subst}
use Rattle.std.proofs.lemmas.List.Folds.{Any-from_list_any, list_any-from_Any}
use Rattle.rule_model.specs.declared.Rule.{Rule}
use Rattle.rule_model.specs.declared.Piece.{Piece}
use Rattle.rule_model.specs.Piece.{same_piece, cover_pieces}
use Rattle.rule_model.proofs.Parts.{IsBitless, part_bitless, same_piece-self, same_piece-is}
use Rattle.rule_store.specs.Verdict.{has_piece}

pub has_piece-from : (pieces : List Piece) (piece : Piece) → Contains pieces piece → has_piece pieces piece ≡ true
has_piece-from pieces piece member = list_any-from_Any (same_piece piece) pieces (member.0, piece, member.1, member.2, same_piece-self piece)

-- among pieces by covers, of a piece that has no bits either
pub has_piece-is : (rule : Rule) (piece : Piece) → IsBitless piece → has_piece (cover_pieces rule) piece ≡ true → Contains (cover_pieces rule) piece
has_piece-is rule piece bitless has =
    let w = Any-from_list_any (same_piece piece) (cover_pieces rule) has in
    let member : Contains (cover_pieces rule) w.1 = (w.0, w.2, w.3) in
    let other = part_bitless rule w.1 member in
    subst (Contains (cover_pieces rule)) (sym (same_piece-is piece w.1 (bitless.0 ∙ sym other.0) (bitless.1 ∙ sym other.1) w.4)) member
