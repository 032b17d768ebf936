-- Where no rule is replaced, all pieces of one rank are of one rule, so no key matches two of them.
use Rattle.std.proofs.Common.{◌≡◌, List, IsFalse, Contains, inl, inr, refl, sym, ap, ◌∙◌, subst}
use Rattle.std.proofs.lemmas.List.Elements.{Contains-append_cases}
use Rattle.rule_model.specs.declared.Rule.{Rule}
use Rattle.rule_model.specs.declared.Piece.{Piece}
use Rattle.rule_model.specs.RuleSet.{IsRuleSet}
use Rattle.rule_model.specs.Piece.{PiecesOverlap}
use Rattle.rule_model.proofs.RuleSets.{IsRuleSet-distinct}
use Rattle.rule_store.specs.declared.Mode.{Mode}
use Rattle.rule_store.specs.declared.Command.{Command}
use Rattle.rule_store.specs.Batch.{removes, with_result_after, set_after}
use Rattle.rule_store.specs.Verdict.{pieces_of, added_pieces}
use Rattle.rule_store.proofs.Members.{set_after-member}
use Rattle.rule_store.proofs.Additions.{new_rules, new_rules-member}
use Rattle.rule_model.specs.Entry.{RankedPiece}
use Rattle.commit_writes.specs.Bits.{FieldBits, with_bits}
use Rattle.commit_writes.specs.Shape.{set_pieces, inserted_pieces}
use Rattle.commit_writes.specs.Commit.{ReplacesNone}
use Rattle.commit_writes.proofs.BatchPieces.{row_pieces}
use Rattle.commit_writes.proofs.BatchRules.{IsSoundChange, set_after-is}
use Rattle.commit_writes.proofs.ModePieces.{pieces_after, pieces_disjoint}
use Rattle.commit_writes.proofs.Members.{pairs_same}
use Rattle.commit_writes.proofs.PieceChanges.{added_chosen, inserted_stays}
use Rattle.commit_writes.proofs.SetPieces.{IsChoice, IsChosen, in_chosen, all_chosen}

-- pieces that some key matches both
swapped : (p q : Piece) → PiecesOverlap p q → PiecesOverlap q p
swapped p q meet = (meet.0, meet.1, meet.3, meet.2)

-- of a rule they are one
rule_disjoint : (mode : Mode) (rule : Rule) (p q : Piece) → Contains (pieces_of mode rule) p → Contains (pieces_of mode rule) q → PiecesOverlap p q → p ≡ q
rule_disjoint mode rule p q in_p in_q meet = elim (pairs_same (λ a b. PiecesOverlap a b → ⊥) (pieces_of mode rule) p q (pieces_disjoint mode rule) in_p in_q) [
  | inl same ↦ same
  | inr apart ↦ absurd (elim apart [ inl first ↦ first meet | inr second ↦ second (swapped p q meet) ])
]

-- with their bits too
chosen_disjoint : (mode : Mode) (bits : FieldBits) (choose others : Rule → List Piece) (rules some : List Rule) (a b : RankedPiece) → IsChoice mode choose → IsChoice mode others
    → (x : IsChosen bits choose rules a) → (y : IsChosen bits others some b) → pieces_of mode x.rule ≡ pieces_of mode y.rule → PiecesOverlap a.piece b.piece → a.piece ≡ b.piece
chosen_disjoint mode bits choose others rules some a b choice choice_too x y one meet =
    sym x.piece_is ∙ (ap (with_bits bits)
    (rule_disjoint mode y.rule x.piece y.piece (subst (λ pieces. Contains pieces x.piece) one (choice x.rule x.piece x.has)) (choice_too y.rule y.piece y.has)
    (subst (λ p. PiecesOverlap p y.piece) (sym x.piece_is) (subst (PiecesOverlap a.piece) (sym y.piece_is) meet))) ∙ y.piece_is)

-- so they are of a set at one rank,
set_disjoint : (mode : Mode) (bits : FieldBits) (rules : List Rule) → IsRuleSet rules → (a b : RankedPiece) → Contains (set_pieces mode bits rules) a → Contains (set_pieces mode bits rules) b
    → a.rank ≡ b.rank → PiecesOverlap a.piece b.piece → a.piece ≡ b.piece
set_disjoint mode bits rules set a b in_a in_b rank meet =
    let x = in_chosen bits (pieces_of mode) rules a in_a in
    let y = in_chosen bits (pieces_of mode) rules b in_b in
    let one : x.rule ≡ y.rule = IsRuleSet-distinct rules set x.rule y.rule x.member y.member (sym x.rank_is ∙ (rank ∙ y.rank_is)) in
    chosen_disjoint mode bits (pieces_of mode) (pieces_of mode) rules rules a b (all_chosen mode) (all_chosen mode) x y (ap (pieces_of mode) one) meet

module _ (mode : Mode) (bits : FieldBits) (rules : List Rule) (batch : List Command) (change : IsSoundChange rules batch) (none : ReplacesNone batch) where
  -- of the set and the inserted ones, as no rule of the set gives its priority to a new one,
  across : (a b : RankedPiece) → Contains (set_pieces mode bits rules) a → Contains (inserted_pieces mode bits rules batch) b
      → a.rank ≡ b.rank → PiecesOverlap a.piece b.piece → a.piece ≡ b.piece
  across a b in_a in_b rank meet = chosen_disjoint mode bits (pieces_of mode) (added_pieces mode rules) rules (new_rules batch) a b (all_chosen mode) (added_chosen mode rules) x y (sym (pieces_after mode batch x.rule) ∙ ap (pieces_of mode) one) meet
    where
      x : IsChosen bits (pieces_of mode) rules a
      x = in_chosen bits (pieces_of mode) rules a in_a

      y : IsChosen bits (added_pieces mode rules) (new_rules batch) b
      y = in_chosen bits (added_pieces mode rules) (new_rules batch) b in_b

      same : x.rule.priority ≡ y.rule.priority
      same = sym x.rank_is ∙ (rank ∙ y.rank_is)

      stays : IsFalse (removes x.rule.priority batch)
      stays = subst (λ priority. IsFalse (removes priority batch)) (sym same) (none y.rule (new_rules-member batch y.rule y.member))

      one : with_result_after batch x.rule ≡ y.rule
      one = IsRuleSet-distinct (set_after rules batch) (set_after-is rules batch change) (with_result_after batch x.rule) y.rule
          ((set_after-member rules batch (with_result_after batch x.rule)).1 (inr (x.rule, x.member, stays, refl)))
          ((set_after-member rules batch y.rule).1 (inl (new_rules-member batch y.rule y.member))) same

  -- and of both
  pub row_disjoint : (a b : RankedPiece) → Contains (row_pieces mode bits rules batch) a → Contains (row_pieces mode bits rules batch) b
      → a.rank ≡ b.rank → PiecesOverlap a.piece b.piece → a.piece ≡ b.piece
  row_disjoint a b in_a in_b rank meet = elim (Contains-append_cases old inserted a in_a) [
    | inl old_a ↦ elim (Contains-append_cases old inserted b in_b) [
      | inl old_b ↦ set_disjoint mode bits rules change.is_set a b old_a old_b rank meet
      | inr new_b ↦ across a b old_a new_b rank meet
    ]
    | inr new_a ↦ elim (Contains-append_cases old inserted b in_b) [
      | inl old_b ↦ sym (across b a old_b new_a (sym rank) (swapped a.piece b.piece meet))
      | inr new_b ↦ set_disjoint mode bits (set_after rules batch) (set_after-is rules batch change) a b (stays a new_a) (stays b new_b) rank meet
    ]
  ]
    where
      old : List RankedPiece
      old = set_pieces mode bits rules

      inserted : List RankedPiece
      inserted = inserted_pieces mode bits rules batch

      stays : (ranked : RankedPiece) → Contains inserted ranked → Contains (set_pieces mode bits (set_after rules batch)) ranked
      stays ranked put = (inserted_stays mode bits rules batch change ranked put).0
