-- How many pieces a set has, and how many a batch inserts: as many as the entries that they take.
use Rattle.std.proofs.Common.{◌≡◌, ℕ, ◌+◌, fold, List, [], ◌∷◌, length, sum_by, refl, sym, ap₂, ◌∙◌, arith, ltb, length-append}
use Rattle.std.proofs.lemmas.Bool.{cond_both}
use Rattle.std.proofs.lemmas.List.{length-map}
use Rattle.std.proofs.lemmas.List.Sums.{sum_by-cons}
use Rattle.rule_model.specs.declared.Rule.{Rule}
use Rattle.rule_model.specs.declared.Piece.{Piece}
use Rattle.rule_store.specs.declared.Mode.{Mode}
use Rattle.rule_store.specs.declared.Command.{Command}
use Rattle.rule_store.specs.Batch.{additions, with_rule}
use Rattle.rule_store.specs.Verdict.{pieces_of, entries_needed, entries_of, added_pieces, entries_added}
use Rattle.rule_store.proofs.Pieces.{pieces_of-length}
use Rattle.commit_writes.specs.Bits.{FieldBits}
use Rattle.commit_writes.specs.Shape.{ranked_piece, ranked_pieces, set_pieces, inserted_pieces}
use Rattle.commit_writes.proofs.SetPieces.{chosen_pieces}

-- as many as are chosen of each rule
chosen_length : (bits : FieldBits) (choose : Rule → List Piece) (rules : List Rule) → length (chosen_pieces bits choose rules) ≡ sum_by (λ rule. length (choose rule)) rules
chosen_length bits choose [] = refl
chosen_length bits choose (rule ∷ rules) =
    length-append (ranked_pieces bits rule (choose rule)) (chosen_pieces bits choose rules)
    ∙ (ap₂ (λ (a b : ℕ). a + b) (length-map (choose rule) (ranked_piece bits rule)) (chosen_length bits choose rules)
    ∙ sym (sum_by-cons (λ (other : Rule). length (choose other)) rule rules))

sums_agree : (f g : Rule → ℕ) (rules : List Rule) → ((rule : Rule) → f rule ≡ g rule) → sum_by f rules ≡ sum_by g rules
sums_agree f g [] same = refl
sums_agree f g (rule ∷ rules) same =
    sum_by-cons f rule rules ∙ (ap₂ (λ (a b : ℕ). a + b) (same rule) (sums_agree f g rules same) ∙ sym (sum_by-cons g rule rules))

-- those of a set
pub entries_pieces : (mode : Mode) (bits : FieldBits) (rules : List Rule) → entries_of mode rules ≡ length (set_pieces mode bits rules)
entries_pieces mode bits rules =
    sums_agree (entries_needed mode) (λ rule. length (pieces_of mode rule)) rules (λ rule. sym (pieces_of-length mode rule)) ∙ sym (chosen_length bits (pieces_of mode) rules)

-- a sum over a set with a rule more, and with some more
sum_with_rule : (f : Rule → ℕ) (rules : List Rule) (new : Rule) → sum_by f (with_rule rules new) ≡ f new + sum_by f rules
sum_with_rule f [] new = sum_by-cons f new []
sum_with_rule f (rule ∷ rules) new =
    cond_both (ltb rule.priority new.priority) (new ∷ rule ∷ rules) (rule ∷ with_rule rules new) (λ some. sum_by f some ≡ f new + sum_by f (rule ∷ rules))
    (λ lower. sum_by-cons f new (rule ∷ rules))
    (λ higher.
    let here = sum_by-cons f rule (with_rule rules new) in
    let later = sum_with_rule f rules new in
    let was = sum_by-cons f rule rules in
    swapped _ _ _ _ _ _ here later was)
  where
    swapped : (whole first second rest old all : ℕ) → whole ≡ first + rest → rest ≡ second + old → all ≡ first + old → whole ≡ second + all
    swapped whole first second rest old all here later was = omega arith

sum_with_rules : (f : Rule → ℕ) (rules added : List Rule) → sum_by f (fold with_rule rules added) ≡ sum_by f rules + sum_by f added
sum_with_rules f rules [] = none (sum_by f rules)
  where
    none : (n : ℕ) → n ≡ n + 0
    none n = omega arith
sum_with_rules f rules (new ∷ added) =
    moved _ _ _ _ _ _ (sum_with_rules f (with_rule rules new) added) (sum_with_rule f rules new) (sum_by-cons f new added)
  where
    moved : (whole more added new all old : ℕ) → whole ≡ more + added → more ≡ new + old → all ≡ new + added → whole ≡ old + all
    moved whole more added new all old a b c = omega arith

-- those that a batch inserts
pub added_pieces_count : (mode : Mode) (bits : FieldBits) (rules : List Rule) (batch : List Command) → entries_added mode rules batch ≡ length (inserted_pieces mode bits rules batch)
added_pieces_count mode bits rules batch =
    sym (chosen_length bits (added_pieces mode rules) (fold with_rule [] (additions batch))
    ∙ (sum_with_rules (λ new. length (added_pieces mode rules new)) [] (additions batch) ∙ from_none (entries_added mode rules batch)))
  where
    from_none : (n : ℕ) → 0 + n ≡ n
    from_none n = omega arith
