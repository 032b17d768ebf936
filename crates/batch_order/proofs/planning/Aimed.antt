-- The aims of the first pieces and one more, and those of the pieces that are left.
use Rattle.std.proofs.Common.{◌≡◌, ℕ, zero, suc, ◌+◌, ◌<◌, ◌⊎◌, inl, inr, List, [], ◌∷◌, ◌++◌, take, drop, length, get_or, refl, ap, ◌∙◌, arith}
use Rattle.std.proofs.lemmas.List.{length-drop}
use Rattle.rule_model.specs.declared.Rule.{Rule}
use Rattle.rule_store.specs.declared.Mode.{Mode}
use Rattle.rule_store.specs.Verdict.{entries_of}
use Rattle.rule_model.specs.Entry.{RankedPiece}
use Rattle.placement.specs.Placement.{Aiming}
use Rattle.batch_order.specs.declared.Placement.{Placement}
use Rattle.batch_order.specs.Placing.{aim_of, aims_from, aims_of, ranks_of}

module _ (placement : Placement) (mode : Mode) (slots : ℕ) (rules : List Rule) where
  -- the first aims and one more
  pub aims_next : (all place : ℕ) (pieces : List RankedPiece) (n : ℕ) (one : RankedPiece) → n < length pieces → get_or pieces n one ≡ one
      → take (suc n) (aims_from placement mode slots rules all place pieces)
      ≡ take n (aims_from placement mode slots rules all place pieces) ++ record { aim = aim_of placement mode slots rules all (place + n) one; coming = drop (suc n) (ranks_of pieces) } ∷ []
  aims_next all place [] n one less is = absurd (omega arith)
  aims_next all place (first ∷ rest) zero one less is =
      ap (λ (ranked : RankedPiece). record { aim = aim_of placement mode slots rules all place ranked; coming = ranks_of rest } ∷ []) is
      ∙ ap (λ (at : ℕ). record { aim = aim_of placement mode slots rules all at one; coming = ranks_of rest } ∷ []) (omega arith)
  aims_next all place (first ∷ rest) (suc n) one less is =
      ap (λ (later : List Aiming). record { aim = aim_of placement mode slots rules all place first; coming = ranks_of rest } ∷ later) (aims_next all (place + 1) rest n one (omega arith) is)
      ∙ ap (λ (at : ℕ). record { aim = aim_of placement mode slots rules all place first; coming = ranks_of rest }
      ∷ (take n (aims_from placement mode slots rules all (place + 1) rest) ++ record { aim = aim_of placement mode slots rules all at one; coming = drop (suc n) (ranks_of rest) } ∷ [])) (omega arith)

  -- each piece has one
  pub length-aims : (all place : ℕ) (pieces : List RankedPiece) → length (aims_from placement mode slots rules all place pieces) ≡ length pieces
  length-aims all place [] = refl
  length-aims all place (one ∷ pieces) = let rest = length-aims all (place + 1) pieces in omega arith

  -- behind the first pieces aim the others as behind so many more
  aims_drop : (all place n : ℕ) (pieces : List RankedPiece) → aims_from placement mode slots rules all (place + n) (drop n pieces) ≡ drop n (aims_from placement mode slots rules all place pieces)
  aims_drop all place zero pieces = ap (λ (at : ℕ). aims_from placement mode slots rules all at pieces) (omega arith)
  aims_drop all place (suc n) [] = refl
  aims_drop all place (suc n) (one ∷ pieces) =
      ap (λ (at : ℕ). aims_from placement mode slots rules all at (drop n pieces)) (let at : place + suc n ≡ (place + 1) + n = omega arith in at)
      ∙ aims_drop all (place + 1) n pieces

  -- of how many entries only matters where some piece aims
  aims_among : (a b place : ℕ) (pieces : List RankedPiece) → (0 < length pieces → a ≡ b) → aims_from placement mode slots rules a place pieces ≡ aims_from placement mode slots rules b place pieces
  aims_among a b place [] same = refl
  aims_among a b place (one ∷ pieces) same = ap (λ (all : ℕ). aims_from placement mode slots rules all place (one ∷ pieces)) (same (omega arith))

  -- So the pieces that are left aim as they did among all: where there are some, as many entries stand as the set has and
  -- were inserted.
  pub aims_rest : (stood n : ℕ) (pieces : List RankedPiece) → (length (drop n pieces) ≡ 0) ⊎ (stood ≡ entries_of mode rules + n)
      → aims_from placement mode slots rules (stood + length (drop n pieces)) n (drop n pieces) ≡ drop n (aims_of placement mode slots rules pieces)
  aims_rest stood n pieces standing =
      aims_among (stood + length (drop n pieces)) (entries_of mode rules + length pieces) n (drop n pieces) (same standing)
      ∙ (ap (λ (at : ℕ). aims_from placement mode slots rules (entries_of mode rules + length pieces) at (drop n pieces)) (let at : n ≡ 0 + n = omega arith in at)
      ∙ aims_drop (entries_of mode rules + length pieces) 0 n pieces)
    where
      same : (length (drop n pieces) ≡ 0) ⊎ (stood ≡ entries_of mode rules + n) → 0 < length (drop n pieces) → stood + length (drop n pieces) ≡ entries_of mode rules + length pieces
      same (inl none) some = omega arith
      same (inr all) some = let number = length-drop n pieces in omega arith
