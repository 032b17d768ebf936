-- A match lane by lane is that each lane agrees.
use Rattle.std.proofs.Common.{◌≡◌, ℕ, zero, suc, ◌<◌, true, List, [], ◌∷◌, length, get_or, arith, eqb-true, eq-eqb, ap₂, refl}
use Rattle.std.specs.Prelude.{◌&&◌}
use Rattle.std.proofs.lemmas.Bool.{and_parts}
use Rattle.rule_model.specs.Entry.{lanes_match}
use Rattle.word_cubes.proofs.Bits.{agrees}

abbrev pub agrees_in : List ℕ → List ℕ → List ℕ → ℕ → Type 0
agrees_in words values masks lane = agrees (get_or words lane 0) (get_or values lane 0) (get_or masks lane 0)

pub matched-agrees : (words values masks : List ℕ) (lane : ℕ) → lane < length words → lane < length values → lane < length masks
    → lanes_match words values masks ≡ true → agrees_in words values masks lane
matched-agrees [] values masks lane lw lv lm e = absurd (omega (arith, lw))
matched-agrees (w ∷ words) [] masks lane lw lv lm e = absurd (omega (arith, lv))
matched-agrees (w ∷ words) (v ∷ values) [] lane lw lv lm e = absurd (omega (arith, lm))
matched-agrees (w ∷ words) (v ∷ values) (m ∷ masks) zero lw lv lm e = eqb-true _ 0 (and_parts _ _ e).0
matched-agrees (w ∷ words) (v ∷ values) (m ∷ masks) (suc lane) lw lv lm e =
    matched-agrees words values masks lane (omega arith) (omega arith) (omega arith) (and_parts _ _ e).1

pub agreeing-match : (words values masks : List ℕ) → ((lane : ℕ) → lane < length words → agrees_in words values masks lane) → lanes_match words values masks ≡ true
agreeing-match [] values masks each = refl
agreeing-match (w ∷ words) [] masks each = refl
agreeing-match (w ∷ words) (v ∷ values) [] each = refl
agreeing-match (w ∷ words) (v ∷ values) (m ∷ masks) each =
    ap₂ (λ a b. a && b) (eq-eqb _ 0 (each zero (omega arith))) (agreeing-match words values masks (λ lane below. each (suc lane) (omega arith)))
