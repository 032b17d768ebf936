-- A match lane by lane, from some lane on.
use Rattle.std.proofs.Common.{◌≡◌, ℕ, ◌+◌, ◌<◌, ◌≤◌, true, false, ◌==◌, ◌&&◌, List, length, get_or, drop, ◌∙◌, ap, bit_and, bit_xor, drop-cons, add-one}
use Rattle.std.proofs.lemmas.Bool.{ne_eqb, eq-eqb}
use Rattle.std.proofs.lemmas.List.{drop_all}
use Rattle.rule_model.specs.Entry.{lanes_match}

-- from lane i on: lane i and those after it
first_of_rest : (words values masks : List ℕ) (i : ℕ) → i < length words → i < length values → i < length masks
    → lanes_match (drop i words) (drop i values) (drop i masks)
    ≡ ((bit_and (bit_xor (get_or words i 0) (get_or values i 0)) (get_or masks i 0) == 0) && lanes_match (drop (i + 1) words) (drop (i + 1) values) (drop (i + 1) masks))
first_of_rest words values masks i lw lv lm =
    rw (add-one, drop-cons words i 0 lw, drop-cons values i 0 lv, drop-cons masks i 0 lm)

-- a lane that agrees is passed
pub passed : (words values masks : List ℕ) (i : ℕ) → i < length words → i < length values → i < length masks
    → lanes_match words values masks ≡ lanes_match (drop i words) (drop i values) (drop i masks)
    → bit_and (bit_xor (get_or words i 0) (get_or values i 0)) (get_or masks i 0) ≡ 0
    → lanes_match words values masks ≡ lanes_match (drop (i + 1) words) (drop (i + 1) values) (drop (i + 1) masks)
passed words values masks i lw lv lm before agrees =
    before ∙ first_of_rest words values masks i lw lv lm
    ∙ ap (λ b. b && lanes_match (drop (i + 1) words) (drop (i + 1) values) (drop (i + 1) masks)) (eq-eqb _ 0 agrees)

-- a lane that differs decides
pub differs : (words values masks : List ℕ) (i : ℕ) → i < length words → i < length values → i < length masks
    → lanes_match words values masks ≡ lanes_match (drop i words) (drop i values) (drop i masks)
    → (bit_and (bit_xor (get_or words i 0) (get_or values i 0)) (get_or masks i 0) ≡ 0 → ⊥)
    → lanes_match words values masks ≡ false
differs words values masks i lw lv lm before other =
    before ∙ first_of_rest words values masks i lw lv lm
    ∙ ap (λ b. b && lanes_match (drop (i + 1) words) (drop (i + 1) values) (drop (i + 1) masks)) (ne_eqb _ 0 other)

-- no lane is left
pub ended : (words values masks : List ℕ) (n : ℕ) → length words ≤ n
    → lanes_match words values masks ≡ lanes_match (drop n words) (drop n values) (drop n masks) → lanes_match words values masks ≡ true
ended words values masks n past before =
    before ∙ ap (λ ws. lanes_match ws (drop n values) (drop n masks)) (drop_all n words past)
