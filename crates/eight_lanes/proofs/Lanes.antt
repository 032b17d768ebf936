-- Lanes that are 0, and the places that a search passes over eight at a time.
use Rattle.std.proofs.Common.{◌≡◌, ℕ, Bool, ◌+◌, ◌-◌, ◌<◌, ◌≤◌, false, arith, subst, inl, inr, ◌≢◌, refl}
use Rattle.std.specs.Prelude.{◌&&◌, ◌==◌, bit_or}
use Rattle.std.proofs.lemmas.Bool.{cases_lt, cases_eq, ne_eqb}
use Rattle.std.proofs.lemmas.Nat.{le_or_l, le_or_r}

-- either is 0 exactly where both are
pub or_test : (a b : ℕ) → (bit_or a b == 0) ≡ ((a == 0) && (b == 0))
or_test a b = elim (cases_eq a 0) [
  | inl x ↦ elim (cases_eq b 0) [
    | inl y ↦ rw (x, y) refl
    | inr y ↦ let over = le_or_r a b in
        let more : bit_or a b ≢ 0 = λ e. absurd (y (omega arith)) in
        rw (ne_eqb _ _ more, ne_eqb _ _ y) (rw x refl)
  ]
  | inr x ↦ let over = le_or_l a b in
      let more : bit_or a b ≢ 0 = λ e. absurd (x (omega arith)) in
      rw (ne_eqb _ _ more, ne_eqb _ _ x) refl
]

-- none passes between two numbers, and none of the r from the second on does
pub none_further : (test : ℕ → Bool) (from n r : ℕ) → ((k : ℕ) → from ≤ k → k < n → test k ≡ false) → ((k : ℕ) → k < r → test (n + k) ≡ false)
    → (k : ℕ) → from ≤ k → k < n + r → test k ≡ false
none_further test from n r a b k above l = elim (cases_lt k n) [
  | inl x ↦ a k above x
  | inr y ↦ let s : n + (k - n) ≡ k = omega arith in subst (λ i. test i ≡ false) s (b (k - n) (omega arith))
]
