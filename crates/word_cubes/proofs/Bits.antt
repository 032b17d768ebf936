-- Bits of a word, a value and a mask: where they agree, and where two values clash.
use Rattle.std.proofs.Common.{◌≡◌, ◌≢◌, ℕ, ◌+◌, ◌*◌, ◌%◌, ◌^◌, ◌<◌, min, max, bit_and, bit_xor, inl, inr, ◌⊎◌, sym, ◌∙◌, ap, arith, w32}
use Rattle.std.specs.Prelude.{bit_or}
use Rattle.std.specs.Int.{bit_at}
use Rattle.std.specs.Int.Bits.{or_zero_l}
use Rattle.std.proofs.lemmas.Bool.{cases_eq}
use Rattle.std.proofs.lemmas.Nat.Bits.{bit_at-lt, bit_at_and, bit_at_or, bit_at_xor, bit_at-zero, same_from_bits, bit_at_set_same, bit_at_set_other}
use Rattle.word_cubes.specs.Cube.{IsCovered, clash}

-- a word agrees with a value wherever a mask is set
abbrev pub agrees : ℕ → ℕ → ℕ → Type 0
agrees word value mask = bit_and (bit_xor word value) mask ≡ 0

-- and so at one bit
abbrev agrees_at : ℕ → ℕ → ℕ → Type 0
agrees_at word value mask = min ((word + value) % 2) mask ≡ 0

zero_by_bits : (n : ℕ) → ((i : ℕ) → bit_at n i ≡ 0) → n ≡ 0
zero_by_bits n all = same_from_bits n 0 (λ i. all i ∙ sym (bit_at-zero i))

bit_of_zero : (n i : ℕ) → n ≡ 0 → bit_at n i ≡ 0
bit_of_zero n i e = ap (λ x. bit_at x i) e ∙ bit_at-zero i

bit_agreed : (word value mask i : ℕ) → bit_at (bit_and (bit_xor word value) mask) i ≡ min ((bit_at word i + bit_at value i) % 2) (bit_at mask i)
bit_agreed word value mask i = bit_at_and (bit_xor word value) mask i ∙ ap (λ n. min n (bit_at mask i)) (bit_at_xor word value i)

agree_at : (word value mask i : ℕ) → agrees word value mask → agrees_at (bit_at word i) (bit_at value i) (bit_at mask i)
agree_at word value mask i e = sym (bit_agreed word value mask i) ∙ bit_of_zero _ i e

agree_from : (word value mask : ℕ) → ((i : ℕ) → agrees_at (bit_at word i) (bit_at value i) (bit_at mask i)) → agrees word value mask
agree_from word value mask each = zero_by_bits _ (λ i. bit_agreed word value mask i ∙ each i)

bit_clashed : (value mask other over i : ℕ)
    → bit_at (clash value mask other over) i ≡ min (min ((bit_at value i + bit_at other i) % 2) (bit_at mask i)) (bit_at over i)
bit_clashed value mask other over i = bit_at_and _ over i ∙ ap (λ n. min n (bit_at over i)) (bit_agreed value other mask i)

near_at : (w e n c m : ℕ) → w < 2 → e < 2 → n < 2 → c < 2 → m < 2 → agrees_at w c m → agrees_at w e n → min (min ((e + c) % 2) n) m ≡ 0
near_at w e n c m lw le ln lc lm a b = omega arith

-- two values that a word agrees with don't clash
pub agreed-near : (word value mask other over : ℕ) → agrees word value mask → agrees word other over → clash value mask other over ≡ 0
agreed-near word value mask other over a b =
    zero_by_bits _ (λ i. bit_clashed value mask other over i
    ∙ near_at (bit_at word i) (bit_at value i) (bit_at mask i) (bit_at other i) (bit_at over i) (bit_at-lt word i) (bit_at-lt value i) (bit_at-lt mask i) (bit_at-lt other i) (bit_at-lt over i)
    (agree_at word other over i b) (agree_at word value mask i a))

within_at : (w e n c m : ℕ) → w < 2 → e < 2 → n < 2 → c < 2 → m < 2 → agrees_at w c m → min (min ((e + c) % 2) n) m ≡ 0 → (n + min n m) % 2 ≡ 0 → agrees_at w e n
within_at w e n c m lw le ln lc lm a b covered = omega arith

-- a word agrees with a value whose mask another one covers, where the word agrees with that and the two don't clash
pub near-agreed : (word value mask other over : ℕ) → agrees word other over → clash value mask other over ≡ 0 → IsCovered mask over → agrees word value mask
near-agreed word value mask other over a near covered = agree_from word value mask each
  where
    clear : (i : ℕ) → min (min ((bit_at value i + bit_at other i) % 2) (bit_at mask i)) (bit_at over i) ≡ 0
    clear i = sym (bit_clashed value mask other over i) ∙ bit_of_zero _ i near

    covers : (i : ℕ) → (bit_at mask i + min (bit_at mask i) (bit_at over i)) % 2 ≡ 0
    covers i =
        ap (λ n. (bit_at mask i + n) % 2) (sym (bit_at_and mask over i)) ∙ sym (bit_at_xor mask (bit_and mask over) i) ∙ bit_of_zero _ i covered

    each : (i : ℕ) → agrees_at (bit_at word i) (bit_at value i) (bit_at mask i)
    each i =
        within_at (bit_at word i) (bit_at value i) (bit_at mask i) (bit_at other i) (bit_at over i) (bit_at-lt word i) (bit_at-lt value i) (bit_at-lt mask i) (bit_at-lt other i) (bit_at-lt over i)
        (agree_at word other over i a) (clear i) (covers i)

-- the bit at k
abbrev pub one_bit : ℕ → ℕ
one_bit k = 1 * 2 ^ k % 2 ^ 32

other_at : (w v m m' : ℕ) → m' ≡ m → agrees_at w v m → agrees_at w v m'
other_at w v m m' e a = omega arith

-- a word whose bit k is 1 agrees with the upper half,
pub agreed-upper : (word value mask k : ℕ) → k < 32 → agrees word value mask → bit_at word k ≡ 1 → agrees word (bit_or value (one_bit k)) (bit_or mask (one_bit k))
agreed-upper word value mask k below a one = agree_from word _ _ each
  where
    same_bit : (w v m : ℕ) → w ≡ 1 → v ≡ 1 → agrees_at w v m
    same_bit w v m x y = omega arith

    kept : (w v v' m m' : ℕ) → v' ≡ v → m' ≡ m → agrees_at w v m → agrees_at w v' m'
    kept w v v' m m' x y z = omega arith

    each : (i : ℕ) → agrees_at (bit_at word i) (bit_at (bit_or value (one_bit k)) i) (bit_at (bit_or mask (one_bit k)) i)
    each i = elim (cases_eq i k) [
      | inl same ↦ same_bit _ _ _ (ap (λ n. bit_at word n) same ∙ one) (ap (λ n. bit_at (bit_or value (one_bit k)) n) same ∙ bit_at_set_same w32 value k below)
      | inr other ↦ kept _ _ _ _ _ (bit_at_set_other w32 value k below i other) (bit_at_set_other w32 mask k below i other) (agree_at word value mask i a)
    ]

one_here : (k : ℕ) → k < 32 → bit_at (one_bit k) k ≡ 1
one_here k below = ap (λ n. bit_at n k) (sym (or_zero_l (one_bit k))) ∙ bit_at_set_same w32 0 k below

one_elsewhere : (k i : ℕ) → k < 32 → i ≢ k → bit_at (one_bit k) i ≡ 0
one_elsewhere k i below other = ap (λ n. bit_at n i) (sym (or_zero_l (one_bit k))) ∙ bit_at_set_other w32 0 k below i other ∙ bit_at-zero i

-- and one whose bit k is 0 with the lower one
pub agreed-lower : (word value mask k : ℕ) → k < 32 → agrees word value mask → bit_at word k ≡ 0
    → agrees word (bit_xor (bit_or value (one_bit k)) (one_bit k)) (bit_or mask (one_bit k))
agreed-lower word value mask k below a zero = agree_from word _ _ each
  where
    same_bit : (w v m x y : ℕ) → w ≡ 0 → v ≡ (x + y) % 2 → x ≡ 1 → y ≡ 1 → agrees_at w v m
    same_bit w v m x y e f g h = omega arith

    kept : (w v v' m m' x y : ℕ) → v < 2 → v' ≡ (x + y) % 2 → x ≡ v → y ≡ 0 → m' ≡ m → agrees_at w v m → agrees_at w v' m'
    kept w v v' m m' x y lv e f g h z = omega arith

    each : (i : ℕ) → agrees_at (bit_at word i) (bit_at (bit_xor (bit_or value (one_bit k)) (one_bit k)) i) (bit_at (bit_or mask (one_bit k)) i)
    each i = elim (cases_eq i k) [
      | inl same ↦ same_bit _ _ _ (bit_at (bit_or value (one_bit k)) i) (bit_at (one_bit k) i) (ap (λ n. bit_at word n) same ∙ zero) (bit_at_xor (bit_or value (one_bit k)) (one_bit k) i)
          (ap (λ n. bit_at (bit_or value (one_bit k)) n) same ∙ bit_at_set_same w32 value k below) (ap (λ n. bit_at (one_bit k) n) same ∙ one_here k below)
      | inr other ↦ kept (bit_at word i) (bit_at value i) _ (bit_at mask i) _ (bit_at (bit_or value (one_bit k)) i) (bit_at (one_bit k) i) (bit_at-lt value i)
          (bit_at_xor (bit_or value (one_bit k)) (one_bit k) i) (bit_at_set_other w32 value k below i other) (one_elsewhere k i below other)
          (bit_at_set_other w32 mask k below i other) (agree_at word value mask i a)
    ]

-- a word that agrees with two values agrees with both as one
pub agreed-both : (word value mask other over : ℕ) → agrees word value mask → agrees word other over
    → agrees word (bit_or (bit_and value mask) (bit_and other over)) (bit_or mask over)
agreed-both word value mask other over a b = agree_from word _ _ each
  where
    at : (w v m u n : ℕ) → w < 2 → v < 2 → m < 2 → u < 2 → n < 2 → agrees_at w v m → agrees_at w u n → agrees_at w (max (min v m) (min u n)) (max m n)
    at w v m u n lw lv lm lu ln x y = omega arith

    joined : (i : ℕ) → bit_at (bit_or (bit_and value mask) (bit_and other over)) i ≡ max (min (bit_at value i) (bit_at mask i)) (min (bit_at other i) (bit_at over i))
    joined i = bit_at_or _ _ i ∙ ap (λ n. max n (bit_at (bit_and other over) i)) (bit_at_and value mask i) ∙ ap (λ n. max (min (bit_at value i) (bit_at mask i)) n) (bit_at_and other over i)

    both : (w v v' m m' : ℕ) → v' ≡ v → m' ≡ m → agrees_at w v m → agrees_at w v' m'
    both w v v' m m' x y z = omega arith

    each : (i : ℕ) → agrees_at (bit_at word i) (bit_at (bit_or (bit_and value mask) (bit_and other over)) i) (bit_at (bit_or mask over) i)
    each i =
        both _ _ _ _ _ (joined i) (bit_at_or mask over i)
        (at (bit_at word i) (bit_at value i) (bit_at mask i) (bit_at other i) (bit_at over i) (bit_at-lt word i) (bit_at-lt value i) (bit_at-lt mask i) (bit_at-lt other i) (bit_at-lt over i)
        (agree_at word value mask i a) (agree_at word other over i b))

-- a bit is 0 or 1
pub bit_cases : (n k : ℕ) → (bit_at n k ≡ 0) ⊎ (bit_at n k ≡ 1)
bit_cases n k = go (bit_at n k) (bit_at-lt n k)
  where
    go : (b : ℕ) → b < 2 → (b ≡ 0) ⊎ (b ≡ 1)
    go b below = elim (cases_eq b 0) [ inl z ↦ inl z | inr other ↦ inr (omega arith) ]
