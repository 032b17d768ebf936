-- The largest block that a range begins with, from the trailing zeros of its first port.
use Rattle.std.proofs.Common.{◌≡◌, ℕ, zero, suc, ◌+◌, ◌*◌, ◌%◌, ◌^◌, ◌<◌, ◌≤◌, min, subst, ap, arith, inl, inr}
use Rattle.std.specs.Int.{w16, bit_at, trailing_zeros}
use Rattle.std.specs.Int.Count.{trailing_of_zero}
use Rattle.std.proofs.Math.Nat.{zero-mod, two-pow-succ}
use Rattle.std.proofs.Math.Pow.{pow_mono}
use Rattle.std.proofs.lemmas.Bool.{cases_lt}
use Rattle.std.proofs.lemmas.Nat.{mod-pow-add, pow_pos, trailing_le}
use Rattle.std.proofs.lemmas.Nat.Bits.{bit_at-trailing_zeros}
use Rattle.rule_model.specs.PortRange.{PortRange, IsPortRange, range_size}
use Rattle.rule_model.proofs.Multiples.{multiple_lower}
use Rattle.rule_model.specs.FirstBlock.{BeginsWith}

-- one more bit
next_bit : (n t : ℕ) → n % 2 ^ suc t ≡ bit_at n t * 2 ^ t + n % 2 ^ t
next_bit n t =
    let e : 1 + t ≡ suc t = omega arith in
    subst (λ z. n % 2 ^ z ≡ bit_at n t * 2 ^ t + n % 2 ^ t) e (mod-pow-add n 1 t)

low_zeros : (n t : ℕ) → ((i : ℕ) → i < t → bit_at n i ≡ 0) → n % 2 ^ t ≡ 0
low_zeros n zero bits = let e : n % 1 ≡ 0 = omega arith in e
low_zeros n (suc t) bits =
    let e = next_bit n t in
    let rest = low_zeros n t (λ i below. bits i (omega arith)) in
    let bit = bits t (omega arith) in
    let none : bit_at n t * 2 ^ t ≡ 0 * 2 ^ t = ap (λ z. z * 2 ^ t) bit in
    omega arith

-- a multiple of so high a power
zeros_multiple : (n : ℕ) → n < 2 ^ 16 → n % 2 ^ trailing_zeros w16 n ≡ 0
zeros_multiple n fits =
    elim (cases_lt 0 n) [
      | inl some ↦ low_zeros n (trailing_zeros w16 n) (bit_at-trailing_zeros w16 n some fits).2
      | inr none ↦ let e : 0 ≡ n = omega arith in subst (λ z. z % 2 ^ trailing_zeros w16 n ≡ 0) e (zero-mod (2 ^ trailing_zeros w16 n))
    ]

-- and of no higher one that has 16 bits
zeros_greatest : (n k : ℕ) → n < 2 ^ 16 → trailing_zeros w16 n < k → k ≤ 16 → n % 2 ^ k ≡ 0 → ⊥
zeros_greatest n k fits more most multiple =
    elim (cases_lt 0 n) [
      | inl some ↦
          let t = trailing_zeros w16 n in
          let one = (bit_at-trailing_zeros w16 n some fits).1 in
          let e = next_bit n t in
          let p = pow_pos t in
          let up : bit_at n t * 2 ^ t ≡ 1 * 2 ^ t = ap (λ z. z * 2 ^ t) one in
          let low = multiple_lower (suc t) k n more multiple in
          omega arith
      | inr none ↦
          let e : 0 ≡ n = omega arith in
          let all : trailing_zeros w16 n ≡ 16 = subst (λ z. trailing_zeros w16 z ≡ 16) e (trailing_of_zero 16) in
          omega arith
    ]

-- the lesser of both, of a number's trailing zeros and of the power of two that the size of a range reaches
pub begins_with : (range : PortRange) (level room : ℕ) → IsPortRange range → level ≡ min (trailing_zeros w16 range.lo) room
    → 2 ^ room ≤ range_size range → range_size range < 2 * 2 ^ room → BeginsWith range level
begins_with range level room right least reached next =
    let ordered = right.ordered in
    let fits = right.fits in
    let most = trailing_le 16 range.lo in
    let low : 2 ^ level ≤ 2 ^ room = pow_mono (let l : level ≤ room = omega arith in l) in
    record {
      most = omega arith;
      multiple = multiple_lower level (trailing_zeros w16 range.lo) range.lo (omega arith) (zeros_multiple range.lo (omega arith));
      fits = omega arith;
      greatest = larger;
    }
  where
    larger : (k : ℕ) → level < k → k ≤ 16 → range.lo % 2 ^ k ≡ 0 → range_size range < 2 ^ k
    larger k more most multiple =
        let ordered = right.ordered in
        let fits = right.fits in
        elim (cases_lt (trailing_zeros w16 range.lo) k) [
          | inl past ↦ absurd (zeros_greatest range.lo k (omega arith) past most multiple)
          | inr within ↦
              let up : 2 ^ suc room ≤ 2 ^ k = pow_mono (let m : suc room ≤ k = omega arith in m) in
              let twice = two-pow-succ room in
              omega arith
        ]
