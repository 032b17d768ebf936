-- Powers of two, by the count of their bits.
use Rattle.std.proofs.Common.{◌≡◌, ℕ, zero, suc, ◌+◌, ◌*◌, ◌/◌, ◌%◌, ◌^◌, ◌<◌, inl, inr, count_ones, arith, pow-suc, div-add-mod'}
use Rattle.std.specs.Int.Count.{ones_step, ones-ones}
use Rattle.std.proofs.lemmas.Bool.{cases_lt}
use Rattle.std.proofs.lemmas.Nat.{zero_from_ones, ones_le_self, ones_cat, pow_pos, mod_below, div_below}

-- a power of two has one bit set
pub count_ones-pow : (k : ℕ) → count_ones (2 ^ k) ≡ 1
count_ones-pow k =
    let whole = ones_cat k 1 0 (pow_pos k) in
    let one : count_ones 1 ≡ 1 = ones-ones 1 in
    let none : count_ones 0 ≡ 0 = ones-ones 0 in
    let same : 1 * 2 ^ k + 0 ≡ 2 ^ k = omega arith in
    let sum : count_ones (2 ^ k) ≡ count_ones 1 + count_ones 0 = rw same at whole in
    omega arith

-- a number with one bit set is a power of two
pub pow_from_ones : (d n : ℕ) → n < 2 ^ d → count_ones n ≡ 1 → (k : ℕ) × (n ≡ 2 ^ k)
pow_from_ones zero n below one = let some = ones_le_self n in absurd (omega arith)
pow_from_ones (suc d) n below one =
    let step : count_ones n ≡ n % 2 + count_ones (n / 2) = ones_step n in
    let parts = div-add-mod' n 2 in
    let half : n / 2 < 2 ^ d = div_below n 2 (2 ^ d) (omega arith) (rw pow-suc at below) in
    let bit = mod_below n 2 (omega arith) in
    elim (cases_lt (n % 2) 1) [
      | inl even ↦
          let root = pow_from_ones d (n / 2) half (omega arith) in
          let twice = pow-suc 2 root.0 in
          let is : n / 2 ≡ 2 ^ root.0 = root.1 in
          (suc root.0, omega arith)
      | inr odd ↦ let none = zero_from_ones (n / 2) (omega arith) in (0, omega arith)
    ]
