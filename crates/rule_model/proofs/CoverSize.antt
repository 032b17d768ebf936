-- How many blocks a cover has.
use Rattle.std.proofs.Common.{◌≡◌, ℕ, zero, suc, ◌+◌, ◌*◌, ◌^◌, ◌<◌, ◌≤◌, length, length-append, ◌∙◌, ap, arith, inl, inr}
use Rattle.std.proofs.lemmas.Bool.{cases_lt}
use Rattle.std.proofs.Math.Nat.{two-pow-succ}
use Rattle.std.proofs.lemmas.Nat.{pow_pos}
use Rattle.rule_model.specs.PortRange.{PortRange, cover_within, cover_size}
use Rattle.rule_model.proofs.CoverLevels.{IsWhole, IsPartly, IsApart, cover_whole, cover_apart, cover_port, cover_halves}

-- how many blocks the part of a cover within a block has
blocks : PortRange → ℕ → ℕ → ℕ
blocks range k first = length (cover_within range k first)

blocks_whole : (range : PortRange) (k first : ℕ) → IsWhole range k first → blocks range k first ≡ 1
unfolding blocks
blocks_whole range k first w = ap length (cover_whole range k first w)

blocks_apart : (range : PortRange) (k first : ℕ) → IsApart range k first → blocks range k first ≡ 0
unfolding blocks
blocks_apart range k first a = ap length (cover_apart range k first a)

blocks_port : (range : PortRange) (first : ℕ) → IsPartly range 0 first → blocks range 0 first ≡ 0
unfolding blocks
blocks_port range first p = ap length (cover_port range first p)

blocks_halves : (range : PortRange) (k first : ℕ) → IsPartly range (suc k) first → blocks range (suc k) first ≡ blocks range k first + blocks range k (first + 2 ^ k)
unfolding blocks
blocks_halves range k first p = ap length (cover_halves range k first p) ∙ length-append (cover_within range k first) (cover_within range k (first + 2 ^ k))

-- a range that begins within a block of 2 ^ k ports and goes on to its end: at most one block of each lesser size
above_only : (range : PortRange) (k first : ℕ) → first < range.lo → first + 2 ^ k ≤ range.hi + 1 → blocks range k first ≤ k
above_only range zero first low high = let e = blocks_port range first (inl low) in omega arith
above_only range (suc k) first low high =
    let e = blocks_halves range k first (inl low) in
    let p = pow_pos k in
    let twice = two-pow-succ k in
    elim (cases_lt range.lo (first + 2 ^ k)) [
      | inl left ↦
          let a = above_only range k first low (omega arith) in
          let b = blocks_whole range k (first + 2 ^ k) (record { low = omega arith; high = omega arith }) in
          omega arith
      | inr right ↦
          let a = blocks_apart range k first (inl right) in
          elim (cases_lt (first + 2 ^ k) range.lo) [
            | inl more ↦ let b = above_only range k (first + 2 ^ k) more (omega arith) in omega arith
            | inr whole ↦ let b = blocks_whole range k (first + 2 ^ k) (record { low = whole; high = omega arith }) in omega arith
          ]
    ]

-- the same from the block's begin
below_only : (range : PortRange) (k first : ℕ) → range.lo ≤ first → range.hi + 1 < first + 2 ^ k → blocks range k first ≤ k
below_only range zero first low high = let e = blocks_port range first (inr high) in omega arith
below_only range (suc k) first low high =
    let e = blocks_halves range k first (inr high) in
    let p = pow_pos k in
    let twice = two-pow-succ k in
    elim (cases_lt (first + 2 ^ k) (range.hi + 1)) [
      | inl right ↦
          let a = blocks_whole range k first (record { low = low; high = omega arith }) in
          let b = below_only range k (first + 2 ^ k) (omega arith) (omega arith) in
          omega arith
      | inr left ↦
          let a = blocks_apart range k (first + 2 ^ k) (inr (omega arith)) in
          elim (cases_lt (range.hi + 1) (first + 2 ^ k)) [
            | inl less ↦ let b = below_only range k first low less in omega arith
            | inr whole ↦ let b = blocks_whole range k first (record { low = low; high = whole }) in omega arith
          ]
    ]

-- a range strictly inside a block: at most two of each size below the half
inside : (range : PortRange) (k first : ℕ) → first < range.lo → range.hi + 1 < first + 2 ^ suc k → blocks range (suc k) first ≤ 2 * k
inside range zero first low high =
    let e = blocks_halves range zero first (inl low) in
    let a = blocks_port range first (inl low) in
    let b = blocks_port range (first + 2 ^ zero) (inr (omega arith)) in
    omega arith
inside range (suc k) first low high =
    let e = blocks_halves range (suc k) first (inl low) in
    let p = pow_pos (suc k) in
    let twice = two-pow-succ (suc k) in
    elim (cases_lt range.lo (first + 2 ^ suc k)) [
      | inl begins ↦ elim (cases_lt (first + 2 ^ suc k) (range.hi + 1)) [
        | inl ends ↦
            let a = above_only range (suc k) first low (omega arith) in
            let b = below_only range (suc k) (first + 2 ^ suc k) (omega arith) (omega arith) in
            omega arith
        | inr left ↦
            let b = blocks_apart range (suc k) (first + 2 ^ suc k) (inr (omega arith)) in
            elim (cases_lt (range.hi + 1) (first + 2 ^ suc k)) [
              | inl less ↦ let a = inside range k first low less in omega arith
              | inr whole ↦ let a = above_only range (suc k) first low whole in omega arith
            ]
      ]
      | inr right ↦
          let a = blocks_apart range (suc k) first (inl right) in
          elim (cases_lt (first + 2 ^ suc k) range.lo) [
            | inl more ↦ let b = inside range k (first + 2 ^ suc k) more (omega arith) in omega arith
            | inr whole ↦ let b = below_only range (suc k) (first + 2 ^ suc k) whole (omega arith) in omega arith
          ]
    ]

-- any range
blocks_most : (range : PortRange) (k first : ℕ) → blocks range (suc (suc k)) first ≤ 2 * suc k
blocks_most range k first =
    elim (cases_lt first range.lo) [
      | inl low ↦ elim (cases_lt (range.hi + 1) (first + 2 ^ suc (suc k))) [
        | inl high ↦ inside range (suc k) first low high
        | inr whole ↦ let a = above_only range (suc (suc k)) first low whole in omega arith
      ]
      | inr begins ↦ elim (cases_lt (range.hi + 1) (first + 2 ^ suc (suc k))) [
        | inl high ↦ let a = below_only range (suc (suc k)) first begins high in omega arith
        | inr ends ↦ let a = blocks_whole range (suc (suc k)) first (record { low = begins; high = ends }) in omega arith
      ]
    ]

-- two blocks of each of the 15 sizes below the half are the most
pub cover-size : (range : PortRange) → cover_size range ≤ 30
unfolding blocks
cover-size range = blocks_most range 14 0
