-- The bits of an address past a length, and prefixes of both versions.
use Rattle.std.proofs.Common.{◌≡◌, ◌≢◌, ℕ, ◌+◌, ◌-◌, ◌*◌, ◌%◌, ◌^◌, ◌≤◌, inl, inr, List, ◌∷◌, Some, None, Err, refl, arith, add-zero}
use Rattle.std.proofs.lemmas.Grind.{common_steps}
use Rattle.std.proofs.lemmas.Nat.{mod-pow-add, shl-shr}
use Rattle.std.proofs.Math.Nat.{mul-mod_left}
use Rattle.rule_model.specs.AddressBlock.{ipv4_block}
use Rattle.line_words.specs.declared.WordFault.TheVariants.{BadPrefix, HostBits}
use Rattle.line_words.specs.Kinds.{block_of, ipv4_number, ipv4_prefix, number_up_to, parts_at}
use Rattle.line_words.specs.Ipv6.{ipv6_number, ipv6_prefix}
use Rattle.line_words.proofs.Separators.{number-whole, whole-or-more}

-- The bits past a length stand in the upper part of an address of 128 bits.
upper-bits : (address len : ℕ) → len ≤ 32
    → address * 2 ^ 96 % 2 ^ (128 - len) ≡ address % 2 ^ (32 - len) * 2 ^ 96
upper-bits address len fits =
    let room : 128 - len ≡ (32 - len) + 96 = omega arith in
    let split = mod-pow-add (address * 2 ^ 96) (32 - len) 96 in
    let low = mul-mod_left address (2 ^ 96) in
    let high = shl-shr address 96 in
    rw room (rw split (rw (high, low) (add-zero (address % 2 ^ (32 - len) * 2 ^ 96))))

-- a bit past the length is set
pub host-bits : (address len : ℕ) → len ≤ 32 → (address % 2 ^ (32 - len) ≡ 0 → ⊥)
    → block_of (ipv4_block address len) ≡ Err HostBits
host-bits address len fits set =
    let upper = upper-bits address len fits in
    let some : address * 2 ^ 96 % 2 ^ (128 - len) ≢ 0 = omega arith in
    grind (arith, common_steps)

-- A length that is no number up to 32.
pub bad-length : (address len : List ℕ) (number : ℕ) → ipv4_number address ≡ Some number → number_up_to 32 len ≡ None
    → ipv4_prefix (address ∷ parts_at 47 len) ≡ Err BadPrefix
bad-length address len number is none =
    elim (whole-or-more 47 len) [
      | inl whole ↦ rw (whole, is, none) refl
      | inr more ↦ rw more.parts refl
    ]

-- An address and a length.
pub good-prefix : (address len : List ℕ) (number bits : ℕ) → ipv4_number address ≡ Some number → number_up_to 32 len ≡ Some bits
    → ipv4_prefix (address ∷ parts_at 47 len) ≡ block_of (ipv4_block number bits)
good-prefix address len number bits is fits =
    let whole = number-whole 47 refl 32 len bits fits in
    rw (whole, is, fits) refl

-- A length that is no number up to 128.
pub bad-length6 : (address len : List ℕ) (number : ℕ) → ipv6_number address ≡ Some number → number_up_to 128 len ≡ None
    → ipv6_prefix (address ∷ parts_at 47 len) ≡ Err BadPrefix
bad-length6 address len number is none =
    elim (whole-or-more 47 len) [
      | inl whole ↦ rw (whole, is, none) refl
      | inr more ↦ rw more.parts refl
    ]

-- An IPv6 address and a length.
pub good-prefix6 : (address len : List ℕ) (number bits : ℕ) → ipv6_number address ≡ Some number → number_up_to 128 len ≡ Some bits
    → ipv6_prefix (address ∷ parts_at 47 len) ≡ block_of (record { addr = number; len = bits })
good-prefix6 address len number bits is fits =
    let whole = number-whole 47 refl 128 len bits fits in
    rw (whole, is, fits) refl
