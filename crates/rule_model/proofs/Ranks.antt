-- The parts of a rank, and the ranks of routes.
use Rattle.std.proofs.Common.{◌≡◌, ℕ, ◌+◌, ◌-◌, ◌*◌, ◌/◌, ◌%◌, ◌^◌, ◌<◌, ◌≤◌, inl, inr, arith, mul_comm, sym, ◌∙◌, ap, subst}
use Rattle.std.proofs.lemmas.Bool.{cases_lt}
use Rattle.std.proofs.lemmas.Nat.{div-mul-add, mod-mul-add, mod-pow-add, mul-add-lt, shr_below}
use Rattle.rule_model.specs.AddressBlock.{AddressBlock, IsAddressBlock, IsIpv4Block}
use Rattle.rule_model.specs.Rank.{rank_of, high_of, low_of, ipv4_route_rank}

-- the parts of a rank are those that it was made of
pub high_of-rank_of : (high low : ℕ) → low < 2 ^ 128 → high_of (rank_of high low) ≡ high
high_of-rank_of high low fits = div-mul-add high (2 ^ 128) low fits

pub low_of-rank_of : (high low : ℕ) → low < 2 ^ 128 → low_of (rank_of high low) ≡ low
low_of-rank_of high low fits = mod-mul-add high (2 ^ 128) low fits

-- the lower of two ranks has no greater high part
pub high-le : (high low high' low' : ℕ) → low < 2 ^ 128 → low' < 2 ^ 128 → rank_of high low < rank_of high' low' → high ≤ high'
high-le high low high' low' fits fits' below =
    elim (cases_lt high' high) [
      | inl above ↦ let row = mul-add-lt high' (2 ^ 128) low' high above fits' in let turned = mul_comm (2 ^ 128) high in absurd (omega arith)
      | inr within ↦ within
    ]

-- the low part of an IPv4 route's rank fits
pub ipv4-low : (block : AddressBlock) → IsAddressBlock block → block.addr / 2 ^ 96 < 2 ^ 128
ipv4-low block right = let small : block.addr / 2 ^ 96 < 2 ^ 32 = shr_below block.addr 32 96 right.fits in omega arith

-- a rank of an IPv4 route has its length and its address
pub ipv4-parts : (block : AddressBlock) (high low : ℕ) → IsAddressBlock block → IsIpv4Block block → low < 2 ^ 128 → ipv4_route_rank block ≡ rank_of high low
    → (high ≤ 32) × (low % 2 ^ (32 - high) ≡ 0)
ipv4-parts block high low right ipv4 fits same =
    let len : block.len ≡ high = sym (high_of-rank_of block.len (block.addr / 2 ^ 96) (ipv4-low block right)) ∙ (ap high_of same ∙ high_of-rank_of high low fits) in
    let addr : block.addr / 2 ^ 96 ≡ low = sym (low_of-rank_of block.len (block.addr / 2 ^ 96) (ipv4-low block right)) ∙ (ap low_of same ∙ low_of-rank_of high low fits) in
    let short = ipv4.length in
    let room : 128 - block.len ≡ (32 - block.len) + 96 = omega arith in
    let split : block.addr % 2 ^ (128 - block.len) ≡ (block.addr / 2 ^ 96 % 2 ^ (32 - block.len)) * 2 ^ 96 + block.addr % 2 ^ 96 = ap (λ n. block.addr % 2 ^ n) room ∙ mod-pow-add block.addr (32 - block.len) 96 in
    let clear : block.addr / 2 ^ 96 % 2 ^ (32 - block.len) ≡ 0 = (let none = right.no_host_bits in omega arith) in
    (omega arith, subst (λ n. low % 2 ^ (32 - n) ≡ 0) len (subst (λ n. n % 2 ^ (32 - block.len) ≡ 0) addr clear))
