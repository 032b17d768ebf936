-- Address blocks: those of IPv4 addresses, and blocks that have an address in common.
use Rattle.std.proofs.Common.{◌≡◌, ℕ, ◌+◌, ◌-◌, ◌*◌, ◌/◌, ◌%◌, ◌^◌, ◌<◌, ◌≤◌, nat_le, IsTrue, ◌↔◌, inl, inr, refl, arith, sym, ◌∙◌, ap, eqb-true, eq-eqb, le-leb}
use Rattle.std.proofs.lemmas.Bool.{cases_lt, cond-true, cond-false, lt-leb}
use Rattle.std.proofs.lemmas.Nat.{mod-pow-add, shl-shr, shr-shr, shl_whole, one_shl, shl_below}
use Rattle.std.proofs.Math.Nat.{mul-mod_left}
use Rattle.rule_model.specs.AddressBlock.{AddressBlock, IsAddressBlock, BlocksOverlap, block_holds}
use Rattle.rule_model.specs.Rule.{blocks_meet}

-- an IPv4 address with no bit set past a length has none set in the upper 32 bits of an address either
pub upper_host_bits : (addr len : ℕ) → len ≤ 32 → addr % 2 ^ (32 - len) ≡ 0 → addr * 2 ^ 96 % 2 ^ (128 - len) ≡ 0
upper_host_bits addr len fits clear =
    let room : 128 - len ≡ (32 - len) + 96 = omega arith in
    let split = mod-pow-add (addr * 2 ^ 96) (32 - len) 96 in
    let low = mul-mod_left addr (2 ^ 96) in
    let high : addr * 2 ^ 96 / 2 ^ 96 % 2 ^ (32 - len) ≡ 0 = rw (shl-shr addr 96) clear in
    rw room (rw split (rw (high, low) refl))

-- the same, of the shifts that the code makes
pub upper_block : (addr len : ℕ) → addr < 2 ^ 32 → len ≤ 32 → addr % ((1 * 2 ^ (32 - len)) % 2 ^ 64) ≡ 0
    → IsAddressBlock (record { addr = addr * 2 ^ 96 % 2 ^ 128; len = len })
upper_block addr len small fits clear =
    let whole = shl_whole addr 32 96 128 small (omega arith) in
    let below = shl_below addr 32 96 small in
    let one = one_shl (32 - len) 64 (omega arith) in
    let clear_bits : addr % 2 ^ (32 - len) ≡ 0 = rw one at clear in
    rw whole (record { fits = below; length = omega arith; no_host_bits = upper_host_bits addr len fits clear_bits })

-- a block holds its own address
pub block_holds-own : (block : AddressBlock) → IsTrue (block_holds block block.addr)
block_holds-own block = eq-eqb _ _ refl

-- of two blocks that hold an address, the shorter holds each that the longer one holds
pub block_holds-longer : (short long : AddressBlock) (shared address : ℕ) → short.len ≤ long.len → long.len ≤ 128
    → IsTrue (block_holds short shared) → IsTrue (block_holds long shared) → IsTrue (block_holds long address) → IsTrue (block_holds short address)
block_holds-longer short long shared address order fits in_short in_long held =
    let past = 128 - long.len in
    let more = long.len - short.len in
    let whole : 128 - short.len ≡ past + more = omega arith in
    let short_is : shared / 2 ^ (128 - short.len) ≡ short.addr / 2 ^ (128 - short.len) = eqb-true _ _ in_short in
    let long_is : shared / 2 ^ past ≡ long.addr / 2 ^ past = eqb-true _ _ in_long in
    let held_is : address / 2 ^ past ≡ long.addr / 2 ^ past = eqb-true _ _ held in
    let same : address / 2 ^ past / 2 ^ more ≡ shared / 2 ^ past / 2 ^ more = ap (λ (n : ℕ). n / 2 ^ more) (held_is ∙ sym long_is) in
    let joined : address / 2 ^ (past + more) ≡ shared / 2 ^ (past + more) = sym (shr-shr address past more) ∙ same ∙ shr-shr shared past more in
    let upper : address / 2 ^ (128 - short.len) ≡ shared / 2 ^ (128 - short.len) = rw whole joined in
    eq-eqb _ _ (upper ∙ short_is)

-- the test for a common address is exact
pub blocks_meet-is : (a b : AddressBlock) → IsAddressBlock a → IsAddressBlock b → IsTrue (blocks_meet a b) ↔ BlocksOverlap a b
blocks_meet-is a b right_a right_b = (to, from)
  where
    to : IsTrue (blocks_meet a b) → BlocksOverlap a b
    to meet = elim (cases_lt b.len a.len) [
      | inl longer ↦ (a.addr, right_a.fits, block_holds-own a, sym (cond-false (nat_le a.len b.len) _ _ (lt-leb _ _ longer)) ∙ meet)
      | inr shorter ↦ (b.addr, right_b.fits, sym (cond-true (nat_le a.len b.len) _ _ (le-leb _ _ shorter)) ∙ meet, block_holds-own b)
    ]

    from : BlocksOverlap a b → IsTrue (blocks_meet a b)
    from (address, small, in_a, in_b) = elim (cases_lt b.len a.len) [
      | inl longer ↦ cond-false (nat_le a.len b.len) _ _ (lt-leb _ _ longer)
          ∙ block_holds-longer b a address a.addr (omega arith) right_a.length in_b in_a (block_holds-own a)
      | inr shorter ↦ cond-true (nat_le a.len b.len) _ _ (le-leb _ _ shorter)
          ∙ block_holds-longer a b address b.addr shorter right_b.length in_a in_b (block_holds-own b)
    ]
