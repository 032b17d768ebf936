-- Blocks that lie in one another, and in halves.
use Rattle.std.proofs.Common.{◌≡◌, ℕ, ◌+◌, ◌-◌, ◌/◌, ◌%◌, ◌^◌, ◌<◌, ◌≤◌, ◌==◌, Bool, true, refl, arith, sym, ◌∙◌, ap, eq-eqb, le-leb}
use Rattle.std.proofs.lemmas.Grind.{common_steps}
use Rattle.std.proofs.lemmas.Bool.Decides.{nat_tests}
use Rattle.std.proofs.lemmas.Nat.{shr-shr}
use Rattle.rule_model.specs.AddressBlock.{AddressBlock, IsAddressBlock, any_address}
use Rattle.rule_model.proofs.Routes.{blocks-one}
use Rattle.prefix_trie.specs.Blocks.{covers, Covers, bit_at, InHalf, IsMeet}

-- numbers that agree above some bits agree above more
pub coarser : (x y m n : ℕ) → m ≤ n → x / 2 ^ m ≡ y / 2 ^ m → x / 2 ^ n ≡ y / 2 ^ n
coarser x y m n le same =
    let whole : n ≡ m + (n - m) = omega arith in
    let step = ap (λ (q : ℕ). q / 2 ^ (n - m)) same in
    let joined : x / 2 ^ (m + (n - m)) ≡ y / 2 ^ (m + (n - m)) = sym (shr-shr x m (n - m)) ∙ step ∙ shr-shr y m (n - m) in
    rw whole joined

odd-same : (p q : ℕ) → (p % 2 == 1) ≡ (q % 2 == 1) → p % 2 ≡ q % 2
odd-same p q same = grind (arith, nat_tests)

-- and above one bit fewer, where that bit is the same
pub finer : (x y n : ℕ) → x / 2 ^ (n + 1) ≡ y / 2 ^ (n + 1) → (x / 2 ^ n % 2 == 1) ≡ (y / 2 ^ n % 2 == 1) → x / 2 ^ n ≡ y / 2 ^ n
finer x y n same bit =
    let low = odd-same (x / 2 ^ n) (y / 2 ^ n) bit in
    let upper_x : x / 2 ^ n / 2 ≡ x / 2 ^ (n + 1) = shr-shr x n 1 in
    let upper_y : y / 2 ^ n / 2 ≡ y / 2 ^ (n + 1) = shr-shr y n 1 in
    omega arith

pub covers-self : (a : AddressBlock) → Covers a a
covers-self a = record { order = omega arith; same = refl }

pub covers-trans : (a b c : AddressBlock) → Covers a b → Covers b c → Covers a c
covers-trans a b c ab bc = record {
  order = omega arith;
  same = coarser c.addr b.addr (128 - b.len) (128 - a.len) (omega arith) bc.same ∙ ab.same;
}

-- of two blocks that cover a third, the shorter covers the longer
pub covers-laminar : (a b c : AddressBlock) → Covers a c → Covers b c → a.len ≤ b.len → Covers a b
covers-laminar a b c ac bc le = record {
  order = le;
  same = sym (coarser c.addr b.addr (128 - b.len) (128 - a.len) (omega arith) bc.same) ∙ ac.same;
}

-- one of the same length is the same
pub covers-one : (a b : AddressBlock) → IsAddressBlock a → IsAddressBlock b → Covers a b → b.len ≤ a.len → a ≡ b
covers-one a b right_a right_b ab le =
    blocks-one a b right_a right_b (b.addr, right_b.fits, eq-eqb _ _ ab.same, eq-eqb _ _ refl) (omega arith)

-- the test is exact
pub covers-parts : (a b : AddressBlock) → covers a b ≡ true → Covers a b
covers-parts a b test = record { order = grind (arith, nat_tests, common_steps); same = grind (arith, nat_tests, common_steps) }

pub covers-test : (a b : AddressBlock) → Covers a b → covers a b ≡ true
covers-test a b ab =
    let order = le-leb _ _ ab.order in
    let same = eq-eqb _ _ ab.same in
    rw (order, same) refl

-- a block that covers another and is shorter has it in one half
pub half_of : (a b : AddressBlock) → Covers a b → a.len < b.len → InHalf a (bit_at b.addr a.len) b
half_of a b ab less = record { covers = ab; longer = less; side = refl }

-- what a block in a half covers is in that half
pub half-trans : (a b c : AddressBlock) (bit : Bool) → a.len < 128 → InHalf a bit b → Covers b c → InHalf a bit c
half-trans a b c bit fits ab bc = record {
  covers = covers-trans a b c ab.covers bc;
  longer = let less = ab.longer in let more = bc.order in omega arith;
  side =
      let less = ab.longer in
      ap (λ (q : ℕ). q % 2 == 1) (coarser c.addr b.addr (128 - b.len) (127 - a.len) (omega arith) bc.same) ∙ ab.side;
}

-- so is what lies between
pub half-up : (a b c : AddressBlock) (bit : Bool) → a.len < 128 → InHalf a bit c → Covers a b → Covers b c → a.len < b.len → InHalf a bit b
half-up a b c bit fits ac ab bc less = record {
  covers = ab;
  longer = less;
  side = sym (ap (λ (q : ℕ). q % 2 == 1) (coarser c.addr b.addr (128 - b.len) (127 - a.len) (omega arith) bc.same)) ∙ ac.side;
}

pub half-one : (a b : AddressBlock) (x y : Bool) → InHalf a x b → InHalf a y b → x ≡ y
half-one a b x y in_x in_y = sym in_x.side ∙ in_y.side

-- two blocks in one half have more in common than the whole
halves-agree : (p a b : AddressBlock) (bit : Bool) → p.len < 128 → InHalf p bit a → InHalf p bit b → a.addr / 2 ^ (128 - (p.len + 1)) ≡ b.addr / 2 ^ (128 - (p.len + 1))
halves-agree p a b bit fits in_a in_b =
    let room : 128 - (p.len + 1) ≡ 127 - p.len = omega arith in
    let more : 128 - p.len ≡ (127 - p.len) + 1 = omega arith in
    let upper : a.addr / 2 ^ (128 - p.len) ≡ b.addr / 2 ^ (128 - p.len) = in_a.covers.same ∙ sym in_b.covers.same in
    let split : a.addr / 2 ^ ((127 - p.len) + 1) ≡ b.addr / 2 ^ ((127 - p.len) + 1) = rw more at upper in
    rw room (finer a.addr b.addr (127 - p.len) split (in_a.side ∙ sym in_b.side))

-- the meet of two blocks in one half is in that half
pub meet-half : (p a b m : AddressBlock) (bit : Bool) → a.len ≤ 128 → IsMeet a b m → InHalf p bit a → InHalf p bit b → InHalf p bit m
meet-half p a b m bit fits is in_a in_b =
    let less_a = in_a.longer in
    let less_b = in_b.longer in
    let longer = is.longest (p.len + 1) (omega arith) (omega arith) (halves-agree p a b bit (omega arith) in_a in_b) in
    half-up p m a bit (omega arith) in_a (covers-laminar p m a in_a.covers is.first (omega arith)) is.first (omega arith)

-- two blocks are in different halves of their meet
pub meet-apart : (a b m : AddressBlock) (bit : Bool) → a.len ≤ 128 → IsMeet a b m → InHalf m bit a → InHalf m bit b → ⊥
meet-apart a b m bit fits is in_a in_b =
    let less_a = in_a.longer in
    let less_b = in_b.longer in
    let longer = is.longest (m.len + 1) (omega arith) (omega arith) (halves-agree m a b bit (omega arith) in_a in_b) in
    absurd (omega arith)

-- every block is in that of all addresses
pub covers-any : (a : AddressBlock) → IsAddressBlock a → Covers any_address a
covers-any a right = record { order = omega arith; same = omega (arith, right.fits) }
