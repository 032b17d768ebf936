-- Blocks in the order of their addresses, the shorter of two first.
use Rattle.std.proofs.Common.{◌≡◌, ℕ, ◌+◌, ◌-◌, ◌*◌, ◌/◌, ◌%◌, ◌^◌, ◌<◌, ◌≤◌, ◌==◌, Bool, true, false, inl, inr, arith, sym, ◌∙◌, ap, subst, eqb-true, eq-eqb}
use Rattle.std.proofs.lemmas.Bool.{cases_lt, both_ways}
use Rattle.std.proofs.lemmas.Nat.{shr-shr, pow_pos, div-add-mod'}
use Rattle.std.proofs.Math.Nat.{div-lt_iff_lt-mul, div-mul-le_self}
use Rattle.rule_model.specs.AddressBlock.{AddressBlock, IsAddressBlock}
use Rattle.prefix_trie.specs.Blocks.{Covers, InHalf, bit_at}
use Rattle.prefix_trie.specs.Nested.{AreNested, order_of}
use Rattle.prefix_trie.proofs.Halves.{coarser, covers-one, covers-trans, covers-laminar}

less-quotient : (x y d : ℕ) → 0 < d → x / d < y / d → x < y
less-quotient x y d some less =
    let low : x < y / d * d = (div-lt_iff_lt-mul some).0 less in
    let high = div-mul-le_self y d in
    between x (y / d * d) y low high
  where
    between : (a b c : ℕ) → a < b → b ≤ c → a < c
    between a b c ab bc = omega arith

-- a number without a rest is at most each of its quotient
rounded : (x y d : ℕ) → y / d ≡ x / d → x % d ≡ 0 → x ≤ y
rounded x y d same none = by (x / d * d) (x % d) (div-add-mod' x d) none (subst (λ (q : ℕ). q * d ≤ y) same (div-mul-le_self y d))
  where
    by : (whole rest : ℕ) → whole + rest ≡ x → rest ≡ 0 → whole ≤ y → x ≤ y
    by whole rest split zero_is less = omega arith

-- what isn't of one quotient, and comes behind one of them, comes behind all of them
past : (a b m d : ℕ) → 0 < d → a ≤ m → b / d ≡ a / d → (m / d ≡ a / d → ⊥) → b < m
past a b m d some le same off = elim (cases_lt (m / d) (a / d)) [
  | inl less ↦ let wrong = less-quotient m a d some less in absurd (omega arith)
  | inr up ↦
      elim (cases_lt (a / d) (m / d)) [
        | inl more ↦ less-quotient b m d some (subst (λ (q : ℕ). q < m / d) (sym same) more)
        | inr down ↦ absurd (off (even (m / d) (a / d) down up))
      ]
]
  where
    even : (p q : ℕ) → p ≤ q → q ≤ p → p ≡ q
    even p q pq qp = omega arith

pub addr-covers : (a b : AddressBlock) → IsAddressBlock a → Covers a b → a.addr ≤ b.addr
addr-covers a b right ab = rounded a.addr b.addr (2 ^ (128 - a.len)) ab.same right.no_host_bits

-- what is covered comes behind
pub covers-before : (a b : AddressBlock) → IsAddressBlock a → Covers a b → order_of a ≤ order_of b
covers-before a b right ab = let addr = addr-covers a b right ab in let order = ab.order in omega arith

pub longer-before : (a b : AddressBlock) → IsAddressBlock a → Covers a b → a.len < b.len → order_of a < order_of b
longer-before a b right ab less = let addr = addr-covers a b right ab in omega arith

odd-behind : (p q : ℕ) → (p % 2 == 1) ≡ false → (q % 2 == 1) ≡ true → p / 2 ≡ q / 2 → p < q
odd-behind p q even odd same =
    let one : q % 2 ≡ 1 = eqb-true _ _ odd in
    elim (cases_lt (p % 2) 1) [
      | inl less ↦ omega arith
      | inr more ↦ let is : p % 2 ≡ 1 = omega arith in absurd (both_ways (p % 2 == 1) even (eq-eqb _ _ is))
    ]

-- one half comes before the other
pub halves-before : (p a b : AddressBlock) → p.len < 128 → IsAddressBlock a → InHalf p false a → InHalf p true b → order_of a < order_of b
halves-before p a b fits right in_a in_b =
    let more : 128 - p.len ≡ (127 - p.len) + 1 = omega arith in
    let split_a : a.addr / 2 ^ (127 - p.len) / 2 ≡ a.addr / 2 ^ ((127 - p.len) + 1) = shr-shr a.addr (127 - p.len) 1 in
    let split_b : b.addr / 2 ^ (127 - p.len) / 2 ≡ b.addr / 2 ^ ((127 - p.len) + 1) = shr-shr b.addr (127 - p.len) 1 in
    let agree : a.addr / 2 ^ ((127 - p.len) + 1) ≡ b.addr / 2 ^ ((127 - p.len) + 1) =
    subst (λ (n : ℕ). a.addr / 2 ^ n ≡ b.addr / 2 ^ n) more (in_a.covers.same ∙ sym in_b.covers.same) in
    let less = odd-behind (a.addr / 2 ^ (127 - p.len)) (b.addr / 2 ^ (127 - p.len)) in_a.side in_b.side (split_a ∙ (agree ∙ sym split_b)) in
    let addr = less-quotient a.addr b.addr (2 ^ (127 - p.len)) (pow_pos (127 - p.len)) less in
    let most = right.length in
    omega arith

-- what comes behind a block and isn't nested with one that covers it comes behind all that this covers
pub past-before : (p a m b : AddressBlock) → IsAddressBlock m → IsAddressBlock b → Covers p a → Covers p b → (Covers p m → ⊥) → (Covers m p → ⊥) → order_of a < order_of m → order_of b < order_of m
past-before p a m b right_m right_b pa pb off_p off_m later =
    let most_m = right_m.length in
    let most_b = right_b.length in
    let le : a.addr ≤ m.addr = omega arith in
    let addr : b.addr < m.addr = elim (cases_lt m.len p.len) [
      | inl less ↦
          let fine_a = coarser a.addr p.addr (128 - p.len) (128 - m.len) (omega arith) pa.same in
          let fine_b = coarser b.addr p.addr (128 - p.len) (128 - m.len) (omega arith) pb.same in
          past a.addr b.addr m.addr (2 ^ (128 - m.len)) (pow_pos (128 - m.len)) le (fine_b ∙ sym fine_a)
          (λ same. off_m (record { order = omega arith; same = sym (same ∙ fine_a) }))
      | inr more ↦
          past a.addr b.addr m.addr (2 ^ (128 - p.len)) (pow_pos (128 - p.len)) le (pb.same ∙ sym pa.same) (λ same. off_p (record { order = more; same = same ∙ pa.same }))
    ] in
    omega arith

-- blocks that come at one place in the order are one
pub order-one : (a b : AddressBlock) → IsAddressBlock a → IsAddressBlock b → order_of a ≡ order_of b → a ≡ b
order-one a b right_a right_b same =
    let most_a = right_a.length in
    let most_b = right_b.length in
    let addr : a.addr ≡ b.addr = omega arith in
    let len : a.len ≡ b.len = omega arith in
    covers-one a b right_a right_b (record { order = omega arith; same = ap (λ (x : ℕ). x / 2 ^ (128 - a.len)) (sym addr) }) (omega arith)

-- what covers a nested block is nested
pub nested-up : (block c m : AddressBlock) → Covers c m → AreNested block m → AreNested block c
nested-up block c m cm (inl bm) = elim (cases_lt c.len block.len) [
  | inl less ↦ inr (covers-laminar c block m cm bm (omega arith))
  | inr more ↦ inl (covers-laminar block c m bm cm more)
]
nested-up block c m cm (inr mb) = inr (covers-trans c m block cm mb)

-- a block in a half, by the bit
pub half_is : (a b : AddressBlock) (bit : Bool) → Covers a b → a.len < b.len → bit_at b.addr a.len ≡ bit → InHalf a bit b
half_is a b bit ab less is = record { covers = ab; longer = less; side = is }
