-- Blocks of ports, and ranges that have a port in common.
use Rattle.std.proofs.Common.{◌≡◌, ℕ, zero, suc, ◌+◌, ◌%◌, ◌^◌, ◌<◌, ◌≤◌, max, Bool, true, false, not, ◌==◌, ◌&&◌, nat_eq, nat_le, nat_lt, IsTrue, ◌↔◌, inl, inr, arith, sym, ◌∙◌, subst, le_refl, zero-add, count_ones, eqb-true, eq-eqb, le-leb, leb-true, le-ltb, ltb-false}
use Rattle.std.specs.Int.{is_power_of_two}
use Rattle.std.specs.List.{list_any, range_with_len}
use Rattle.std.proofs.lemmas.Bool.{cases_lt, or_cases, or_parts, or_from, and_parts, and_from, not-true, not_from_false}
use Rattle.std.proofs.lemmas.Bool.Decides.{same_from_decides}
use Rattle.std.proofs.lemmas.List.Folds.{list_any_at}
use Rattle.std.proofs.lemmas.List.FromFn.{get_or-range_with_len}
use Rattle.std.proofs.lemmas.Nat.{pow_below}
use Rattle.rule_model.specs.PortRange.{PortRange, IsPortRange, RangesOverlap, range_holds, range_size, is_block, is_disjoint}
use Rattle.rule_model.proofs.Powers.{count_ones-pow, pow_from_ones}

-- a test that some number of a row passes
pub list_any-range : (test : ℕ → Bool) (first count : ℕ) → IsTrue (list_any test (range_with_len first count)) → (k : ℕ) × (first ≤ k) × (k < first + count) × IsTrue (test k)
list_any-range test first zero passed = cc
list_any-range test first (suc count) passed =
    elim (or_cases (test first) (list_any test (range_with_len (first + 1) count)) passed) [
      | inl here ↦ (first, le_refl first, omega arith, here)
      | inr later ↦ let found = list_any-range test (first + 1) count later in (found.0, omega arith, omega arith, found.3)
    ]

-- a block has as many ports as a power of two, and starts at a multiple of it
pub is_block-parts : (range : PortRange) → IsTrue (is_block range) → (k : ℕ) × (k ≤ 16) × (range_size range ≡ 2 ^ k) × (range.lo % 2 ^ k ≡ 0)
is_block-parts range block =
    let found = list_any-range (λ (k : ℕ). (range_size range == 2 ^ k) && (range.lo % 2 ^ k == 0)) 0 17 block in
    let both = and_parts (range_size range == 2 ^ found.0) (range.lo % 2 ^ found.0 == 0) found.3 in
    (found.0, omega arith, eqb-true _ _ both.0, eqb-true _ _ both.1)

-- and such a range is a block
pub is_block-from : (range : PortRange) (k : ℕ) → k ≤ 16 → range_size range ≡ 2 ^ k → range.lo % 2 ^ k ≡ 0 → IsTrue (is_block range)
is_block-from range k fits size multiple =
    let test : ℕ → Bool = λ k. (range_size range == 2 ^ k) && (range.lo % 2 ^ k == 0) in
    let inside : k < 17 = omega arith in
    let at = get_or-range_with_len 0 17 k 0 inside ∙ zero-add k in
    let passes : test k ≡ true = and_from _ _ (eq-eqb _ _ size) (eq-eqb _ _ multiple) in
    list_any_at test (range_with_len 0 17) k 0 inside (subst (λ (j : ℕ). test j ≡ true) (sym at) passes)

-- the test by the count of bits
pub is_block-by_power : (range : PortRange) → IsPortRange range
    → (is_power_of_two (range_size range) && nat_eq (range.lo % range_size range) 0) ≡ is_block range
is_block-by_power range right = same_from_decides {P = IsTrue (is_block range)} _ _ (to, from) (λ b. b, λ b. b)
  where
    size : ℕ
    size = range_size range

    to : IsTrue (is_power_of_two (range_size range) && nat_eq (range.lo % range_size range) 0) → IsTrue (is_block range)
    to both =
        let parts = and_parts (is_power_of_two (range_size range)) (nat_eq (range.lo % range_size range) 0) both in
        let small : range_size range < 2 ^ 17 = omega (arith, right.fits) in
        let root = pow_from_ones 17 (range_size range) small (eqb-true (count_ones (range_size range)) 1 parts.0) in
        let low : root.0 ≤ 16 = elim (cases_lt 16 root.0) [
          | inl above ↦ let past = pow_below 16 root.0 above in let is = root.1 in omega (arith, right.fits)
          | inr within ↦ within
        ] in
        is_block-from range root.0 low root.1 (subst (λ (n : ℕ). range.lo % n ≡ 0) root.1 (eqb-true (range.lo % range_size range) 0 parts.1))

    from : IsTrue (is_block range) → IsTrue (is_power_of_two (range_size range) && nat_eq (range.lo % range_size range) 0)
    from block =
        let parts = is_block-parts range block in
        let one : count_ones (range_size range) ≡ 1 = subst (λ (n : ℕ). count_ones n ≡ 1) (sym parts.2) (count_ones-pow parts.0) in
        let multiple : range.lo % range_size range ≡ 0 = subst (λ (n : ℕ). range.lo % n ≡ 0) (sym parts.2) parts.3 in
        and_from _ _ (eq-eqb _ _ one) (eq-eqb _ _ multiple)

-- the same, of the numbers that the code makes
pub is_block-power : (range : PortRange) (first size : ℕ) (power : Bool) → IsPortRange range → first ≡ range.lo → size ≡ range_size range
    → power ≡ is_power_of_two size → power ≡ true → nat_eq (first % size) 0 ≡ is_block range
is_block-power range first size power right low count counted set =
    rw (low, count) (let test = is_block-by_power range right in let is : is_power_of_two (range_size range) ≡ true = rw count at (sym counted ∙ set) in rw is at test)

pub is_block-no_power : (range : PortRange) (size : ℕ) (power : Bool) → IsPortRange range → size ≡ range_size range
    → power ≡ is_power_of_two size → power ≡ false → power ≡ is_block range
is_block-no_power range size power right count counted unset =
    let test = is_block-by_power range right in
    let is : is_power_of_two (range_size range) ≡ false = rw count at (sym counted ∙ unset) in
    unset ∙ (rw is at test)

-- the test for a common port is exact
pub ranges_meet-is : (a b : PortRange) → IsPortRange a → IsPortRange b → IsTrue (not (is_disjoint a b)) ↔ RangesOverlap a b
ranges_meet-is a b right_a right_b = (to, from)
  where
    to : IsTrue (not (is_disjoint a b)) → RangesOverlap a b
    to meet =
        let apart = or_parts (nat_lt a.hi b.lo) (nat_lt b.hi a.lo) (not-true _ meet) in
        let first : b.lo ≤ a.hi = ltb-false _ _ apart.0 in
        let second : a.lo ≤ b.hi = ltb-false _ _ apart.1 in
        let in_a : a.lo ≤ a.hi = right_a.ordered in
        let in_b : b.lo ≤ b.hi = right_b.ordered in
        let top : a.hi < 2 ^ 16 = right_a.fits in
        let port = max a.lo b.lo in
        let held_a : IsTrue (range_holds a port) = and_from _ _ (le-leb a.lo port (omega arith)) (le-leb port a.hi (omega arith)) in
        let held_b : IsTrue (range_holds b port) = and_from _ _ (le-leb b.lo port (omega arith)) (le-leb port b.hi (omega arith)) in
        (port, omega arith, held_a, held_b)

    from : RangesOverlap a b → IsTrue (not (is_disjoint a b))
    from (port, small, in_a, in_b) =
        let held_a = and_parts (nat_le a.lo port) (nat_le port a.hi) in_a in
        let held_b = and_parts (nat_le b.lo port) (nat_le port b.hi) in_b in
        let a_low = leb-true _ _ held_a.0 in
        let a_high = leb-true _ _ held_a.1 in
        let b_low = leb-true _ _ held_b.0 in
        let b_high = leb-true _ _ held_b.1 in
        not_from_false _ (or_from _ _ (le-ltb a.hi b.lo (omega arith)) (le-ltb b.hi a.lo (omega arith)))
