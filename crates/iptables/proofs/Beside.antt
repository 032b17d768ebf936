-- Which addresses the blocks beside a block have.
use Rattle.std.proofs.Common.{◌≡◌, ◌<◌, ◌≤◌, ◌+◌, ◌-◌, ◌/◌, ◌%◌, ◌^◌, ℕ, zero, suc, Bool, true, false, not, ◌==◌, ◌&&◌, ◌||◌, nat_lt, cond, [], ◌∷◌, refl, sym, ap, ◌∙◌, arith, inl, inr}
use Rattle.std.proofs.lemmas.Bool.{eq-eqb, ne_eqb, eqb-true, eqb-false, lt-ltb, le-ltb, le-leb, cases_eq, cases_order}
use Rattle.std.proofs.lemmas.Nat.{shl-shr, shr-shr, shr_below}
use Rattle.rule_model.specs.declared.Key.{Key}
use Rattle.rule_model.specs.Key.{IsKey}
use Rattle.rule_model.specs.AddressBlock.{AddressBlock, IsAddressBlock, any_address, block_holds}
use Rattle.rule_model.specs.PortRange.{any_port, range_holds}
use Rattle.written_chains.specs.declared.meets.Tests.{Tests}
use Rattle.written_chains.specs.Meets.{tests_hold}
use Rattle.iptables.specs.declared.blocks.Which.{Which}
use Rattle.iptables.specs.declared.blocks.Which.TheVariants.{All, Above, Below}
use Rattle.iptables.specs.declared.fields.Side.{Side}
use Rattle.iptables.specs.declared.fields.Side.TheVariants.{Src, Dst}
use Rattle.iptables.specs.Values.{beside, block_tests, blocks_tests, number_of, numbered_block, sibling, sibling_tests, stands}
use Rattle.iptables.specs.Laws.{address_at, any_holds, unless}
use Rattle.iptables.proofs.Holding.{any-append, or-false}
use Rattle.iptables.proofs.Pieces.{half-below, number-below}

-- ---- tests on one address alone

pub any-block : (a : ℕ) → a < 2 ^ 128 → block_holds any_address a ≡ true
any-block a below = let none = shr_below a 0 128 below in eq-eqb (a / 2 ^ 128) (0 / 2 ^ 128) (omega (arith, none))

pub any-range : (p : ℕ) → p < 2 ^ 16 → range_holds any_port p ≡ true
any-range p below = rw (le-leb 0 p (omega arith), le-leb p 65535 (omega arith)) refl

src-only : (x b c d : Bool) → b ≡ true → c ≡ true → d ≡ true → ((((x && b) && true) && c) && d) ≡ x
src-only true b c d is_b is_c is_d = rw (is_b, is_c, is_d) refl
src-only false b c d is_b is_c is_d = refl

dst-only : (x b c d : Bool) → b ≡ true → c ≡ true → d ≡ true → ((((b && x) && true) && c) && d) ≡ x
dst-only true b c d is_b is_c is_d = rw (is_b, is_c, is_d) refl
dst-only false b c d is_b is_c is_d = rw (is_b) refl

pub block-only : (side : Side) (block : AddressBlock) (key : Key) → IsKey key → tests_hold (block_tests side block) key ≡ block_holds block (address_at side key)
block-only Src block key is =
    src-only (block_holds block key.src) (block_holds any_address key.dst) (range_holds any_port key.sport) (range_holds any_port key.dport) (any-block key.dst is.dst) (any-range key.sport is.sport) (any-range key.dport is.dport)
block-only Dst block key is =
    dst-only (block_holds block key.dst) (block_holds any_address key.src) (range_holds any_port key.sport) (range_holds any_port key.dport) (any-block key.src is.src) (any-range key.sport is.sport) (any-range key.dport is.dport)

pub side-below : (side : Side) (key : Key) → IsKey key → address_at side key < 2 ^ 128
side-below Src key is = is.src
side-below Dst key is = is.dst

-- ---- a step of the bits

-- how a number stands to another one
abbrev pub test_of : Which → ℕ → ℕ → Bool
test_of All n m = not (m == n)
test_of Above n m = nat_lt n m
test_of Below n m = nat_lt m n

all-even : (n m : ℕ) → n % 2 ≡ 0 → ((m == n + 1) || not (m / 2 == n / 2)) ≡ not (m == n)
all-even n m even =
    elim (cases_order m n) [
      | inl same ↦ rw (ne_eqb m (n + 1) (λ e. omega (arith, same, e)), eq-eqb (m / 2) (n / 2) (ap (λ (k : ℕ). k / 2) same), eq-eqb m n same) refl
      | inr rest ↦ elim rest [
        | inl less ↦ rw (ne_eqb m (n + 1) (λ e. omega (arith, less, e)), ne_eqb (m / 2) (n / 2) (λ e. omega (arith, less, e, even)), ne_eqb m n (λ e. omega (arith, less, e))) refl
        | inr more ↦ elim (cases_eq m (n + 1)) [
          | inl up ↦ rw (eq-eqb m (n + 1) up, ne_eqb m n (λ e. omega (arith, more, e))) refl
          | inr other ↦ rw (ne_eqb m (n + 1) other, ne_eqb (m / 2) (n / 2) (λ e. omega (arith, more, e, even, other)), ne_eqb m n (λ e. omega (arith, more, e))) refl
        ]
      ]
    ]

all-odd : (n m : ℕ) → n % 2 ≡ 1 → ((m == n - 1) || not (m / 2 == n / 2)) ≡ not (m == n)
all-odd n m odd =
    elim (cases_order m n) [
      | inl same ↦ rw (ne_eqb m (n - 1) (λ e. omega (arith, same, e, odd)), eq-eqb (m / 2) (n / 2) (ap (λ (k : ℕ). k / 2) same), eq-eqb m n same) refl
      | inr rest ↦ elim rest [
        | inl less ↦ elim (cases_eq m (n - 1)) [
          | inl down ↦ rw (eq-eqb m (n - 1) down, ne_eqb m n (λ e. omega (arith, less, e))) refl
          | inr other ↦ rw (ne_eqb m (n - 1) other, ne_eqb (m / 2) (n / 2) (λ e. omega (arith, less, e, odd, other)), ne_eqb m n (λ e. omega (arith, less, e))) refl
        ]
        | inr more ↦ rw (ne_eqb m (n - 1) (λ e. omega (arith, more, e)), ne_eqb (m / 2) (n / 2) (λ e. omega (arith, more, e, odd)), ne_eqb m n (λ e. omega (arith, more, e))) refl
      ]
    ]

above-even : (n m : ℕ) → n % 2 ≡ 0 → ((m == n + 1) || nat_lt (n / 2) (m / 2)) ≡ nat_lt n m
above-even n m even =
    elim (cases_eq m (n + 1)) [
      | inl up ↦ rw (eq-eqb m (n + 1) up, lt-ltb n m (omega (arith, up))) refl
      | inr other ↦ elim (cases_order m n) [
        | inl same ↦ rw (ne_eqb m (n + 1) other, le-ltb (n / 2) (m / 2) (omega (arith, same)), le-ltb n m (omega (arith, same))) refl
        | inr rest ↦ elim rest [
          | inl less ↦ rw (ne_eqb m (n + 1) other, le-ltb (n / 2) (m / 2) (omega (arith, less)), le-ltb n m (omega (arith, less))) refl
          | inr more ↦ rw (ne_eqb m (n + 1) other, lt-ltb (n / 2) (m / 2) (omega (arith, more, other, even)), lt-ltb n m more) refl
        ]
      ]
    ]

above-odd : (n m : ℕ) → n % 2 ≡ 1 → nat_lt (n / 2) (m / 2) ≡ nat_lt n m
above-odd n m odd =
    elim (cases_order m n) [
      | inl same ↦ rw (le-ltb (n / 2) (m / 2) (omega (arith, same)), le-ltb n m (omega (arith, same))) refl
      | inr rest ↦ elim rest [
        | inl less ↦ rw (le-ltb (n / 2) (m / 2) (omega (arith, less)), le-ltb n m (omega (arith, less))) refl
        | inr more ↦ rw (lt-ltb (n / 2) (m / 2) (omega (arith, more, odd)), lt-ltb n m more) refl
      ]
    ]

below-even : (n m : ℕ) → n % 2 ≡ 0 → nat_lt (m / 2) (n / 2) ≡ nat_lt m n
below-even n m even =
    elim (cases_order m n) [
      | inl same ↦ rw (le-ltb (m / 2) (n / 2) (omega (arith, same)), le-ltb m n (omega (arith, same))) refl
      | inr rest ↦ elim rest [
        | inl less ↦ rw (lt-ltb (m / 2) (n / 2) (omega (arith, less, even)), lt-ltb m n less) refl
        | inr more ↦ rw (le-ltb (m / 2) (n / 2) (omega (arith, more)), le-ltb m n (omega (arith, more))) refl
      ]
    ]

below-odd : (n m : ℕ) → n % 2 ≡ 1 → ((m == n - 1) || nat_lt (m / 2) (n / 2)) ≡ nat_lt m n
below-odd n m odd =
    elim (cases_eq m (n - 1)) [
      | inl down ↦ rw (eq-eqb m (n - 1) down, lt-ltb m n (omega (arith, down, odd))) refl
      | inr other ↦ elim (cases_order m n) [
        | inl same ↦ rw (ne_eqb m (n - 1) other, le-ltb (m / 2) (n / 2) (omega (arith, same)), le-ltb m n (omega (arith, same))) refl
        | inr rest ↦ elim rest [
          | inl less ↦ rw (ne_eqb m (n - 1) other, lt-ltb (m / 2) (n / 2) (omega (arith, less, other, odd)), lt-ltb m n less) refl
          | inr more ↦ rw (ne_eqb m (n - 1) other, le-ltb (m / 2) (n / 2) (omega (arith, more)), le-ltb m n (omega (arith, more))) refl
        ]
      ]
    ]

odd-is : (n : ℕ) → (n % 2 == 0) ≡ false → n % 2 ≡ 1
odd-is n odd = let other = eqb-false (n % 2) 0 odd in omega (arith, other)

step-by : (which : Which) (even : Bool) (n m : ℕ) → (n % 2 == 0) ≡ even → ((stands which n && (m == sibling n)) || test_of which (n / 2) (m / 2)) ≡ test_of which n m
step-by All true n m is = rw is (all-even n m (eqb-true (n % 2) 0 is))
step-by All false n m is = rw is (all-odd n m (odd-is n is))
step-by Above true n m is = rw is (above-even n m (eqb-true (n % 2) 0 is))
step-by Above false n m is = rw is (above-odd n m (odd-is n is))
step-by Below true n m is = rw is (below-even n m (eqb-true (n % 2) 0 is))
step-by Below false n m is = rw is (below-odd n m (odd-is n is))

-- ---- all of them

none-beside : (which : Which) (n m : ℕ) → n ≡ 0 → m ≡ 0 → false ≡ test_of which n m
none-beside All n m zn zm = rw (zn, zm) refl
none-beside Above n m zn zm = rw (zn, zm) refl
none-beside Below n m zn zm = rw (zn, zm) refl

one-if : (b : Bool) (t : Tests) (key : Key) → any_holds (cond b (t ∷ []) []) key ≡ b && tests_hold t key
one-if true t key = or-false (tests_hold t key)
one-if false t key = refl

sibling-holds : (side : Side) (which : Which) (number len : ℕ) (key : Key) → IsKey key → any_holds (sibling_tests side which number len) key ≡ stands which number && (address_at side key / 2 ^ (128 - len) == sibling number)
sibling-holds side which number len key is =
    one-if (stands which number) (block_tests side (numbered_block (sibling number) len)) key
    ∙ ap (λ b. stands which number && b) (block-only side (numbered_block (sibling number) len) key is)
    ∙ ap (λ n. stands which number && (address_at side key / 2 ^ (128 - len) == n)) (shl-shr (sibling number) (128 - len))

pub beside-holds : (side : Side) (which : Which) (len number : ℕ) (key : Key) → IsKey key → len ≤ 128 → number < 2 ^ len → any_holds (beside side which len number) key ≡ test_of which number (address_at side key / 2 ^ (128 - len))
beside-holds side which zero number key is fits below =
    let none = shr_below (address_at side key) 0 128 (side-below side key is) in
    none-beside which number (address_at side key / 2 ^ 128) (omega (arith, below)) (omega (arith, none))
beside-holds side which (suc len) number key is fits below =
    let a = address_at side key in
    let half : a / 2 ^ (128 - suc len) / 2 ≡ a / 2 ^ (128 - len) =
    (let more : (128 - suc len) + 1 ≡ 128 - len = omega (arith, fits) in shr-shr a (128 - suc len) 1 ∙ ap (λ (n : ℕ). a / 2 ^ n) more) in
    let rest = beside-holds side which len (number / 2) key is (omega (arith, fits)) (half-below number (suc len) len (omega arith) below) in
    any-append (sibling_tests side which number (suc len)) (beside side which len (number / 2)) key
    ∙ ap (λ x. x || any_holds (beside side which len (number / 2)) key) (sibling-holds side which number (suc len) key is)
    ∙ ap (λ x. (stands which number && (a / 2 ^ (128 - suc len) == sibling number)) || x) (rest ∙ ap (λ (n : ℕ). test_of which (number / 2) n) (sym half))
    ∙ step-by which (number % 2 == 0) number (a / 2 ^ (128 - suc len)) refl

-- ---- a prefix

pub number-is : (block : AddressBlock) → IsAddressBlock block → (zero_len : Bool) → (block.len == 0) ≡ zero_len → number_of block ≡ block.addr / 2 ^ (128 - block.len)
number-is block right true is =
    let len : block.len ≡ 0 = eqb-true block.len 0 is in
    let none = shr_below block.addr 0 128 right.fits in
    ap (λ b. cond b 0 (block.addr / 2 ^ (128 - block.len))) is ∙ sym (ap (λ (n : ℕ). block.addr / 2 ^ (128 - n)) len ∙ (let z : block.addr / 2 ^ 128 ≡ 0 = omega (arith, none) in z))
number-is block right false is = ap (λ b. cond b 0 (block.addr / 2 ^ (128 - block.len))) is

pub blocks-hold : (side : Side) (negated : Bool) (block : AddressBlock) (key : Key) → IsAddressBlock block → IsKey key
    → any_holds (blocks_tests side negated block) key ≡ unless negated (block_holds block (address_at side key))
blocks-hold side false block key right is = or-false (tests_hold (block_tests side block) key) ∙ block-only side block key is
blocks-hold side true block key right is =
    let a = address_at side key in
    let number = number-is block right (block.len == 0) refl in
    let below = number-below block.addr block.len right.length right.fits in
    ap (λ n. any_holds (beside side All block.len n) key) number
    ∙ beside-holds side All block.len (block.addr / 2 ^ (128 - block.len)) key is right.length below
