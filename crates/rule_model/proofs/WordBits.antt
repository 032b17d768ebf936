-- Ternary matches of one number: the bits in which a word differs from a value, under a mask.
use Rattle.std.proofs.Common.{◌≡◌, ℕ, ◌+◌, ◌*◌, ◌-◌, ◌/◌, ◌%◌, ◌^◌, ◌<◌, ◌≤◌, true, ◌==◌, ◌&&◌, sym, ◌∙◌, ap, subst, arith, bit_and, bit_xor, add-zero}
use Rattle.std.specs.Bool.{Decides}
use Rattle.std.specs.Int.Bits.{xor_add_and, and_zero_r, xor_self}
use Rattle.std.proofs.lemmas.Bool.Decides.{Decides-eqb, Decides-like, Decides-and, same_from_decides}
use Rattle.std.proofs.Math.Nat.{mod-lt}
use Rattle.std.proofs.lemmas.Nat.{pow_pos, and_le_l, and_le_r, xor_lt, xor_shr, xor_mod, and_shr, and_mod, xor_block, and_block, div-mul-add, div-add-mod'}
use Rattle.std.proofs.lemmas.Nat.Bits.{bit_at_xor, bit_at-pow_same, bit_at-lt, and_pow, and_high_mask}

-- the bits that the mask tests in which the word isn't the value
abbrev pub differing : ℕ → ℕ → ℕ → ℕ
differing word value mask = bit_and (bit_xor word value) mask

xor-zero : (a b : ℕ) → bit_xor a b ≡ 0 → a ≡ b
xor-zero a b e = omega (arith, xor_add_and a b, and_le_l a b, and_le_r a b)

zero-xor : (a b : ℕ) → a ≡ b → bit_xor a b ≡ 0
zero-xor a b e = subst (λ c. bit_xor a c ≡ 0) e (xor_self a)

times-zero : (a n : ℕ) → 0 < n → a * n ≡ 0 → a ≡ 0
times-zero a n p e = grind arith

zero-times : (a n : ℕ) → a ≡ 0 → a * n ≡ 0
zero-times a n e = grind arith

-- under a mask of ones from bit k on, the parts above bit k are compared
pub leading_agree : (w k a b : ℕ) → k ≤ w → a < 2 ^ w → b < 2 ^ w → Decides (differing a b (2 ^ w - 2 ^ k) == 0) (a / 2 ^ k ≡ b / 2 ^ k)
leading_agree w k a b within la lb =
    Decides-like (differing a b (2 ^ w - 2 ^ k) == 0)
    (λ e. xor-zero (a / 2 ^ k) (b / 2 ^ k) (sym (xor_shr a b k) ∙ times-zero (bit_xor a b / 2 ^ k) (2 ^ k) (pow_pos k) (sym cleared ∙ e)))
    (λ e. cleared ∙ zero-times (bit_xor a b / 2 ^ k) (2 ^ k) (xor_shr a b k ∙ zero-xor (a / 2 ^ k) (b / 2 ^ k) e))
    (Decides-eqb (differing a b (2 ^ w - 2 ^ k)) 0)
  where
    cleared : differing a b (2 ^ w - 2 ^ k) ≡ bit_xor a b / 2 ^ k * 2 ^ k
    cleared = and_high_mask w k within (bit_xor a b) (xor_lt w a b la lb)

-- no bit is tested
pub untested : (a b : ℕ) → (differing a b 0 == 0) ≡ true
untested a b = ap (λ n. n == 0) (and_zero_r (bit_xor a b))

-- one bit is tested: it has to be set
pub bit_agrees : (a k : ℕ) → (differing a (2 ^ k) (2 ^ k) == 0) ≡ (a / 2 ^ k % 2 == 1)
bit_agrees a k = same_from_decides (differing a (2 ^ k) (2 ^ k) == 0) (a / 2 ^ k % 2 == 1)
    (Decides-like (differing a (2 ^ k) (2 ^ k) == 0)
    (λ e. flips (a / 2 ^ k % 2) (bit_at-lt a k) (times-zero ((a / 2 ^ k % 2 + 1) % 2) (2 ^ k) (pow_pos k) (sym left ∙ e)))
    (λ e. left ∙ zero-times ((a / 2 ^ k % 2 + 1) % 2) (2 ^ k) (ap (λ n. (n + 1) % 2) e))
    (Decides-eqb (differing a (2 ^ k) (2 ^ k)) 0))
    (Decides-eqb (a / 2 ^ k % 2) 1)
  where
    left : differing a (2 ^ k) (2 ^ k) ≡ (a / 2 ^ k % 2 + 1) % 2 * 2 ^ k
    left = and_pow (bit_xor a (2 ^ k)) k ∙ ap (λ n. n * 2 ^ k) (bit_at_xor a (2 ^ k) k ∙ ap (λ n. (a / 2 ^ k % 2 + n) % 2) (bit_at-pow_same k))

    flips : (n : ℕ) → n < 2 → (n + 1) % 2 ≡ 0 → n ≡ 1
    flips n l e = omega arith

-- a match of two parts is a match of each
pub parts_differ : (k a b c d e f : ℕ) → b < 2 ^ k → d < 2 ^ k → f < 2 ^ k
    → differing (a * 2 ^ k + b) (c * 2 ^ k + d) (e * 2 ^ k + f) ≡ differing a c e * 2 ^ k + differing b d f
parts_differ k a b c d e f lb ld lf =
    ap (λ n. bit_and n (e * 2 ^ k + f)) (xor_block k a c b d lb ld) ∙ and_block k (bit_xor a c) e (bit_xor b d) f (xor_lt k b d lb ld) lf

-- a match of shifted numbers is one of the numbers
pub shifted_differs : (k a b c : ℕ) → differing (a * 2 ^ k) (b * 2 ^ k) (c * 2 ^ k) ≡ differing a b c * 2 ^ k
shifted_differs k a b c = simp add-zero at (parts_differ k a 0 b 0 c 0 (pow_pos k) (pow_pos k) (pow_pos k))

pub shifted_zero : (k n : ℕ) → (n * 2 ^ k == 0) ≡ (n == 0)
shifted_zero k n = same_from_decides (n * 2 ^ k == 0) (n == 0)
    (Decides-like (n * 2 ^ k == 0) (times-zero n (2 ^ k) (pow_pos k)) (zero-times n (2 ^ k)) (Decides-eqb (n * 2 ^ k) 0))
    (Decides-eqb n 0)

pub parts_zero : (k a b : ℕ) → (a * 2 ^ k + b == 0) ≡ ((a == 0) && (b == 0))
parts_zero k a b = same_from_decides (a * 2 ^ k + b == 0) ((a == 0) && (b == 0))
    (Decides-like (a * 2 ^ k + b == 0) (λ e. (times-zero a (2 ^ k) (pow_pos k) (omega arith), omega arith)) (λ (e, f). omega (arith, zero-times a (2 ^ k) e))
    (Decides-eqb (a * 2 ^ k + b) 0))
    (Decides-and (a == 0) (b == 0) (Decides-eqb a 0) (Decides-eqb b 0))

-- a number in the block of 2 ^ k numbers from first on, where first is a multiple of 2 ^ k
pub block_agrees : (k a first : ℕ) → first % 2 ^ k ≡ 0 → a / 2 ^ k ≡ first / 2 ^ k → (first ≤ a) × (a < first + 2 ^ k)
block_agrees k a first multiple e = (omega (arith, whole, rest, below), omega (arith, whole, rest, below))
  where
    whole : first / 2 ^ k * 2 ^ k + first % 2 ^ k ≡ first
    whole = div-add-mod' first (2 ^ k)

    rest : first / 2 ^ k * 2 ^ k + a % 2 ^ k ≡ a
    rest = ap (λ q. q * 2 ^ k + a % 2 ^ k) (sym e) ∙ div-add-mod' a (2 ^ k)

    below : a % 2 ^ k < 2 ^ k
    below = mod-lt a (pow_pos k)

pub agrees_block : (k a first : ℕ) → first % 2 ^ k ≡ 0 → first ≤ a → a < first + 2 ^ k → a / 2 ^ k ≡ first / 2 ^ k
agrees_block k a first multiple low high =
    ap (λ n. n / 2 ^ k) here ∙ div-mul-add (first / 2 ^ k) (2 ^ k) (a - first) (omega arith)
  where
    whole : first / 2 ^ k * 2 ^ k + first % 2 ^ k ≡ first
    whole = div-add-mod' first (2 ^ k)

    here : a ≡ first / 2 ^ k * 2 ^ k + (a - first)
    here = omega (arith, whole)

-- the bits of one lane
pub lane_differs : (s w word value mask : ℕ) → differing (word / 2 ^ s % 2 ^ w) (value / 2 ^ s % 2 ^ w) (mask / 2 ^ s % 2 ^ w) ≡ differing word value mask / 2 ^ s % 2 ^ w
lane_differs s w word value mask =
    ap (λ n. bit_and n (mask / 2 ^ s % 2 ^ w)) (sym (xor_mod (word / 2 ^ s) (value / 2 ^ s) w) ∙ ap (λ n. n % 2 ^ w) (sym (xor_shr word value s)))
    ∙ sym (and_mod (bit_xor word value / 2 ^ s) (mask / 2 ^ s) w) ∙ ap (λ n. n % 2 ^ w) (sym (and_shr (bit_xor word value) mask s))
