-- Multiples of powers of two.
use Rattle.std.proofs.Common.{◌≡◌, ℕ, suc, ◌+◌, ◌-◌, ◌*◌, ◌/◌, ◌%◌, ◌^◌, ◌<◌, ◌≤◌, sym, ◌∙◌, subst, ap, arith}
use Rattle.std.proofs.Math.Nat.{lt_of_mul-lt-mul_right, mul-mod_left, mul_assoc}
use Rattle.std.proofs.lemmas.Nat.{div-add-mod', div-mul-add, pow-add, mul-le}

-- a multiple as a product
pub multiple_is : (x s : ℕ) → x % s ≡ 0 → x / s * s ≡ x
multiple_is x s e = let d = div-add-mod' x s in omega arith

-- two multiples are apart by what they are multiples of
pub multiple_step : (a b s : ℕ) → a % s ≡ 0 → b % s ≡ 0 → a < b → a + s ≤ b
multiple_step a b s e f below =
    let p = multiple_is a s e in
    let q = multiple_is b s f in
    let less : (a / s) * s < (b / s) * s = omega arith in
    let steps : a / s < b / s = lt_of_mul-lt-mul_right s less in
    let far = mul-le (a / s + 1) s (b / s) s (omega arith) (omega arith) in
    omega arith

-- the multiple at or below a number
pub multiple_below : (p x s : ℕ) → p % s ≡ 0 → p ≤ x → x < p + s → x / s * s ≡ p
multiple_below p x s e low high =
    let q = multiple_is p s e in
    let d = div-mul-add (p / s) s (x - p) (omega arith) in
    let same : p / s * s + (x - p) ≡ x = omega arith in
    let g : x / s ≡ p / s = subst (λ z. z / s ≡ p / s) same d in
    ap (λ z. z * s) g ∙ q

-- a multiple of a power of two is one of each lesser power
pub multiple_lower : (j k x : ℕ) → j ≤ k → x % 2 ^ k ≡ 0 → x % 2 ^ j ≡ 0
multiple_lower j k x low e =
    let q = multiple_is x (2 ^ k) e in
    let d : 2 ^ (k - j + j) ≡ 2 ^ (k - j) * 2 ^ j = pow-add 2 (k - j) j in
    let same : k - j + j ≡ k = omega arith in
    let power : 2 ^ k ≡ 2 ^ (k - j) * 2 ^ j = subst (λ z. 2 ^ z ≡ 2 ^ (k - j) * 2 ^ j) same d in
    let product : x ≡ x / 2 ^ k * 2 ^ (k - j) * 2 ^ j = sym q ∙ ap (λ z. x / 2 ^ k * z) power ∙ sym (mul_assoc (x / 2 ^ k) (2 ^ (k - j)) (2 ^ j)) in
    subst (λ z. z % 2 ^ j ≡ 0) (sym product) (mul-mod_left (x / 2 ^ k * 2 ^ (k - j)) (2 ^ j))

-- the next multiple
pub multiple_after : (k x : ℕ) → x % 2 ^ k ≡ 0 → (x + 2 ^ k) % 2 ^ k ≡ 0
multiple_after k x e =
    let q = multiple_is x (2 ^ k) e in
    let same : (x / 2 ^ k + 1) * 2 ^ k ≡ x + 2 ^ k = omega arith in
    subst (λ z. z % 2 ^ k ≡ 0) same (mul-mod_left (x / 2 ^ k + 1) (2 ^ k))

-- the first ports of the two halves of a block
pub multiple_left : (k x : ℕ) → x % 2 ^ suc k ≡ 0 → x % 2 ^ k ≡ 0
multiple_left k x e = multiple_lower k (suc k) x (omega arith) e

pub multiple_right : (k x : ℕ) → x % 2 ^ suc k ≡ 0 → (x + 2 ^ k) % 2 ^ k ≡ 0
multiple_right k x e = multiple_after k x (multiple_left k x e)

-- a block that begins within a larger one lies in it
pub block_fits : (j k a x : ℕ) → j ≤ k → a % 2 ^ k ≡ 0 → x % 2 ^ j ≡ 0 → x < a + 2 ^ k → x + 2 ^ j ≤ a + 2 ^ k
block_fits j k a x low e f below =
    multiple_step x (a + 2 ^ k) (2 ^ j) f (multiple_lower j k (a + 2 ^ k) low (multiple_after k a e)) below
