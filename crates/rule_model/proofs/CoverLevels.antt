-- One level of a cover: a block that lies in the range is taken whole, and any other one gives what its halves give.
use Rattle.std.proofs.Common.{◌≡◌, ℕ, zero, suc, ◌+◌, ◌-◌, ◌^◌, ◌<◌, ◌≤◌, Bool, true, false, ◌⊎◌, [], ◌∷◌, ◌++◌, nat_le, nat_lt, refl, sym, ◌∙◌, ap, arith, inl, inr, le-leb, lt-ltb, ltb-true, leb-false}
use Rattle.std.proofs.lemmas.Bool.{cases_Bool, cases_lt, and_from, and_left, and_right, and_cases, or_left, or_right, or_cases, lt-leb}
use Rattle.std.proofs.Math.Nat.{two-pow-succ}
use Rattle.std.proofs.lemmas.Nat.{pow_pos}
use Rattle.rule_model.specs.PortRange.{PortRange, block_at, lies_within, is_disjoint, cover_within}

-- the block of 2 ^ k ports from first on lies in the range
pub record IsWhole (range : PortRange) (k first : ℕ) : Type 0 where
  pub low : range.lo ≤ first
  pub high : first + 2 ^ k ≤ range.hi + 1

-- a port of it isn't in the range
abbrev pub IsPartly : PortRange → ℕ → ℕ → Type 0
IsPartly range k first = (first < range.lo) ⊎ (range.hi + 1 < first + 2 ^ k)

-- none of its ports is
abbrev pub IsApart : PortRange → ℕ → ℕ → Type 0
IsApart range k first = (first + 2 ^ k ≤ range.lo) ⊎ (range.hi < first)

pub cases_whole : (range : PortRange) (k first : ℕ) → IsWhole range k first ⊎ IsPartly range k first
cases_whole range k first =
    elim (cases_lt first range.lo) [
      | inl below ↦ inr (inl below)
      | inr low ↦ elim (cases_lt (range.hi + 1) (first + 2 ^ k)) [
        | inl above ↦ inr (inr above)
        | inr high ↦ inl (record { low = low; high = high })
      ]
    ]

pub within : (range : PortRange) (k first : ℕ) → IsWhole range k first → lies_within (block_at k first) range ≡ true
within range k first w =
    let p = pow_pos k in
    and_from (nat_le range.lo first) (nat_le (first + 2 ^ k - 1) range.hi) (le-leb _ _ w.low) (le-leb _ _ (let h = w.high in omega arith))

pub not_within : (range : PortRange) (k first : ℕ) → IsPartly range k first → lies_within (block_at k first) range ≡ false
not_within range k first (inl below) = and_left (nat_le range.lo first) (nat_le (first + 2 ^ k - 1) range.hi) (lt-leb _ _ below)
not_within range k first (inr above) =
    and_right (nat_le range.lo first) (nat_le (first + 2 ^ k - 1) range.hi) (lt-leb _ _ (let p = pow_pos k in omega arith))

pub partly_from : (range : PortRange) (k first : ℕ) → lies_within (block_at k first) range ≡ false → IsPartly range k first
partly_from range k first e =
    elim (and_cases (nat_le range.lo first) (nat_le (first + 2 ^ k - 1) range.hi) e) [
      | inl t ↦ inl (leb-false range.lo first t)
      | inr t ↦ inr (let l = leb-false (first + 2 ^ k - 1) range.hi t in let p = pow_pos k in omega arith)
    ]

outside : (range : PortRange) (k first : ℕ) → IsApart range k first → is_disjoint (block_at k first) range ≡ true
outside range k first (inl below) =
    or_left (nat_lt (first + 2 ^ k - 1) range.lo) (nat_lt range.hi first) (lt-ltb _ _ (let p = pow_pos k in omega arith))
outside range k first (inr above) = or_right (nat_lt (first + 2 ^ k - 1) range.lo) (nat_lt range.hi first) (lt-ltb _ _ above)

-- the case of a test that holds, and of one that doesn't
pick_true : {X : Type 0} (test : Bool) (x y : X) → test ≡ true → elim test [ true ↦ x | false ↦ y ] ≡ x
pick_true true x y e = refl
pick_true false x y e = absurd (let f : false ≡ true = e in cc)

pick_false : {X : Type 0} (test : Bool) (x y : X) → test ≡ false → elim test [ true ↦ x | false ↦ y ] ≡ y
pick_false false x y e = refl
pick_false true x y e = absurd (let f : true ≡ false = e in cc)

-- a block that lies in the range is all of its part of the cover
pub cover_whole : (range : PortRange) (k first : ℕ) → IsWhole range k first → cover_within range k first ≡ block_at k first ∷ []
cover_whole range zero first w = pick_true _ _ _ (within range zero first w)
cover_whole range (suc k) first w = pick_true _ _ _ (within range (suc k) first w)

apart_partly : (range : PortRange) (k first : ℕ) → IsApart range k first → IsPartly range k first
apart_partly range k first (inl below) = inl (let p = pow_pos k in omega arith)
apart_partly range k first (inr above) = inr (let p = pow_pos k in omega arith)

-- one outside the range has no part of it
pub cover_apart : (range : PortRange) (k first : ℕ) → IsApart range k first → cover_within range k first ≡ []
cover_apart range zero first a = pick_false _ _ _ (not_within range zero first (apart_partly range zero first a))
cover_apart range (suc k) first a =
    pick_false _ _ _ (not_within range (suc k) first (apart_partly range (suc k) first a)) ∙ pick_true _ _ _ (outside range (suc k) first a)

-- so has a single port that isn't in the range
pub cover_port : (range : PortRange) (first : ℕ) → IsPartly range 0 first → cover_within range 0 first ≡ []
cover_port range first p = pick_false _ _ _ (not_within range 0 first p)

apart_from : (range : PortRange) (k first : ℕ) → is_disjoint (block_at k first) range ≡ true → IsApart range k first
apart_from range k first d =
    elim (or_cases (nat_lt (first + 2 ^ k - 1) range.lo) (nat_lt range.hi first) d) [
      | inl t ↦ inl (let l = ltb-true (first + 2 ^ k - 1) range.lo t in let p = pow_pos k in omega arith)
      | inr t ↦ inr (ltb-true range.hi first t)
    ]

apart_left : (range : PortRange) (k first : ℕ) → IsApart range (suc k) first → IsApart range k first
apart_left range k first (inl below) = inl (let e = two-pow-succ k in omega arith)
apart_left range k first (inr above) = inr above

apart_right : (range : PortRange) (k first : ℕ) → IsApart range (suc k) first → IsApart range k (first + 2 ^ k)
apart_right range k first (inl below) = inl (let e = two-pow-succ k in omega arith)
apart_right range k first (inr above) = inr (omega arith)

-- any other has the parts of its halves
pub cover_halves : (range : PortRange) (k first : ℕ) → IsPartly range (suc k) first
    → cover_within range (suc k) first ≡ cover_within range k first ++ cover_within range k (first + 2 ^ k)
cover_halves range k first p =
    elim (cases_Bool (is_disjoint (block_at (suc k) first) range)) [
      | inl t ↦ let a = apart_from range (suc k) first t in none a
      | inr f ↦ pick_false _ _ _ (not_within range (suc k) first p) ∙ pick_false _ _ _ f
    ]
  where
    none : IsApart range (suc k) first → cover_within range (suc k) first ≡ cover_within range k first ++ cover_within range k (first + 2 ^ k)
    none a =
        let whole = cover_apart range (suc k) first a in
        let left = cover_apart range k first (apart_left range k first a) in
        let right = cover_apart range k (first + 2 ^ k) (apart_right range k first a) in
        whole ∙ sym (ap (λ z. z ++ cover_within range k (first + 2 ^ k)) left ∙ right)
