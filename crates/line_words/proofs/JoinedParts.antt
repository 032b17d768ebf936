-- Addresses of groups that are counted and summed.
use Rattle.std.proofs.Common.{◌≡◌, ℕ, ◌+◌, ◌-◌, ◌*◌, ◌%◌, ◌^◌, ◌<◌, ◌≤◌, List, length, Option, None, Some, inl, inr, refl, ap, ◌∙◌, subst, arith, le-leb}
use Rattle.std.specs.Prelude.{option_and_then}
use Rattle.std.proofs.lemmas.Bool.{cases_lt, lt-leb}
use Rattle.std.proofs.lemmas.Nat.{pow-add, shl_whole, shl_below}
use Rattle.line_words.specs.declared.ipv6.Groups.{Groups}
use Rattle.line_words.specs.Ipv6.{address_value, few_groups, joined_groups}
use Rattle.line_words.proofs.Groups.{joined-value}

-- the count and the number of some values
abbrev pub counted : List ℕ → Groups
counted values = record { count = length values; value = address_value values }

-- values are too many, or they are counted
few-many : (values : List ℕ) → 8 < length values → few_groups values ≡ None
few-many values many = rw (lt-leb (length values) 8 many) refl

few-counted : (values : List ℕ) → length values ≤ 8 → few_groups values ≡ Some (counted values)
few-counted values few = rw (le-leb (length values) 8 few) refl

-- what is counted of values that are few enough
few-is : (values : List ℕ) (groups : Groups) → few_groups values ≡ Some groups → counted values ≡ groups
few-is values groups is = elim (cases_lt 8 (length values)) [
  | inl many ↦ let none = few-many values many in cc
  | inr few ↦ let some = few-counted values few in cc
]

-- the address of two parts
abbrev pub joined : Option (List ℕ) → Option (List ℕ) → Option ℕ
joined front back = option_and_then (λ before. option_and_then (joined_groups before) back) front

pub both-parts : (front back : Option (List ℕ)) (before behind : Groups) → option_and_then few_groups front ≡ Some before → option_and_then few_groups back ≡ Some behind
    → before.count + behind.count < 8 → joined front back ≡ Some (before.value * 2 ^ (16 * (8 - before.count)) + behind.value)
both-parts None back before behind is is' few = cc
both-parts (Some values) None before behind is is' few = cc
both-parts (Some values) (Some others) before behind is is' few =
    let front_is = few-is values before is in
    let back_is = few-is others behind is' in
    let count = ap (λ (made : Groups). made.count) front_is in
    let count' = ap (λ (made : Groups). made.count) back_is in
    joined-value values others (omega arith)
    ∙ (ap (λ (made : Groups). Some (made.value * 2 ^ (16 * (8 - made.count)) + address_value others)) front_is
    ∙ ap (λ (made : Groups). Some (before.value * 2 ^ (16 * (8 - before.count)) + made.value)) back_is)

-- a front that is shifted twice
pub shifted : (count value : ℕ) → count ≤ 7 → value < 2 ^ (16 * count) → value * 2 ^ (16 * (7 - count)) % 2 ^ 128 * 2 ^ 16 % 2 ^ 128 ≡ value * 2 ^ (16 * (8 - count))
shifted count value few fits =
    let place : ℕ = 16 * (7 - count) in
    let sum : 16 * count + place ≡ 112 = omega arith in
    let first : value * 2 ^ place % 2 ^ 128 ≡ value * 2 ^ place = shl_whole value (16 * count) place 128 fits (omega arith) in
    let below : value * 2 ^ place < 2 ^ 112 = subst (λ n. value * 2 ^ place < 2 ^ n) sum (shl_below value (16 * count) place fits) in
    let second : value * 2 ^ place * 2 ^ 16 % 2 ^ 128 ≡ value * 2 ^ place * 2 ^ 16 = shl_whole (value * 2 ^ place) 112 16 128 below (omega arith) in
    let more : 16 * (8 - count) ≡ place + 16 = omega arith in
    let power : 2 ^ (16 * (8 - count)) ≡ 2 ^ place * 2 ^ 16 = ap (λ n. 2 ^ n) more ∙ pow-add 2 place 16 in
    rw (first, second, power) (products value (2 ^ place))
  where
    products : (v p : ℕ) → v * p * 2 ^ 16 ≡ v * (p * 2 ^ 16)
    products v p = omega arith
