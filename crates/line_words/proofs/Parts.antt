-- Where the first part of a list ends.
use Rattle.std.proofs.Common.{◌≡◌, ℕ, ◌+◌, ◌-◌, ◌<◌, ◌≤◌, inl, inr, Bool, true, false, nat_lt, cond, List, [], ◌∷◌, length, take, drop, refl, arith, Some, None}
use Rattle.std.proofs.lemmas.Bool.{cases_Bool}
use Rattle.std.proofs.lemmas.Grind.{common_steps}
use Rattle.std.proofs.lemmas.List.{take_rest}
use Rattle.std.proofs.lemmas.List.Splits.{slice_split-cons_no, slice_split_first}
use Rattle.std.specs.List.{slice_split, position, position_or_len}

-- where no place was found, none is within the list
none-is : (b : Bool) (k : ℕ) → cond b (Some k) None ≡ None → b ≡ false
none-is true k none = cc
none-is false k none = refl

-- where a place was found, it is within the list
some-is : (b : Bool) (k found : ℕ) → cond b (Some k) None ≡ Some found → (b ≡ true) × (found ≡ k)
some-is true k found some = (refl, cc)
some-is false k found some = cc

-- the first element passes
past-none : (p : ℕ → Bool) (x : ℕ) (xs : List ℕ) → p x ≡ true → length (x ∷ xs) ≤ position_or_len p (x ∷ xs) → ⊥
past-none p x xs ends past =
    let none : position_or_len p (x ∷ xs) ≡ 0 = rw ends refl in
    let least : length (x ∷ xs) ≤ 0 = rw none at past in
    omega arith

-- the first element doesn't pass
past-more : (p : ℕ → Bool) (x : ℕ) (xs : List ℕ) → p x ≡ false → length (x ∷ xs) ≤ position_or_len p (x ∷ xs)
    → length xs ≤ position_or_len p xs
past-more p x xs goes past =
    let more : position_or_len p (x ∷ xs) ≡ 1 + position_or_len p xs = rw goes refl in
    let longer : length (x ∷ xs) ≤ 1 + position_or_len p xs = rw more at past in
    omega arith

-- a list with no first place is one part
whole-part : (p : ℕ → Bool) (xs : List ℕ) → length xs ≤ position_or_len p xs → slice_split p xs ≡ xs ∷ []
whole-part p [] past = refl
whole-part p (x ∷ xs) past =
    elim (cases_Bool (p x)) [
      | inl ends ↦ absurd (past-none p x xs ends past)
      | inr goes ↦
          let further : length xs ≤ position_or_len p xs = past-more p x xs goes past in
          rw (slice_split-cons_no p x xs goes, whole-part p xs further) refl
    ]

-- where no element passes, the list is the one part
pub slice_split-whole : (p : ℕ → Bool) (xs : List ℕ) → position p xs ≡ None → slice_split p xs ≡ xs ∷ []
slice_split-whole p xs none =
    let within = none-is (nat_lt (position_or_len p xs) (length xs)) (position_or_len p xs) none in
    let past : length xs ≤ position_or_len p xs = grind (arith, common_steps) in
    whole-part p xs past

-- the first part ends at the first element that passes, and the others begin behind it
pub slice_split-parts : (p : ℕ → Bool) (xs : List ℕ) (end : ℕ) → position p xs ≡ Some end
    → slice_split p xs ≡ take end xs ∷ slice_split p (take (length xs - (end + 1)) (drop (end + 1) xs))
slice_split-parts p xs end some =
    let found = some-is (nat_lt (position_or_len p xs) (length xs)) (position_or_len p xs) end some in
    let test : nat_lt (position_or_len p xs) (length xs) ≡ true = found.0 in
    let is : end ≡ position_or_len p xs = found.1 in
    let within : position_or_len p xs < length xs = grind (arith, common_steps) in
    rw (take_rest, is) (slice_split_first p xs 0 within)
