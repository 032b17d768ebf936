-- Decimal digits, read from the left.
use Rattle.std.proofs.Common.{◌≡◌, ℕ, suc, ◌+◌, ◌-◌, ◌*◌, ◌<◌, ◌≤◌, false, ◌&&◌, nat_le, List, [], ◌∷◌, length, drop, get_or, arith, drop-cons}
use Rattle.std.proofs.lemmas.Grind.{common_steps}
use Rattle.std.specs.List.{list_all, fold}
use Rattle.line_words.specs.Kinds.{is_digit, number_value}

-- the value with one digit more
abbrev pub with_digit : ℕ → ℕ → ℕ
with_digit value digit = value * 10 + (digit - 48)

-- the value with more digits
abbrev pub with_digits : ℕ → List ℕ → ℕ
with_digits value digits = fold with_digit value digits

-- further digits don't lower a value
pub with_digits-grows : (value : ℕ) (digits : List ℕ) → value ≤ with_digits value digits
with_digits-grows value [] = omega arith
with_digits-grows value (digit ∷ digits) =
    let more = with_digits-grows (with_digit value digit) digits in
    omega (arith, more)

-- Up to a place all bytes are digits, of this value.
pub record AreRead (word : List ℕ) (place value : ℕ) : Type 0 where
  pub digits : list_all is_digit word ≡ list_all is_digit (drop place word)
  pub value_is : number_value word ≡ with_digits value (drop place word)

-- the number is at least what was read of it, with the next digit
pub AreRead-least : (word : List ℕ) (place value : ℕ) → place < length word → AreRead word place value
    → with_digit value (get_or word place 0) ≤ number_value word
AreRead-least word place value inside read =
    let more = with_digit value (get_or word place 0) in
    rw (read.value_is, drop-cons word place 0 inside) (with_digits-grows more (drop (suc place) word))

-- the next digit makes the number too great, if it is one
pub AreRead-exceeds : (bound : ℕ) (word : List ℕ) (place value : ℕ) → place < length word → AreRead word place value
    → bound < with_digit value (get_or word place 0)
    → (list_all is_digit word && nat_le (number_value word) bound) ≡ false
AreRead-exceeds bound word place value inside read above =
    let least = AreRead-least word place value inside read in
    let exceeds : bound < number_value word = omega arith in
    grind (arith, common_steps)
