-- Words that are parted by bytes that are no digits.
use Rattle.std.proofs.Common.{◌≡◌, ℕ, suc, ◌+◌, ◌*◌, ◌^◌, ◌≤◌, ◌⊎◌, inl, inr, Bool, true, false, not, ◌==◌, ◌&&◌, ◌||◌, nat_le, List, [], ◌∷◌, length, Option, Some, None, refl, arith}
use Rattle.std.proofs.lemmas.Bool.{cases_Bool, and_parts}
use Rattle.std.proofs.lemmas.Grind.{common_steps}
use Rattle.std.proofs.lemmas.List.Splits.{slice_split-cons_no, slice_split-cons_yes}
use Rattle.std.specs.List.{list_all}
use Rattle.std.specs.Prelude.{option_and_then, option_map, if◌then◌else◌}
use Rattle.line_words.specs.Kinds.{is_digit, is_number, number_value, number_up_to, numbers_up_to, four_bytes, parts_at}

-- A word with a separator has two parts or more.
pub record HasMoreParts (separator : ℕ) (word : List ℕ) : Type 0 where
  pub first : List ℕ
  pub second : List ℕ
  pub others : List (List ℕ)
  pub parts : parts_at separator word ≡ first ∷ second ∷ others

-- a separator in front makes one part more
more-in-front : (separator byte : ℕ) (bytes : List ℕ) → (byte == separator) ≡ true
    → (parts_at separator bytes ≡ bytes ∷ []) ⊎ HasMoreParts separator bytes → HasMoreParts separator (byte ∷ bytes)
more-in-front separator byte bytes cut (inl whole) =
    record { first = []; second = bytes; others = []; parts = rw (slice_split-cons_yes, whole) refl }
more-in-front separator byte bytes cut (inr more) =
    record { first = []; second = more.first; others = more.second ∷ more.others; parts = rw (slice_split-cons_yes, more.parts) refl }

-- another byte in front belongs to the first part
more-behind : (separator byte : ℕ) (bytes : List ℕ) → (byte == separator) ≡ false → HasMoreParts separator bytes
    → HasMoreParts separator (byte ∷ bytes)
more-behind separator byte bytes goes more =
    record { first = byte ∷ more.first; second = more.second; others = more.others; parts = rw (slice_split-cons_no, more.parts) refl }

-- A word is its one part, or has more.
pub whole-or-more : (separator : ℕ) (word : List ℕ) → (parts_at separator word ≡ word ∷ []) ⊎ HasMoreParts separator word
whole-or-more separator [] = inl refl
whole-or-more separator (byte ∷ bytes) =
    elim (cases_Bool (byte == separator)) [
      | inl cut ↦ inr (more-in-front separator byte bytes cut (whole-or-more separator bytes))
      | inr goes ↦
          elim (whole-or-more separator bytes) [
            | inl whole ↦ inl (rw (slice_split-cons_no, whole) refl)
            | inr more ↦ inr (more-behind separator byte bytes goes more)
          ]
    ]

-- a digit is no separator
apart : (separator byte : ℕ) → is_digit separator ≡ false → is_digit byte ≡ true → (byte == separator) ≡ false
apart separator byte other digit = grind (arith, common_steps)

-- digits have no separator between them
digits-whole : (separator : ℕ) → is_digit separator ≡ false → (word : List ℕ) → list_all is_digit word ≡ true
    → parts_at separator word ≡ word ∷ []
digits-whole separator other [] all = refl
digits-whole separator other (byte ∷ bytes) all =
    let parts = and_parts (is_digit byte) (list_all is_digit bytes) all in
    let goes = apart separator byte other parts.0 in
    rw (slice_split-cons_no, digits-whole separator other bytes parts.1) refl

-- a number is of digits
number-digits : (word : List ℕ) → is_number word ≡ true → list_all is_digit word ≡ true
number-digits [] is = cc
number-digits (digit ∷ digits) is =
    (and_parts (list_all is_digit (digit ∷ digits)) (not (digit == 48) || (length digits == 0)) is).0

-- the test holds where a value comes of it
test-holds : (test : Bool) (number value : ℕ) → (if test then Some number else None) ≡ Some value → test ≡ true
test-holds true number value is = refl
test-holds false number value is = cc

-- A number is one part.
pub number-whole : (separator : ℕ) → is_digit separator ≡ false → (bound : ℕ) (word : List ℕ) (value : ℕ)
    → number_up_to bound word ≡ Some value → parts_at separator word ≡ word ∷ []
number-whole separator other bound word value is =
    let holds = test-holds (is_number word && nat_le (number_value word) bound) (number_value word) value is in
    let parts = and_parts (is_number word) (nat_le (number_value word) bound) holds in
    digits-whole separator other word (number-digits word parts.0)

-- one value more than others
one-value : (first : Option ℕ) (rest : Option (List ℕ)) (count : ℕ) (values : List ℕ)
    → ((others : List ℕ) → rest ≡ Some others → length others ≡ count)
    → option_and_then (λ value. option_map (λ others. value ∷ others) rest) first ≡ Some values
    → length values ≡ suc count
one-value None rest count values known is = cc
one-value (Some value) None count values known is = cc
one-value (Some value) (Some others) count values known is =
    let same : values ≡ value ∷ others = cc in
    rw (same, known others refl) refl

-- there are as many values as words
numbers_up_to-length : (bound : ℕ) (words : List (List ℕ)) (values : List ℕ) → numbers_up_to bound words ≡ Some values
    → length values ≡ length words
numbers_up_to-length bound [] values are =
    let none : values ≡ [] = cc in
    rw none refl
numbers_up_to-length bound (word ∷ words) values are =
    one-value (number_up_to bound word) (numbers_up_to bound words) (length words) values (numbers_up_to-length bound words) are

-- five values and more are no four bytes
too-many : (found : Option (List ℕ)) → ((values : List ℕ) → found ≡ Some values → 5 ≤ length values)
    → option_and_then four_bytes found ≡ None
too-many None known = refl
too-many (Some []) known = refl
too-many (Some (a ∷ [])) known = refl
too-many (Some (a ∷ b ∷ [])) known = refl
too-many (Some (a ∷ b ∷ c ∷ [])) known = refl
too-many (Some (a ∷ b ∷ c ∷ d ∷ [])) known =
    let least = known (a ∷ b ∷ c ∷ d ∷ []) refl in
    absurd (omega arith)
too-many (Some (a ∷ b ∷ c ∷ d ∷ e ∷ others)) known = refl

-- Five parts and more are no four bytes.
pub five-parts : (bound : ℕ) (a b c d e : List ℕ) (others : List (List ℕ))
    → option_and_then four_bytes (numbers_up_to bound (a ∷ b ∷ c ∷ d ∷ e ∷ others)) ≡ None
five-parts bound a b c d e others =
    too-many (numbers_up_to bound (a ∷ b ∷ c ∷ d ∷ e ∷ others))
    (λ values are. let same = numbers_up_to-length bound (a ∷ b ∷ c ∷ d ∷ e ∷ others) values are in omega arith)

-- no value in front of no values
none-behind : (first : Option ℕ) (rest : Option (List ℕ)) → rest ≡ None
    → option_and_then (λ value. option_map (λ others. value ∷ others) rest) first ≡ None
none-behind None rest none = refl
none-behind (Some value) rest none = rw none refl

-- one word of four is no number
four-none : (a b c d : List ℕ) → number_up_to 255 d ≡ None → numbers_up_to 255 (a ∷ b ∷ c ∷ d ∷ []) ≡ None
four-none a b c d none =
    let last : numbers_up_to 255 (d ∷ []) ≡ None = rw none refl in
    let two = none-behind (number_up_to 255 c) (numbers_up_to 255 (d ∷ [])) last in
    let three = none-behind (number_up_to 255 b) (numbers_up_to 255 (c ∷ d ∷ [])) two in
    none-behind (number_up_to 255 a) (numbers_up_to 255 (b ∷ c ∷ d ∷ [])) three

-- Where the last part of four is no number, they are no four bytes.
pub bad-fourth : (a b c d : List ℕ) → number_up_to 255 d ≡ None
    → option_and_then four_bytes (numbers_up_to 255 (a ∷ b ∷ c ∷ parts_at 46 d)) ≡ None
bad-fourth a b c d none =
    elim (whole-or-more 46 d) [
      | inl whole ↦ rw (whole, four-none a b c d none) refl
      | inr more ↦ rw more.parts (five-parts 255 a b c more.first more.second more.others)
    ]

-- Four numbers are four bytes.
pub four-numbers : (a b c d : List ℕ) (p q r s : ℕ) → number_up_to 255 a ≡ Some p → number_up_to 255 b ≡ Some q
    → number_up_to 255 c ≡ Some r → number_up_to 255 d ≡ Some s
    → option_and_then four_bytes (numbers_up_to 255 (a ∷ b ∷ c ∷ parts_at 46 d))
    ≡ Some (p * 2 ^ 24 + q * 2 ^ 16 + r * 2 ^ 8 + s)
four-numbers a b c d p q r s ea eb ec ed =
    let whole = number-whole 46 refl 255 d s ed in
    rw (whole, ea, eb, ec, ed) refl
