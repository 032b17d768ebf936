-- A line made word by word is the text of its words.
use Rattle.std.proofs.Common.{◌≡◌, ℕ, ◌+◌, ◌*◌, ◌/◌, ◌%◌, ◌^◌, ◌<◌, List, [], ◌∷◌, ◌++◌, refl, sym, ap, ◌∙◌, append_assoc, decimal, arith}
use Rattle.std.proofs.lemmas.Bool.{cond-false, ne_eqb}
use Rattle.std.proofs.lemmas.Fmt.{decimal_digit, decimal_step_wide}
use Rattle.report_lines.specs.Named.{prefix_text}
use Rattle.report_lines.specs.Text.{line_text}
use Rattle.report_lines.specs.Told.{with_words}

-- what stands before the first word stands before the line
line_text-behind : (before word : List ℕ) (words : List (List ℕ)) → line_text ((before ++ word) ∷ words) ≡ before ++ line_text (word ∷ words)
line_text-behind before word [] = append_assoc before word (10 ∷ [])
line_text-behind before word (next ∷ words) = append_assoc before word (32 ∷ line_text (next ∷ words))

-- a space before a word
spaced : (word : List ℕ) (words : List (List ℕ)) → line_text ((32 ∷ word) ∷ words) ≡ 32 ∷ line_text (word ∷ words)
spaced word [] = refl
spaced word (next ∷ words) = refl

-- the first word and those behind it, with the line feed
pub with_words-line : (line : List ℕ) (words : List (List ℕ)) → with_words line words ++ 10 ∷ [] ≡ line_text (line ∷ words)
with_words-line line [] = refl
with_words-line line (word ∷ words) =
    with_words-line (line ++ 32 ∷ word) words ∙ line_text-behind line (32 ∷ word) words ∙ ap (λ text. line ++ text) (spaced word words)

-- words behind words
pub with_words-append : (line : List ℕ) (a b : List (List ℕ)) → with_words line (a ++ b) ≡ with_words (with_words line a) b
with_words-append line [] b = refl
with_words-append line (word ∷ a) b = with_words-append (line ++ 32 ∷ word) a b

-- a text, a sign and a text behind a line, one after the other
onto : (line a : List ℕ) (sign : ℕ) (b : List ℕ) → ((line ++ a) ++ sign ∷ []) ++ b ≡ line ++ (a ++ sign ∷ b)
onto line a sign b = append_assoc (line ++ a) (sign ∷ []) b ∙ append_assoc line a (sign ∷ b)

-- the four parts of an address behind a line
pub four_parts : (line a b c d : List ℕ) → ((((((line ++ a) ++ 46 ∷ []) ++ b) ++ 46 ∷ []) ++ c) ++ 46 ∷ []) ++ d ≡ line ++ (a ++ 46 ∷ b ++ 46 ∷ c ++ 46 ∷ d)
four_parts line a b c d = rw (onto line a 46 b, onto line (a ++ 46 ∷ b) 46 c, onto line (a ++ 46 ∷ b ++ 46 ∷ c) 46 d) refl

-- two texts with a sign between them, behind a line and a space
pub two_parts : (line a : List ℕ) (sign : ℕ) (b : List ℕ) → (((line ++ 32 ∷ []) ++ a) ++ sign ∷ []) ++ b ≡ line ++ 32 ∷ (a ++ sign ∷ b)
two_parts line a sign b = onto (line ++ 32 ∷ []) a sign b ∙ append_assoc line (32 ∷ []) (a ++ sign ∷ b)

-- an address and a length behind a line and a space
pub address_and_length : (line address len : List ℕ) → (((line ++ 32 ∷ []) ++ address) ++ 47 ∷ []) ++ len ≡ line ++ 32 ∷ (address ++ 47 ∷ len)
address_and_length line address len = two_parts line address 47 len

-- a prefix whose mask has bits is told with its length
pub prefix_some : (address : List ℕ) (ones : ℕ) → (ones ≡ 0 → ⊥) → prefix_text address ones ≡ address ++ 47 ∷ decimal ones
prefix_some address ones other = cond-false _ _ _ (ne_eqb ones 0 other)

-- five texts behind a line and a space
pub five_parts : (line a b c d e : List ℕ) → (((((line ++ 32 ∷ []) ++ a) ++ b) ++ c) ++ d) ++ e ≡ line ++ 32 ∷ (a ++ (b ++ (c ++ (d ++ e))))
five_parts line a b c d e =
    rw (
      append_assoc (line ++ 32 ∷ []) a b,
      append_assoc (line ++ 32 ∷ []) (a ++ b) c,
      append_assoc (line ++ 32 ∷ []) ((a ++ b) ++ c) d,
      append_assoc (line ++ 32 ∷ []) (((a ++ b) ++ c) ++ d) e,
      append_assoc line (32 ∷ []) ((((a ++ b) ++ c) ++ d) ++ e),
      append_assoc ((a ++ b) ++ c) d e,
      append_assoc (a ++ b) c (d ++ e),
      append_assoc a b (c ++ (d ++ e)),
    ) refl

-- eleven texts behind a line and a space
pub eleven_parts : (line a b c d e f g h i j k : List ℕ) → (((((((((((line ++ 32 ∷ []) ++ a) ++ b) ++ c) ++ d) ++ e) ++ f) ++ g) ++ h) ++ i) ++ j) ++ k
    ≡ line ++ 32 ∷ (a ++ (b ++ (c ++ (d ++ (e ++ (f ++ (g ++ (h ++ (i ++ (j ++ k))))))))))
eleven_parts line a b c d e f g h i j k = simp append_assoc

-- a number whose last digit is written apart, behind a line and a space
pub last_digit : (line : List ℕ) (tens ones number : ℕ) → number ≡ 10 * tens + ones → ones < 10 → 0 < tens → number < 10 ^ 64
    → ((line ++ 32 ∷ []) ++ decimal tens) ++ decimal ones ≡ line ++ 32 ∷ decimal number
last_digit line tens ones number is few some small =
    let front : number / 10 ≡ tens = omega arith in
    let last : number % 10 ≡ ones = omega arith in
    let whole : decimal number ≡ decimal tens ++ decimal ones =
    decimal_step_wide number (omega arith) small ∙ ap (λ n. decimal n ++ (48 + number % 10) ∷ []) front ∙ ap (λ n. decimal tens ++ (48 + n) ∷ []) last
    ∙ ap (λ text. decimal tens ++ text) (sym (decimal_digit ones few)) in
    append_assoc (line ++ 32 ∷ []) (decimal tens) (decimal ones) ∙ append_assoc line (32 ∷ []) (decimal tens ++ decimal ones) ∙ ap (λ text. line ++ 32 ∷ text) (sym whole)
