-- The script of a list is read as that list.
use Rattle.std.proofs.Common.{◌≡◌, ◌<◌, ◌≤◌, ◌+◌, ◌-◌, ◌*◌, ◌^◌, ℕ, suc, Bool, true, false, cond, ◌==◌, ◌&&◌, ◌||◌, Some, None, Result, Ok, Err, List, [], ◌∷◌, ◌++◌, length, take, drop, get_or, refl, sym, ap, ◌∙◌, arith, rules, subst, append-nil, append_assoc, length-append}
use Rattle.std.specs.Prelude.{codes, decimal, nat_le, nat_lt, not, option_and_then, ok_or, fold, slice_index}
use Rattle.std.specs.List.{list_all, position, position_or_len}
use Rattle.std.specs.Str.{bytes_eq}
use Rattle.std.proofs.lemmas.Bool.{false≢true, ne_eqb, le-leb, leb-true, lt-ltb}
use Rattle.std.proofs.lemmas.Fmt.{decimal_nonempty, digits_decimal, digits_value-decimal, first_decimal}
use Rattle.std.proofs.lemmas.Str.Parse.{IsNumeralModel, numerals_by_fold}
use Rattle.std.proofs.Math.Seq.{drop-append_seam, take-append_seam}
use Rattle.line_words.specs.declared.WordFault.TheVariants.{BadSequence}
use Rattle.line_words.specs.Kinds.{is_digit, is_number, nonzero, number_value, sequence_of}
use Rattle.kept_numbers.specs.declared.words.OlderLine.{OlderLine}
use Rattle.kept_numbers.specs.Laws.{numbers_of, words_of}
use Rattle.kept_numbers.specs.Older.{added, added_by, added_with, before, older_from, parted, said, said_before}
use Rattle.kept_numbers.specs.Written.{AreComments, AreLines, AreWords, IsComment, IsReadBack, IsWithinLine, comments_text, numbered_line, numbered_text}

-- ---- a number

abbrev AreDigits : List ℕ → Type 0
AreDigits digits = list_all is_digit digits ≡ true

abbrev value_on : ℕ → List ℕ → ℕ
value_on value digits = fold (λ v digit. v * 10 + (digit - 48)) value digits

own : IsNumeralModel AreDigits (value_on 0)
own = numerals_by_fold _ (search rules) value_on (search rules)

both : (a b : Bool) → a && b ≡ true → (a ≡ true) × (b ≡ true)
both true b is = (refl, is)
both false b is = absurd (cc)

digit-from : (digit : ℕ) → is_digit digit ≡ true → 48 ≤ digit
digit-from digit is = leb-true 48 digit (both (nat_le 48 digit) (nat_le digit 57) is).0

number-is : (digits : List ℕ) → AreDigits digits → 0 < length digits → 48 < get_or digits 0 0 → is_number digits ≡ true
number-is [] all some first = absurd (omega (arith, some))
number-is (digit ∷ digits) all some first =
    let above : 48 < digit = first in
    ap (λ b. b && (not (digit == 48) || (length digits == 0))) all ∙ ap (λ b. not b || (length digits == 0)) (ne_eqb digit 48 (λ e. omega (arith, above, e)))

number-back : (number : ℕ) → 1 ≤ number → number ≤ 4294967295 → sequence_of (decimal number) ≡ Ok number
number-back number some most =
    let word = decimal number in
    let is : is_number word ≡ true =
    number-is word (digits_decimal own number (omega (arith, most))) (decimal_nonempty number (omega (arith, most))) (first_decimal number (omega (arith, some)) (omega (arith, most))) in
    ap (λ b. ok_or (option_and_then nonzero (cond (b && nat_le (number_value word) 4294967295) (Some (number_value word)) None)) BadSequence) is
    ∙ ap (λ v. ok_or (option_and_then nonzero (cond (nat_le v 4294967295) (Some v) None)) BadSequence) (digits_value-decimal own number (omega (arith, most)))
    ∙ ap (λ b. ok_or (option_and_then nonzero (cond b (Some number) None)) BadSequence) (le-leb number 4294967295 most)
    ∙ ap (λ b. ok_or (cond b None (Some number)) BadSequence) (ne_eqb number 0 (λ e. omega (arith, some, e)))

-- ---- the words behind it

abbrev is_blank : ℕ → Bool
is_blank byte = byte == 32

blank-at : (digits words : List ℕ) → AreDigits digits → position_or_len is_blank (digits ++ 32 ∷ words) ≡ length digits
blank-at [] words all = refl
blank-at (digit ∷ digits) words all =
    let parts = both (is_digit digit) (list_all is_digit digits) all in
    let from : 48 ≤ digit = digit-from digit parts.0 in
    ap (λ b. cond (not b) (1 + position_or_len is_blank (digits ++ 32 ∷ words)) 0) (ne_eqb digit 32 (λ e. omega (arith, from, e)))
    ∙ ap (λ n. 1 + n) (blank-at digits words parts.1) ∙ one-and (length digits)
  where
    one-and : (n : ℕ) → 1 + n ≡ suc n
    one-and n = omega arith

blank-place : (digits words : List ℕ) → AreDigits digits → position is_blank (digits ++ 32 ∷ words) ≡ Some (length digits)
blank-place digits words all =
    let many : length (digits ++ 32 ∷ words) ≡ length digits + suc (length words) = length-append digits (32 ∷ words) in
    ap (λ n. cond (nat_lt n (length (digits ++ 32 ∷ words))) (Some n) None) (blank-at digits words all)
    ∙ ap (λ b. cond b (Some (length digits)) None) (lt-ltb (length digits) (length (digits ++ 32 ∷ words)) (omega (arith, many)))

added-blank : (number : ℕ) (words : List ℕ) → 1 ≤ number → number ≤ 4294967295 → added (decimal number ++ 32 ∷ words) ≡ Some (record { number = number; words = 32 ∷ words } ∷ [])
added-blank number words some most =
    let rest = decimal number ++ 32 ∷ words in
    ap (λ p. added_by rest p) (blank-place (decimal number) words (digits_decimal own number (omega (arith, most))))
    ∙ ap (λ t. added_with (sequence_of t) (drop (length (decimal number)) rest)) (take-append_seam (decimal number) (32 ∷ words))
    ∙ ap (λ d. added_with (sequence_of (decimal number)) d) (drop-append_seam (decimal number) (32 ∷ words))
    ∙ ap (λ r. added_with r (32 ∷ words)) (number-back number some most)

added-back : (number : ℕ) (words : List ℕ) → 1 ≤ number → number ≤ 4294967295 → AreWords words → added (decimal number ++ words) ≡ Some (record { number = number; words = words } ∷ [])
added-back number [] some most are = absurd are
added-back number (byte ∷ bytes) some most are =
    subst (λ (b : ℕ). added (decimal number ++ b ∷ bytes) ≡ Some (record { number = number; words = b ∷ bytes } ∷ [])) (sym are.0) (added-blank number bytes some most)

-- ---- a line

line-parted : (front line more : List ℕ) → IsWithinLine line → parted front (line ++ 10 ∷ more) ≡ (front ++ line) ∷ parted [] more
line-parted front [] more within = ap (λ l. l ∷ parted [] more) (sym (append-nil front))
line-parted front (byte ∷ bytes) more within =
    ap (λ b. cond b (front ∷ parted [] (bytes ++ 10 ∷ more)) (parted (front ++ byte ∷ []) (bytes ++ 10 ∷ more))) (ne_eqb byte 10 within.0)
    ∙ line-parted (front ++ byte ∷ []) bytes more within.1 ∙ ap (λ l. l ∷ parted [] more) (append_assoc front (byte ∷ []) bytes)

line-back : (number : ℕ) (line more : List ℕ) (found : List OlderLine) → IsWithinLine line → said line ≡ Some found
    → older_from number (parted [] (line ++ 10 ∷ more)) ≡ before found (older_from (number + 1) (parted [] more))
line-back number line more found within is =
    ap (λ l. older_from number l) (line-parted [] line more within) ∙ ap (λ o. said_before number o (older_from (number + 1) (parted [] more))) is

pub within-both : (front back : List ℕ) → IsWithinLine front → IsWithinLine back → IsWithinLine (front ++ back)
within-both [] back first second = second
within-both (byte ∷ bytes) back first second = (first.0, within-both bytes back first.1 second)

-- by a test
pub within-test : (bytes : List ℕ) → list_all (λ byte. not (byte == 10)) bytes ≡ true → IsWithinLine bytes
within-test [] all = tt
within-test (byte ∷ bytes) all = by (byte == 10) refl (within-test bytes) all
  where
    other : byte == 10 ≡ false → byte ≡ 10 → ⊥
    other is e = absurd (false≢true (sym is ∙ ap (λ n. n == 10) e))

    by : (b : Bool) → byte == 10 ≡ b → (list_all (λ byte. not (byte == 10)) bytes ≡ true → IsWithinLine bytes) → not b && list_all (λ byte. not (byte == 10)) bytes ≡ true → IsWithinLine (byte ∷ bytes)
    by true is rest left = absurd (false≢true left)
    by false is rest left = (other is, rest left)

digits-within : (digits : List ℕ) → AreDigits digits → IsWithinLine digits
digits-within [] all = tt
digits-within (digit ∷ digits) all =
    let parts = both (is_digit digit) (list_all is_digit digits) all in
    let from : 48 ≤ digit = digit-from digit parts.0 in
    (λ e. omega (arith, from, e), digits-within digits parts.1)

pub number-within : (number : ℕ) → number < 2 ^ 64 → IsWithinLine (decimal number)
number-within number small = digits-within (decimal number) (digits_decimal own number small)

words-within : (words : List ℕ) → AreWords words → IsWithinLine words
words-within [] are = absurd are
words-within (byte ∷ bytes) are = (subst (λ (b : ℕ). b ≡ 10 → ⊥) (sym are.0) (λ e. absurd (cc)), are.1)

-- ---- comments, and lines of a list

none-before : (found : Result (List OlderLine) ℕ) → before [] found ≡ found
none-before (Ok more) = refl
none-before (Err number) = refl

one-before : (line : OlderLine) (lines : List OlderLine) (found : Result (List OlderLine) ℕ) → before (line ∷ []) (before lines found) ≡ before (line ∷ lines) found
one-before line lines (Ok more) = refl
one-before line lines (Err number) = refl

-- a line has a byte
has-length : (byte : ℕ) (bytes : List ℕ) → length (byte ∷ bytes) ≡ 0 → ⊥
has-length byte bytes e = omega (arith, e)

remark-said : (bytes : List ℕ) → said (35 ∷ bytes) ≡ Some []
remark-said bytes =
    let line = 35 ∷ bytes in
    ap (λ b. cond (b || (slice_index line 0 == 35) || bytes_eq line (codes "commit") || bytes_eq line (codes "acl all")) (Some []) (cond (bytes_eq (take 8 line) (codes "acl add ")) (added (drop 8 line)) None))
    (ne_eqb (length line) 0 (has-length 35 bytes))

comment-said : (comment : List ℕ) → IsComment comment → said comment ≡ Some []
comment-said [] is = absurd is
comment-said (byte ∷ bytes) is = subst (λ (b : ℕ). said (b ∷ bytes) ≡ Some []) (sym is.0) (remark-said bytes)

comment-within : (comment : List ℕ) → IsComment comment → IsWithinLine comment
comment-within [] is = absurd is
comment-within (byte ∷ bytes) is = (subst (λ (b : ℕ). b ≡ 10 → ⊥) (sym is.0) (λ e. absurd (cc)), is.1)

comments-back : (number : ℕ) (comments : List (List ℕ)) (text : List ℕ) → AreComments comments
    → (next : ℕ) × (older_from number (parted [] (comments_text comments ++ text)) ≡ older_from next (parted [] text))
comments-back number [] text are = (number, refl)
comments-back number (comment ∷ comments) text are =
    let rest = comments-back (number + 1) comments text are.1 in (
      rest.0,
      ap (λ t. older_from number (parted [] t)) (append_assoc comment (codes "\n" ++ comments_text comments) text)
          ∙ line-back number comment (comments_text comments ++ text) [] (comment-within comment are.0) (comment-said comment are.0)
          ∙ none-before (older_from (number + 1) (parted [] (comments_text comments ++ text))) ∙ rest.1,
    )

line-shape : (number : ℕ) (words text : List ℕ) → numbered_line number words ++ text ≡ (codes "acl add " ++ (decimal number ++ words)) ++ 10 ∷ text
line-shape number words text =
    append_assoc (codes "acl add ") (decimal number ++ (words ++ codes "\n")) text
    ∙ ap (λ t. codes "acl add " ++ t)
    (append_assoc (decimal number) (words ++ codes "\n") text ∙ ap (λ t. decimal number ++ t) (append_assoc words (codes "\n") text) ∙ sym (append_assoc (decimal number) words (10 ∷ text)))
    ∙ sym (append_assoc (codes "acl add ") (decimal number ++ words) (10 ∷ text))

command-said : (rest : List ℕ) → said (codes "acl add " ++ rest) ≡ added rest
command-said rest =
    let line = codes "acl add " ++ rest in
    ap (λ b. cond (b || (slice_index line 0 == 35) || bytes_eq line (codes "commit") || bytes_eq line (codes "acl all")) (Some []) (cond (bytes_eq (take 8 line) (codes "acl add ")) (added (drop 8 line)) None))
    (ne_eqb (length line) 0 (has-length 97 (codes "cl add " ++ rest)))

command-within : (number : ℕ) (words : List ℕ) → number ≤ 4294967295 → AreWords words → IsWithinLine (codes "acl add " ++ (decimal number ++ words))
command-within number words most are =
    within-both (codes "acl add ") (decimal number ++ words) (within-test (codes "acl add ") refl)
    (within-both (decimal number) words (number-within number (omega (arith, most))) (words-within words are))

lines-back : (number : ℕ) (lines : List OlderLine) (text : List ℕ) → AreLines lines
    → (next : ℕ) × (older_from number (parted [] (numbered_text (numbers_of lines) (words_of lines) ++ text)) ≡ before lines (older_from next (parted [] text)))
lines-back number [] text are = (number, sym (none-before (older_from number (parted [] text))))
lines-back number (line ∷ lines) text are =
    let behind = numbered_text (numbers_of lines) (words_of lines) ++ text in
    let command = codes "acl add " ++ (decimal line.number ++ line.words) in
    let rest = lines-back (number + 1) lines text are.3 in (
      rest.0,
      ap (λ t. older_from number (parted [] t))
          (append_assoc (numbered_line line.number line.words) (numbered_text (numbers_of lines) (words_of lines)) text ∙ line-shape line.number line.words behind)
          ∙ line-back number command behind (line ∷ []) (command-within line.number line.words are.1 are.2)
          (command-said (decimal line.number ++ line.words) ∙ added-back line.number line.words are.0 are.1 are.2)
          ∙ ap (λ f. before (line ∷ []) f) rest.1 ∙ one-before line lines (older_from rest.0 (parted [] text)),
    )

pub read-back : IsReadBack
read-back first last lines are_first are_last are =
    let closing = codes "commit\n" in
    let behind = comments_text last ++ closing in
    let head = comments-back 1 first (numbered_text (numbers_of lines) (words_of lines) ++ behind) are_first in
    let body = lines-back head.0 lines behind are in
    let tail = comments-back body.0 last closing are_last in
    let end : older_from tail.0 (parted [] closing) ≡ Ok [] = refl in
    head.1 ∙ body.1 ∙ ap (λ f. before lines f) (tail.1 ∙ end) ∙ ap Ok (append-nil lines)
