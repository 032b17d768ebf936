-- The first word of a text and the words behind it.
use Rattle.std.proofs.Common.{◌≡◌, ℕ, suc, ◌+◌, ◌<◌, ◌≤◌, inl, inr, Bool, true, false, nat_lt, cond, List, [], ◌∷◌, filter, length, take, drop, get_or, not, Some, None, unwrap_or, refl, sym, ◌∙◌, ap, arith}
use Rattle.std.proofs.lemmas.Bool.{cases_Bool}
use Rattle.std.proofs.lemmas.Grind.{common_steps}
use Rattle.std.proofs.lemmas.List.Sums.{prefix_len-le-length}
use Rattle.std.proofs.lemmas.List.Splits.{slice_split-cons_no, slice_split-cons_yes}
use Rattle.std.specs.List.{slice_split, prefix_len, position, position_or_len, onto_first}
use Rattle.line_words.specs.Words.{is_word}

-- the words of a text that are parted where a test passes
abbrev pub words_by : (ℕ → Bool) → List ℕ → List (List ℕ)
words_by parts text = filter is_word (slice_split parts text)

-- one more is the next number
one-more : (n : ℕ) → 1 + n ≡ suc n
one-more n = omega arith

-- such a text with a byte in front that parts
words_by-blank : (parts : ℕ → Bool) (byte : ℕ) (bytes : List ℕ) → parts byte ≡ true
    → words_by parts (byte ∷ bytes) ≡ words_by parts bytes
words_by-blank parts byte bytes blank = rw slice_split-cons_yes refl

-- Bytes in front that part change no word.
pub words_by-trimmed : (parts : ℕ → Bool) (text : List ℕ) → words_by parts (drop (prefix_len parts text) text) ≡ words_by parts text
words_by-trimmed parts [] = refl
words_by-trimmed parts (byte ∷ bytes) =
    elim (cases_Bool (parts byte)) [
      | inl blank ↦ rw (blank, one-more) (words_by-trimmed parts bytes)
      | inr solid ↦ rw solid (rw slice_split-cons_no refl)
    ]

-- What a text is up to its first byte that parts, and the words behind.
record Cut (test : ℕ → Bool) (text : List ℕ) : Type 0 where
  parts : List (List ℕ)
  split : slice_split test text ≡ take (position_or_len test text) text ∷ parts
  behind : filter is_word parts ≡ words_by test (drop (position_or_len test text) text)

-- a text that begins with a byte that parts
cut-blank : (test : ℕ → Bool) (byte : ℕ) (bytes : List ℕ) → test byte ≡ true → Cut test (byte ∷ bytes)
cut-blank test byte bytes blank =
    let none : position_or_len test (byte ∷ bytes) ≡ 0 = rw blank refl in
    record {
      parts = slice_split test bytes;
      split = rw blank refl;
      behind = rw none (sym (words_by-blank test byte bytes blank));
    }

-- a text that begins with another byte
cut-more : (test : ℕ → Bool) (byte : ℕ) (bytes : List ℕ) → test byte ≡ false → Cut test bytes → Cut test (byte ∷ bytes)
cut-more test byte bytes solid cut =
    record {
      parts = cut.parts;
      split = rw (solid, one-more) (ap (onto_first byte) cut.split);
      behind = rw (solid, one-more) cut.behind;
    }

-- each text is cut so
cut-text : (test : ℕ → Bool) (text : List ℕ) → Cut test text
cut-text test [] = record { parts = []; split = refl; behind = refl }
cut-text test (byte ∷ bytes) =
    elim (cases_Bool (test byte)) [
      | inl blank ↦ cut-blank test byte bytes blank
      | inr solid ↦ cut-more test byte bytes solid (cut-text test bytes)
    ]

-- a text that begins with a byte that doesn't part begins with a word
words_by-word : (test : ℕ → Bool) (byte : ℕ) (bytes : List ℕ) → test byte ≡ false → (end : ℕ)
    → end ≡ position_or_len test (byte ∷ bytes)
    → words_by test (byte ∷ bytes) ≡ take end (byte ∷ bytes) ∷ words_by test (drop end (byte ∷ bytes))
words_by-word test byte bytes solid end is =
    let cut = cut-text test bytes in
    rw (is, solid, one-more) (ap (λ parts. filter is_word (onto_first byte parts)) cut.split ∙ ap (λ words. (byte ∷ take (position_or_len test bytes) bytes) ∷ words) cut.behind)

-- A text that begins with no byte that parts begins with a word.
pub words_by-first : (test : ℕ → Bool) (text : List ℕ) (end : ℕ) → 0 < length text → test (get_or text 0 0) ≡ false
    → end ≡ position_or_len test text
    → words_by test text ≡ take end text ∷ words_by test (drop end text)
words_by-first test [] end some solid is = absurd (omega arith)
words_by-first test (byte ∷ bytes) end some solid is = words_by-word test byte bytes solid end is

-- the place of the first element that passes, or the length
found-or-length : (place len : ℕ) → place ≤ len → unwrap_or (cond (nat_lt place len) (Some place) None) len ≡ place
found-or-length place len within = grind (arith, common_steps)

pub position-or-length : (test : ℕ → Bool) (text : List ℕ) → unwrap_or (position test text) (length text) ≡ position_or_len test text
position-or-length test text =
    found-or-length (position_or_len test text) (length text) (prefix_len-le-length (λ byte. not (test byte)) text)
