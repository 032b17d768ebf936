-- Steps of a search over a flat row of words, and the row of marks that it is.
use Rattle.std.proofs.Common.{◌≡◌, ℕ, ◌+◌, ◌-◌, ◌*◌, ◌<◌, ◌≤◌, List, Option, None, Some, arith, inl, inr, refl, ◌∙◌, ap}
use Rattle.std.specs.Prelude.{slice_index_or}
use Rattle.std.proofs.lemmas.Bool.{cases_lt}
use Rattle.word_tree.specs.Tree.{bit_of, IsLowest, IsHighest}
use Rattle.word_tree.specs.Marks.{marks_of, IsNextSet, IsLastSet}
use Rattle.word_tree.proofs.Bits.{bit_in_word}
use Rattle.word_tree.proofs.Rows.{set_mark, no_mark}
use Rattle.slot_pool.specs.Flat.{IsNextMarked, IsLastMarked}

abbrev pub NoneBetween : List ℕ → ℕ → ℕ → Type 0
NoneBetween words from to = (k : ℕ) → from ≤ k → k < to → bit_of words k ≡ 0

-- up the words: a word that has no such bit, and one that has
pub up_none : (words : List ℕ) (from word first : ℕ) → NoneBetween words from (word * 64 + first) → IsLowest (slice_index_or words word 0) first None → NoneBetween words from (word * 64 + 64)
up_none words from word first none word_none k low high = elim (cases_lt k (word * 64 + first)) [
  | inl before ↦ none k low before
  | inr here ↦ bit_in_word words word (k - word * 64) k (omega arith) (omega arith) ∙ word_none (k - word * 64) (omega arith) (omega arith)
]

pub up_some : (words : List ℕ) (from word first bit : ℕ) → NoneBetween words from (word * 64 + first) → IsLowest (slice_index_or words word 0) first (Some bit)
    → (bit_of words (word * 64 + bit) ≡ 1) × NoneBetween words from (word * 64 + bit)
up_some words from word first bit none is = (
  bit_in_word words word bit (word * 64 + bit) is.1 refl ∙ is.2,
  λ k low high. elim (cases_lt k (word * 64 + first)) [
    | inl before ↦ none k low before
    | inr here ↦ bit_in_word words word (k - word * 64) k (let b = is.1 in omega arith) (omega arith) ∙ is.3 (k - word * 64) (omega arith) (omega arith)
  ],
)

-- down the words
pub down_none : (words : List ℕ) (to word end : ℕ) → NoneBetween words (word * 64 + end) to → end ≤ 64 → IsHighest (slice_index_or words word 0) end None → NoneBetween words (word * 64) to
down_none words to word end none below word_none k low high = elim (cases_lt k (word * 64 + end)) [
  | inr after ↦ none k after high
  | inl here ↦ bit_in_word words word (k - word * 64) k (omega arith) (omega arith) ∙ word_none (k - word * 64) (omega arith)
]

pub down_some : (words : List ℕ) (to word end bit : ℕ) → NoneBetween words (word * 64 + end) to → end ≤ 64 → IsHighest (slice_index_or words word 0) end (Some bit)
    → (bit_of words (word * 64 + bit) ≡ 1) × NoneBetween words (word * 64 + bit + 1) to
down_some words to word end bit none below is =
    let b : bit < end = is.0 in (
      bit_in_word words word bit (word * 64 + bit) (omega arith) refl ∙ is.1,
      λ k low high. elim (cases_lt k (word * 64 + end)) [
        | inr after ↦ none k after high
        | inl here ↦ bit_in_word words word (k - word * 64) k (omega arith) (omega arith) ∙ is.2 (k - word * 64) (omega arith) (omega arith)
      ],
    )

-- a flat row has its first place at the first bit
pub from_first : (words : List ℕ) (k : ℕ) → bit_of words (0 + k) ≡ bit_of words k
from_first words k = ap (bit_of words) (omega arith)

-- what a search of the words finds
pub next_set : (words : List ℕ) (places from to : ℕ) (found : Option ℕ) → to ≤ places → IsNextMarked words from to found → IsNextSet (marks_of words 0 places) from to found
next_set words places from to None inside none = λ k low high. no_mark words 0 places k (omega arith) (from_first words k ∙ none k low high)
next_set words places from to (Some at) inside is =
    let high = is.1 in
    (is.0, is.1, set_mark words 0 places at (omega arith) (from_first words at ∙ is.2), λ k low below. no_mark words 0 places k (omega arith) (from_first words k ∙ is.3 k low below))

pub last_set : (words : List ℕ) (places from to : ℕ) (found : Option ℕ) → to ≤ places → IsLastMarked words from to found → IsLastSet (marks_of words 0 places) from to found
last_set words places from to None inside none = λ k low high. no_mark words 0 places k (omega arith) (from_first words k ∙ none k low high)
last_set words places from to (Some at) inside is =
    let high = is.1 in
    (is.0, is.1, set_mark words 0 places at (omega arith) (from_first words at ∙ is.2), λ k above below. no_mark words 0 places k (omega arith) (from_first words k ∙ is.3 k above below))
