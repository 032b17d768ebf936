-- Steps of a search, up and down a tree of words.
use Rattle.std.proofs.Common.{◌≡◌, ℕ, zero, suc, ◌+◌, ◌-◌, ◌*◌, ◌/◌, ◌%◌, ◌<◌, ◌≤◌, List, Some, None, arith, inl, inr, refl, sym, ◌∙◌, subst}
use Rattle.std.specs.Prelude.{slice_index_or}
use Rattle.std.specs.Int.{bit_at}
use Rattle.std.proofs.lemmas.Bool.{cases_eq, cases_lt}
use Rattle.word_tree.specs.Tree.{bit_of, ancestor, IsInLevel, IsLowest, IsHighest}
use Rattle.word_tree.proofs.Bits.{bit_in_word}
use Rattle.word_tree.proofs.Levels.{in_root, below_root, in_level, small_bit}

-- no bit of a word from one on is 1
pub none_in_word : (words : List ℕ) (word from x : ℕ) → IsLowest (slice_index_or words word 0) from None → x / 64 ≡ word → from ≤ x % 64 → bit_of words x ≡ 0
none_in_word words word from x none here low = bit_in_word words word (x % 64) x (omega arith) (omega arith) ∙ none (x % 64) low (omega arith)

pub none_under : (words : List ℕ) (word to x : ℕ) → IsHighest (slice_index_or words word 0) to None → x / 64 ≡ word → x % 64 < to → bit_of words x ≡ 0
none_under words word to x none here high = bit_in_word words word (x % 64) x (omega arith) (omega arith) ∙ none (x % 64) high

-- of two bits of a level the one in a later word lies under a later bit
pub up_later : (level at x : ℕ) → IsInLevel level at → IsInLevel level x → at / 64 < x / 64 → at / 64 - 1 < x / 64 - 1
up_later zero at x a b far = absurd (let s = in_root x b in omega arith)
up_later (suc level) at x a b far = let s = below_root level at a in omega arith

-- up: what comes behind a bit, and isn't in its word, lies behind the bit above it
pub behind : (words : List ℕ) (level at x : ℕ) → IsInLevel level at → IsInLevel level x → at < x → bit_of words x ≡ 1 → IsLowest (slice_index_or words (at / 64) 0) (at % 64 + 1) None
    → at / 64 - 1 < x / 64 - 1
behind words level at x a b after one none = elim (cases_eq (x / 64) (at / 64)) [
  | inl same ↦ absurd (let z : bit_of words x ≡ 0 = none_in_word words (at / 64) (at % 64 + 1) x none same (omega arith) in omega arith)
  | inr other ↦ up_later level at x a b (omega arith)
]

pub before : (words : List ℕ) (level at x : ℕ) → IsInLevel level at → IsInLevel level x → x < at → bit_of words x ≡ 1 → IsHighest (slice_index_or words (at / 64) 0) (at % 64) None
    → x / 64 - 1 < at / 64 - 1
before words level at x a b after one none = elim (cases_eq (x / 64) (at / 64)) [
  | inl same ↦ absurd (let z : bit_of words x ≡ 0 = none_under words (at / 64) (at % 64) x none same (omega arith) in omega arith)
  | inr other ↦ up_later level x at b a (omega arith)
]

-- the bit that a search has come to lies in its level
pub placed : (depth level at from : ℕ) → 0 < level → level ≤ depth → IsInLevel depth from → ((h : ℕ) → level + h ≡ suc depth → at ≡ ancestor h from) → IsInLevel (level - 1) at
placed depth level at from some few leaf is =
    let h = suc depth - level in
    let e : level + h ≡ suc depth = omega arith in
    subst (IsInLevel (level - 1)) (sym (is h e)) (in_level depth h (level - 1) from (omega arith) leaf)

pub zero_bit : (words : List ℕ) (p : ℕ) → (bit_of words p ≡ 1 → ⊥) → bit_of words p ≡ 0
zero_bit words p unset = let small = small_bit words p in omega arith

-- the first bit found in a word, and any that is 1 behind
pub found_first : (words : List ℕ) (word from bit x : ℕ) → bit < 64 → ((i : ℕ) → from ≤ i → i < bit → bit_at (slice_index_or words word 0) i ≡ 0) → word * 64 + from ≤ x → bit_of words x ≡ 1 → word * 64 + bit ≤ x
found_first words word from bit x small none low one = elim (cases_lt x (word * 64 + bit)) [
  | inr far ↦ far
  | inl near ↦ absurd (let z : bit_of words x ≡ 0 = bit_in_word words word (x - word * 64) x (omega arith) (omega arith) ∙ none (x - word * 64) (omega arith) (omega arith) in omega arith)
]

pub found_last : (words : List ℕ) (word to bit x : ℕ) → to ≤ 64 → ((i : ℕ) → bit < i → i < to → bit_at (slice_index_or words word 0) i ≡ 0) → x < word * 64 + to → bit_of words x ≡ 1 → x ≤ word * 64 + bit
found_last words word to bit x small none high one = elim (cases_lt (word * 64 + bit) x) [
  | inr far ↦ far
  | inl near ↦ absurd (let z : bit_of words x ≡ 0 = bit_in_word words word (x - word * 64) x (omega arith) (omega arith) ∙ none (x - word * 64) (omega arith) (omega arith) in omega arith)
]

pub found_one : (words : List ℕ) (word from bit : ℕ) → IsLowest (slice_index_or words word 0) from (Some bit) → bit_of words (word * 64 + bit) ≡ 1
found_one words word from bit is = bit_in_word words word bit (word * 64 + bit) is.1 refl ∙ is.2

pub found_one_under : (words : List ℕ) (word to bit : ℕ) → to ≤ 64 → IsHighest (slice_index_or words word 0) to (Some bit) → bit_of words (word * 64 + bit) ≡ 1
found_one_under words word to bit small is = let b = is.0 in bit_in_word words word bit (word * 64 + bit) (omega arith) refl ∙ is.1

-- down: the first bit of the word below, and what lies behind
pub down_low : (at bit x : ℕ) → x / 64 - 1 < at → x < (at + 1) * 64 + bit
down_low at bit x low = omega arith

pub down_least : (words : List ℕ) (level at bit x : ℕ) → IsInLevel (suc level) x → bit_of words x ≡ 1 → at ≤ x / 64 - 1 → bit < 64
    → ((i : ℕ) → i < bit → bit_at (slice_index_or words (at + 1) 0) i ≡ 0) → (at + 1) * 64 + bit ≤ x
down_least words level at bit x is one low small none =
    let far = below_root level x is in
    found_first words (at + 1) 0 bit x small (λ i _ below. none i below) (omega arith) one

pub down_high : (at bit x : ℕ) → bit < 64 → at < x / 64 - 1 → (at + 1) * 64 + bit < x
down_high at bit x small high = omega arith

pub down_greatest : (words : List ℕ) (level at bit x : ℕ) → bit_of words x ≡ 1 → x / 64 - 1 ≤ at
    → ((i : ℕ) → bit < i → i < 64 → bit_at (slice_index_or words (at + 1) 0) i ≡ 0) → x ≤ (at + 1) * 64 + bit
down_greatest words level at bit x one high none = found_last words (at + 1) 64 bit x (omega arith) none (omega arith) one
