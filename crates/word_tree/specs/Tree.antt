-- Words of 64 bits as a tree: bit q of all words tells whether word q + 1 isn't 0.
use Rattle.std.specs.Prelude.{◌≡◌, ◌≢◌, ℕ, suc, zero, ◌+◌, ◌-◌, ◌*◌, ◌/◌, ◌%◌, ◌<◌, ◌≤◌, List, Option, Some, None, length, slice_index_or}
use Rattle.std.specs.Int.{bit_at}

-- the bit of a place, 64 places a word; 0 past the words
unfoldable pub bit_of : List ℕ → ℕ → ℕ
bit_of words place = bit_at (slice_index_or words (place / 64) 0) (place % 64)

-- what was found is the lowest bit of a word from one on that is 1
abbrev pub IsLowest : ℕ → ℕ → Option ℕ → Type 0
IsLowest word from None = (i : ℕ) → from ≤ i → i < 64 → bit_at word i ≡ 0
IsLowest word from (Some bit) = (from ≤ bit) × (bit < 64) × (bit_at word bit ≡ 1) × ((i : ℕ) → from ≤ i → i < bit → bit_at word i ≡ 0)

-- what was found is the highest bit of a word below one that is 1
abbrev pub IsHighest : ℕ → ℕ → Option ℕ → Type 0
IsHighest word to None = (i : ℕ) → i < to → bit_at word i ≡ 0
IsHighest word to (Some bit) = (bit < to) × (bit_at word bit ≡ 1) × ((i : ℕ) → bit < i → i < to → bit_at word i ≡ 0)

-- one bit was made 0 or 1, in its word alone
pub record IsPut (words after : List ℕ) (at mark : ℕ) : Type 0 where
  pub bit : bit_of after at ≡ mark
  pub others : (k : ℕ) → k ≢ at → bit_of after k ≡ bit_of words k
  pub far : (w : ℕ) → w ≢ at / 64 → slice_index_or after w 0 ≡ slice_index_or words w 0

-- the first bit of a level, the root's being level 0
unfoldable pub start : ℕ → ℕ
start zero = 0
start (suc level) = 64 * suc (start level)

-- the bit lies in a level
pub record IsInLevel (level at : ℕ) : Type 0 where
  pub low : start level ≤ at
  pub high : at < start (suc level)

-- the bit that many levels above a bit
unfoldable pub ancestor : ℕ → ℕ → ℕ
ancestor zero at = at
ancestor (suc height) at = ancestor height at / 64 - 1

-- a bit tells whether the word below it isn't 0
pub record Tells (words : List ℕ) (at : ℕ) : Type 0 where
  pub one : bit_of words at ≡ 1 → slice_index_or words (suc at) 0 ≢ 0
  pub none : bit_of words at ≡ 0 → slice_index_or words (suc at) 0 ≡ 0

-- each bit above the lowest level tells whether the word below it isn't 0
abbrev pub IsTree : List ℕ → ℕ → Type 0
IsTree words depth = (at : ℕ) → at < start depth → Tells words at

-- the words have so many levels above the lowest, which begins with a bit and has room for so many places
pub record IsRow (words : List ℕ) (depth base places : ℕ) : Type 0 where
  pub few : places ≤ 16777216
  pub deep : depth ≤ 3
  pub low : base ≡ start depth
  pub high : base + places ≤ start (suc depth)
  pub room : base + places ≤ length words * 64
  pub tree : IsTree words depth

-- what was found is the first bit of the lowest level that is 1 and lies under one of a level
pub record IsFirstUnder (words : List ℕ) (depth level at found : ℕ) : Type 0 where
  pub leaf : IsInLevel depth found
  pub one : bit_of words found ≡ 1
  pub low : (g p : ℕ) → level + g ≡ depth → ancestor g p < at → p < found
  pub least : (g p : ℕ) → level + g ≡ depth → IsInLevel depth p → bit_of words p ≡ 1 → at ≤ ancestor g p → found ≤ p

-- what was found is the last bit of the lowest level that is 1 and lies under one of a level
pub record IsLastUnder (words : List ℕ) (depth level at found : ℕ) : Type 0 where
  pub leaf : IsInLevel depth found
  pub one : bit_of words found ≡ 1
  pub high : (g p : ℕ) → level + g ≡ depth → at < ancestor g p → found < p
  pub greatest : (g p : ℕ) → level + g ≡ depth → IsInLevel depth p → bit_of words p ≡ 1 → ancestor g p ≤ at → p ≤ found

-- what was found is the first bit of the lowest level that is 1 from one on
abbrev pub IsNextLeaf : List ℕ → ℕ → ℕ → Option ℕ → Type 0
IsNextLeaf words depth from None = (p : ℕ) → IsInLevel depth p → from ≤ p → bit_of words p ≡ 0
IsNextLeaf words depth from (Some found) =
    IsInLevel depth found × (from ≤ found) × (bit_of words found ≡ 1) × ((p : ℕ) → IsInLevel depth p → from ≤ p → p < found → bit_of words p ≡ 0)

-- what was found is the last bit of the lowest level that is 1 up to one
abbrev pub IsLastLeaf : List ℕ → ℕ → ℕ → Option ℕ → Type 0
IsLastLeaf words depth last None = (p : ℕ) → IsInLevel depth p → p ≤ last → bit_of words p ≡ 0
IsLastLeaf words depth last (Some found) =
    IsInLevel depth found × (found ≤ last) × (bit_of words found ≡ 1) × ((p : ℕ) → IsInLevel depth p → found < p → p ≤ last → bit_of words p ≡ 0)
