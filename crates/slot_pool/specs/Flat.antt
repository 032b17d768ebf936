-- Words of bits in a flat row, and what a search of them finds.
use Rattle.std.specs.Prelude.{◌≡◌, ℕ, ◌<◌, ◌≤◌, List, Option, Some, None}
use Rattle.word_tree.specs.Tree.{bit_of}

-- what was found is the least place from one on and before another whose bit is 1
abbrev pub IsNextMarked : List ℕ → ℕ → ℕ → Option ℕ → Type 0
IsNextMarked words from to None = (k : ℕ) → from ≤ k → k < to → bit_of words k ≡ 0
IsNextMarked words from to (Some at) =
    (from ≤ at) × (at < to) × (bit_of words at ≡ 1) × ((k : ℕ) → from ≤ k → k < at → bit_of words k ≡ 0)

-- what was found is the greatest place from one on and before another whose bit is 1
abbrev pub IsLastMarked : List ℕ → ℕ → ℕ → Option ℕ → Type 0
IsLastMarked words from to None = (k : ℕ) → from ≤ k → k < to → bit_of words k ≡ 0
IsLastMarked words from to (Some at) =
    (from ≤ at) × (at < to) × (bit_of words at ≡ 1) × ((k : ℕ) → at < k → k < to → bit_of words k ≡ 0)
