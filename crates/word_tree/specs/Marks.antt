-- Sets of numbers as rows of marks, and the words of a tree that hold them.
use Rattle.std.specs.Prelude.{◌≡◌, ℕ, ◌+◌, ◌==◌, ◌<◌, ◌≤◌, ◌⊎◌, nat_lt, if◌then◌else◌, Bool, true, false, List, Option, Some, None, map, slice_index_or}
use Rattle.std.specs.List.{range_with_len}
use Rattle.std.specs.Int.{abs_diff}
use Rattle.word_tree.specs.Tree.{bit_of}

-- the marks that the bits from a place on tell
abbrev pub marks_of : List ℕ → ℕ → ℕ → List Bool
marks_of words base places = map (λ k. bit_of words (base + k) == 1) (range_with_len 0 places)

-- what was found is the least marked place from one on and before another
abbrev pub IsNextSet : List Bool → ℕ → ℕ → Option ℕ → Type 0
IsNextSet marks from to None = (k : ℕ) → from ≤ k → k < to → slice_index_or marks k false ≡ false
IsNextSet marks from to (Some at) =
    (from ≤ at) × (at < to) × (slice_index_or marks at false ≡ true) × ((k : ℕ) → from ≤ k → k < at → slice_index_or marks k false ≡ false)

-- what was found is the greatest marked place from one on and before another
abbrev pub IsLastSet : List Bool → ℕ → ℕ → Option ℕ → Type 0
IsLastSet marks from to None = (k : ℕ) → from ≤ k → k < to → slice_index_or marks k false ≡ false
IsLastSet marks from to (Some at) =
    (from ≤ at) × (at < to) × (slice_index_or marks at false ≡ true) × ((k : ℕ) → at < k → k < to → slice_index_or marks k false ≡ false)

-- of two places the first is no farther, and the lower one of two at one distance
abbrev pub IsNoFarther : ℕ → ℕ → ℕ → Type 0
IsNoFarther mid a b = (abs_diff a mid < abs_diff b mid) ⊎ ((abs_diff a mid ≡ abs_diff b mid) × (a ≤ b))

-- what was found is the marked place from one on and before another that is nearest to a third
abbrev pub IsNearestSet : List Bool → ℕ → ℕ → ℕ → Option ℕ → Type 0
IsNearestSet marks from to mid None = (k : ℕ) → from ≤ k → k < to → slice_index_or marks k false ≡ false
IsNearestSet marks from to mid (Some at) =
    (from ≤ at) × (at < to) × (slice_index_or marks at false ≡ true) × ((k : ℕ) → from ≤ k → k < to → slice_index_or marks k false ≡ true → IsNoFarther mid at k)

-- of a place below the middle and one that isn't the nearer one, the lower of two
abbrev pub nearer_of : ℕ → Option ℕ → Option ℕ → Option ℕ
nearer_of mid None above = above
nearer_of mid (Some low) None = Some low
nearer_of mid (Some low) (Some high) = if nat_lt (abs_diff high mid) (abs_diff low mid) then Some high else Some low

-- a place, if there is one, lies below another one
abbrev pub IsBelow : ℕ → Option ℕ → Type 0
IsBelow mid None = Unit
IsBelow mid (Some at) = at < mid

-- a place, if there is one, doesn't lie below another one
abbrev pub IsFrom : ℕ → Option ℕ → Type 0
IsFrom mid None = Unit
IsFrom mid (Some at) = mid ≤ at
