-- Where a place is, told by the blocks' counts; and groups of 32 blocks.
use Rattle.std.specs.Prelude.{All, ℕ, ◌≡◌, ◌+◌, ◌*◌, ◌^◌, ◌<◌, ◌≤◌, List, length, take, drop, slice_index_or}
use Rattle.counted_blocks.specs.declared.weights.Weight.{Weight}
use Rattle.counted_blocks.specs.Counted.{count_sum, size_sum}

-- no weight
abbrev pub no_weight : Weight
no_weight = record { count = 0; size = 0 }

-- how many items a block has
abbrev pub count_at : List Weight → ℕ → ℕ
count_at weights block = (slice_index_or weights block no_weight).count

-- The place is among the items of the block, or behind all in the last one.
pub record IsFound (weights : List Weight) (place block start : ℕ) : Type 0 where
  pub within : block < length weights
  pub start_is : start ≡ count_sum (take block weights)
  pub from : start ≤ place
  pub to : place ≤ start + count_at weights block
  pub inside : place < count_sum weights → place < start + count_at weights block

-- the sums fit their types
pub record Fits (weights : List Weight) : Type 0 where
  pub count : count_sum weights < 2 ^ 64
  pub size : size_sum weights < 2 ^ 64

-- what weights come to
abbrev pub weight_sum : List Weight → Weight
weight_sum weights = record { count = count_sum weights; size = size_sum weights }

-- the weights of a group of blocks
abbrev pub group_at : List Weight → ℕ → List Weight
group_at weights group = take 32 (drop (32 * group) weights)

-- so many groups have what their blocks come to
abbrev pub AreSums : List Weight → List Weight → ℕ → Type 0
AreSums weights groups known = (g : ℕ) → g < known → slice_index_or groups g no_weight ≡ weight_sum (group_at weights g)

-- a block has at most 128 items, each of a size that fits 16 bits
pub record IsLight (weight : Weight) : Type 0 where
  pub count : weight.count ≤ 128
  pub size : weight.size ≤ 8388480

-- There are as many groups as the blocks need, and each has what its blocks come to.
pub record AreGrouped (weights groups : List Weight) : Type 0 where
  pub least : length weights ≤ 32 * length groups
  pub most : 32 * length groups < length weights + 32
  pub sums : AreSums weights groups (length groups)

-- And the weights are light, and few.
pub record IsWeighed (weights groups : List Weight) : Type 0 where
  pub few : length weights ≤ 2 ^ 31
  pub light : All IsLight weights
  pub grouped : AreGrouped weights groups
