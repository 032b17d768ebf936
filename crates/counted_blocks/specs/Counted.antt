-- A list of items in blocks, and what is counted beside them.
use Rattle.std.specs.Prelude.{All, ℕ, ◌≡◌, ◌+◌, ◌-◌, ◌*◌, ◌<◌, ◌≤◌, ◌^◌, List, [], length, map, take, sum_by, slice_index_or}
use Rattle.std.specs.List.{flat_map}
use Rattle.counted_blocks.specs.declared.Item.{Item}
use Rattle.counted_blocks.specs.declared.weights.Weight.{Weight}

-- the blocks, and how many items more have their memory
pub record Counted : Type 0 where
  pub blocks : List (List Item)
  pub room : ℕ

-- the items of all blocks, in their order
abbrev pub items_of : List (List Item) → List Item
items_of blocks = flat_map (λ block. block) blocks

-- what items come to in size
abbrev pub size_of : List Item → ℕ
size_of items = sum_by (λ item. item.size) items

-- how many items stand before a block
abbrev pub start_of : List (List Item) → ℕ → ℕ
start_of blocks block = length (items_of (take block blocks))

-- the block at a place of the list of blocks
abbrev pub block_at : List (List Item) → ℕ → List Item
block_at blocks block = slice_index_or blocks block []

-- the most that fit where each block has 64 items
abbrev pub room_of : List (List Item) → List (List Item) → ℕ
room_of blocks stock = 64 * (length blocks + length stock) - length (items_of blocks)

-- the place is in the block or at its end, and so many items stand before the block
pub record IsSpot (blocks : List (List Item)) (place block start : ℕ) : Type 0 where
  pub within : block < length blocks
  pub start_is : start ≡ start_of blocks block
  pub from : start ≤ place
  pub to : place ≤ start + length (block_at blocks block)

-- the block has the item at the place, if there is one
abbrev pub HasPlace : List (List Item) → ℕ → ℕ → ℕ → Type 0
HasPlace blocks place block start = place < length (items_of blocks) → place < start + length (block_at blocks block)

-- how many items a block has, and what they come to
abbrev pub weight_of : List Item → Weight
weight_of block = record { count = length block; size = size_of block }

-- what weights come to, in items and in size
abbrev pub count_sum : List Weight → ℕ
count_sum weights = sum_by (λ weight. weight.count) weights

abbrev pub size_sum : List Weight → ℕ
size_sum weights = sum_by (λ weight. weight.size) weights

-- the weights of the blocks in their order, and how many have their memory
pub record Weighed : Type 0 where
  pub weights : List Weight
  pub capacity : ℕ

-- Blocks have up to 128 items, and 64 at least where there is more than one.
pub record AreFilled (blocks : List (List Item)) : Type 0 where
  pub most : All (λ block. length block ≤ 128) blocks
  pub least : 1 < length blocks → All (λ block. 64 ≤ length block) blocks

-- What a list in blocks keeps: the blocks of the stock are empty, and each block has its memory in both lists and its weight.
pub record IsCounted (blocks : List (List Item)) (capacity : ℕ) (weighed : Weighed) (stock : List (List Item)) (stock_capacity len size : ℕ) : Type 0 where
  pub filled : AreFilled blocks
  pub empty : All (λ block. block ≡ []) stock
  pub block_room : length blocks + length stock ≤ capacity
  pub stock_room : length blocks + length stock ≤ stock_capacity
  pub weight_room : length blocks + length stock ≤ weighed.capacity
  pub weights_are : weighed.weights ≡ map weight_of blocks
  pub len_is : len ≡ length (items_of blocks)
  pub size_is : size ≡ size_of (items_of blocks)
  pub few : length (items_of blocks) < 2 ^ 32
  pub enough : length (items_of blocks) ≤ 64 * (length blocks + length stock)
  pub small : All (λ item. item.size ≤ 65535) (items_of blocks)
