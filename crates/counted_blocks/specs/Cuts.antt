-- How blocks are cut and mended.
use Rattle.std.specs.Prelude.{All, min, ℕ, ◌≡◌, ◌+◌, ◌<◌, ◌≤◌, List, length, take, drop, slice_set}
use Rattle.std.specs.List.{insert}
use Rattle.counted_blocks.specs.declared.Item.{Item}
use Rattle.counted_blocks.specs.Counted.{AreFilled, block_at, items_of}

-- the blocks with one of them in two: its first 64 items and the others
abbrev pub split_at : List (List Item) → ℕ → List (List Item)
split_at blocks block =
    insert (slice_set blocks block (take 64 (block_at blocks block))) (block + 1) (drop 64 (block_at blocks block))

-- one block may have 63 items, or fewer where it is the only one, and each other one has 64 at least
pub record AreFilledBut (blocks : List (List Item)) (block : ℕ) : Type 0 where
  pub within : block < length blocks
  pub most : All (λ one. length one ≤ 128) blocks
  pub before : All (λ one. 64 ≤ length one) (take block blocks)
  pub behind : All (λ one. 64 ≤ length one) (drop (block + 1) blocks)
  pub least : 1 < length blocks → 63 ≤ length (block_at blocks block)

-- one of two blocks beside one another has 63 items, and each other one has 64 at least
pub record AreLoose (blocks : List (List Item)) (left : ℕ) : Type 0 where
  pub within : left + 1 < length blocks
  pub most : All (λ block. length block ≤ 128) blocks
  pub before : All (λ block. 64 ≤ length block) (take left blocks)
  pub behind : All (λ block. 64 ≤ length block) (drop (left + 2) blocks)
  pub left_least : 63 ≤ length (block_at blocks left)
  pub right_least : 63 ≤ length (block_at blocks (left + 1))
  pub one : min (length (block_at blocks left)) (length (block_at blocks (left + 1))) < 64

-- the same items in blocks of which each has 64 at least where there is more than one
pub record AreMended (old new : List (List Item)) : Type 0 where
  pub items : items_of new ≡ items_of old
  pub filled : AreFilled new
