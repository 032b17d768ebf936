-- What a block keeps.
use Rattle.std.specs.Prelude.{ℕ, ◌≤◌, List, length}
use Rattle.counted_blocks.specs.declared.Item.{Item}

-- 128 items at most, and memory for as many
pub record IsBlock (items : List Item) (capacity : ℕ) : Type 0 where
  pub most : length items ≤ 128
  pub room : 128 ≤ capacity
