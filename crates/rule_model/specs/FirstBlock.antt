-- The largest block that a range of ports begins with.
use Rattle.std.specs.Prelude.{ℕ, ◌%◌, ◌^◌, ◌<◌, ◌≤◌, ◌≡◌}
use Rattle.rule_model.specs.PortRange.{PortRange, range_size, block_at}

-- the range begins with a block of 2 ^ k ports, and with no larger one
pub record BeginsWith (range : PortRange) (k : ℕ) : Type 0 where
  pub most : k ≤ 16
  pub multiple : range.lo % 2 ^ k ≡ 0
  pub fits : 2 ^ k ≤ range_size range
  pub greatest : (level : ℕ) → k < level → level ≤ 16 → range.lo % 2 ^ level ≡ 0 → range_size range < 2 ^ level

-- that block
abbrev pub IsFirstBlock : PortRange → PortRange → Type 0
IsFirstBlock range block = (k : ℕ) × BeginsWith range k × (block ≡ block_at k range.lo)
