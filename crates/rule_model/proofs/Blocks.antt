-- A block of ports by its size and its first port.
use Rattle.std.proofs.Common.{◌≡◌, ℕ, ◌%◌, ◌^◌, ◌≤◌, ◌↔◌, IsTrue}
use Rattle.rule_model.specs.PortRange.{PortRange, range_size, is_block}
use Rattle.rule_model.proofs.PortRanges.{is_block-parts, is_block-from}

-- a block has 2 ^ k ports, the first of which is a multiple of 2 ^ k
pub is_block-power : (range : PortRange) → IsTrue (is_block range) ↔ ((k : ℕ) × (k ≤ 16) × (range_size range ≡ 2 ^ k) × (range.lo % 2 ^ k ≡ 0))
is_block-power range = (is_block-parts range, λ (k, most, size, multiple). is_block-from range k most size multiple)
