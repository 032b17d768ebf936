-- Windows of 32 bits of the addresses of a block, and which ranges of numbers have one in common.
use Rattle.std.specs.Prelude.{ℕ, ◌+◌, ◌-◌, ◌*◌, ◌/◌, ◌%◌, ◌^◌, Bool, ◌&&◌, nat_le, List, slice_index}
use Rattle.rule_model.specs.AddressBlock.{AddressBlock}
use Rattle.block_windows.specs.declared.Span.{Span}

-- Of a window of 32 bits of an address, with so many bits before it: the bits themselves, and how many of them a block
-- of a length leaves open.
abbrev pub window_of : ℕ → ℕ → ℕ
window_of before addr = addr / 2 ^ (96 - before) % 2 ^ 32

abbrev pub open_bits : ℕ → ℕ → ℕ
open_bits before len = 32 - (len - before)

-- the least and the greatest of what the block's addresses have in a window
abbrev pub first_of : ℕ → AddressBlock → ℕ
first_of before block = window_of before block.addr / 2 ^ open_bits before block.len * 2 ^ open_bits before block.len

abbrev pub last_of : ℕ → AddressBlock → ℕ
last_of before block = window_of before block.addr + (2 ^ open_bits before block.len - 1)

-- both
abbrev pub span_of : ℕ → AddressBlock → Span
span_of before block = record { first = first_of before block; last = last_of before block }

-- the range at one place of two columns has a number in common with a span
abbrev pub meets_at : List ℕ → List ℕ → Span → ℕ → Bool
meets_at firsts lasts span at = nat_le (slice_index firsts at) span.last && nat_le span.first (slice_index lasts at)
