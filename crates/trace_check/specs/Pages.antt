-- Bounds of the ranks of a page of slots, by which walks pass whole pages over.
use Rattle.std.specs.Prelude.{◌≡◌, ℕ, ◌*◌, ◌/◌, ◌≤◌, Option, Some, List, length, slice_index_or}
use Rattle.slot_order.specs.Order.{slot}
use Rattle.rule_model.specs.Entry.{RankedPiece}
use Rattle.block_windows.specs.declared.Span.{Span}
use Rattle.trace_check.specs.Columns.{coarse_rank}

-- how many slots a page has
abbrev pub page_slots : ℕ
page_slots = 64

-- a span has a number
abbrev pub IsWithin : Span → ℕ → Type 0
IsWithin span number = (span.first ≤ number) × (number ≤ span.last)

-- the bounds of the page of a slot
abbrev pub bounds_at : List Span → ℕ → Span
bounds_at bounds at = slice_index_or bounds (at / page_slots) (record { first = 0; last = 0 })

-- each page has bounds, and the rank of each slot's piece is within those of its page
pub record AreBoundsOf (pieces : List (Option RankedPiece)) (bounds : List Span) : Type 0 where
  pub size : length pieces ≤ length bounds * page_slots
  pub within : (at : ℕ) (ranked : RankedPiece) → slot pieces at ≡ Some ranked → IsWithin (bounds_at bounds at) (coarse_rank ranked.rank)
