-- Columns beside the pieces of slots, by which walks pass most of them over.
use Rattle.std.specs.Prelude.{◌≡◌, ℕ, ◌+◌, ◌-◌, ◌*◌, ◌/◌, ◌^◌, ◌<◌, ◌≤◌, Bool, ◌&&◌, nat_lt, if◌then◌else◌, Option, Some, List, length, slice_index}
use Rattle.slot_order.specs.Order.{slot}
use Rattle.rule_model.specs.Rank.{high_of, low_of}
use Rattle.rule_model.specs.Entry.{RankedPiece}
use Rattle.block_windows.specs.declared.Span.{Span}
use Rattle.block_windows.specs.Windows.{first_of, last_of, meets_at}
use Rattle.trace_check.specs.declared.placed.Cells.{Cells}

-- A rank in 32 bits, in the order of ranks. Of its low part, or of the greatest number of 32 bits where that is less, it has
-- all bits but the lowest, as access lists have ranks, and where there is a high part, as of routes, all but the lowest nine.
abbrev pub low_part : ℕ → ℕ
low_part rank = if nat_lt (low_of rank) (2 ^ 32) then low_of rank else 2 ^ 32 - 1

abbrev pub coarse_rank : ℕ → ℕ
coarse_rank rank =
    if nat_lt 0 (high_of rank) then 2 ^ 31 + (high_of rank - 1) * 2 ^ 23 + low_part rank / 2 ^ 9 else low_part rank / 2

-- what the columns have of a piece
pub record AreCellsOf (cells : Cells) (ranked : RankedPiece) : Type 0 where
  pub rank : cells.rank ≡ coarse_rank ranked.rank
  pub first : cells.first ≡ first_of 0 ranked.piece.dst
  pub last : cells.last ≡ last_of 0 ranked.piece.dst
  pub fits : cells.rank < 2 ^ 32 - 1

-- they have it of each slot that has a piece
pub record AreColumnsOf (pieces : List (Option RankedPiece)) (ranks firsts lasts : List ℕ) : Type 0 where
  pub ranks_size : length ranks ≡ length pieces
  pub firsts_size : length firsts ≡ length pieces
  pub lasts_size : length lasts ≡ length pieces
  pub cells : (at : ℕ) (ranked : RankedPiece) → slot pieces at ≡ Some ranked
      → AreCellsOf (record { rank = slice_index ranks at; first = slice_index firsts at; last = slice_index lasts at }) ranked

-- the rank at a place is in one span, and the window there has a number of another
abbrev pub may_meet : List ℕ → List ℕ → List ℕ → Span → Span → ℕ → Bool
may_meet ranks firsts lasts of_ranks of_windows at = meets_at ranks ranks of_ranks at && meets_at firsts lasts of_windows at

-- so a piece is near two spans
pub record IsNear (of_ranks of_windows : Span) (ranked : RankedPiece) : Type 0 where
  pub least : of_ranks.first ≤ coarse_rank ranked.rank
  pub most : coarse_rank ranked.rank ≤ of_ranks.last
  pub starts : first_of 0 ranked.piece.dst ≤ of_windows.last
  pub ends : of_windows.first ≤ last_of 0 ranked.piece.dst

-- a rank and all below it, and that rank and all above it
abbrev pub ranks_below : ℕ → Span
ranks_below rank = record { first = 0; last = coarse_rank rank }

abbrev pub ranks_above : ℕ → Span
ranks_above rank = record { first = coarse_rank rank; last = 2 ^ 32 - 2 }
