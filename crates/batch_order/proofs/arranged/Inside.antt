-- The moves of a placement stay within the arrangement.
use Rattle.std.proofs.Common.{ℕ, List, [], ◌∷◌, length, map}
use Rattle.std.specs.List.{AllByRecursion}
use Rattle.slot_order.specs.Order.{Ordered}
use Rattle.slot_moves.proofs.Whole.{IsWhole}
use Rattle.slot_order.proofs.Inside.{AllInside}
use Rattle.slot_moves.proofs.InsideMoves.{whole_inside}
use Rattle.slot_pool.specs.Arrangement.{Slots}
use Rattle.placement.specs.Live.{LivePieces, is_above, rank_in}
use Rattle.placement.specs.declared.Move.{Move}
use Rattle.placement.specs.declared.Move.TheVariants.{Put, Erase}
use Rattle.placement.specs.Placement.{Aiming, IsPlacement}
use Rattle.placement.specs.Insertion.{IsLive, IsOther}
use Rattle.placement.specs.Ready.{IsReady}
use Rattle.placement.proofs.Chain.{write_of, Reads}
use Rattle.placement.proofs.Planned.{plan}
use Rattle.placement.proofs.Planner.{Related, ranked_reads}
use Rattle.placement.proofs.Orders.{ranked}
use Rattle.placement.proofs.Readied.{ready_ordered}
use Rattle.move_planner.specs.Noted.{IsInside}

from_writes : (size : ℕ) (moves : List Move) → AllInside size (map write_of moves) → AllByRecursion (IsInside size) moves
from_writes size [] inside = tt
from_writes size (Put at id ∷ moves) inside = (inside.0, from_writes size moves inside.1)
from_writes size (Erase at ∷ moves) inside = (inside.0, from_writes size moves inside.1)

pub moves_inside : (index : LivePieces) {priority : ℕ → ℕ} {aiming : Aiming} (id : ℕ) (slots : Slots) (moves : List Move) → IsReady index id slots → IsPlacement (is_above index.live) priority aiming id slots moves
    → AllByRecursion (IsInside (length slots)) moves
moves_inside index id slots moves ready placement =
    let reads : Reads (Related (is_above index.live)) (rank_in index.live) (IsLive index.live) (is_above index.live) =
    ranked_reads (is_above index.live) (rank_in index.live) (IsLive index.live) (ranked index ready.apart) in
    let ordered : Ordered (Related (is_above index.live)) (rank_in index.live) (IsOther index.live id) slots = ready_ordered index id slots ready in
    let whole : IsWhole (Related (is_above index.live)) (rank_in index.live) (IsOther index.live id) (IsLive index.live) slots id (map write_of moves) =
    plan (Related (is_above index.live)) (rank_in index.live) (IsOther index.live id) (IsLive index.live) (is_above index.live) id slots moves reads (λ a p. p.0) ready.live ordered placement in
    from_writes (length slots) moves (whole_inside (Related (is_above index.live)) (rank_in index.live) (IsOther index.live id) (IsLive index.live) slots id (map write_of moves) whole)
