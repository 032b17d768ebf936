-- The chains of an arrangement that is ready, in slot_order's words, and that they can move.
use Rattle.std.proofs.Common.{◌≡◌, ℕ, Some, List, ◌∷◌, sym, subst}
use Rattle.slot_order.specs.Order.{slot}
use Rattle.slot_moves.specs.Moves.{Downwards, Upwards}
use Rattle.slot_pool.specs.Arrangement.{Slots, next_free_above, last_free_below}
use Rattle.slot_pool.proofs.Scan.{next_free_is, last_free_is}
use Rattle.placement.specs.Live.{LivePieces, is_above, rank_in}
use Rattle.placement.specs.Placement.{first_lower, last_upper, IsDownChain as PlansDown, IsUpChain as PlansUp}
use Rattle.placement.specs.Insertion.{IsOther}
use Rattle.move_planner.specs.declared.chains.Chain.{Chain}
use Rattle.placement.specs.Ready.{CanShift, IsReady}
use Rattle.move_planner.specs.Steps.{IsDown as FoundDown, IsUp as FoundUp}
use Rattle.placement.proofs.Chain.{Reads, lower_is, upper_is, down_is, up_is, IsDown, IsUp, LowerAt, UpperAt}
use Rattle.placement.proofs.Planner.{Related, ranked_reads}
use Rattle.placement.proofs.Orders.{ranked}
use Rattle.placement.proofs.Readied.{ready_ordered, can_shift}

-- whatever stands is known
abbrev pub Any : ℕ → Type 0
Any id = Unit {0}

-- the test of live ids, in slot_order's words
pub live_reads : (index : LivePieces) (id : ℕ) (slots : Slots) → IsReady index id slots → Reads (Related (is_above index.live)) (rank_in index.live) Any (is_above index.live)
live_reads index id slots ready = ranked_reads (is_above index.live) (rank_in index.live) Any (ranked index ready.apart)

-- the chain from the lower id, and its moves
pub chain_down : (index : LivePieces) (id : ℕ) (slots : Slots) (lower free : ℕ) (rest : List ℕ) → IsReady index id slots → (held : ℕ) → slot slots lower ≡ Some held
    → PlansDown (is_above index.live) slots free (lower ∷ rest) → IsDown (Related (is_above index.live)) (rank_in index.live) slots free lower rest
chain_down index id slots lower free rest ready held here c =
    down_is (Related (is_above index.live)) (rank_in index.live) (IsOther index.live id) Any (is_above index.live) slots free lower held rest
    (live_reads index id slots ready) (λ a p. tt) (ready_ordered index id slots ready) here c

pub chain_up : (index : LivePieces) (id : ℕ) (slots : Slots) (upper free : ℕ) (rest : List ℕ) → IsReady index id slots → (held : ℕ) → slot slots upper ≡ Some held
    → PlansUp (is_above index.live) slots free (upper ∷ rest) → IsUp (Related (is_above index.live)) (rank_in index.live) slots free upper rest
chain_up index id slots upper free rest ready held here c =
    up_is (Related (is_above index.live)) (rank_in index.live) (IsOther index.live id) Any (is_above index.live) slots free upper held rest
    (live_reads index id slots ready) (λ a p. tt) (ready_ordered index id slots ready) here c

pub low_at : (index : LivePieces) (id : ℕ) (slots : Slots) (lower : ℕ) → IsReady index id slots → first_lower (is_above index.live) slots id ≡ Some lower
    → LowerAt (Related (is_above index.live)) (rank_in index.live) slots id lower
low_at index id slots lower ready is =
    lower_is (Related (is_above index.live)) (rank_in index.live) Any (is_above index.live) slots id lower (live_reads index id slots ready) (λ at other s. tt) tt is

pub high_at : (index : LivePieces) (id : ℕ) (slots : Slots) (upper : ℕ) → IsReady index id slots → last_upper (is_above index.live) slots id ≡ Some upper
    → UpperAt (Related (is_above index.live)) (rank_in index.live) slots id upper
high_at index id slots upper ready is =
    upper_is (Related (is_above index.live)) (rank_in index.live) Any (is_above index.live) slots id upper (live_reads index id slots ready) (λ at other s. tt) tt is

-- a chain that was found moves to its free slot
pub down_shifts : (index : LivePieces) (id : ℕ) (slots : Slots) (lower past held : ℕ) (chain : Chain) → IsReady index id slots → slot slots lower ≡ Some held
    → FoundDown (is_above index.live) slots lower (next_free_above slots past) chain → CanShift slots chain.free chain.members.items
down_shifts index id slots lower past held chain ready here d =
    let c = chain_down index id slots lower chain.free d.rest ready held here d.follows in
    let f = (next_free_is slots past chain.free d.to).1 in
    subst (CanShift slots chain.free) (sym d.members) (can_shift Downwards (Related (is_above index.live)) (rank_in index.live) slots chain.free lower d.rest c.chain f.inside f.free)

pub up_shifts : (index : LivePieces) (id : ℕ) (slots : Slots) (upper past held : ℕ) (chain : Chain) → IsReady index id slots → slot slots upper ≡ Some held
    → FoundUp (is_above index.live) slots upper (last_free_below slots past) chain → CanShift slots chain.free chain.members.items
up_shifts index id slots upper past held chain ready here d =
    let c = chain_up index id slots upper chain.free d.rest ready held here d.follows in
    let f = (last_free_is slots past chain.free d.to).1 in
    subst (CanShift slots chain.free) (sym d.members) (can_shift Upwards (Related (is_above index.live)) (rank_in index.live) slots chain.free upper d.rest c.chain f.inside f.free)
