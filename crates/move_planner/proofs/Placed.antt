-- The last part of an insertion is a placement.
use Rattle.std.proofs.Common.{◌≡◌, ℕ, ◌+◌, ◌≤◌, Option, None, Some, List, [], ◌∷◌, ◌++◌, length, map, inl, inr, arith, refl, sym, ◌∙◌, subst, ap, append_assoc, length-append}
use Rattle.std.specs.Prelude.{slice_index_or}
use Rattle.std.specs.Option.{unwrap_or}
use Rattle.std.proofs.lemmas.List.{length-map}
use Rattle.slot_order.specs.Order.{most_slots}
use Rattle.slot_order.proofs.Writes.{slot_inside}
use Rattle.slot_moves.proofs.Count.{length-chain_moves}
use Rattle.slot_pool.specs.Arrangement.{Slots, HasTwin, nearest_free}
use Rattle.slot_pool.proofs.Scan.{IsFree, nearest_free_is}
use Rattle.placement.specs.Live.{LivePieces, is_above, rank_in}
use Rattle.placement.specs.declared.Aim.{Aim}
use Rattle.placement.specs.declared.Move.{Move}
use Rattle.placement.specs.declared.Move.TheVariants.{Put}
use Rattle.move_planner.specs.declared.chains.Chain.{Chain}
use Rattle.placement.specs.Placement.{Above, Aiming, last_of, landing_down, landing_up, after_move, after_moves, moves_along, first_lower, last_upper, next_slot, gap_start, gap_end, aimed_at, gap_slot, into_gap, push_down, push_up}
use Rattle.placement.specs.Insertion.{free_slots}
use Rattle.placement.specs.Ready.{IsReady}
use Rattle.move_planner.specs.Steps.{IsPlaced, IsWay, Landed}
use Rattle.placement.proofs.Chain.{write_of, IsDown, IsUp}
use Rattle.placement.proofs.Planner.{Related}
use Rattle.placement.proofs.Landing.{LandsDown, LandsUp}
use Rattle.placement.proofs.Readied.{down_size, up_size}
use Rattle.move_planner.proofs.Shifted.{free_put, free_over, after_more}
use Rattle.move_planner.proofs.Turned.{chain_down, chain_up, low_at, high_at}
use Rattle.move_planner.proofs.Landings.{down_free, up_free, down_lands, up_lands}

-- the slot that was chosen is the gap's
pub chosen : (above : Above) (aim : Aim) (slots : Slots) (id start end : ℕ) (found : Option ℕ) → start ≡ gap_start above slots id → end ≡ gap_end above slots id
    → found ≡ nearest_free slots start end (aimed_at aim start end) → gap_slot above aim slots id ≡ found
chosen above aim slots id start end found s e is =
    sym (is ∙ (ap (λ a. nearest_free slots a end (aimed_at aim a end)) s ∙ ap (λ b. nearest_free slots (gap_start above slots id) b (aimed_at aim (gap_start above slots id) b)) e))

pub gap_free : (above : Above) (aim : Aim) (slots : Slots) (id at : ℕ) → gap_slot above aim slots id ≡ Some at → IsFree slots at
gap_free above aim slots id at is = (nearest_free_is slots _ _ _ at is).free

-- into the gap
pub placed_in_gap : (index : LivePieces) (aiming : Aiming) (id : ℕ) (slots slots' : Slots) (plan plan' : List Move) (at : ℕ)
    → gap_start (is_above index.live) slots id ≤ gap_end (is_above index.live) slots id → gap_slot (is_above index.live) aiming.aim slots id ≡ Some at
    → plan' ≡ plan ++ Put at id ∷ [] → slots' ≡ after_move slots (Put at id) → IsPlaced index aiming id slots slots' plan plan'
placed_in_gap index aiming id slots slots' plan plan' at fits is gained after =
    let f = gap_free (is_above index.live) aiming.aim slots id at is in
    record {
      moves = Put at id ∷ [];
      gained = gained;
      after = after;
      placement = into_gap at fits is;
      few = omega arith;
      one_fewer = ap (λ d. free_slots d + 1) after ∙ free_put slots at id f.inside f.free;
    }

-- the moves of a chain and one more
few_moves : (slots : Slots) (moves : List Move) (writes : List (ℕ × Option ℕ)) (step : Move) (n : ℕ) → map write_of moves ≡ writes → length writes ≡ n + 1 → n + 2 ≤ (1 + most_slots) → length (moves ++ step ∷ []) ≤ (1 + most_slots)
few_moves slots moves writes step n same size few =
    let a = length-append moves (step ∷ []) in
    let b : length (map write_of moves) ≡ length moves = length-map moves write_of in
    let c = ap length same in
    omega arith

-- over the first slot of the way
pub placed_by_way : (index : LivePieces) (aiming : Aiming) (id : ℕ) (slots between slots' : Slots) (plan middle plan' : List Move) (chain landed : Chain) → IsReady index id slots
    → gap_start (is_above index.live) slots id ≤ gap_end (is_above index.live) slots id → gap_slot (is_above index.live) aiming.aim slots id ≡ None
    → IsWay (is_above index.live) slots id chain → Landed (is_above index.live) (rank_in index.live) aiming slots chain landed
    → middle ≡ plan ++ moves_along slots landed.free landed.members.items → between ≡ after_moves slots (moves_along slots landed.free landed.members.items)
    → HasTwin between (slice_index_or landed.members.items 0 landed.free) → free_slots between + 1 ≡ free_slots slots
    → plan' ≡ middle ++ Put (slice_index_or landed.members.items 0 landed.free) id ∷ [] → slots' ≡ after_move between (Put (slice_index_or landed.members.items 0 landed.free) id)
    → IsPlaced index aiming id slots slots' plan plan'
placed_by_way index aiming id slots between slots' plan middle plan' chain landed ready fits full way is gained after twin fewer more then = go way
  where
    first : ℕ
    first = slice_index_or landed.members.items 0 landed.free

    all : List Move
    all = moves_along slots landed.free landed.members.items ++ Put first id ∷ []

    gained' : plan' ≡ plan ++ all
    gained' = more ∙ (ap (λ p. p ++ Put first id ∷ []) gained ∙ append_assoc plan (moves_along slots landed.free landed.members.items) (Put first id ∷ []))

    after' : slots' ≡ after_moves slots all
    after' = then ∙ (ap (λ d. after_move d (Put first id)) after ∙ sym (after_more slots (moves_along slots landed.free landed.members.items) (Put first id)))

    one_fewer : free_slots slots' + 1 ≡ free_slots slots
    one_fewer = ap (λ d. free_slots d + 1) then ∙ (ap (λ n. n + 1) (free_over between first id twin.0 (slot_inside between first twin.0 twin.2) twin.2) ∙ fewer)

    go : IsWay (is_above index.live) slots id chain → IsPlaced index aiming id slots slots' plan plan'
    go (inl w) =
        let to = landing_down (is_above index.live) (rank_in index.live) aiming slots chain.free (last_of w.lower w.down.rest) in
        let listed : all ≡ moves_along slots to (w.lower ∷ w.down.rest) ++ Put w.lower id ∷ [] =
        ap (λ ms. moves_along slots landed.free ms ++ Put (slice_index_or ms 0 landed.free) id ∷ []) (ap (λ m. m.items) is.same ∙ w.down.members)
        ∙ ap (λ f. moves_along slots f (w.lower ∷ w.down.rest) ++ Put w.lower id ∷ []) (down_free index aiming id slots chain landed ready is w) in
        let h = low_at index id slots w.lower ready w.low in
        let l = subst (LandsDown (is_above index.live) slots w.lower w.down.rest) (down_free index aiming id slots chain landed ready is w) (down_lands index aiming id slots chain landed ready is w) in
        let c : IsDown (Related (is_above index.live)) (rank_in index.live) slots to w.lower w.down.rest = chain_down index id slots w.lower to w.down.rest ready h.lower h.stands l.chain in
        let s = down_size (Related (is_above index.live)) (rank_in index.live) slots to w.lower w.down.rest c.chain in
        let n = length-chain_moves slots to w.lower w.down.rest in
        let i = l.empty.inside in let t = ready.few in
        record {
          moves = moves_along slots to (w.lower ∷ w.down.rest) ++ Put w.lower id ∷ [];
          gained = gained' ∙ ap (λ ms. plan ++ ms) listed;
          after = after' ∙ ap (after_moves slots) listed;
          placement = push_down w.lower fits full w.low (record { free = chain.free; rest = w.down.rest; to = w.down.to; chain = w.down.follows }) w.shortest;
          few = few_moves slots (moves_along slots to (w.lower ∷ w.down.rest)) _ (Put w.lower id) (length w.down.rest) c.moves (omega arith) (omega arith);
          one_fewer = one_fewer;
        }
    go (inr w) =
        let to = landing_up (is_above index.live) (rank_in index.live) aiming slots chain.free (last_of w.upper w.up.rest) in
        let listed : all ≡ moves_along slots to (w.upper ∷ w.up.rest) ++ Put w.upper id ∷ [] =
        ap (λ ms. moves_along slots landed.free ms ++ Put (slice_index_or ms 0 landed.free) id ∷ []) (ap (λ m. m.items) is.same ∙ w.up.members)
        ∙ ap (λ f. moves_along slots f (w.upper ∷ w.up.rest) ++ Put w.upper id ∷ []) (up_free index aiming id slots chain landed ready is w) in
        let h = high_at index id slots w.upper ready w.high in
        let l = subst (LandsUp (is_above index.live) slots w.upper w.up.rest) (up_free index aiming id slots chain landed ready is w) (up_lands index aiming id slots chain landed ready is w) in
        let c : IsUp (Related (is_above index.live)) (rank_in index.live) slots to w.upper w.up.rest = chain_up index id slots w.upper to w.up.rest ready h.upper h.stands l.chain in
        let s = up_size (Related (is_above index.live)) (rank_in index.live) slots to w.upper w.up.rest c.chain in
        let n = length-chain_moves slots to w.upper w.up.rest in
        let i = slot_inside slots w.upper h.upper h.stands in let t = ready.few in
        record {
          moves = moves_along slots to (w.upper ∷ w.up.rest) ++ Put w.upper id ∷ [];
          gained = gained' ∙ ap (λ ms. plan ++ ms) listed;
          after = after' ∙ ap (after_moves slots) listed;
          placement = push_up w.upper fits full w.high (record { free = chain.free; rest = w.up.rest; to = w.up.to; chain = w.up.follows }) w.shortest;
          few = few_moves slots (moves_along slots to (w.upper ∷ w.up.rest)) _ (Put w.upper id) (length w.up.rest) c.moves (omega arith) (omega arith);
          one_fewer = one_fewer;
        }

-- the ends of the gap, as they were computed
pub end_is : (above : Above) (slots : Slots) (id size found : ℕ) (lower : Option ℕ) → lower ≡ first_lower above slots id → size ≡ length slots → found ≡ unwrap_or lower size
    → found ≡ gap_end above slots id
end_is above slots id size found lower low s is = is ∙ (ap (λ l. unwrap_or l size) low ∙ ap (unwrap_or (first_lower above slots id)) s)

pub start_is : (above : Above) (slots : Slots) (id found : ℕ) (upper : Option ℕ) → upper ≡ last_upper above slots id → found ≡ next_slot upper → found ≡ gap_start above slots id
start_is above slots id found upper high is = is ∙ ap next_slot high

pub no_slot : (found : Option ℕ) → ((at : ℕ) → found ≡ Some at → ⊥) → found ≡ None
no_slot None none = refl
no_slot (Some at) none = absurd (none at refl)
