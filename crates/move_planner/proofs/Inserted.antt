-- What the moves of a placement do: the order after each, who stands at the end, and how many there are.
use Rattle.std.proofs.Common.{◌≡◌, ℕ, ◌+◌, ◌-◌, ◌*◌, ◌<◌, ◌≤◌, Bool, true, IsTrue, Some, List, [], ◌∷◌, ◌++◌, length, map, take, drop, Contains, inl, inr, arith, refl, sym, ◌∙◌, subst, ap, length-append, append-nil, append_assoc}
use Rattle.std.proofs.lemmas.Bool.{cases_lt, cases_eq}
use Rattle.std.proofs.lemmas.List.{take-map, take-append-le, take_all, length-map}
use Rattle.slot_order.specs.Order.{slot, Ordered}
use Rattle.slot_order.specs.Chains.{applied, IsChain, BoundsMemberChains}
use Rattle.slot_moves.proofs.Turns.{Plus}
use Rattle.slot_order.proofs.Walks.{Along_prefix, applied_append}
use Rattle.slot_moves.proofs.Whole.{IsWhole, WholeKeeps, whole_keeps, whole_few, whole_once}
use Rattle.slot_moves.specs.Cuts.{wrong_side, HasRoomNear}
use Rattle.slot_order.proofs.Lists.{contains_head, contains_tail, in_map}
use Rattle.slot_pool.specs.Arrangement.{Slots}
use Rattle.rule_model.specs.Piece.{pieces_meet}
use Rattle.placement.specs.declared.LivePiece.{LivePiece}
use Rattle.placement.specs.Live.{LivePieces, is_above, rank_in}
use Rattle.placement.proofs.Above.{rank_is, piece_in, piece_is, live_is, above_is}
use Rattle.placement.specs.declared.Move.{Move}
use Rattle.placement.specs.Placement.{Aiming, after_moves, gap_start, gap_end, span_of, AreSides, IsCut, IsInOrder, IsPlacement, straight_in}
use Rattle.std.proofs.Math.Seq.{drop-append_seam}
use Rattle.placement.specs.Insertion.{IsLive, IsOther, StandOnce, BoundsLiveChains, AreMade, moves_since, free_slots}
use Rattle.placement.specs.Ready.{IsReady}
use Rattle.move_planner.specs.Steps.{UndoesCrossing, IsPlaced}
use Rattle.move_planner.proofs.Shifted.{after_append, made_by}
use Rattle.placement.proofs.Chain.{write_of, after_moves-applied, Reads, floor_is, ceiling_is}
use Rattle.placement.proofs.Planned.{IsPlanned, planned}
use Rattle.placement.proofs.Planner.{Related, ranked_reads}
use Rattle.placement.proofs.Orders.{ranked}
use Rattle.placement.proofs.Readied.{ready_ordered, order_from}

-- a chain of live ids is one of live pieces
live_chain : (index : LivePieces) (id : ℕ) (slots : Slots) (none : LivePiece) (chain : List ℕ) → IsReady index id slots → ((x : ℕ) → Contains chain x → IsLive index.live x)
    → IsChain (Related (is_above index.live)) (rank_in index.live) chain
    → IsChain (λ upper lower. IsTrue (pieces_meet upper.piece lower.piece)) (λ one. one.rank) (map (piece_in none index.live) chain)
live_chain index id slots none [] ready all c = tt
live_chain index id slots none (x ∷ []) ready all c = tt
live_chain index id slots none (x ∷ y ∷ rest) ready all c = (
  meet c.0,
  (let a = rank x (contains_head x (y ∷ rest)) in let b = rank y (contains_tail x y (y ∷ rest) (contains_head y rest)) in let l = c.1 in omega arith),
  live_chain index id slots none (y ∷ rest) ready (λ z k. all z (contains_tail x z (y ∷ rest) k)) c.2,
)
  where
    rank : (z : ℕ) → Contains (x ∷ y ∷ rest) z → (piece_in none index.live z).rank ≡ rank_in index.live z
    rank z k =
        let w = live_is index.live z (all z k) in
        let p : piece_in none index.live z ≡ w.0 = subst (λ i. piece_in none index.live i ≡ w.0) w.2 (piece_is none index.live w.0 ready.apart.once w.1) in
        let r : rank_in index.live z ≡ w.0.rank = subst (λ i. rank_in index.live i ≡ w.0.rank) w.2 (rank_is index.live w.0 ready.apart.once w.1) in
        ap (λ one. one.rank) p ∙ sym r

    meet : Related (is_above index.live) x y → pieces_meet (piece_in none index.live x).piece (piece_in none index.live y).piece ≡ true
    meet (inl e) =
        let w = above_is index.live x y e in
        let a : piece_in none index.live x ≡ w.upper = subst (λ i. piece_in none index.live i ≡ w.upper) w.upper_id (piece_is none index.live w.upper ready.apart.once w.has_upper) in
        let b : piece_in none index.live y ≡ w.lower = subst (λ i. piece_in none index.live i ≡ w.lower) w.lower_id (piece_is none index.live w.lower ready.apart.once w.has_lower) in
        ap (λ one. pieces_meet one.piece (piece_in none index.live y).piece) a ∙ (ap (λ one. pieces_meet w.upper.piece one.piece) b ∙ w.meet)
    meet (inr e) = absurd (let k = ranked index ready.apart y x e in let l = c.1 in omega arith)

-- so a bound on the chains of live pieces bounds those of live ids
ids_bound : (index : LivePieces) (id : ℕ) (slots : Slots) (m : ℕ) → IsReady index id slots → BoundsLiveChains index.live m
    → BoundsMemberChains (Related (is_above index.live)) (rank_in index.live) (IsLive index.live) m
ids_bound index id slots m ready bound chain all c =
    let none = (live_is index.live id ready.live).0 in
    let b = bound (map (piece_in none index.live) chain)
    (λ one i. let w = in_map (piece_in none index.live) chain one i in
    let l = live_is index.live w.0 (all w.0 w.1) in
    let p : piece_in none index.live w.0 ≡ l.0 = subst (λ k. piece_in none index.live k ≡ l.0) l.2 (piece_is none index.live l.0 ready.apart.once l.1) in
    subst (Contains index.live) (sym p ∙ w.2) l.1)
    (live_chain index id slots none chain ready all c) in
    let n : length (map (piece_in none index.live) chain) ≡ length chain = length-map chain (piece_in none index.live) in
    omega arith

-- what a placement's moves leave
pub record IsInserted (index : LivePieces) (id : ℕ) (slots : Slots) (moves : List Move) : Type 0 where
  pub order : (n : ℕ) → n ≤ length moves → IsInOrder (is_above index.live) (after_moves slots (take n moves))
  pub standing : StandOnce (IsLive index.live) (after_moves slots moves)
  pub bound : (m : ℕ) → BoundsLiveChains index.live m → length moves ≤ m * (1 + span_of (is_above index.live) slots id)
  pub cut : (m boundary : ℕ) (behind before : ℕ → Bool) → BoundsLiveChains index.live m → AreSides (is_above index.live) slots id behind before
      → gap_end (is_above index.live) slots id ≤ boundary → boundary ≤ gap_start (is_above index.live) slots id → HasRoomNear behind before (gap_end (is_above index.live) slots id) (gap_start (is_above index.live) slots id) boundary slots
      → length moves ≤ m * (1 + wrong_side behind before boundary slots)
  pub parted : (behind before : ℕ → Bool) → AreSides (is_above index.live) slots id behind before → gap_end (is_above index.live) slots id < gap_start (is_above index.live) slots id
      → (boundary : ℕ) × IsCut (is_above index.live) slots id behind before boundary × (wrong_side behind before boundary slots ≤ span_of (is_above index.live) slots id)

pub inserted : (index : LivePieces) {priority : ℕ → ℕ} {aiming : Aiming} (id : ℕ) (slots : Slots) (moves : List Move) → IsReady index id slots → IsPlacement (is_above index.live) priority aiming id slots moves
    → IsInserted index id slots moves
inserted index id slots moves ready placement = record { order = order; standing = standing; bound = few; cut = cut; parted = as_planned.parted }
  where
    Over : ℕ → ℕ → Type 0
    Over a b = Related (is_above index.live) a b

    reads : Reads (Related (is_above index.live)) (rank_in index.live) (IsLive index.live) (is_above index.live)
    reads = ranked_reads (is_above index.live) (rank_in index.live) (IsLive index.live) (ranked index ready.apart)

    ordered : Ordered (Related (is_above index.live)) (rank_in index.live) (IsOther index.live id) slots
    ordered = ready_ordered index id slots ready

    as_planned : IsPlanned (Related (is_above index.live)) (rank_in index.live) (IsOther index.live id) (IsLive index.live) (is_above index.live) id slots moves
    as_planned = planned (Related (is_above index.live)) (rank_in index.live) (IsOther index.live id) (IsLive index.live) (is_above index.live) id slots moves reads (λ a p. p.0) ready.live ordered placement

    whole : IsWhole (Related (is_above index.live)) (rank_in index.live) (IsOther index.live id) (IsLive index.live) slots id (map write_of moves)
    whole = as_planned.whole

    w : WholeKeeps (Related (is_above index.live)) (rank_in index.live) (IsOther index.live id) (IsLive index.live) slots id (map write_of moves)
    w = whole_keeps (Related (is_above index.live)) (rank_in index.live) (IsOther index.live id) (IsLive index.live) slots id (map write_of moves) reads.mirror ordered (λ a p. p.0) ready.live whole

    done : Ordered (Related (is_above index.live)) (rank_in index.live) (Plus (IsOther index.live id) id) (applied slots (map write_of moves))
    done = subst (Ordered (Related (is_above index.live)) (rank_in index.live) (Plus (IsOther index.live id) id))
        (sym (ap (applied slots) w.parts ∙ applied_append slots w.before ((w.place, Some id) ∷ []))) w.done

    size : length (map write_of moves) ≡ length moves
    size = length-map moves write_of

    order : (n : ℕ) → n ≤ length moves → IsInOrder (is_above index.live) (after_moves slots (take n moves))
    order n l = subst (IsInOrder (is_above index.live)) (sym (after_moves-applied slots (take n moves) ∙ ap (applied slots) (sym (take-map write_of n moves)))) (elim (cases_lt n (length moves)) [
      | inl less ↦
          let b : length (map write_of moves) ≡ length (w.before ++ (w.place, Some id) ∷ []) = ap length w.parts in
          let c = length-append w.before ((w.place, Some id) ∷ []) in
          let s = size in
          let short : n ≤ length w.before = omega arith in
          let e : take n (map write_of moves) ≡ take n w.before = ap (take n) w.parts ∙ take-append-le n w.before ((w.place, Some id) ∷ []) short in
          order_from (is_above index.live) (rank_in index.live) (IsOther index.live id) (applied slots (take n (map write_of moves))) (ranked index ready.apart)
          (subst (λ xs. Ordered (Related (is_above index.live)) (rank_in index.live) (IsOther index.live id) (applied slots xs)) (sym e)
          (Along_prefix (Ordered (Related (is_above index.live)) (rank_in index.live) (IsOther index.live id)) slots w.before n w.along))
      | inr all ↦
          let s = size in
          let e : take n (map write_of moves) ≡ map write_of moves = take_all n (map write_of moves) (omega arith) in
          order_from (is_above index.live) (rank_in index.live) (Plus (IsOther index.live id) id) (applied slots (take n (map write_of moves))) (ranked index ready.apart)
          (subst (λ xs. Ordered (Related (is_above index.live)) (rank_in index.live) (Plus (IsOther index.live id) id) (applied slots xs)) (sym e) done)
    ])

    once : (i j other : ℕ) → slot (applied slots (map write_of moves)) i ≡ Some other → slot (applied slots (map write_of moves)) j ≡ Some other → i ≡ j
    once = whole_once (Related (is_above index.live)) (rank_in index.live) (IsOther index.live id) (IsLive index.live) slots id (map write_of moves) reads.mirror ordered ready.standing.once (λ p. p.1 refl) whole

    known : (other : ℕ) → Plus (IsOther index.live id) id other → IsLive index.live other
    known other (inl p) = p.0
    known other (inr same) = subst (IsLive index.live) same ready.live

    member : (other : ℕ) → IsLive index.live other → Plus (IsOther index.live id) id other
    member other live = elim (cases_eq other id) [ inl same ↦ inr (sym same) | inr n ↦ inl (live, n) ]

    standing : StandOnce (IsLive index.live) (after_moves slots moves)
    standing = subst (StandOnce (IsLive index.live)) (sym (after_moves-applied slots moves)) record {
      within = λ at other s. known other (done.within at other s);
      placed = λ other live. done.placed other (member other live);
      once = once;
    }

    few : (m : ℕ) → BoundsLiveChains index.live m → length moves ≤ m * (1 + span_of (is_above index.live) slots id)
    few m bound =
        let k = w.few (gap_start (is_above index.live) slots id) (gap_end (is_above index.live) slots id) m
        (floor_is (Related (is_above index.live)) (rank_in index.live) (IsLive index.live) (is_above index.live) slots id reads (λ at other s. (ready.standing.within at other s).0) ready.live)
        (ceiling_is (Related (is_above index.live)) (rank_in index.live) (IsLive index.live) (is_above index.live) slots id reads (λ at other s. (ready.standing.within at other s).0) ready.live)
        (ids_bound index id slots m ready bound) in
        subst (λ n. n ≤ m * (1 + span_of (is_above index.live) slots id)) size k

    cut : (m boundary : ℕ) (behind before : ℕ → Bool) → BoundsLiveChains index.live m → AreSides (is_above index.live) slots id behind before
        → gap_end (is_above index.live) slots id ≤ boundary → boundary ≤ gap_start (is_above index.live) slots id → HasRoomNear behind before (gap_end (is_above index.live) slots id) (gap_start (is_above index.live) slots id) boundary slots
        → length moves ≤ m * (1 + wrong_side behind before boundary slots)
    cut m boundary behind before bound sides low high room =
        let k = whole_few (Related (is_above index.live)) (rank_in index.live) (IsOther index.live id) (IsLive index.live) slots id (map write_of moves) m (wrong_side behind before boundary slots)
        reads.mirror ordered (λ a p. p.0) ready.live whole (ids_bound index id slots m ready bound) (as_planned.fewest behind before boundary sides low high room) in
        subst (λ n. n ≤ m * (1 + wrong_side behind before boundary slots)) size k

-- nothing crosses, and nothing was done
pub uncrossed_none : (index : LivePieces) (id : ℕ) (slots : Slots) (plan : List Move) → IsReady index id slots
    → gap_start (is_above index.live) slots id ≤ gap_end (is_above index.live) slots id → UndoesCrossing index id slots slots plan plan
uncrossed_none index id slots plan ready clear = record {
  moves = [];
  gained = sym (append-nil plan);
  after = refl;
  goes_on = λ aiming rest p. straight_in p;
  ready = ready;
  same_free = refl;
  clear = clear;
  few = omega arith;
}

-- the whole of an insertion, as the planner says it
pub record IsWholly (index : LivePieces) (aiming : Aiming) (id : ℕ) (slots slots' : Slots) (plan plan' : List Move) : Type 0 where
  pub made : AreMade slots slots' plan plan'
  pub placement : IsPlacement (is_above index.live) (rank_in index.live) aiming id slots (moves_since plan plan')
  pub one_fewer : free_slots slots' + 1 ≡ free_slots slots
  pub inserted : IsInserted index id slots (moves_since plan plan')

pub wholly : (index : LivePieces) (aiming : Aiming) (id : ℕ) (a b c : Slots) (p q r : List Move) → IsReady index id a → UndoesCrossing index id a b p q → IsPlaced index aiming id b c q r → IsWholly index aiming id a c p r
wholly index aiming id a b c p q r ready x y = record {
  made = made;
  placement = placement;
  one_fewer = y.one_fewer ∙ x.same_free;
  inserted = inserted index id a (moves_since p r) ready placement;
}
  where
    gained : r ≡ p ++ (x.moves ++ y.moves)
    gained = y.gained ∙ (ap (λ z. z ++ y.moves) x.gained ∙ append_assoc p x.moves y.moves)

    after : c ≡ after_moves a (x.moves ++ y.moves)
    after = y.after ∙ (ap (λ z. after_moves z y.moves) x.after ∙ sym (after_append a x.moves y.moves))

    made : AreMade a c p r
    made = made_by a c p r (x.moves ++ y.moves) gained after

    since : moves_since p r ≡ x.moves ++ y.moves
    since = ap (drop (length p)) gained ∙ drop-append_seam p (x.moves ++ y.moves)

    placement : IsPlacement (is_above index.live) (rank_in index.live) aiming id a (moves_since p r)
    placement = subst (IsPlacement (is_above index.live) (rank_in index.live) aiming id a) (sym since) (x.goes_on aiming y.moves y.placement)

-- the count of the moves
pub record CountsMoves (index : LivePieces) (id : ℕ) (slots : Slots) (plan plan' : List Move) : Type 0 where
  pub count : length plan' - length plan ≡ length (moves_since plan plan')

pub counted : (index : LivePieces) {aiming : Aiming} (id : ℕ) (slots slots' : Slots) (plan plan' : List Move) → IsReady index id slots → IsWholly index aiming id slots slots' plan plan' → CountsMoves index id slots plan plan'
counted index id slots slots' plan plan' ready w = record {
  count = let e = ap length w.made.0 in let n = length-append plan (moves_since plan plan') in omega arith;
}
