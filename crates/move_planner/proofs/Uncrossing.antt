-- The turns of a cut so far, and what all of them leave.
use Rattle.std.proofs.Common.{◌≡◌, ℕ, ◌+◌, ◌*◌, ◌≤◌, Bool, true, Option, None, Some, List, [], ◌++◌, length, inl, inr, arith, refl, sym, ◌∙◌, subst, ap, append-nil, append_assoc, length-append}
use Rattle.std.proofs.lemmas.Bool.{cases_lt, both_ways}
use Rattle.slot_order.specs.Order.{slot, most_slots}
use Rattle.slot_moves.specs.Cuts.{holds, early, late, wrong_side}
use Rattle.slot_order.proofs.Writes.{slot_inside}
use Rattle.slot_moves.proofs.Tally.{take_clear, drop_clear}
use Rattle.slot_pool.specs.Arrangement.{Slots}
use Rattle.placement.specs.Live.{LivePieces, is_above, rank_in}
use Rattle.placement.specs.declared.Move.{Move}
use Rattle.move_planner.specs.Made.{moves_made}
use Rattle.move_planner.specs.declared.sides.Sides.{Sides}
use Rattle.move_planner.specs.declared.crossings.Cut.{Cut}
use Rattle.placement.specs.Placement.{after_moves, first_lower, last_upper, next_slot, gap_start, gap_end, straight, AreSides, Pass, passed, IsPlacing, uncross}
use Rattle.placement.specs.Insertion.{IsLive, free_slots, moves_since, AreMade}
use Rattle.move_planner.specs.Boundary.{IsBestTo}
use Rattle.placement.specs.Ready.{IsReady}
use Rattle.move_planner.specs.Steps.{IsUnderway, OnePassed, NonePasses, UndoesCrossing}
use Rattle.placement.proofs.Chain.{Reads, lower_is, upper_is}
use Rattle.placement.proofs.Planner.{Related, ranked_reads}
use Rattle.placement.proofs.Orders.{ranked}
use Rattle.placement.proofs.Readied.{start_inside}
use Rattle.placement.proofs.Reach.{is_behind, is_before}
use Rattle.move_planner.proofs.Begun.{IsBegun, are, cut_is, begins, few_wrong}
use Rattle.move_planner.proofs.Shifted.{after_append, made_by}
use Rattle.std.specs.Option.{unwrap_or}

-- the turns so far
pub record IsUncrossing (index : LivePieces) (id : ℕ) (slots slots' : Slots) (plan plan' : List Move) (sides : Sides) (boundary : ℕ) (cut : Cut) : Type 0 where
  pub moves : List Move
  pub gained : plan' ≡ plan ++ moves
  pub after : slots' ≡ after_moves slots moves
  pub goes_on : (rest : List Move) → Pass (is_above index.live) (is_behind (is_above index.live) slots id) (is_before (is_above index.live) slots id) boundary slots' rest
      → Pass (is_above index.live) (is_behind (is_above index.live) slots id) (is_before (is_above index.live) slots id) boundary slots (moves ++ rest)
  pub underway : IsUnderway index id (is_behind (is_above index.live) slots id) (is_before (is_above index.live) slots id) slots' sides cut
  pub cut_at : cut.boundary ≡ boundary
  pub same_free : free_slots slots' ≡ free_slots slots
  pub count : length moves + (1 + most_slots) * wrong_side (is_behind (is_above index.live) slots id) (is_before (is_above index.live) slots id) boundary slots'
      ≤ (1 + most_slots) * wrong_side (is_behind (is_above index.live) slots id) (is_before (is_above index.live) slots id) boundary slots

-- at first
pub uncrossing_none : (index : LivePieces) (id : ℕ) (slots : Slots) (plan : List Move) (sides : Sides) (boundary : ℕ) → IsBegun index id slots sides → IsBestTo slots sides sides.end boundary
    → IsUncrossing index id slots slots plan plan sides boundary (record { boundary = boundary; low = boundary; high = boundary })
uncrossing_none index id slots plan sides boundary w best = record {
  moves = [];
  gained = sym (append-nil plan);
  after = refl;
  goes_on = λ rest p. p;
  underway = begins index id slots sides w boundary best;
  cut_at = refl;
  same_free = refl;
  count = omega arith;
}

-- one turn more
pub uncrossing_more : (index : LivePieces) (id : ℕ) (a b c : Slots) (p q r : List Move) (sides : Sides) (boundary : ℕ) (cut next : Cut) → IsUncrossing index id a b p q sides boundary cut
    → OnePassed index id (is_behind (is_above index.live) a id) (is_before (is_above index.live) a id) (moves_made b q) (moves_made c r) sides cut next → IsUncrossing index id a c p r sides boundary next
uncrossing_more index id a b c p q r sides boundary cut next x y = record {
  moves = x.moves ++ y.moves;
  gained = y.gained ∙ (ap (λ z. z ++ y.moves) x.gained ∙ append_assoc p x.moves y.moves);
  after = y.after ∙ (ap (λ z. after_moves z y.moves) x.after ∙ sym (after_append a x.moves y.moves));
  goes_on = λ rest k. subst (Pass (is_above index.live) (is_behind (is_above index.live) a id) (is_before (is_above index.live) a id) boundary a) (sym (append_assoc x.moves y.moves rest))
      (x.goes_on (y.moves ++ rest) (subst (λ n. Pass (is_above index.live) (is_behind (is_above index.live) a id) (is_before (is_above index.live) a id) n b (y.moves ++ rest)) x.cut_at
      (y.goes_on rest (subst (λ n. Pass (is_above index.live) (is_behind (is_above index.live) a id) (is_before (is_above index.live) a id) n c rest) (sym x.cut_at) k))));
  underway = y.underway;
  cut_at = y.same_boundary ∙ x.cut_at;
  same_free = y.same_free ∙ x.same_free;
  count =
      let n = length-append x.moves y.moves in let s = x.count in let t = y.few in
      let f : wrong_side (is_behind (is_above index.live) a id) (is_before (is_above index.live) a id) boundary c + 1 ≡ wrong_side (is_behind (is_above index.live) a id) (is_before (is_above index.live) a id) boundary b =
      subst (λ n. wrong_side (is_behind (is_above index.live) a id) (is_before (is_above index.live) a id) n c + 1 ≡ wrong_side (is_behind (is_above index.live) a id) (is_before (is_above index.live) a id) n b) x.cut_at y.fewer in
      omega arith;
}

-- nothing on the wrong side: nothing crosses
nothing_crosses : (index : LivePieces) (id : ℕ) (slots : Slots) (behind before : ℕ → Bool) (cut : ℕ) → IsReady index id slots → AreSides (is_above index.live) slots id behind before → cut ≤ length slots
    → early behind cut slots ≡ 0 → late before cut slots ≡ 0 → gap_start (is_above index.live) slots id ≤ gap_end (is_above index.live) slots id
nothing_crosses index id slots behind before cut ready sides inside none_early none_late =
    let a = upper (last_upper (is_above index.live) slots id) refl in
    let b = lower (first_lower (is_above index.live) slots id) refl in omega arith
  where
    reads : Reads (Related (is_above index.live)) (rank_in index.live) (IsLive index.live) (is_above index.live)
    reads = ranked_reads (is_above index.live) (rank_in index.live) (IsLive index.live) (ranked index ready.apart)

    upper : (found : Option ℕ) → last_upper (is_above index.live) slots id ≡ found → next_slot found ≤ cut
    upper None e = omega arith
    upper (Some at) e =
        let u = upper_is (Related (is_above index.live)) (rank_in index.live) (IsLive index.live) (is_above index.live) slots id at reads (λ place x s. (ready.standing.within place x s).0) ready.live e in
        let on = reads.told u.upper id (ready.standing.within at u.upper u.stands).0 ready.live (reads.mirror id u.upper u.meets) u.more in
        let b : holds before (slot slots at) ≡ true = ap (holds before) u.stands ∙ (sides.before_it at u.upper u.stands).1 (straight on) in
        elim (cases_lt at cut) [
          | inl l ↦ omega arith
          | inr l ↦ absurd (both_ways _ (drop_clear (λ (h : Option ℕ). holds before h) slots cut at inside none_late l (slot_inside slots at u.upper u.stands)) b)
        ]

    lower : (found : Option ℕ) → first_lower (is_above index.live) slots id ≡ found → cut ≤ unwrap_or found (length slots)
    lower None e = inside
    lower (Some at) e =
        let u = lower_is (Related (is_above index.live)) (rank_in index.live) (IsLive index.live) (is_above index.live) slots id at reads (λ place x s. (ready.standing.within place x s).0) ready.live e in
        let on = reads.told id u.lower ready.live (ready.standing.within at u.lower u.stands).0 u.meets u.less in
        let b : holds behind (slot slots at) ≡ true = ap (holds behind) u.stands ∙ (sides.after_it at u.lower u.stands).1 (straight on) in
        elim (cases_lt at cut) [
          | inr l ↦ l
          | inl l ↦ absurd (both_ways _ (take_clear (λ (h : Option ℕ). holds behind h) slots cut at inside none_early l) b)
        ]

-- all turns
pub uncrossed_all : (index : LivePieces) (id : ℕ) (a b c : Slots) (p q r : List Move) (sides : Sides) (boundary : ℕ) (cut : Cut) → IsBegun index id a sides → IsBestTo a sides sides.end boundary
    → IsUncrossing index id a b p q sides boundary cut → NonePasses (is_behind (is_above index.live) a id) (is_before (is_above index.live) a id) (moves_made b q) (moves_made c r) cut → UndoesCrossing index id a c p r
uncrossed_all index id a b c p q r sides boundary cut w best x none = record {
  moves = x.moves;
  gained = none.same_plan ∙ x.gained;
  after = none.same_slots ∙ x.after;
  goes_on = λ aiming rest placing. uncross (is_behind (is_above index.live) a id) (is_before (is_above index.live) a id) boundary w.crossed (are index id a sides w) (cut_is index id a sides w boundary best)
      (subst (Pass (is_above index.live) (is_behind (is_above index.live) a id) (is_before (is_above index.live) a id) boundary a) (append-nil x.moves) (x.goes_on [] (passed early_none late_none)))
      (subst (λ d. IsPlacing (is_above index.live) (rank_in index.live) aiming id d rest) (none.same_slots ∙ x.after) placing);
  ready = subst (IsReady index id) (sym none.same_slots) x.underway.ready;
  same_free = ap free_slots none.same_slots ∙ x.same_free;
  clear = subst (λ d. gap_start (is_above index.live) d id ≤ gap_end (is_above index.live) d id) (sym none.same_slots)
      (nothing_crosses index id b (is_behind (is_above index.live) a id) (is_before (is_above index.live) a id) boundary x.underway.ready x.underway.are inside early_none late_none);
  few =
      let s = x.count in
      let t = few_wrong index id a sides w boundary best in
      let u = start_inside (is_above index.live) a id in
      let v = w.ready.few in omega arith;
}
  where
    early_none : early (is_behind (is_above index.live) a id) boundary b ≡ 0
    early_none = subst (λ n. early (is_behind (is_above index.live) a id) n b ≡ 0) x.cut_at none.early_none

    late_none : late (is_before (is_above index.live) a id) boundary b ≡ 0
    late_none = subst (λ n. late (is_before (is_above index.live) a id) n b ≡ 0) x.cut_at none.late_none

    inside : boundary ≤ length b
    inside = let u = x.underway in let l = u.cut_high in let m = u.high_end in let n = u.inside in let k = x.cut_at in omega arith

-- what was made after these turns was made after all
pub made_uncrossing : (index : LivePieces) (id : ℕ) (a b c : Slots) (p q r : List Move) (sides : Sides) (boundary : ℕ) (cut : Cut) → IsUncrossing index id a b p q sides boundary cut
    → AreMade b c q r → AreMade a c p r
made_uncrossing index id a b c p q r sides boundary cut x y =
    made_by a c p r (x.moves ++ moves_since q r)
    (y.0 ∙ (ap (λ z. z ++ moves_since q r) x.gained ∙ append_assoc p x.moves (moves_since q r)))
    (y.1 ∙ (ap (λ z. after_moves z (moves_since q r)) x.after ∙ sym (after_append a x.moves (moves_since q r))))
