-- Which entry passes the boundary of a cut under way next, or that none is left.
use Rattle.std.proofs.Common.{◌≡◌, ℕ, ◌-◌, ◌<◌, ◌≤◌, ◌⊎◌, Bool, true, false, Option, None, Some, List, ◌∷◌, length, inl, inr, arith, refl, sym, ◌∙◌, subst, ap}
use Rattle.std.specs.Prelude.{nat_lt, slice_index_or, IfSome}
use Rattle.std.proofs.lemmas.Bool.{cases_lt, cond-true, cond-false, false_from_ne_true, lt-ltb, ltb-true, both_ways}
use Rattle.slot_order.specs.Order.{slot}
use Rattle.slot_moves.specs.Cuts.{holds, early, late, free_before, free_behind}
use Rattle.slot_order.proofs.Writes.{slot_inside}
use Rattle.slot_moves.proofs.Passes.{can_pass}
use Rattle.slot_moves.proofs.BestCut.{take_none, drop_none}
use Rattle.slot_moves.proofs.Tally.{take_clear, drop_clear}
use Rattle.slot_pool.specs.Arrangement.{Slots, next_free_above, last_free_below}
use Rattle.slot_pool.proofs.Scan.{next_free_is, last_free_is}
use Rattle.placement.specs.Live.{LivePieces, is_above}
use Rattle.placement.specs.declared.Move.{Move}
use Rattle.move_planner.specs.Made.{moves_made}
use Rattle.move_planner.specs.declared.sides.Sides.{Sides}
use Rattle.move_planner.specs.declared.crossings.Cut.{Cut}
use Rattle.move_planner.specs.declared.chains.Chain.{Chain}
use Rattle.move_planner.specs.declared.shorter.Ends.{Ends}
use Rattle.placement.specs.Placement.{DownChain, UpChain, IsLastBefore, IsFirstFrom, IsDownChain as PlansDown, IsUpChain as PlansUp}
use Rattle.placement.specs.Ready.{CanShift}
use Rattle.move_planner.specs.Steps.{CanGoDown, CanGoUp, IsShiftedOut, FindsShorter, EarlyEnds, NoEarlyEnds, FindsEarly, LateEnds, NoLateEnds, FindsLate, EarlyPasses, LatePasses, NonePass, FindsPasser, IsUnderway, OnePassed, IsLastMarked, IsFirstMarked, mark_at, cleared}
use Rattle.placement.proofs.Planner.{last_alone, first_alone}
use Rattle.move_planner.proofs.Near.{none_before, none_behind}
use Rattle.move_planner.proofs.Turned.{down_shifts, up_shifts}
use Rattle.placement.proofs.Reach.{holding}
use Rattle.move_planner.proofs.Passed.{went_down, went_up, cut_inside, passed_down, passed_up}

-- what stands in a slot that a test holds of
pub stands_there : (test : ℕ → Bool) (slots : Slots) (at : ℕ) → holds test (slot slots at) ≡ true → (id : ℕ) × (slot slots at ≡ Some id)
stands_there test slots at e = let h = holding test (slot slots at) e in (h.0, h.1)

module _ (index : LivePieces) (id : ℕ) (behind before : ℕ → Bool) (slots : Slots) (sides : Sides) (cut : Cut) (w : IsUnderway index id behind before slots sides cut) where
  inside : cut.boundary ≤ length slots
  inside = cut_inside index id behind before slots sides cut w

  -- no slot before the boundary is marked any more, or none from it on is free
  pub no_early : ((at : ℕ) → sides.start ≤ at → at < cut.low → mark_at sides.behind sides.start at ≡ false) → early behind cut.boundary slots ≡ 0
  no_early none = take_none (λ (h : Option ℕ). holds behind h) slots cut.boundary inside (λ at l. elim (cases_lt at sides.start) [
    | inl a ↦ w.clear_start at a
    | inr a ↦ elim (cases_lt at cut.low) [
      | inl b ↦ sym (w.marks_behind at a b) ∙ none at a b
      | inr b ↦ w.clear_low at b l
    ]
  ])

  pub no_late : ((at : ℕ) → cut.high ≤ at → at < sides.end → mark_at sides.before sides.start at ≡ false) → late before cut.boundary slots ≡ 0
  no_late none = drop_none (λ (h : Option ℕ). holds before h) slots cut.boundary inside (λ at l m. elim (cases_lt at cut.high) [
    | inl a ↦ w.clear_high at l a
    | inr a ↦ elim (cases_lt at sides.end) [
      | inl b ↦ sym (w.marks_before at a b) ∙ none at a b
      | inr b ↦ w.clear_end at b
    ]
  ])

  -- then none is left
  pub none_left : (early behind cut.boundary slots ≡ 0) ⊎ (free_behind cut.boundary slots ≡ 0)
      → (late before cut.boundary slots ≡ 0) ⊎ (free_before cut.boundary slots ≡ 0) → NonePass behind before slots cut
  none_left a b =
      let k = can_pass behind before cut.boundary slots w.room w.ready.free a b in
      record { early_none = omega arith; late_none = omega arith }

  -- the ends that were looked for
  pub early_unmarked : IsLastMarked sides.behind sides.start cut.low None → NoEarlyEnds behind slots cut
  early_unmarked none =
      let e = no_early none in
      record {
        none = λ lower last. absurd (both_ways _ (take_clear (λ (h : Option ℕ). holds behind h) slots cut.boundary lower inside e last.inside) last.passing);
        done = inl e;
      }

  pub early_blocked : (lower : ℕ) → IsLastMarked sides.behind sides.start cut.low (Some lower) → next_free_above slots (cut.boundary - 1) ≡ None
      → NoEarlyEnds behind slots cut
  early_blocked lower m none = let l = w.low_cut in let a = m.1 in let i = inside in
      record { none = λ other last. none; done = inr (none_behind slots cut.boundary (cut.boundary - 1) (omega arith) (omega arith) none) }

  pub late_unmarked : IsFirstMarked sides.before sides.start cut.high sides.end None → NoLateEnds before slots cut
  late_unmarked none =
      let e = no_late none in
      record {
        none = λ upper first.
            let h = holding before (slot slots upper) first.passing in
            absurd (both_ways _ (drop_clear (λ (h : Option ℕ). holds before h) slots cut.boundary upper inside e first.inside (slot_inside slots upper h.0 h.1)) first.passing);
        done = inl e;
      }

  pub late_blocked : last_free_below slots cut.boundary ≡ None → NoLateEnds before slots cut
  late_blocked none = record { none = λ other first. none; done = inr (none_before slots cut.boundary inside none) }

  -- a chain can go between them
  pub early_goes : (found : Option Ends) → FindsEarly behind slots sides cut found → IfSome found (CanGoDown slots)
  early_goes None e = tt
  early_goes (Some ends) e =
      let f = next_free_is slots (cut.boundary - 1) ends.free e.to in
      let l = f.0 in let i = e.last.inside in
      (omega arith, f.1.inside, stands_there behind slots ends.from e.last.passing)

  pub late_goes : (found : Option Ends) → FindsLate before slots sides cut found → IfSome found (CanGoUp slots)
  late_goes None e = tt
  late_goes (Some ends) e =
      let f = last_free_is slots cut.boundary ends.free e.to in
      let l = f.0 in let i = e.first.inside in
      (omega arith, stands_there before slots ends.from e.first.passing)

  -- whatever chain there is goes between them
  early_any : (down : Option Ends) → FindsEarly behind slots sides cut down → (lower : ℕ) → IsLastBefore behind cut.boundary slots lower
      → (way : DownChain (is_above index.live) slots lower (next_free_above slots (cut.boundary - 1)))
      → (other : Ends) × (down ≡ Some other) × PlansDown (is_above index.live) slots other.free (other.from ∷ way.rest)
  early_any None d lower last way = absurd (let k : None ≡ Some way.free = sym (d.none lower last) ∙ way.to in cc)
  early_any (Some other) d lower last way =
      let same : lower ≡ other.from = last_alone behind cut.boundary slots lower other.from last d.last in
      let to : way.free ≡ other.free = (let k : Some way.free ≡ Some other.free = sym way.to ∙ d.to in cc) in (
        other,
        refl,
        subst (λ f. PlansDown (is_above index.live) slots f (other.from ∷ way.rest)) to
            (subst (λ x. PlansDown (is_above index.live) slots way.free (x ∷ way.rest)) same way.chain),
      )

  late_any : (up : Option Ends) → FindsLate before slots sides cut up → (upper : ℕ) → IsFirstFrom before cut.boundary slots upper
      → (way : UpChain (is_above index.live) slots upper (last_free_below slots cut.boundary))
      → (other : Ends) × (up ≡ Some other) × PlansUp (is_above index.live) slots other.free (other.from ∷ way.rest)
  late_any None u upper first way = absurd (let k : None ≡ Some way.free = sym (u.none upper first) ∙ way.to in cc)
  late_any (Some other) u upper first way =
      let same : upper ≡ other.from = first_alone before cut.boundary slots upper other.from first u.first in
      let to : way.free ≡ other.free = (let k : Some way.free ≡ Some other.free = sym way.to ∙ u.to in cc) in (
        other,
        refl,
        subst (λ f. PlansUp (is_above index.live) slots f (other.from ∷ way.rest)) to
            (subst (λ x. PlansUp (is_above index.live) slots way.free (x ∷ way.rest)) same way.chain),
      )

  -- the shorter one passes
  pub passer_is : (down up : Option Ends) (found : Option Chain) → FindsEarly behind slots sides cut down → FindsLate before slots sides cut up
      → FindsShorter (is_above index.live) slots down up found → FindsPasser (is_above index.live) behind before slots sides cut found
  passer_is down up None d u s =
      let e : NoEarlyEnds behind slots cut = subst (FindsEarly behind slots sides cut) s.0 d in
      let f : NoLateEnds before slots cut = subst (FindsLate before slots sides cut) s.1 u in
      none_left e.done f.done
  passer_is down up (Some chain) d u (inl s) =
      let e : EarlyEnds behind slots sides cut s.ends = subst (FindsEarly behind slots sides cut) s.begins d in
      inl (record {
        early_one = record {
          lower = s.ends.from;
          low = e.low;
          less = e.less;
          last = e.last;
          down = record { rest = s.goes.rest; to = e.to ∙ s.goes.to; members = s.goes.members; follows = s.goes.follows };
        };
        shortest = λ upper first way. let a = late_any up u upper first way in s.shortest a.0 a.1 way.rest a.2;
      })
  passer_is down up (Some chain) d u (inr s) =
      let e : LateEnds before slots sides cut s.ends = subst (FindsLate before slots sides cut) s.begins u in
      inr (record {
        late_one = record {
          upper = s.ends.from;
          high = e.high;
          less = e.less;
          first = e.first;
          up = record { rest = s.goes.rest; to = e.to ∙ s.goes.to; members = s.goes.members; follows = s.goes.follows };
        };
        shortest = λ lower last way. let a = early_any down d lower last way in s.shortest a.0 a.1 way.rest a.2;
      })

  -- its chain can move
  pub passer_shifts : (chain : Chain) → EarlyPasses (is_above index.live) behind before slots sides cut chain ⊎ LatePasses (is_above index.live) behind before slots sides cut chain
      → CanShift slots chain.free chain.members.items
  passer_shifts chain (inl e) =
      let h = stands_there behind slots e.early_one.lower e.early_one.last.passing in
      down_shifts index id slots e.early_one.lower (cut.boundary - 1) h.0 chain w.ready h.1 e.early_one.down
  passer_shifts chain (inr e) =
      let h = stands_there before slots e.late_one.upper e.late_one.first.passing in
      up_shifts index id slots e.late_one.upper cut.boundary h.0 chain w.ready h.1 e.late_one.up

  -- it has passed
  pub passer_passed : (slots' : Slots) (plan plan' : List Move) (chain : Chain) (first : ℕ)
      → EarlyPasses (is_above index.live) behind before slots sides cut chain ⊎ LatePasses (is_above index.live) behind before slots sides cut chain
      → first ≡ slice_index_or chain.members.items 0 chain.free → IsShiftedOut slots slots' plan plan' chain → OnePassed index id behind before (moves_made slots plan) (moves_made slots' plan') sides cut (cleared cut first)
  passer_passed slots' plan plan' chain first (inl e) is out =
      let k : first ≡ e.early_one.lower = is ∙ ap (λ ms. slice_index_or ms 0 chain.free) e.early_one.down.members in
      let l : nat_lt e.early_one.lower cut.boundary ≡ true = lt-ltb e.early_one.lower cut.boundary e.early_one.last.inside in
      subst (λ x. OnePassed index id behind before (moves_made slots plan) (moves_made slots' plan') sides cut (cleared cut x)) (sym k)
      (subst (OnePassed index id behind before (moves_made slots plan) (moves_made slots' plan') sides cut) (sym (cond-true _ _ _ l))
      (passed_down index id behind before slots sides cut w slots' plan plan' e.early_one.lower e.early_one.low e.early_one.less e.early_one.last
      (went_down index slots slots' plan plan' e.early_one.lower cut.boundary chain e.early_one.down out) e.shortest))
  passer_passed slots' plan plan' chain first (inr e) is out =
      let k : first ≡ e.late_one.upper = is ∙ ap (λ ms. slice_index_or ms 0 chain.free) e.late_one.up.members in
      let l : nat_lt e.late_one.upper cut.boundary ≡ false = false_from_ne_true _ (λ y. let m = ltb-true e.late_one.upper cut.boundary y in let n = e.late_one.first.inside in absurd (omega arith)) in
      subst (λ x. OnePassed index id behind before (moves_made slots plan) (moves_made slots' plan') sides cut (cleared cut x)) (sym k)
      (subst (OnePassed index id behind before (moves_made slots plan) (moves_made slots' plan') sides cut) (sym (cond-false _ _ _ l))
      (passed_up index id behind before slots sides cut w slots' plan plan' e.late_one.upper e.late_one.high e.late_one.less e.late_one.first
      (went_up index slots slots' plan plan' e.late_one.upper cut.boundary chain e.late_one.up out) e.shortest))
