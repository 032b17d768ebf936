-- How a cut begins: the marks of a crossed stretch count its two sides, some boundary has room, and the best one is the cut.
use Rattle.std.proofs.Common.{◌≡◌, ℕ, zero, suc, ◌+◌, ◌-◌, ◌<◌, ◌≤◌, Bool, true, false, Option, List, length, take, drop, arith, le_refl, refl, ◌∙◌, ap, subst, sym}
use Rattle.std.specs.Prelude.{cond, nat_le, slice_index_or}
use Rattle.std.proofs.lemmas.Bool.{and_parts, and_from, le-leb}
use Rattle.std.proofs.lemmas.List.{take_all}
use Rattle.std.proofs.lemmas.List.Sums.{sum_by_more, sum_by-take-drop}
use Rattle.slot_order.specs.Order.{slot, Ordered}
use Rattle.slot_moves.specs.Cuts.{holds, early, late, wrong_side, HasRoomNear}
use Rattle.slot_moves.proofs.Tally.{one, tally, tally_same, tally_from, count_take, count_both}
use Rattle.slot_moves.proofs.BestCut.{AreCrossed, has_cut, best_cut, take_none, drop_none, room_from_near}
use Rattle.slot_pool.specs.Arrangement.{Slots}
use Rattle.placement.specs.Live.{LivePieces, is_above, rank_in}
use Rattle.move_planner.specs.declared.sides.Sides.{Sides}
use Rattle.placement.specs.Placement.{gap_start, gap_end, AreSides, IsCut}
use Rattle.placement.specs.Insertion.{IsLive, IsOther}
use Rattle.placement.specs.Ready.{IsReady}
use Rattle.move_planner.specs.Steps.{AreFoundSides, IsUnderway, is_marked, mark_at}
use Rattle.move_planner.specs.Boundary.{count_marks, marked_early, marked_late, HasMarkedRoom, IsBestTo}
use Rattle.placement.proofs.Chain.{Reads}
use Rattle.placement.proofs.Planner.{Related, ranked_reads}
use Rattle.placement.proofs.Orders.{ranked}
use Rattle.placement.proofs.Readied.{ready_ordered, start_inside}
use Rattle.placement.proofs.Leading.{has_sides}
use Rattle.placement.proofs.Cutting.{are_crossed, same_bool}
use Rattle.placement.proofs.Reach.{holding, is_behind, is_before, sides_are}

-- the marks of some slots say what a test holds of
pub record SayMarks (test : ℕ → Bool) (slots : Slots) (start end : ℕ) (marks : List Bool) : Type 0 where
  pub order : start ≤ end
  pub inside : end ≤ length slots
  pub many : length marks ≡ end - start
  pub say : (at : ℕ) → start ≤ at → at < end → mark_at marks start at ≡ holds test (slot slots at)

count_list : (marks : List Bool) (n : ℕ) → n ≤ length marks → count_marks (take n marks) ≡ tally (λ i. slice_index_or marks i false) n
count_list marks zero l = refl
count_list marks (suc n) l =
    let k : suc n ≡ n + 1 = omega arith in
    ap (λ z. count_marks (take z marks)) k ∙ (sum_by_more (λ (y : Bool). cond y 1 0) marks n false (omega arith) ∙ ap (λ z. z + one (slice_index_or marks n false)) (count_list marks n (omega arith)))

-- those of the first so many marks
part_is : (test : ℕ → Bool) (slots : Slots) (start end : ℕ) (marks : List Bool) (n : ℕ) → SayMarks test slots start end marks → start + n ≤ end
    → count_marks (take n marks) ≡ tally (λ i. holds test (slot slots (start + i))) n
part_is test slots start end marks n w l =
    let many = w.many in
    count_list marks n (omega arith) ∙ tally_same (λ i. slice_index_or marks i false) (λ i. holds test (slot slots (start + i))) n
    (λ i m. let k : i ≡ start + i - start = omega arith in ap (λ z. slice_index_or marks z false) k ∙ w.say (start + i) (omega arith) (omega arith))

pub early_marked : (test : ℕ → Bool) (slots : Slots) (start end cut : ℕ) (marks : List Bool) → SayMarks test slots start end marks → ((at : ℕ) → at < start → holds test (slot slots at) ≡ false)
    → start ≤ cut → cut ≤ end → early test cut slots ≡ count_marks (take (cut - start) marks)
early_marked test slots start end cut marks w none low high =
    let inside = w.inside in
    let a = count_take (λ (h : Option ℕ). holds test h) slots cut (omega arith) in
    let q : tally (λ i. holds test (slot slots i)) cut ≡ tally (λ i. holds test (slot slots i)) (start + (cut - start)) = ap (tally (λ i. holds test (slot slots i))) (let z : cut ≡ start + (cut - start) = omega arith in z) in
    let b = tally_from (λ i. holds test (slot slots i)) start (cut - start) in
    let c = take_none (λ (h : Option ℕ). holds test h) slots start (omega arith) none in
    let d = count_take (λ (h : Option ℕ). holds test h) slots start (omega arith) in
    let e = part_is test slots start end marks (cut - start) w (omega arith) in
    omega arith

pub late_marked : (test : ℕ → Bool) (slots : Slots) (start end cut : ℕ) (marks : List Bool) → SayMarks test slots start end marks → ((at : ℕ) → end ≤ at → holds test (slot slots at) ≡ false)
    → start ≤ cut → cut ≤ end → late test cut slots ≡ count_marks (drop (cut - start) marks)
late_marked test slots start end cut marks w none low high =
    let inside = w.inside in let order = w.order in let many = w.many in
    let a = count_take (λ (h : Option ℕ). holds test h) slots cut (omega arith) in
    let q : tally (λ i. holds test (slot slots i)) cut ≡ tally (λ i. holds test (slot slots i)) (start + (cut - start)) = ap (tally (λ i. holds test (slot slots i))) (let z : cut ≡ start + (cut - start) = omega arith in z) in
    let b = tally_from (λ i. holds test (slot slots i)) start (cut - start) in
    let a' = count_take (λ (h : Option ℕ). holds test h) slots end (omega arith) in
    let q' : tally (λ i. holds test (slot slots i)) end ≡ tally (λ i. holds test (slot slots i)) (start + (end - start)) = ap (tally (λ i. holds test (slot slots i))) (let z : end ≡ start + (end - start) = omega arith in z) in
    let b' = tally_from (λ i. holds test (slot slots i)) start (end - start) in
    let c = drop_none (λ (h : Option ℕ). holds test h) slots end inside (λ i l m. none i l) in
    let d = count_both (λ (h : Option ℕ). holds test h) slots cut in
    let d' = count_both (λ (h : Option ℕ). holds test h) slots end in
    let e = part_is test slots start end marks (cut - start) w (omega arith) in
    let e' = part_is test slots start end marks (end - start) w (omega arith) in
    let f : count_marks (take (end - start) marks) ≡ count_marks marks = ap count_marks (take_all (end - start) marks (omega arith)) in
    let g = sum_by-take-drop (λ (y : Bool). cond y 1 0) marks (cut - start) in
    omega arith

-- a crossed stretch whose sides were found
pub record IsBegun (index : LivePieces) (id : ℕ) (slots : Slots) (sides : Sides) : Type 0 where
  pub ready : IsReady index id slots
  pub found : AreFoundSides (is_above index.live) slots id sides
  pub crossed : gap_end (is_above index.live) slots id < gap_start (is_above index.live) slots id

module _ (index : LivePieces) (id : ℕ) (slots : Slots) (sides : Sides) (w : IsBegun index id slots sides) where
  pub are : AreSides (is_above index.live) slots id (is_behind (is_above index.live) slots id) (is_before (is_above index.live) slots id)
  are = sides_are (is_above index.live) (rank_in index.live) slots id (ranked index w.ready.apart) w.ready.order

  reads : Reads (Related (is_above index.live)) (rank_in index.live) (IsLive index.live) (is_above index.live)
  reads = ranked_reads (is_above index.live) (rank_in index.live) (IsLive index.live) (ranked index w.ready.apart)

  ordered : Ordered (Related (is_above index.live)) (rank_in index.live) (IsOther index.live id) slots
  ordered = ready_ordered index id slots w.ready

  pub stretch : AreCrossed (is_behind (is_above index.live) slots id) (is_before (is_above index.live) slots id) slots (gap_end (is_above index.live) slots id) (gap_start (is_above index.live) slots id)
  stretch =
      let has = has_sides (Related (is_above index.live)) (rank_in index.live) (IsOther index.live id) (IsLive index.live) (is_above index.live) slots id
      (is_behind (is_above index.live) slots id) (is_before (is_above index.live) slots id) reads (λ a p. p.0) w.ready.live ordered are in
      are_crossed (Related (is_above index.live)) (rank_in index.live) (IsOther index.live id) (IsLive index.live) (is_above index.live) slots id
      (is_behind (is_above index.live) slots id) (is_before (is_above index.live) slots id) reads (λ a p. p.0) w.ready.live ordered are has.apart w.crossed w.ready.free

  marked_is : (marks : List Bool) (at : ℕ) → sides.start ≤ at → is_marked at sides.start marks ≡ true → mark_at marks sides.start at ≡ true
  marked_is marks at low e = (and_parts (nat_le sides.start at) (slice_index_or marks (at - sides.start) false) e).1

  marked_from : (marks : List Bool) (at : ℕ) → sides.start ≤ at → mark_at marks sides.start at ≡ true → is_marked at sides.start marks ≡ true
  marked_from marks at low e = and_from (nat_le sides.start at) (slice_index_or marks (at - sides.start) false) (le-leb sides.start at low) e

  pub say_behind : SayMarks (is_behind (is_above index.live) slots id) slots sides.start sides.end sides.behind
  say_behind = record {
    order = let a = w.found.start_is in let b = w.found.end_is in let c = w.crossed in omega arith;
    inside = let b = w.found.end_is in let k = start_inside (is_above index.live) slots id in omega arith;
    many = w.found.led.many;
    say = λ at low high. same_bool (mark_at sides.behind sides.start at) (holds (is_behind (is_above index.live) slots id) (slot slots at))
        (λ e. let l = (w.found.led.say at low high).0 (marked_from sides.behind at low e) in
        ap (holds (is_behind (is_above index.live) slots id)) l.1 ∙ (are.after_it at l.0 l.1).1 l.2)
        (λ e. let h = holding (is_behind (is_above index.live) slots id) (slot slots at) e in
        marked_is sides.behind at low ((w.found.led.say at low high).1 (h.0, h.1, (are.after_it at h.0 h.1).0 h.2)));
  }

  pub say_before : SayMarks (is_before (is_above index.live) slots id) slots sides.start sides.end sides.before
  say_before = record {
    order = let a = w.found.start_is in let b = w.found.end_is in let c = w.crossed in omega arith;
    inside = let b = w.found.end_is in let k = start_inside (is_above index.live) slots id in omega arith;
    many = w.found.lead.many;
    say = λ at low high. same_bool (mark_at sides.before sides.start at) (holds (is_before (is_above index.live) slots id) (slot slots at))
        (λ e. let l = (w.found.lead.say at low high).0 (marked_from sides.before at low e) in
        ap (holds (is_before (is_above index.live) slots id)) l.1 ∙ (are.before_it at l.0 l.1).1 l.2)
        (λ e. let h = holding (is_before (is_above index.live) slots id) (slot slots at) e in
        marked_is sides.before at low ((w.found.lead.say at low high).1 (h.0, h.1, (are.before_it at h.0 h.1).0 h.2)));
  }

  none_early : (at : ℕ) → at < sides.start → holds (is_behind (is_above index.live) slots id) (slot slots at) ≡ false
  none_early at l = let a = w.found.start_is in stretch.none_early at (omega arith)

  none_late : (at : ℕ) → sides.end ≤ at → holds (is_before (is_above index.live) slots id) (slot slots at) ≡ false
  none_late at l = let a = w.found.end_is in stretch.none_late at (omega arith)

  early_is : (cut : ℕ) → sides.start ≤ cut → cut ≤ sides.end → early (is_behind (is_above index.live) slots id) cut slots ≡ marked_early sides cut
  early_is cut low high = early_marked (is_behind (is_above index.live) slots id) slots sides.start sides.end cut sides.behind say_behind none_early low high

  late_is : (cut : ℕ) → sides.start ≤ cut → cut ≤ sides.end → late (is_before (is_above index.live) slots id) cut slots ≡ marked_late sides cut
  late_is cut low high = late_marked (is_before (is_above index.live) slots id) slots sides.start sides.end cut sides.before say_before none_late low high

  room_marked : (cut : ℕ) → sides.start ≤ cut → cut ≤ sides.end → HasRoomNear (is_behind (is_above index.live) slots id) (is_before (is_above index.live) slots id) sides.start sides.end cut slots → HasMarkedRoom slots sides cut
  room_marked cut low high r =
      let a = early_is cut low high in let b = late_is cut low high in
      let x = r.room_behind in let y = r.room_before in record { room_behind = omega arith; room_before = omega arith }

  room_of : (cut : ℕ) → sides.start ≤ cut → cut ≤ sides.end → HasMarkedRoom slots sides cut → HasRoomNear (is_behind (is_above index.live) slots id) (is_before (is_above index.live) slots id) sides.start sides.end cut slots
  room_of cut low high r =
      let a = early_is cut low high in let b = late_is cut low high in
      let x = r.room_behind in let y = r.room_before in record { room_behind = omega arith; room_before = omega arith }

  -- the stretch is that of the sides
  near_sides : (cut : ℕ) → HasRoomNear (is_behind (is_above index.live) slots id) (is_before (is_above index.live) slots id) (gap_end (is_above index.live) slots id) (gap_start (is_above index.live) slots id) cut slots
      → HasRoomNear (is_behind (is_above index.live) slots id) (is_before (is_above index.live) slots id) sides.start sides.end cut slots
  near_sides cut r =
      subst (λ n. HasRoomNear (is_behind (is_above index.live) slots id) (is_before (is_above index.live) slots id) n sides.end cut slots) (sym w.found.start_is)
      (subst (λ n. HasRoomNear (is_behind (is_above index.live) slots id) (is_before (is_above index.live) slots id) (gap_end (is_above index.live) slots id) n cut slots) (sym w.found.end_is) r)

  sides_near : (cut : ℕ) → HasRoomNear (is_behind (is_above index.live) slots id) (is_before (is_above index.live) slots id) sides.start sides.end cut slots
      → HasRoomNear (is_behind (is_above index.live) slots id) (is_before (is_above index.live) slots id) (gap_end (is_above index.live) slots id) (gap_start (is_above index.live) slots id) cut slots
  sides_near cut r =
      subst (λ n. HasRoomNear (is_behind (is_above index.live) slots id) (is_before (is_above index.live) slots id) n (gap_start (is_above index.live) slots id) cut slots) w.found.start_is
      (subst (λ n. HasRoomNear (is_behind (is_above index.live) slots id) (is_before (is_above index.live) slots id) sides.start n cut slots) w.found.end_is r)

  -- some boundary has room
  pub some_boundary : (cut : ℕ) × (sides.start ≤ cut) × (cut ≤ sides.end) × HasMarkedRoom slots sides cut
  some_boundary =
      let a = w.found.start_is in let b = w.found.end_is in
      let k = has_cut (is_behind (is_above index.live) slots id) (is_before (is_above index.live) slots id) slots (gap_end (is_above index.live) slots id) (gap_start (is_above index.live) slots id) stretch in
      let low = k.1 in let high = k.2 in
      let low' : sides.start ≤ k.0 = omega arith in let high' : k.0 ≤ sides.end = omega arith in
      (k.0, low', high', room_marked k.0 low' high' (near_sides k.0 k.3))

  -- the best one is the cut
  pub cut_is : (cut : ℕ) → IsBestTo slots sides sides.end cut → IsCut (is_above index.live) slots id (is_behind (is_above index.live) slots id) (is_before (is_above index.live) slots id) cut
  cut_is cut best =
      let a = w.found.start_is in let b = w.found.end_is in
      let low = best.low in let high = best.high in
      let e = early_is cut best.low best.high in let l = late_is cut best.low best.high in
      record {
        from = omega arith;
        to = omega arith;
        room = sides_near cut (room_of cut best.low best.high best.room);
        fewest = λ other x y r.
            let x' : sides.start ≤ other = omega arith in let y' : other ≤ sides.end = omega arith in
            let f = best.fewest other x' y' (room_marked other x' y' (near_sides other r)) in
            let e' = early_is other x' y' in let l' = late_is other x' y' in omega arith;
        last = λ other x y r.
            let x' : sides.start ≤ other = omega arith in let y' : other ≤ sides.end = omega arith in
            let f = best.last other x y' (room_marked other x' y' (near_sides other r)) in
            let e' = early_is other x' y' in let l' = late_is other x' y' in omega arith;
      }

  pub begins : (cut : ℕ) → IsBestTo slots sides sides.end cut
      → IsUnderway index id (is_behind (is_above index.live) slots id) (is_before (is_above index.live) slots id) slots sides (record { boundary = cut; low = cut; high = cut })
  begins cut best = record {
    ready = w.ready;
    are = are;
    room = room_from_near (is_behind (is_above index.live) slots id) (is_before (is_above index.live) slots id) sides.start sides.end cut slots best.low best.high say_behind.inside (room_of cut best.low best.high best.room);
    start_low = best.low;
    low_cut = le_refl cut;
    cut_high = le_refl cut;
    high_end = best.high;
    inside = say_behind.inside;
    many_behind = w.found.led.many;
    many_before = w.found.lead.many;
    marks_behind = λ at a b. let h = best.high in say_behind.say at a (omega arith);
    clear_low = λ at a b. absurd (omega arith);
    clear_start = none_early;
    marks_before = λ at a b. let l = best.low in say_before.say at (omega arith) b;
    clear_high = λ at a b. absurd (omega arith);
    clear_end = none_late;
  }

  -- no more stand on its wrong side than the span has slots
  pub few_wrong : (cut : ℕ) → IsBestTo slots sides sides.end cut
      → wrong_side (is_behind (is_above index.live) slots id) (is_before (is_above index.live) slots id) cut slots ≤ gap_start (is_above index.live) slots id - 1 - gap_end (is_above index.live) slots id
  few_wrong cut best =
      let c = cut_is cut best in
      best_cut (is_behind (is_above index.live) slots id) (is_before (is_above index.live) slots id) slots (gap_end (is_above index.live) slots id) (gap_start (is_above index.live) slots id) cut stretch c.from c.to c.room c.fewest
