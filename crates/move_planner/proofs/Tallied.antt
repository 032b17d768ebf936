-- The tallies of the boundaries of a crossed stretch, and the choice among them.
use Rattle.std.proofs.Common.{◌≡◌, ℕ, ◌+◌, ◌-◌, ◌<◌, ◌≤◌, Bool, true, false, Option, None, Some, length, take, drop, inl, inr, arith, le_refl, sym, ◌∙◌, subst, ap}
use Rattle.std.specs.Prelude.{MatchOption, cond, count_by, min, is_none, nat_lt, nat_le, slice_index_or}
use Rattle.std.proofs.lemmas.Bool.{cases_Bool, cases_lt, cond-true, cond-false, and_parts, and_from, le-leb, leb-true, ltb-true, ltb-false, both_ways}
use Rattle.std.proofs.lemmas.List.Sums.{sum_by_more, sum_by-drop_more, sum_by-take-le, sum_by-take-drop, count_by-le-length}
use Rattle.slot_order.specs.Order.{slot, most_slots}
use Rattle.slot_moves.specs.Cuts.{free_behind, near_behind, free_before}
use Rattle.slot_moves.proofs.BestCut.{before_rises, behind_falls}
use Rattle.slot_pool.specs.Arrangement.{Slots}
use Rattle.move_planner.specs.declared.sides.Sides.{Sides}
use Rattle.move_planner.specs.declared.boundary.Tally.{Tally}
use Rattle.move_planner.specs.declared.boundary.Choice.{Choice}
use Rattle.move_planner.specs.Boundary.{one, count_marks, marked_early, marked_late, marked_wrong, AreQuiet, HasMarkedRoom, IsChosen, IsChosenTo, IsTallied, has_room, with_fitting, with_better}
use Rattle.move_planner.proofs.Unmarked.{count_on, count_behind}

-- one slot fewer
pub free_step : (slots : Slots) (at : ℕ) → at < length slots → free_behind at slots ≡ one (is_none (slot slots at)) + free_behind (at + 1) slots
free_step slots at inside = sum_by-drop_more (λ (held : Option ℕ). cond (is_none held) 1 0) slots at None inside

-- what a tally says of room
pub room_is : (slots : Slots) (sides : Sides) (tally : Tally) (cut : ℕ) → IsTallied slots sides tally cut → has_room tally ≡ true → HasMarkedRoom slots sides cut
room_is slots sides tally cut w e =
    let p = and_parts (nat_le tally.early (tally.free_behind + tally.late)) (nat_le tally.late (tally.free_before + tally.early)) e in
    let a = leb-true tally.early (tally.free_behind + tally.late) p.0 in let b = leb-true tally.late (tally.free_before + tally.early) p.1 in
    let x = w.early_is in let y = w.late_is in let u = w.before_is in let v = w.behind_is in
    record { room_behind = omega arith; room_before = omega arith }

pub room_said : (slots : Slots) (sides : Sides) (tally : Tally) (cut : ℕ) → IsTallied slots sides tally cut → HasMarkedRoom slots sides cut → has_room tally ≡ true
room_said slots sides tally cut w r =
    let a = r.room_behind in let b = r.room_before in
    let x = w.early_is in let y = w.late_is in let u = w.before_is in let v = w.behind_is in
    and_from (nat_le tally.early (tally.free_behind + tally.late)) (nat_le tally.late (tally.free_before + tally.early))
    (le-leb tally.early (tally.free_behind + tally.late) (omega arith)) (le-leb tally.late (tally.free_before + tally.early) (omega arith))

-- the choice among the boundaries before one
abbrev pub IsChosenBefore : Slots → Sides → ℕ → Option Choice → Type 0
IsChosenBefore slots sides cut choice = MatchOption choice ((other : ℕ) → sides.start ≤ other → other < cut → HasMarkedRoom slots sides other → ⊥) (λ made. (0 < cut) × IsChosen slots sides (cut - 1) made)

pub chosen_before : (slots : Slots) (sides : Sides) (cut : ℕ) (choice : Option Choice) → IsChosenTo slots sides cut choice → IsChosenBefore slots sides (cut + 1) choice
chosen_before slots sides cut None w = λ other low high room. w other low (omega arith) room
chosen_before slots sides cut (Some made) w = (omega arith, subst (λ n. IsChosen slots sides n made) (let z : cut ≡ cut + 1 - 1 = omega arith in z) w)

-- the choice before a boundary, with those from it on up to another, which have one tally: the last of them is the best
pub chosen_more : (slots : Slots) (sides : Sides) (tally : Tally) (choice : Option Choice) (cut next : ℕ) → ((other : ℕ) → cut ≤ other → other ≤ next → IsTallied slots sides tally other)
    → cut ≤ next → sides.start ≤ next → IsChosenBefore slots sides cut choice → IsChosenTo slots sides next (with_better choice tally next)
chosen_more slots sides tally choice cut next tallied order low chosen = elim (cases_Bool (has_room tally)) [
  | inr none ↦ subst (IsChosenTo slots sides next) (sym (cond-false _ _ _ none))
      (kept choice chosen (λ other a b r. both_ways _ none (room_said slots sides tally other (tallied other a b) r)))
  | inl fits ↦ subst (IsChosenTo slots sides next) (sym (cond-true _ _ _ fits)) (fitting choice chosen (room_is slots sides tally next last fits))
]
  where
    last : IsTallied slots sides tally next
    last = tallied next order (le_refl next)

    wrong : (other : ℕ) → cut ≤ other → other ≤ next → tally.early + tally.late ≡ marked_wrong sides other
    wrong other a b = let w = tallied other a b in let x = w.early_is in let y = w.late_is in omega arith

    sum : tally.early + tally.late ≡ marked_wrong sides next
    sum = wrong next order (le_refl next)

    kept : (choice : Option Choice) → IsChosenBefore slots sides cut choice → ((other : ℕ) → cut ≤ other → other ≤ next → HasMarkedRoom slots sides other → ⊥) → IsChosenTo slots sides next choice
    kept None w none = λ other a b r. elim (cases_lt other cut) [
      | inl l ↦ w other a l r
      | inr k ↦ none other k b r
    ]
    kept (Some c) w none = let some = w.0 in record {
      best = record {
        low = w.1.best.low;
        high = let h = w.1.best.high in omega arith;
        room = w.1.best.room;
        fewest = λ other a b r. elim (cases_lt other cut) [
          | inl l ↦ w.1.best.fewest other a (omega arith) r
          | inr k ↦ absurd (none other k b r)
        ];
        last = λ other a b r. elim (cases_lt other cut) [
          | inl l ↦ w.1.best.last other a (omega arith) r
          | inr k ↦ absurd (none other k b r)
        ];
      };
      wrong_is = w.1.wrong_is;
    }

    fitting : (choice : Option Choice) → IsChosenBefore slots sides cut choice → HasMarkedRoom slots sides next → IsChosenTo slots sides next (with_fitting choice tally next)
    fitting None w room = record {
      best = record {
        low = low;
        high = le_refl next;
        room = room;
        fewest = λ other a b r. elim (cases_lt other cut) [
          | inl l ↦ absurd (w other a l r)
          | inr k ↦ let e = wrong other k b in let s = sum in omega arith
        ];
        last = λ other a b r. absurd (omega arith);
      };
      wrong_is = sum;
    }
    fitting (Some c) w room = elim (cases_Bool (nat_lt c.wrong (tally.early + tally.late))) [
      | inl less ↦
          let l = ltb-true c.wrong (tally.early + tally.late) less in
          let some = w.0 in let n = w.1.wrong_is in
          subst (IsChosenTo slots sides next) (sym (cond-true _ _ _ less)) record {
            best = record {
              low = w.1.best.low;
              high = let h = w.1.best.high in omega arith;
              room = w.1.best.room;
              fewest = λ other a b r. elim (cases_lt other cut) [
                | inl before ↦ w.1.best.fewest other a (omega arith) r
                | inr k ↦ let e = wrong other k b in omega arith
              ];
              last = λ other a b r. elim (cases_lt other cut) [
                | inl before ↦ w.1.best.last other a (omega arith) r
                | inr k ↦ let e = wrong other k b in omega arith
              ];
            };
            wrong_is = w.1.wrong_is;
          }
      | inr most ↦
          let l = ltb-false c.wrong (tally.early + tally.late) most in
          let some = w.0 in let s = sum in let n = w.1.wrong_is in
          subst (IsChosenTo slots sides next) (sym (cond-false _ _ _ most)) record {
            best = record {
              low = low;
              high = le_refl next;
              room = room;
              fewest = λ other a b r. elim (cases_lt other cut) [
                | inl before ↦ let f = w.1.best.fewest other a (omega arith) r in omega arith
                | inr k ↦ let e = wrong other k b in omega arith
              ];
              last = λ other a b r. absurd (omega arith);
            };
            wrong_is = sum;
          }
    ]

-- a tally is of no more than the slots
pub tally_small : (slots : Slots) (sides : Sides) (tally : Tally) (cut : ℕ) → IsTallied slots sides tally cut → length slots ≤ most_slots → length sides.behind ≤ most_slots → length sides.before ≤ most_slots
    → (tally.early ≤ most_slots) × (tally.late ≤ most_slots) × (tally.free_before ≤ most_slots) × (tally.free_behind ≤ most_slots)
tally_small slots sides tally cut w few a b =
    let x = w.early_is in let y = w.late_is in let u = w.before_is in let v = w.behind_is in
    let p = sum_by-take-le (λ (mark : Bool). cond mark 1 0) sides.behind (cut - sides.start) in
    let p' = count_by-le-length (λ (mark : Bool). mark) sides.behind in
    let q = sum_by-take-drop (λ (mark : Bool). cond mark 1 0) sides.before (cut - sides.start) in
    let q' = count_by-le-length (λ (mark : Bool). mark) sides.before in
    let r = sum_by-take-drop (λ (held : Option ℕ). cond (is_none held) 1 0) slots cut in
    let r' = count_by-le-length (λ (held : Option ℕ). is_none held) slots in
    (omega arith, omega arith, omega arith, omega arith)

-- the first tally
pub tallied_first : (slots : Slots) (sides : Sides) (tally : Tally) → tally.early ≡ 0 → tally.late ≡ count_marks sides.before → tally.free_behind ≡ near_behind sides.end sides.start slots
    → tally.free_before ≡ min 2 (free_before sides.start slots) → IsTallied slots sides tally sides.start
tallied_first slots sides tally early late behind before =
    let zero_is : sides.start - sides.start ≡ 0 = omega arith in
    let a : marked_early sides sides.start ≡ 0 = ap (λ n. count_marks (take n sides.behind)) zero_is in
    let b : marked_late sides sides.start ≡ count_marks sides.before = ap (λ n. count_marks (drop n sides.before)) zero_is in
    record { early_is = omega arith; late_is = omega arith; before_is = omega arith; behind_is = behind }

pub free_parts : (slots : Slots) (start : ℕ) → free_before start slots + free_behind start slots ≡ count_by (λ (held : Option ℕ). is_none held) slots
free_parts slots start = sum_by-take-drop (λ (held : Option ℕ). cond (is_none held) 1 0) slots start

-- one slot further
pub tallied_more : (slots : Slots) (sides : Sides) (tally next : Tally) (at : ℕ) (late early : Bool) → IsTallied slots sides tally at → sides.start ≤ at → at < sides.end → sides.end ≤ length slots
    → length sides.behind ≡ sides.end - sides.start → length sides.before ≡ sides.end - sides.start
    → early ≡ slice_index_or sides.behind (at - sides.start) false → late ≡ slice_index_or sides.before (at - sides.start) false
    → next.early ≡ tally.early + one early → next.late ≡ tally.late - one late
    → next.free_before ≡ tally.free_before + one (is_none (slot slots at)) → next.free_behind ≡ tally.free_behind - one (is_none (slot slots at))
    → IsTallied slots sides next (at + 1)
tallied_more slots sides tally next at late early w low high inside many many' early_at late_at e l b f =
    let on : at + 1 - sides.start ≡ at - sides.start + 1 = omega arith in
    let x = w.early_is in let y = w.late_is in let u = w.before_is in let v = w.behind_is in
    let p : count_marks (take (at - sides.start + 1) sides.behind) ≡ count_marks (take (at - sides.start) sides.behind) + one (slice_index_or sides.behind (at - sides.start) false) =
    sum_by_more (λ (mark : Bool). cond mark 1 0) sides.behind (at - sides.start) false (omega arith) in
    let p' : marked_early sides (at + 1) ≡ count_marks (take (at - sides.start + 1) sides.behind) = ap (λ n. count_marks (take n sides.behind)) on in
    let p'' : one early ≡ one (slice_index_or sides.behind (at - sides.start) false) = ap one early_at in
    let q : count_marks (drop (at - sides.start) sides.before) ≡ one (slice_index_or sides.before (at - sides.start) false) + count_marks (drop (at - sides.start + 1) sides.before) =
    sum_by-drop_more (λ (mark : Bool). cond mark 1 0) sides.before (at - sides.start) false (omega arith) in
    let q' : marked_late sides (at + 1) ≡ count_marks (drop (at - sides.start + 1) sides.before) = ap (λ n. count_marks (drop n sides.before)) on in
    let q'' : one late ≡ one (slice_index_or sides.before (at - sides.start) false) = ap one late_at in
    let r = free_step slots at (omega arith) in
    let s : free_before (at + 1) slots ≡ free_before at slots + one (is_none (slot slots at)) = sum_by_more (λ (held : Option ℕ). cond (is_none held) 1 0) slots at None (omega arith) in
    let m = before_rises slots sides.start at low (omega arith) in
    let n = behind_falls slots (at + 1) sides.end (omega arith) inside in
    record { early_is = omega arith; late_is = omega arith; before_is = omega arith; behind_is = omega arith }

-- past slots that are neither marked nor free
pub tallied_on : (slots : Slots) (sides : Sides) (tally : Tally) (cut next : ℕ) → IsTallied slots sides tally cut → sides.start ≤ cut → cut ≤ next → next ≤ sides.end → sides.end ≤ length slots
    → length sides.behind ≡ sides.end - sides.start → length sides.before ≡ sides.end - sides.start → AreQuiet slots sides cut next → IsTallied slots sides tally next
tallied_on slots sides tally cut next w low order high inside many many' quiet =
    let back : (at : ℕ) → sides.start + at - sides.start ≡ at = λ at. omega arith in
    let x = w.early_is in let y = w.late_is in let u = w.before_is in let v = w.behind_is in
    let early = count_on Bool (λ mark. mark) sides.behind false (cut - sides.start) (next - sides.start) (omega arith) (omega arith)
    (λ at a b. ap (λ n. slice_index_or sides.behind n false) (sym (back at)) ∙ quiet.no_behind (sides.start + at) (omega arith) (omega arith)) in
    let late = count_behind Bool (λ mark. mark) sides.before false (cut - sides.start) (next - sides.start) (omega arith) (omega arith)
    (λ at a b. ap (λ n. slice_index_or sides.before n false) (sym (back at)) ∙ quiet.no_before (sides.start + at) (omega arith) (omega arith)) in
    let before = count_on (Option ℕ) (λ held. is_none held) slots None cut next order (omega arith) quiet.no_free in
    let behind = count_behind (Option ℕ) (λ held. is_none held) slots None cut next order (omega arith) quiet.no_free in
    record { early_is = omega arith; late_is = omega arith; before_is = omega arith; behind_is = omega arith }

-- and so past a part of them
pub tallied_within : (slots : Slots) (sides : Sides) (tally : Tally) (cut next other : ℕ) → IsTallied slots sides tally cut → sides.start ≤ cut → cut ≤ other → other ≤ next → next ≤ sides.end → sides.end ≤ length slots
    → length sides.behind ≡ sides.end - sides.start → length sides.before ≡ sides.end - sides.start → AreQuiet slots sides cut next → IsTallied slots sides tally other
tallied_within slots sides tally cut next other w low order part high inside many many' quiet = tallied_on slots sides tally cut other w low order (omega arith) inside many many' record {
  no_behind = λ at a b. quiet.no_behind at a (omega arith);
  no_before = λ at a b. quiet.no_before at a (omega arith);
  no_free = λ at a b. quiet.no_free at a (omega arith);
}
