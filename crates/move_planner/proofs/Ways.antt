-- The chain that makes way for a new id whose gap is full.
use Rattle.std.proofs.Common.{◌≡◌, ℕ, zero, suc, ◌+◌, ◌<◌, ◌≤◌, true, false, ◌&&◌, Bool, Option, None, Some, length, filter, inl, inr, arith, refl, sym, ◌∙◌, ap}
use Rattle.std.specs.Prelude.{nat_lt, nat_le, is_none, IfSome}
use Rattle.std.specs.List.{range_with_len}
use Rattle.std.specs.Int.{abs_diff}
use Rattle.std.specs.Option.{unwrap_or}
use Rattle.std.proofs.lemmas.Bool.{cases_Bool, cases_lt, cases_eq, cond-true, cond-false, and_from, lt-ltb, le-leb}
use Rattle.slot_order.specs.Order.{slot}
use Rattle.slot_order.proofs.Writes.{slot_inside}
use Rattle.slot_pool.specs.Arrangement.{Slots, is_free, is_free_within, nearest, nearer, next_free_above, last_free_below}
use Rattle.slot_pool.proofs.Places.{find_range_none}
use Rattle.slot_pool.proofs.Scan.{find_back_none, next_free_is, last_free_is}
use Rattle.placement.specs.Live.{LivePieces, is_above}
use Rattle.move_planner.specs.declared.chains.Chain.{Chain}
use Rattle.move_planner.specs.declared.shorter.Ends.{Ends}
use Rattle.placement.specs.Placement.{first_lower, last_upper, next_slot, gap_start, gap_end, aimed_at}
use Rattle.placement.specs.Ready.{CanShift, IsReady}
use Rattle.move_planner.specs.Steps.{IsFull, CanGoDown, CanGoUp, IsShorter, IsWay, ends_at, ends_down, ends_up}
use Rattle.move_planner.proofs.Shifted.{free_somewhere}
use Rattle.move_planner.proofs.Turned.{low_at, high_at, down_shifts, up_shifts}

-- what the ends of a chain say
abbrev ends_of : ℕ → ℕ → Ends
ends_of from free = record { from = from; free = free }

ends_at_is : (from : ℕ) (free : Option ℕ) (ends : Ends) → ends_at from free ≡ Some ends → (from ≡ ends.from) × (free ≡ Some ends.free)
ends_at_is from None ends is = let k : None ≡ Some ends = is in absurd (cc)
ends_at_is from (Some at) ends is =
    let z : ends_of from at ≡ ends = (let k : Some (ends_of from at) ≡ Some ends = is in cc) in
    (ap (λ (e : Ends). e.from) z, ap (λ (e : Ends). Some e.free) z)

ends_down_is : (slots : Slots) (low : Option ℕ) (ends : Ends) → ends_down slots low ≡ Some ends → (low ≡ Some ends.from) × (next_free_above slots ends.from ≡ Some ends.free)
ends_down_is slots None ends is = let k : None ≡ Some ends = is in absurd (cc)
ends_down_is slots (Some lower) ends is =
    let h = ends_at_is lower (next_free_above slots lower) ends is in (ap Some h.0, ap (next_free_above slots) (sym h.0) ∙ h.1)

ends_up_is : (slots : Slots) (high : Option ℕ) (ends : Ends) → ends_up slots high ≡ Some ends → (high ≡ Some ends.from) × (last_free_below slots ends.from ≡ Some ends.free)
ends_up_is slots None ends is = let k : None ≡ Some ends = is in absurd (cc)
ends_up_is slots (Some upper) ends is =
    let h = ends_at_is upper (last_free_below slots upper) ends is in (ap Some h.0, ap (last_free_below slots) (sym h.0) ∙ h.1)

-- the way can move
pub way_shifts : (index : LivePieces) (id : ℕ) (slots : Slots) (chain : Chain) → IsReady index id slots → IsWay (is_above index.live) slots id chain
    → CanShift slots chain.free chain.members.items
way_shifts index id slots chain ready (inl w) =
    let h = low_at index id slots w.lower ready w.low in
    down_shifts index id slots w.lower w.lower h.lower chain ready h.stands w.down
way_shifts index id slots chain ready (inr w) =
    let h = high_at index id slots w.upper ready w.high in
    up_shifts index id slots w.upper w.upper h.upper chain ready h.stands w.up

-- where a place passes, some place is nearest
pub nearest_some : (mid : ℕ) (test : ℕ → Bool) (from size j : ℕ) → from ≤ j → j < from + size → test j ≡ true → nearest mid (filter test (range_with_len from size)) ≡ None → ⊥
nearest_some mid test from zero j a b t e = omega arith
nearest_some mid test from (suc size) j a b t e = elim (cases_Bool (test from)) [
  | inl hit ↦ never (nearest mid (filter test (range_with_len (from + 1) size))) (sym (ap (nearest mid) (cond-true _ _ _ hit)) ∙ e)
  | inr miss ↦ nearest_some mid test (from + 1) size j (later miss) (omega arith) t (sym (ap (nearest mid) (cond-false _ _ _ miss)) ∙ e)
]
  where
    never : (found : Option ℕ) → nearer mid from found ≡ None → ⊥
    never None k = let z : Some from ≡ None = k in cc
    never (Some later) k = elim (cases_Bool (nat_lt (abs_diff later mid) (abs_diff from mid))) [
      | inl y ↦ let z : Some later ≡ None = sym (cond-true _ _ _ y) ∙ k in cc
      | inr n ↦ let z : Some from ≡ None = sym (cond-false _ _ _ n) ∙ k in cc
    ]

    later : test from ≡ false → from + 1 ≤ j
    later miss = elim (cases_eq from j) [
      | inl same ↦ absurd (let k : test from ≡ true = ap test same ∙ t in let z : true ≡ false = sym k ∙ miss in cc)
      | inr other ↦ omega arith
    ]

no_free : (from : ℕ) (free : Option ℕ) → ends_at from free ≡ None → free ≡ None
no_free from None is = refl
no_free from (Some at) is = absurd (let k : Some (ends_of from at) ≡ None = is in cc)

-- with an empty slot and none in the gap, one of the two chains has its ends
some_ends : (index : LivePieces) (id : ℕ) (slots : Slots) → IsReady index id slots → IsFull (is_above index.live) slots id
    → ends_down slots (first_lower (is_above index.live) slots id) ≡ None → ends_up slots (last_upper (is_above index.live) slots id) ≡ None → ⊥
some_ends index id slots ready full d u = elim (cases_lt w.0 start) [
  | inl before ↦ below (last_upper (is_above index.live) slots id) refl u before
  | inr m ↦ elim (cases_lt w.0 end) [
    | inl l ↦ nearest_some (aimed_at full.0 start end) (λ at. is_free_within slots start end at) 0 (length slots) w.0 (omega arith) (let i = w.1 in omega arith)
        (and_from (nat_le start w.0 && nat_lt w.0 end) (is_free slots w.0) (and_from (nat_le start w.0) (nat_lt w.0 end) (le-leb start w.0 m) (lt-ltb w.0 end l)) free) full.1
    | inr past ↦ beyond (first_lower (is_above index.live) slots id) refl d past
  ]
]
  where
    start : ℕ
    start = gap_start (is_above index.live) slots id

    end : ℕ
    end = gap_end (is_above index.live) slots id

    w : (at : ℕ) × (at < length slots) × (slot slots at ≡ None)
    w = free_somewhere slots ready.free

    free : is_free slots w.0 ≡ true
    free = ap is_none w.2

    below : (high : Option ℕ) → last_upper (is_above index.live) slots id ≡ high → ends_up slots high ≡ None → w.0 < next_slot high → ⊥
    below None e f l = omega arith
    below (Some upper) e f l =
        let h = high_at index id slots upper ready e in
        elim (cases_lt w.0 upper) [
          | inl less ↦
              let i = w.1 in
              let k : nat_lt w.0 upper && is_free slots w.0 ≡ false = find_back_none (λ other. nat_lt other upper && is_free slots other) 0 (length slots) (no_free _ _ f) w.0 (omega arith) (omega arith) in
              let y = and_from (nat_lt w.0 upper) (is_free slots w.0) (lt-ltb w.0 upper less) free in
              let z : true ≡ false = sym y ∙ k in cc
          | inr more ↦ let same : w.0 ≡ upper = omega arith in let z : None ≡ Some h.upper = sym w.2 ∙ (ap (slot slots) same ∙ h.stands) in cc
        ]

    beyond : (low : Option ℕ) → first_lower (is_above index.live) slots id ≡ low → ends_down slots low ≡ None → unwrap_or low (length slots) ≤ w.0 → ⊥
    beyond None e f l = let i = w.1 in omega arith
    beyond (Some lower) e f l =
        let h = low_at index id slots lower ready e in
        elim (cases_lt lower w.0) [
          | inl more ↦
              let i = w.1 in
              let k : nat_lt lower w.0 && is_free slots w.0 ≡ false = find_range_none (λ other. nat_lt lower other && is_free slots other) 0 (length slots) (no_free _ _ f) w.0 (omega arith) (omega arith) in
              let y = and_from (nat_lt lower w.0) (is_free slots w.0) (lt-ltb lower w.0 more) free in
              let z : true ≡ false = sym y ∙ k in cc
          | inr less ↦ let same : w.0 ≡ lower = omega arith in let z : None ≡ Some h.lower = sym w.2 ∙ (ap (slot slots) same ∙ h.stands) in cc
        ]

module _ (index : LivePieces) (id : ℕ) (slots : Slots) (low high : Option ℕ) (low_is : low ≡ first_lower (is_above index.live) slots id) (high_is : high ≡ last_upper (is_above index.live) slots id) where
  -- where a chain may begin
  pub low_inside : IsReady index id slots → IfSome low (λ at. at < length slots)
  low_inside ready = go low refl
    where
      go : (found : Option ℕ) → low ≡ found → IfSome found (λ at. at < length slots)
      go None e = tt
      go (Some at) e = let h = low_at index id slots at ready (sym low_is ∙ e) in slot_inside slots at h.lower h.stands

  pub high_inside : IsReady index id slots → IfSome high (λ at. at < length slots)
  high_inside ready = go high refl
    where
      go : (found : Option ℕ) → high ≡ found → IfSome found (λ at. at < length slots)
      go None e = tt
      go (Some at) e = let h = high_at index id slots at ready (sym high_is ∙ e) in slot_inside slots at h.upper h.stands

  pub can_go_down : (down : Option Ends) → IsReady index id slots → down ≡ ends_down slots low → IfSome down (CanGoDown slots)
  can_go_down None ready is = tt
  can_go_down (Some ends) ready is =
      let e = ends_down_is slots low ends (sym is) in
      let h = low_at index id slots ends.from ready (sym low_is ∙ e.0) in
      let f = next_free_is slots ends.from ends.free e.1 in
      (f.0, f.1.inside, (h.lower, h.stands))

  pub can_go_up : (up : Option Ends) → IsReady index id slots → up ≡ ends_up slots high → IfSome up (CanGoUp slots)
  can_go_up None ready is = tt
  can_go_up (Some ends) ready is =
      let e = ends_up_is slots high ends (sym is) in
      let h = high_at index id slots ends.from ready (sym high_is ∙ e.0) in
      ((last_free_is slots ends.from ends.free e.1).0, (h.upper, h.stands))

  -- the shorter one is the way
  pub way_is : (down up : Option Ends) (chain : Chain) → down ≡ ends_down slots low → up ≡ ends_up slots high → IsShorter (is_above index.live) slots down up chain
      → IsWay (is_above index.live) slots id chain
  way_is down up chain d u (inl s) =
      let e = ends_down_is slots low s.ends (sym d ∙ s.begins) in
      inl (record {
        lower = s.ends.from;
        low = sym low_is ∙ e.0;
        down = record { rest = s.goes.rest; to = e.1 ∙ s.goes.to; members = s.goes.members; follows = s.goes.follows };
        shortest = λ upper is way.
            s.shortest (ends_of upper way.free) (u ∙ (ap (ends_up slots) (high_is ∙ is) ∙ ap (ends_at upper) way.to)) way.rest way.chain;
      })
  way_is down up chain d u (inr s) =
      let e = ends_up_is slots high s.ends (sym u ∙ s.begins) in
      inr (record {
        upper = s.ends.from;
        high = sym high_is ∙ e.0;
        up = record { rest = s.goes.rest; to = e.1 ∙ s.goes.to; members = s.goes.members; follows = s.goes.follows };
        shortest = λ lower is way.
            s.shortest (ends_of lower way.free) (d ∙ (ap (ends_down slots) (low_is ∙ is) ∙ ap (ends_at lower) way.to)) way.rest way.chain;
      })

  -- with an empty slot and none in the gap, there is one
  pub some_way : (down up : Option Ends) → IsReady index id slots → IsFull (is_above index.live) slots id → down ≡ ends_down slots low → up ≡ ends_up slots high
      → down ≡ None → up ≡ None → ⊥
  some_way down up ready full d u no_down no_up =
      some_ends index id slots ready full (ap (ends_down slots) (sym low_is) ∙ (sym d ∙ no_down)) (ap (ends_up slots) (sym high_is) ∙ (sym u ∙ no_up))
