-- Where ids were told to stand: the bounds of a gap by that.
use Rattle.std.proofs.Common.{◌≡◌, ℕ, ◌+◌, ◌<◌, ◌≤◌, Bool, true, false, Option, None, Some, List, [], ◌∷◌, Contains, length, find, inl, inr, arith, refl, sym, ◌∙◌, ap, ap₂, subst}
use Rattle.std.specs.Prelude.{◌==◌, is_some, slice_set}
use Rattle.std.proofs.Math.Path.{fun_ext}
use Rattle.std.proofs.lemmas.List.{get_or-set_same, get_or-set_other, length-set, set_past}
use Rattle.std.specs.List.{range_with_len}
use Rattle.std.specs.Option.{unwrap_or}
use Rattle.std.proofs.lemmas.Bool.{both_ways, cases_eq, cases_lt, eq-eqb, ne_eqb, false_from_ne_true}
use Rattle.slot_order.specs.Order.{slot}
use Rattle.slot_order.proofs.Lists.{contains_head, contains_tail}
use Rattle.slot_order.proofs.Writes.{slot_inside}
use Rattle.slot_pool.specs.Arrangement.{Slots, passes, home_of}
use Rattle.slot_pool.proofs.Places.{first_slot_is, find_range_none}
use Rattle.slot_pool.proofs.Scan.{last_slot_is}
use Rattle.slot_pool.proofs.Finds.{found_first, found_none, found_last, found_none_back}
use Rattle.slot_pool.proofs.SlotSums.{passes_is as held_is}
use Rattle.placement.specs.Live.{Homes, IsLastTold, IsNextTold, LivePieces, home_in, is_above, is_live}
use Rattle.placement.specs.declared.Move.{Move}
use Rattle.placement.specs.declared.Move.TheVariants.{Put, Erase}
use Rattle.move_planner.specs.Noted.{IsNamed, as_held, backs_of}
use Rattle.placement.specs.Placement.{Above, after_moves, IsInOrder, first_lower, last_upper, gap_start, gap_end, next_slot}
use Rattle.placement.specs.Ready.{IsTold}
use Rattle.placement.proofs.Above.{above_is, is_live_from}
use Rattle.placement.proofs.Chain.{passes_is}
use Rattle.placement.proofs.Planner.{IsRanked}
use Rattle.placement.proofs.Orders.{stands_first}
use Rattle.placement.proofs.Readied.{start_inside}

-- where nothing is told all is told right
pub untold : (index : LivePieces) (slots : Slots) → index.told ≡ None → IsTold index slots
untold index slots none homes is id live closed = absurd (cc (none, is))

pub some_told : (told : Option Homes) → is_some told ≡ true → (homes : Homes) × (told ≡ Some homes)
some_told None is = absurd (cc)
some_told (Some homes) is = (homes, refl)

-- an id that stands has a home, which isn't behind
pub record HomeAt (slots : Slots) (id at : ℕ) : Type 0 where
  pub home : ℕ
  pub is : home_of slots id ≡ Some home
  pub holds : slot slots home ≡ Some id
  pub low : home ≤ at

holds_own : (held : Option ℕ) (id : ℕ) → held ≡ Some id → passes (λ other. other == id) held ≡ true
holds_own held id is = subst (λ h. passes (λ other. other == id) h ≡ true) (sym is) (eq-eqb id id refl)

pub home_at : (slots : Slots) (id at : ℕ) → slot slots at ≡ Some id → HomeAt slots id at
home_at slots id at here = by (home_of slots id) refl
  where
    inside : at < length slots
    inside = slot_inside slots at id here

    by : (found : Option ℕ) → home_of slots id ≡ found → HomeAt slots id at
    by None is = absurd (both_ways _ (find_range_none (λ k. passes (λ other. other == id) (slot slots k)) 0 (length slots) is at (omega arith) (let l = inside in omega arith)) (holds_own (slot slots at) id here))
    by (Some home) is =
        let f = first_slot_is (λ other. other == id) slots home is in
        record {
          home = home;
          is = is;
          holds = held_is (slot slots home) id f.passing;
          low = elim (cases_lt at home) [
            | inl less ↦ absurd (both_ways _ (f.none_before at (omega arith) less) (holds_own (slot slots at) id here))
            | inr le ↦ le
          ];
        }

home_holds : (slots : Slots) (id home : ℕ) → home_of slots id ≡ Some home → slot slots home ≡ Some id
home_holds slots id home is = held_is (slot slots home) id (first_slot_is (λ other. other == id) slots home is).passing

-- a write of a slot that neither held an id nor holds it leaves its home
misses : (held : Option ℕ) (id : ℕ) → (held ≡ Some id → ⊥) → passes (λ other. other == id) held ≡ false
misses None id off = refl
misses (Some other) id off = ne_eqb other id (λ same. off (ap Some same))

pub home_other : (slots : Slots) (at id : ℕ) (new : Option ℕ) → (slot slots at ≡ Some id → ⊥) → (new ≡ Some id → ⊥) → home_of (slice_set slots at new) id ≡ home_of slots id
home_other slots at id new was now =
    ap₂ (λ (test : ℕ → Bool) (n : ℕ). find test (range_with_len 0 n)) (fun_ext same) (length-set slots at new)
  where
    written : (slot (slice_set slots at new) at ≡ Some id) → ⊥
    written is = elim (cases_lt at (length slots)) [
      | inl inside ↦ now (sym (get_or-set_same slots at new None inside) ∙ is)
      | inr past ↦ was (sym (ap (λ (s : Slots). slot s at) (set_past slots at new past)) ∙ is)
    ]

    same : (k : ℕ) → passes (λ other. other == id) (slot (slice_set slots at new) k) ≡ passes (λ other. other == id) (slot slots k)
    same k = elim (cases_eq k at) [
      | inl here ↦ subst (λ n. passes (λ other. other == id) (slot (slice_set slots at new) n) ≡ passes (λ other. other == id) (slot slots n)) (sym here)
          (misses (slot (slice_set slots at new) at) id written ∙ sym (misses (slot slots at) id was))
      | inr off ↦ ap (passes (λ other. other == id)) (get_or-set_other slots at k new None off)
    ]

-- so do moves that don't name it, where what puts them back doesn't either
pub unnamed : (slots : Slots) (moves : List Move) (id : ℕ) → (IsNamed moves id → ⊥) → (IsNamed (backs_of slots moves) id → ⊥) → home_of (after_moves slots moves) id ≡ home_of slots id
unnamed slots [] id off back = refl
unnamed slots (Put at new ∷ moves) id off back =
    unnamed (slice_set slots at (Some new)) moves id (λ n. off (n.0, contains_tail (Put at new) (Put n.0 id) moves n.1))
    (λ n. back (n.0, contains_tail (as_held at (slot slots at)) (Put n.0 id) (backs_of (slice_set slots at (Some new)) moves) n.1))
    ∙ home_other slots at id (Some new)
    (λ is. back (at, subst (λ (held : Option ℕ). Contains (as_held at held ∷ backs_of (slice_set slots at (Some new)) moves) (Put at id)) (sym is) (contains_head (Put at id) (backs_of (slice_set slots at (Some new)) moves))))
    (λ is. let same : new ≡ id = cc (is) in off (at, subst (λ n. Contains (Put at new ∷ moves) (Put at n)) same (contains_head (Put at new) moves)))
unnamed slots (Erase at ∷ moves) id off back =
    unnamed (slice_set slots at None) moves id (λ n. off (n.0, contains_tail (Erase at) (Put n.0 id) moves n.1))
    (λ n. back (n.0, contains_tail (as_held at (slot slots at)) (Put n.0 id) (backs_of (slice_set slots at None) moves) n.1))
    ∙ home_other slots at id None
    (λ is. back (at, subst (λ (held : Option ℕ). Contains (as_held at held ∷ backs_of (slice_set slots at None) moves) (Put at id)) (sym is) (contains_head (Put at id) (backs_of (slice_set slots at None) moves))))
    (λ is. absurd (cc (is)))

upper_live : (index : LivePieces) (upper lower : ℕ) → is_above index.live upper lower ≡ true → is_live index.live upper ≡ true
upper_live index upper lower e = let over = above_is index.live upper lower e in subst (λ k. is_live index.live k ≡ true) over.upper_id (is_live_from index.live over.upper over.has_upper)

lower_live : (index : LivePieces) (upper lower : ℕ) → is_above index.live upper lower ≡ true → is_live index.live lower ≡ true
lower_live index upper lower e = let over = above_is index.live upper lower e in subst (λ k. is_live index.live k ≡ true) over.lower_id (is_live_from index.live over.lower over.has_lower)

passing : (test : ℕ → Bool) (held : Option ℕ) (id : ℕ) → held ≡ Some id → test id ≡ true → passes test held ≡ true
passing test held id is pass = subst (λ h. passes test h ≡ true) (sym is) pass

module _ (index : LivePieces) (slots : Slots) (homes : Homes) (id : ℕ) (has : index.told ≡ Some homes) (told : IsTold index slots) where
  told_home : (other : ℕ) → is_live index.live other ≡ true → home_in homes other ≡ home_of slots other
  told_home other live = told homes has other live (λ none. none)

  -- the greatest slot that was told of an upper id is the last one
  pub told_upper : (found : Option ℕ) → ((i j other : ℕ) → slot slots i ≡ Some other → slot slots j ≡ Some other → i ≡ j)
      → IsLastTold (λ other. is_above index.live other id) homes found → found ≡ last_upper (is_above index.live) slots id
  told_upper None once none = sym (found_none_back (λ at. passes (λ other. is_above index.live other id) (slot slots at)) 0 (length slots) (λ j low high. false_from_ne_true _ (λ e.
      let p = passes_is (λ other. is_above index.live other id) (slot slots j) e in
      let home = home_at slots p.id j p.stands in
      none home.home (p.id, p.passing, told_home p.id (upper_live index p.id id p.passing) ∙ home.is))))
  told_upper (Some last) once ((upper, above, at), most) =
      let here = home_holds slots upper last (sym (told_home upper (upper_live index upper id above)) ∙ at) in
      sym (found_last (λ k. passes (λ other. is_above index.live other id) (slot slots k)) 0 (length slots) last record {
        low = omega arith;
        inside = (let k = slot_inside slots last upper here in omega arith);
        passing = passing (λ other. is_above index.live other id) (slot slots last) upper here above;
        none_after = λ k behind inside. false_from_ne_true _ (λ e.
            let p = passes_is (λ other. is_above index.live other id) (slot slots k) e in
            let home = home_at slots p.id k p.stands in
            let same = once home.home k p.id home.holds p.stands in
            let le = most home.home (p.id, p.passing, told_home p.id (upper_live index p.id id p.passing) ∙ home.is) in
            absurd (omega arith));
      })

  -- of the lower ids that above all others stands first
  pub told_lower : (found : Option ℕ) → IsInOrder (is_above index.live) slots → IsNextTold (is_above index.live) homes id found → found ≡ first_lower (is_above index.live) slots id
  told_lower None order none = sym (found_none (λ at. passes (λ other. is_above index.live id other) (slot slots at)) 0 (length slots) (λ j low high. false_from_ne_true _ (λ e.
      let p = passes_is (λ other. is_above index.live id other) (slot slots j) e in
      let home = home_at slots p.id j p.stands in
      none home.home (p.id, p.passing, told_home p.id (lower_live index id p.id p.passing) ∙ home.is))))
  told_lower (Some near) order n =
      let here = home_holds slots n.next near (sym (told_home n.next (lower_live index id n.next n.below)) ∙ n.stands) in
      sym (found_first (λ k. passes (λ other. is_above index.live id other) (slot slots k)) 0 (length slots) near record {
        low = omega arith;
        inside = (let k = slot_inside slots near n.next here in omega arith);
        passing = passing (λ other. is_above index.live id other) (slot slots near) n.next here n.below;
        none_before = λ k low less. false_from_ne_true _ (λ e.
            let p = passes_is (λ other. is_above index.live id other) (slot slots k) e in
            let home = home_at slots p.id k p.stands in
            let le = home.low in
            elim (n.first p.id home.home p.passing (told_home p.id (lower_live index id p.id p.passing) ∙ home.is)) [
              | inl same ↦
                  let other : Some home.home ≡ Some near = sym home.is ∙ (ap (home_of slots) same ∙ (sym (told_home n.next (lower_live index id n.next n.below)) ∙ n.stands)) in
                  let at : home.home ≡ near = cc (other) in absurd (omega arith)
              | inr over ↦ absurd (both_ways _ (order k near p.id n.next less p.stands here) over)
            ]);
      })

-- where above is transitive nothing crosses
pub straight : (above : Above) (rank : ℕ → ℕ) (slots : Slots) (id : ℕ) → IsRanked above rank → IsInOrder above slots → ((a b c : ℕ) → above a b ≡ true → above b c ≡ true → above a c ≡ true)
    → gap_start above slots id ≤ gap_end above slots id
straight above rank slots id ranked order nested = by (last_upper above slots id) (first_lower above slots id) refl refl
  where
    by : (upper lower : Option ℕ) → last_upper above slots id ≡ upper → first_lower above slots id ≡ lower → gap_start above slots id ≤ gap_end above slots id
    by None lower is_upper is_lower = let start : gap_start above slots id ≡ 0 = ap next_slot is_upper in omega arith
    by (Some upper) None is_upper is_lower =
        let end : gap_end above slots id ≡ length slots = ap (λ o. unwrap_or o (length slots)) is_lower in
        let inside = start_inside above slots id in omega arith
    by (Some upper) (Some lower) is_upper is_lower =
        let start : gap_start above slots id ≡ upper + 1 = ap next_slot is_upper in
        let end : gap_end above slots id ≡ lower = ap (λ o. unwrap_or o (length slots)) is_lower in
        let p = passes_is (λ other. above other id) (slot slots upper) (last_slot_is (λ other. above other id) slots upper is_upper).passing in
        let q = passes_is (λ other. above id other) (slot slots lower) (first_slot_is (λ other. above id other) slots lower is_lower).passing in
        let less = stands_first above rank slots upper lower p.id q.id ranked order p.stands q.stands (nested p.id id q.id p.passing q.passing) in
        omega arith
