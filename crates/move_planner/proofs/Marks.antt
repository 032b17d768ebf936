-- Marks of the slots of some ids.
use Rattle.std.proofs.Common.{◌≡◌, ℕ, ◌-◌, ◌≤◌, Bool, true, false, Option, None, Some, List, [], ◌++◌, length, replicate, ◌↔◌, Contains, inl, inr, arith, refl, ◌∙◌, ap}
use Rattle.std.specs.Prelude.{◌==◌, nat_le, slice_index_or}
use Rattle.std.proofs.lemmas.Bool.{and_parts, and_from, le-leb, eqb-true, eq-eqb, leb-true, both_ways, cases_lt}
use Rattle.std.proofs.lemmas.List.{get_or-replicate, get_or_past, length-replicate}
use Rattle.std.proofs.lemmas.List.Elements.{Contains-append_cases, Contains-append_left, Contains-append_right}
use Rattle.slot_order.specs.Order.{slot}
use Rattle.slot_order.proofs.Writes.{slot_inside}
use Rattle.slot_order.proofs.Lists.{contains_none}
use Rattle.slot_pool.specs.Arrangement.{Slots, passes, home_of}
use Rattle.slot_pool.proofs.Places.{first_slot_is, find_range_none}
use Rattle.move_planner.specs.Steps.{AreMarked, AreReached, is_marked}
use Rattle.placement.proofs.Chain.{passes_is}

-- the home of an id that stands once
pub home_is : (slots : Slots) (id at : ℕ) → ((i j other : ℕ) → slot slots i ≡ Some other → slot slots j ≡ Some other → i ≡ j) → slot slots at ≡ Some id → home_of slots id ≡ Some at
home_is slots id at once stands = go (home_of slots id) refl
  where
    go : (found : Option ℕ) → home_of slots id ≡ found → found ≡ Some at
    go None e =
        let inside = slot_inside slots at id stands in
        let k = find_range_none (λ place. passes (λ held. held == id) (slot slots place)) 0 (length slots) e at (omega arith) (omega arith) in
        let y : passes (λ held. held == id) (slot slots at) ≡ true = ap (passes (λ held. held == id)) stands ∙ eq-eqb id id refl in
        absurd (both_ways _ k y)
    go (Some place) e =
        let f = first_slot_is (λ held. held == id) slots place e in
        let p = passes_is (λ held. held == id) (slot slots place) f.passing in
        let same : p.id ≡ id = eqb-true p.id id p.passing in
        ap Some (once place at id (p.stands ∙ ap Some same) stands)

pub stands_at : (slots : Slots) (id at : ℕ) → home_of slots id ≡ Some at → slot slots at ≡ Some id
stands_at slots id at e =
    let f = first_slot_is (λ held. held == id) slots at e in
    let p = passes_is (λ held. held == id) (slot slots at) f.passing in
    p.stands ∙ ap Some (eqb-true p.id id p.passing)

-- the slot is marked
abbrev pub Hit : List Bool → ℕ → ℕ → Type 0
Hit marks start at = is_marked at start marks ≡ true

pub hit_low : (marks : List Bool) (start at : ℕ) → Hit marks start at → start ≤ at
hit_low marks start at e = leb-true start at (and_parts (nat_le start at) (slice_index_or marks (at - start) false) e).0

pub hit_is : (marks : List Bool) (start at : ℕ) → Hit marks start at → slice_index_or marks (at - start) false ≡ true
hit_is marks start at e = (and_parts (nat_le start at) (slice_index_or marks (at - start) false) e).1

pub hit_from : (marks : List Bool) (start at : ℕ) → start ≤ at → slice_index_or marks (at - start) false ≡ true → Hit marks start at
hit_from marks start at low e = and_from (nat_le start at) (slice_index_or marks (at - start) false) (le-leb start at low) e

-- no mark yet
pub no_hit : (count start at : ℕ) → Hit (replicate count false) start at → ⊥
no_hit count start at e = both_ways _ unset (hit_is (replicate count false) start at e)
  where
    unset : slice_index_or (replicate count false) (at - start) false ≡ false
    unset = elim (cases_lt (at - start) count) [
      | inl inside ↦ get_or-replicate count (at - start) false false inside
      | inr past ↦ let n = length-replicate count false in get_or_past (replicate count false) (at - start) false (omega arith)
    ]

-- nothing to mark
pub marked_none : (slots : Slots) (start : ℕ) (marks : List Bool) → AreMarked slots start [] marks marks
marked_none slots start marks = record {
  many = refl;
  kept = λ at e. e;
  told = λ at id c home low high. absurd (contains_none id c);
  only = λ at e. inl e;
}

-- some ids, and then more
pub marked_more : (slots : Slots) (start : ℕ) (ids more : List ℕ) (a b c : List Bool) → AreMarked slots start ids a b → AreMarked slots start more b c → AreMarked slots start (ids ++ more) a c
marked_more slots start ids more a b c m n = record {
  many = n.many ∙ m.many;
  kept = λ at e. n.kept at (m.kept at e);
  told = λ at id i home low high. elim (Contains-append_cases ids more id i) [
    | inl old ↦ n.kept at (m.told at id old home low high)
    | inr new ↦ let k = m.many in n.told at id new home low (omega arith)
  ];
  only = λ at e. elim (n.only at e) [
    | inr w ↦ inr (w.0, Contains-append_right ids more w.0 w.1, w.2)
    | inl old ↦ elim (m.only at old) [ inl older ↦ inl older | inr w ↦ inr (w.0, Contains-append_left ids more w.0 w.1, w.2) ]
  ];
}

-- the ids that pass a test, where each id stands once
pub reached : (test : ℕ → Bool) (slots : Slots) (start : ℕ) (ids : List ℕ) (marks marks' : List Bool) → ((i j other : ℕ) → slot slots i ≡ Some other → slot slots j ≡ Some other → i ≡ j)
    → ((other : ℕ) → Contains ids other ↔ (test other ≡ true)) → AreMarked slots start ids marks marks' → AreReached test slots start marks marks'
reached test slots start ids marks marks' once exact m = record {
  many = m.many;
  kept = m.kept;
  told = λ at other stands passing low high. m.told at other ((exact other).1 passing) (home_is slots other at once stands) low high;
  only = λ at e. elim (m.only at e) [ inl old ↦ inl old | inr w ↦ inr (w.0, stands_at slots w.0 at w.2, (exact w.0).0 w.1) ];
}
