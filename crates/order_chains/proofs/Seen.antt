-- What a caller sees of pairs that are linked and of those that go.
use Rattle.std.proofs.Common.{◌≡◌, ◌≢◌, ℕ, ◌+◌, ◌<◌, false, List, ◌++◌, length, get_or, map, replicate, Option, Some, None, sym, ap, ◌∙◌, subst, inl, inr, ◌⊎◌, Contains, arith, get_or-set_same, get_or-set_other}
use Rattle.std.specs.Prelude.{◌↔◌, is_none, count_by}
use Rattle.std.proofs.lemmas.Bool.{cases_Bool, cases_eq, cond-true, cond-false}
use Rattle.std.proofs.lemmas.List.{get_or_default, get_or-replicate, length-replicate}
use Rattle.std.proofs.lemmas.List.Elements.{Contains-append_cases, Contains-append_left}
use Rattle.slot_order.proofs.Lists.{in_map, map_in}
use Rattle.slot_order.proofs.Writes.{slot_inside}
use Rattle.order_chains.specs.Pairs.{Pair, Pairs, IsLinked, spare_of, has_end, without}
use Rattle.order_chains.proofs.Places.{count_filled}

-- what a place holds is there, and stands in a place
at_place : (places : List (Option Pair)) (k : ℕ) (pair : Pair) → get_or places k None ≡ Some pair → Contains places (Some pair)
at_place places k pair is =
    let inside : k < length places = slot_inside places k pair is in
    (k, inside, get_or_default places k (Some pair) None inside ∙ is)

place_of : (places : List (Option Pair)) (pair : Pair) → Contains places (Some pair) → (k : ℕ) × (get_or places k None ≡ Some pair)
place_of places pair c = (c.0, get_or_default places c.0 None (Some pair) c.1 ∙ c.2)

-- one pair more
pub linked_pairs : (old new : List (Option Pair)) (pair other : Pair) → IsLinked old new pair → Contains new (Some other) ↔ (Contains old (Some other) ⊎ (other ≡ pair))
linked_pairs old new pair other is = (to, from)
  where
    k : ℕ
    k = is.0

    here : get_or new k None ≡ Some pair
    here = ap (λ xs. get_or xs k None) is.3 ∙ get_or-set_same old k (Some pair) None is.1

    away : (j : ℕ) → j ≢ k → get_or new j None ≡ get_or old j None
    away j n = ap (λ xs. get_or xs j None) is.3 ∙ get_or-set_other old k j (Some pair) None n

    to : Contains new (Some other) → Contains old (Some other) ⊎ (other ≡ pair)
    to c =
        let at = place_of new other c in
        elim (cases_eq at.0 k) [
          | inl e ↦ inr (let s : Some other ≡ Some pair = sym at.1 ∙ ap (λ j. get_or new j None) e ∙ here in cc)
          | inr n ↦ inl (at_place old at.0 other (sym (away at.0 n) ∙ at.1))
        ]

    from : Contains old (Some other) ⊎ (other ≡ pair) → Contains new (Some other)
    from (inr e) = at_place new k other (here ∙ ap Some (sym e))
    from (inl c) =
        let at = place_of old other c in
        at_place new at.0 other (away at.0 (λ e. let s : None ≡ Some other = sym is.2 ∙ ap (λ j. get_or old j None) (sym e) ∙ at.1 in cc) ∙ at.1)

-- it takes room for one
pub linked_room : (old new : Pairs) (pair : Pair) → IsLinked old.places new.places pair → spare_of new + 1 ≡ spare_of old
linked_room old new pair is = ap (λ xs. count_by is_none xs + 1) is.3 ∙ count_filled old.places is.0 pair is.1 is.2

-- more room
pub roomy_pairs : (places : List (Option Pair)) (more : ℕ) (pair : Pair) → Contains (places ++ replicate more None) (Some pair) ↔ Contains places (Some pair)
roomy_pairs places more pair = (
  λ c. elim (Contains-append_cases places (replicate more None) (Some pair) c) [ inl h ↦ h | inr h ↦ absurd (none more h) ],
  λ c. Contains-append_left places (replicate more None) (Some pair) c,
)
  where
    none : (n : ℕ) → Contains (replicate n None) (Some pair) → ⊥
    none n c =
        let size : length (replicate {A = Option Pair} n None) ≡ n = length-replicate n None in
        let at = place_of (replicate n None) pair c in
        let inside : at.0 < length (replicate {A = Option Pair} n None) = slot_inside (replicate n None) at.0 pair at.1 in
        let s : None ≡ Some pair = sym (get_or-replicate n at.0 None None (omega arith)) ∙ at.1 in
        cc

-- the pairs with an end go
pub without_pairs : (id : ℕ) (places : List (Option Pair)) (pair : Pair) → Contains (map (without id) places) (Some pair) ↔ (Contains places (Some pair) × (has_end id pair ≡ false))
without_pairs id places pair = (
  λ c. let w = in_map (without id) places (Some pair) c in from w.0 w.1 w.2,
  λ c. subst (Contains (map (without id) places)) (cond-false _ _ _ c.1) (map_in (without id) places (Some pair) c.0),
)
  where
    from : (held : Option Pair) → Contains places held → without id held ≡ Some pair → Contains places (Some pair) × (has_end id pair ≡ false)
    from None c e = absurd (let s : None ≡ Some pair = e in cc)
    from (Some other) c e = elim (cases_Bool (has_end id other)) [
      | inl t ↦ absurd (let s : None ≡ Some pair = sym (cond-true _ _ _ t) ∙ e in cc)
      | inr f ↦
          let s : Some other ≡ Some pair = sym (cond-false _ _ _ f) ∙ e in
          let k : other ≡ pair = cc in
          (subst (λ p. Contains places (Some p)) k c, subst (λ p. has_end id p ≡ false) k f)
    ]
