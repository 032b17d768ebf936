-- The ranges of the first rules of a set, as one rule more is looked at, by the bits that they are given.
use Rattle.std.proofs.Common.{◌≡◌, ◌≢◌, ℕ, ◌+◌, ◌<◌, ◌≤◌, true, false, not, Some, None, is_some, IsTrue, IsFalse, List, [], ◌∷◌, ◌++◌, length, filter, take, slice_get, Contains, ◌↔◌, inl, inr, ◌⊎◌, ap, sym, ◌∙◌, subst, arith}
use Rattle.std.proofs.lemmas.Bool.{cases_Bool, cases_eq, cond-true, cond-false, both_ways, not_from_false, not-true}
use Rattle.std.proofs.lemmas.List.Elements.{Contains-append_left, Contains-append_right, Contains-append_cases}
use Rattle.slot_order.proofs.Lists.{contains_head, contains_cases, contains_none, filter_in}
use Rattle.rule_model.specs.declared.Field.{Field}
use Rattle.rule_model.specs.declared.Rule.{Rule}
use Rattle.rule_model.specs.PortRange.{PortRange, same_range, is_block}
use Rattle.rule_model.specs.Rule.{range_of}
use Rattle.rule_store.specs.Verdict.{coded_ranges}
use Rattle.rule_store.proofs.Sums.{take-read}
use Rattle.range_bits.specs.LiveRanges.{LiveRanges, range_at, bit_of}
use Rattle.range_bits.specs.FieldMap.{IsFieldMap, live_count}
use Rattle.range_bits.proofs.FieldMaps.{same_range-is, same_range-self, not_live, live_count-within}
use Rattle.range_bits.proofs.Given.{some_value, bit_of-is, bit_of-at}
use Rattle.commit_writes.proofs.CodedRanges.{coded_in, in_coded}
use Rattle.commit_writes.specs.Needed.{AreLive}

-- bits that the ranges of some rules have, and no others
pub record AreGiven (field : Field) (live : LiveRanges) (rules : List Rule) : Type 0 where
  pub is_map : IsFieldMap live
  pub are : AreLive live (coded_ranges field rules)

-- a range has a bit where it stands at one
live_at : (live : LiveRanges) (range : PortRange) → IsFieldMap live → IsTrue (is_some (bit_of live range)) ↔ ((bit : ℕ) × (range_at live bit ≡ Some range))
live_at live range is = (
  λ has. let w = some_value (bit_of live range) has in (w.0, bit_of-is live range w.0 w.1),
  λ w. ap is_some (bit_of-at live range w.0 is w.1),
)

-- of one rule more there is one range more, if it is no block
pub one_rule : (field : Field) (rules : List Rule) (rule : Rule) (range : PortRange)
    → Contains (coded_ranges field (rules ++ rule ∷ [])) range ↔ (Contains (coded_ranges field rules) range ⊎ ((range_of field rule ≡ range) × IsFalse (is_block range)))
one_rule field rules rule range = (to, from)
  where
    to : Contains (coded_ranges field (rules ++ rule ∷ [])) range → Contains (coded_ranges field rules) range ⊎ ((range_of field rule ≡ range) × IsFalse (is_block range))
    to member =
        let w = in_coded field (rules ++ rule ∷ []) range member in
        let coded : is_block range ≡ false = not-true (is_block range) w.3 in
        elim (Contains-append_cases rules (rule ∷ []) w.0 w.1) [
          | inl before ↦ inl (subst (Contains (coded_ranges field rules)) w.2 (coded_in field rules w.0 before (ap is_block w.2 ∙ coded)))
          | inr here ↦ elim (contains_cases rule w.0 [] here) [
            | inl same ↦ inr (ap (range_of field) same ∙ w.2, coded)
            | inr none ↦ absurd (contains_none w.0 none)
          ]
        ]

    from : Contains (coded_ranges field rules) range ⊎ ((range_of field rule ≡ range) × IsFalse (is_block range)) → Contains (coded_ranges field (rules ++ rule ∷ [])) range
    from (inl before) =
        let w = in_coded field rules range before in
        subst (Contains (coded_ranges field (rules ++ rule ∷ []))) w.2
        (coded_in field (rules ++ rule ∷ []) w.0 (Contains-append_left rules (rule ∷ []) w.0 w.1) (ap is_block w.2 ∙ not-true (is_block range) w.3))
    from (inr here) =
        subst (Contains (coded_ranges field (rules ++ rule ∷ []))) here.0
        (coded_in field (rules ++ rule ∷ []) rule (Contains-append_right rules (rule ∷ []) rule (contains_head rule [])) (ap is_block here.0 ∙ here.1))

module _ (field : Field) (live : LiveRanges) (rules : List Rule) (place : ℕ) (rule : Rule) (read : slice_get rules place ≡ Some rule) (given : AreGiven field live (take place rules)) where
  next_rules : take (place + 1) rules ≡ take place rules ++ rule ∷ []
  next_rules = take-read rules place rule read

  -- a rule whose range is a block, or has its bit, brings none
  pub given_still : (is_block (range_of field rule) ≡ true) ⊎ (is_some (bit_of live (range_of field rule)) ≡ true) → AreGiven field live (take (place + 1) rules)
  given_still known = subst (AreGiven field live) (sym next_rules) record {
    is_map = given.is_map;
    are = λ range. (
      λ has. (one_rule field (take place rules) rule range).1 (inl ((given.are range).0 has)),
      λ member. elim ((one_rule field (take place rules) rule range).0 member) [
        | inl before ↦ (given.are range).1 before
        | inr here ↦ elim known [
          | inl block ↦ absurd (both_ways (is_block range) here.1 (ap is_block (sym here.0) ∙ block))
          | inr has ↦ subst (λ r. IsTrue (is_some (bit_of live r))) here.0 has
        ]
      ],
    );
  }

  -- and else one that gets a bit
  pub given_more : (now : LiveRanges) (bit : ℕ) → is_block (range_of field rule) ≡ false → IsFieldMap now → range_at live bit ≡ None → range_at now bit ≡ Some (range_of field rule)
      → ((other : ℕ) → other ≢ bit → range_at now other ≡ range_at live other) → AreGiven field now (take (place + 1) rules)
  given_more now bit coded is free here others = subst (AreGiven field now) (sym next_rules) record {
    is_map = is;
    are = λ range. (to range, from range);
  }
    where
      to : (range : PortRange) → IsTrue (is_some (bit_of now range)) → Contains (coded_ranges field (take place rules ++ rule ∷ [])) range
      to range has = let w = (live_at now range is).0 has in elim (cases_eq w.0 bit) [
        | inl same ↦
            let e : Some (range_of field rule) ≡ Some range = sym here ∙ (ap (range_at now) (sym same) ∙ w.1) in
            let one : range_of field rule ≡ range = cc in
            (one_rule field (take place rules) rule range).1 (inr (one, ap is_block (sym one) ∙ coded))
        | inr other ↦ (one_rule field (take place rules) rule range).1 (inl ((given.are range).0 ((live_at live range given.is_map).1 (w.0, sym (others w.0 other) ∙ w.1))))
      ]

      from : (range : PortRange) → Contains (coded_ranges field (take place rules ++ rule ∷ [])) range → IsTrue (is_some (bit_of now range))
      from range member = elim ((one_rule field (take place rules) rule range).0 member) [
        | inr own ↦ (live_at now range is).1 (bit, here ∙ ap Some own.0)
        | inl before ↦
            let w = (live_at live range given.is_map).0 ((given.are range).1 before) in
            elim (cases_eq w.0 bit) [
              | inl same ↦ absurd (let e : None ≡ Some range = sym free ∙ (ap (range_at live) (sym same) ∙ w.1) in cc)
              | inr other ↦ (live_at now range is).1 (w.0, others w.0 other ∙ w.1)
            ]
      ]

-- where one of some ranges is left out there are fewer
left_out : (ranges : List PortRange) (range : PortRange) → Contains ranges range → length (filter (λ other. not (same_range range other)) ranges) < length ranges
left_out [] range member = absurd (contains_none range member)
left_out (first ∷ ranges) range member = elim (cases_Bool (same_range range first)) [
  | inl same ↦
      let gone = ap length (cond-false (not (same_range range first)) (first ∷ filter (λ other. not (same_range range other)) ranges) (filter (λ other. not (same_range range other)) ranges) (ap not same)) in
      let rest = most ranges in omega arith
  | inr differs ↦ elim (contains_cases first range ranges member) [
    | inl is ↦ absurd (both_ways (same_range range first) differs (subst (λ r. same_range range r ≡ true) (sym is) (same_range-self range)))
    | inr later ↦
        let kept = ap length (cond-true (not (same_range range first)) (first ∷ filter (λ other. not (same_range range other)) ranges) (filter (λ other. not (same_range range other)) ranges) (ap not differs)) in
        let rest = left_out ranges range later in omega arith
  ]
]
  where
    most : (some : List PortRange) → length (filter (λ other. not (same_range range other)) some) ≤ length some
    most [] = omega arith
    most (one ∷ some) = elim (cases_Bool (same_range range one)) [
      | inl same ↦
          let gone = ap length (cond-false (not (same_range range one)) (one ∷ filter (λ other. not (same_range range other)) some) (filter (λ other. not (same_range range other)) some) (ap not same)) in
          let rest = most some in omega arith
      | inr differs ↦
          let kept = ap length (cond-true (not (same_range range one)) (one ∷ filter (λ other. not (same_range range other)) some) (filter (λ other. not (same_range range other)) some) (ap not differs)) in
          let rest = most some in omega arith
    ]

-- where a range has no bit left the rules need more than there are
pub too_many : (field : Field) (live : LiveRanges) (rules some : List Rule) (rule : Rule) → AreGiven field live some → ((one : Rule) → Contains some one → Contains rules one) → Contains rules rule
    → is_block (range_of field rule) ≡ false → bit_of live (range_of field rule) ≡ None → live_count live < length (coded_ranges field rules)
too_many field live rules some rule given up member coded free =
    let range = range_of field rule in
    let ranges = coded_ranges field rules in
    let others = live_count-within live (filter (λ other. not (same_range range other)) ranges) given.is_map (λ bit other held.
    let w = in_coded field some other ((given.are other).0 ((live_at live other given.is_map).1 (bit, held))) in
    filter_in (λ one. not (same_range range one)) ranges other
    (subst (Contains ranges) w.2 (coded_in field rules w.0 (up w.0 w.1) (ap is_block w.2 ∙ not-true (is_block other) w.3)))
    (not_from_false (same_range range other) (apart other bit held))) in
    let fewer = left_out ranges range (coded_in field rules rule member coded) in
    omega arith
  where
    apart : (other : PortRange) (bit : ℕ) → range_at live bit ≡ Some other → same_range (range_of field rule) other ≡ false
    apart other bit held = elim (cases_Bool (same_range (range_of field rule) other)) [
      | inr differs ↦ differs
      | inl same ↦ absurd (not_live live (range_of field rule) free bit (held ∙ ap Some (sym (same_range-is (range_of field rule) other same))))
    ]
