-- The distinct ranges of some rules that are no single block, and those that a batch adds.
use Rattle.std.proofs.Common.{◌≡◌, ◌≢◌, not, List, [], ◌∷◌, ◌++◌, map, filter, Contains, IsTrue, IsFalse, ◌⊎◌, inl, inr, refl, ap, sym, ◌∙◌, subst}
use Rattle.std.specs.Prelude.{AllPairs, All}
use Rattle.std.specs.List.{AllByRecursion, list_any}
use Rattle.std.proofs.lemmas.Bool.{cases_Bool, not-true, not_from_false, both_ways}
use Rattle.std.proofs.lemmas.List.Elements.{Contains-append_cases}
use Rattle.std.proofs.lemmas.List.Kept.{AllPairs-cons, AllPairs-filter}
use Rattle.slot_order.proofs.Lists.{contains_head, contains_tail, contains_cases, contains_none, in_map, map_in, in_filter, filter_in, any_is, any_from, AllByRecursion-member}
use Rattle.rule_model.specs.declared.Rule.{Rule}
use Rattle.rule_model.specs.declared.Field.{Field}
use Rattle.rule_model.specs.declared.Field.TheVariants.{Src, Dst}
use Rattle.rule_model.specs.PortRange.{PortRange, IsPortRange, same_range, is_block}
use Rattle.rule_model.specs.Rule.{HasConditions, range_of}
use Rattle.rule_model.proofs.Pairs.{pairs_none}
use Rattle.rule_store.specs.declared.Command.{Command}
use Rattle.rule_store.specs.Batch.{additions, set_after, with_result_after}
use Rattle.rule_store.specs.Verdict.{distinct_ranges, coded_ranges, new_ranges}
use Rattle.rule_store.proofs.Members.{set_after-member}
use Rattle.range_bits.proofs.FieldMaps.{same_range-is, same_range-self}
use Rattle.commit_writes.proofs.Filters.{all_from}

-- each range stands among the distinct ones,
pub distinct_in : (ranges : List PortRange) (range : PortRange) → Contains ranges range → Contains (distinct_ranges ranges) range
distinct_in [] range member = absurd (contains_none range member)
distinct_in (first ∷ ranges) range member = elim (cases_Bool (same_range first range)) [
  | inl same ↦ subst (Contains (distinct_ranges (first ∷ ranges))) (same_range-is first range same) (contains_head first (others (distinct_ranges ranges)))
  | inr other ↦ elim (contains_cases first range ranges member) [
    | inl same ↦ subst (Contains (distinct_ranges (first ∷ ranges))) same (contains_head first (others (distinct_ranges ranges)))
    | inr later ↦ contains_tail first range (others (distinct_ranges ranges))
        (filter_in (λ range. not (same_range first range)) (distinct_ranges ranges) range (distinct_in ranges range later) (not_from_false _ other))
  ]
]
  where
    others : List PortRange → List PortRange
    others some = filter (λ range. not (same_range first range)) some

-- no others do,
pub in_distinct : (ranges : List PortRange) (range : PortRange) → Contains (distinct_ranges ranges) range → Contains ranges range
in_distinct [] range member = member
in_distinct (first ∷ ranges) range member = elim (contains_cases first range (filter (λ other. not (same_range first other)) (distinct_ranges ranges)) member) [
  | inl same ↦ subst (Contains (first ∷ ranges)) same (contains_head first ranges)
  | inr later ↦ contains_tail first range ranges (in_distinct ranges range (in_filter (λ other. not (same_range first other)) (distinct_ranges ranges) range later).0)
]

-- and no two are the same
pub distinct_apart : (ranges : List PortRange) → AllPairs (λ range other. range ≢ other) (distinct_ranges ranges)
distinct_apart [] = pairs_none (λ range other. range ≢ other)
distinct_apart (first ∷ ranges) =
    AllPairs-cons (λ range other. range ≢ other) first others
    (all_from (λ other. first ≢ other) others (λ other member same.
    both_ways (same_range first other) (not-true _ (in_filter (λ other. not (same_range first other)) (distinct_ranges ranges) other member).1)
    (ap (same_range first) (sym same) ∙ same_range-self first)))
    (AllPairs-filter (λ range other. range ≢ other) (λ other. not (same_range first other)) (distinct_ranges ranges) (distinct_apart ranges))
  where
    others : List PortRange
    others = filter (λ other. not (same_range first other)) (distinct_ranges ranges)

-- each range of a rule that is no block is among the coded ones,
pub coded_in : (field : Field) (rules : List Rule) (rule : Rule) → Contains rules rule → IsFalse (is_block (range_of field rule))
    → Contains (coded_ranges field rules) (range_of field rule)
coded_in field rules rule member coded =
    distinct_in (filter (λ range. not (is_block range)) (map (range_of field) rules)) (range_of field rule)
    (filter_in (λ range. not (is_block range)) (map (range_of field) rules) (range_of field rule) (map_in (range_of field) rules rule member) (not_from_false _ coded))

-- and each of these is one of a rule's
pub in_coded : (field : Field) (rules : List Rule) (range : PortRange) → Contains (coded_ranges field rules) range
    → (rule : Rule) × Contains rules rule × (range_of field rule ≡ range) × IsTrue (not (is_block range))
in_coded field rules range member =
    let kept = in_filter (λ range. not (is_block range)) (map (range_of field) rules) range (in_distinct (filter (λ range. not (is_block range)) (map (range_of field) rules)) range member) in
    let w = in_map (range_of field) rules range kept.0 in
    (w.0, w.1, w.2, kept.1)

right_coded : (field : Field) (rules : List Rule) (range : PortRange) → AllByRecursion HasConditions rules → Contains (coded_ranges field rules) range → IsPortRange range
right_coded field rules range right member =
    let w = in_coded field rules range member in
    subst IsPortRange w.2 (of field w.0 (AllByRecursion-member HasConditions rules w.0 right w.1))
  where
    of : (field : Field) (rule : Rule) → HasConditions rule → IsPortRange (range_of field rule)
    of Src rule right = right.sport_right
    of Dst rule right = right.dport_right

-- a range that a batch adds is one of its additions' and none of the rules'
pub new_coded : (field : Field) (rules : List Rule) (batch : List Command) (range : PortRange) → Contains (new_ranges field rules batch) range → Contains (coded_ranges field (additions batch)) range
new_coded field rules batch range member = (in_filter (λ other. not (list_any (same_range other) (coded_ranges field rules))) (coded_ranges field (additions batch)) range member).0

pub new_not_coded : (field : Field) (rules : List Rule) (batch : List Command) (range : PortRange) → Contains (new_ranges field rules batch) range → Contains (coded_ranges field rules) range → ⊥
new_not_coded field rules batch range member coded =
    both_ways _ (not-true _ (in_filter (λ other. not (list_any (same_range other) (coded_ranges field rules))) (coded_ranges field (additions batch)) range member).1)
    (any_from (same_range range) (coded_ranges field rules) range coded (same_range-self range))

-- and each of its additions' is one of the rules', or new
cases_new : (field : Field) (rules : List Rule) (batch : List Command) (range : PortRange) → Contains (coded_ranges field (additions batch)) range
    → Contains (coded_ranges field rules) range ⊎ Contains (new_ranges field rules batch) range
cases_new field rules batch range member = elim (cases_Bool (list_any (same_range range) (coded_ranges field rules))) [
  | inl old ↦ let w = any_is (same_range range) (coded_ranges field rules) old in inl (subst (Contains (coded_ranges field rules)) (sym (same_range-is range w.0 w.2)) w.1)
  | inr new ↦ inr (filter_in (λ other. not (list_any (same_range other) (coded_ranges field rules))) (coded_ranges field (additions batch)) range member (not_from_false _ new))
]

coded_at : (field : Field) (rules : List Rule) (rule : Rule) (range : PortRange) → Contains rules rule → range_of field rule ≡ range → IsTrue (not (is_block range)) → Contains (coded_ranges field rules) range
coded_at field rules rule range member is coded =
    subst (Contains (coded_ranges field rules)) is (coded_in field rules rule member (not-true _ (subst (λ (r : PortRange). IsTrue (not (is_block r))) (sym is) coded)))

-- so is each of the rules and the additions together,
pub coded_with : (field : Field) (rules : List Rule) (batch : List Command) (range : PortRange) → Contains (coded_ranges field (rules ++ additions batch)) range
    → Contains (coded_ranges field rules) range ⊎ Contains (new_ranges field rules batch) range
coded_with field rules batch range member =
    let w = in_coded field (rules ++ additions batch) range member in
    elim (Contains-append_cases rules (additions batch) w.0 w.1) [
      | inl old ↦ inl (coded_at field rules w.0 range old w.2 w.3)
      | inr new ↦ cases_new field rules batch range (coded_at field (additions batch) w.0 range new w.2 w.3)
    ]

-- and each of the set after the batch
pub coded_after : (field : Field) (rules : List Rule) (batch : List Command) (range : PortRange) → Contains (coded_ranges field (set_after rules batch)) range
    → Contains (coded_ranges field rules) range ⊎ Contains (new_ranges field rules batch) range
coded_after field rules batch range member =
    let w = in_coded field (set_after rules batch) range member in
    elim ((set_after-member rules batch w.0).0 w.1) [
      | inl new ↦ cases_new field rules batch range (coded_at field (additions batch) w.0 range new w.2 w.3)
      | inr kept ↦ inl (coded_at field rules kept.0 range kept.1 (kept_range field kept.0 ∙ ap (range_of field) (sym kept.3) ∙ w.2) w.3)
    ]
  where
    kept_range : (field : Field) (old : Rule) → range_of field old ≡ range_of field (with_result_after batch old)
    kept_range Src old = refl
    kept_range Dst old = refl

-- new ranges are right and no two the same
pub new_right : (field : Field) (rules : List Rule) (batch : List Command) → AllByRecursion HasConditions (additions batch) → All (λ range. IsPortRange range) (new_ranges field rules batch)
new_right field rules batch right = all_from (λ range. IsPortRange range) (new_ranges field rules batch) (λ range member. right_coded field (additions batch) range right (new_coded field rules batch range member))

pub new_apart : (field : Field) (rules : List Rule) (batch : List Command) → AllPairs (λ range other. range ≢ other) (new_ranges field rules batch)
new_apart field rules batch =
    AllPairs-filter (λ range other. range ≢ other) (λ other. not (list_any (same_range other) (coded_ranges field rules))) (coded_ranges field (additions batch))
    (distinct_apart (filter (λ range. not (is_block range)) (map (range_of field) (additions batch))))

-- so no rule's range is new
pub old_not_new : (field : Field) (rules : List Rule) (batch : List Command) (rule : Rule) → Contains rules rule → Contains (new_ranges field rules batch) (range_of field rule) → ⊥
old_not_new field rules batch rule member new =
    let w = in_coded field (additions batch) (range_of field rule) (new_coded field rules batch (range_of field rule) new) in
    new_not_coded field rules batch (range_of field rule) new (coded_in field rules rule member (not-true _ w.3))
