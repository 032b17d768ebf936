-- The early rules that are told with covers are early.
use Rattle.std.proofs.Common.{◌≡◌, ℕ, ◌<◌, true, false, not, ◌&&◌, ◌||◌, nat_le, ◌≤◌, Option, Some, None, List, [], ◌∷◌, IsTrue, IsFalse, Contains, ◌⊎◌, inl, inr, refl, sym, ap, subst, ◌∙◌, arith, eqb-true, nat_eq, nat_lt, ltb-true}
use Rattle.std.specs.List.{list_any, AllByRecursion}
use Rattle.std.proofs.lemmas.Bool.{cases_Bool, cond_both, and_parts, and_from, or_cases, leb-true, le-leb, not-true, not_from_false}
use Rattle.slot_order.proofs.Lists.{contains_head, contains_tail, contains_cases, contains_none, AllByRecursion-member, any_is, any_from}
use Rattle.rule_model.specs.declared.Rule.{Rule}
use Rattle.rule_model.specs.declared.Key.{Key}
use Rattle.rule_model.specs.Key.{IsKey}
use Rattle.rule_model.specs.Rule.{HasConditions, rules_meet, rule_matches, proto_holds}
use Rattle.rule_model.specs.AddressBlock.{AddressBlock, IsAddressBlock, block_holds}
use Rattle.rule_model.specs.PortRange.{PortRange, range_holds}
use Rattle.rule_model.proofs.Prefixes.{block_holds-own, block_holds-longer}
use Rattle.rule_model.specs.RuleSet.{IsRuleSet, has_priority}
use Rattle.rule_model.proofs.RuleSets.{IsRuleSet-distinct}
use Rattle.rule_store.specs.declared.Command.{Command}
use Rattle.rule_store.specs.Batch.{additions, removes}
use Rattle.settled_changes.specs.Laws.{is_named}
use Rattle.removals_first.specs.Early.{IsSpared, SparedRulesAreEarly, block_within, block_covers, is_proto, proto_covers, range_covers, rule_covers, is_spared, spared_goes_first, spared_rules_in}
use Rattle.removals_first.proofs.Told.{meets, added-right}

-- a block that holds another one's first address and is no longer holds its addresses
within-holds : (inner outer : AddressBlock) (address : ℕ) → IsAddressBlock inner → block_within inner outer ≡ true → block_holds inner address ≡ true → block_holds outer address ≡ true
within-holds inner outer address right within hit =
    let parts = and_parts (nat_le outer.len inner.len) (block_holds outer inner.addr) within in
    block_holds-longer outer inner inner.addr address (leb-true _ _ parts.0) right.length parts.1 (block_holds-own inner) hit

covers-block : (cover a b : AddressBlock) (address : ℕ) → IsAddressBlock a → IsAddressBlock b → block_covers cover a b ≡ true → block_holds a address ≡ true → block_holds b address ≡ true → block_holds cover address ≡ true
covers-block cover a b address right_a right_b covers in_a in_b = elim (or_cases (block_within a cover) (block_within b cover) covers) [
  | inl by_a ↦ within-holds a cover address right_a by_a in_a
  | inr by_b ↦ within-holds b cover address right_b by_b in_b
]

is-proto : (number proto : ℕ) (some : Option ℕ) → is_proto number some ≡ true → proto_holds some proto ≡ true → proto_holds (Some number) proto ≡ true
is-proto number proto None is held = absurd (cc)
is-proto number proto (Some other) is held = subst (λ n. proto_holds (Some n) proto ≡ true) (eqb-true _ _ is) held

covers-proto : (cover a b : Option ℕ) (proto : ℕ) → proto_covers cover a b ≡ true → proto_holds a proto ≡ true → proto_holds b proto ≡ true → proto_holds cover proto ≡ true
covers-proto None a b proto covers in_a in_b = refl
covers-proto (Some number) a b proto covers in_a in_b = elim (or_cases (is_proto number a) (is_proto number b) covers) [
  | inl by_a ↦ is-proto number proto a by_a in_a
  | inr by_b ↦ is-proto number proto b by_b in_b
]

covers-range : (cover a b : PortRange) (port : ℕ) → range_covers cover a b ≡ true → range_holds a port ≡ true → range_holds b port ≡ true → range_holds cover port ≡ true
covers-range cover a b port covers in_a in_b =
    let both = and_parts (nat_le cover.lo a.lo || nat_le cover.lo b.lo) (nat_le a.hi cover.hi || nat_le b.hi cover.hi) covers in
    let of_a = and_parts (nat_le a.lo port) (nat_le port a.hi) in_a in
    let of_b = and_parts (nat_le b.lo port) (nat_le port b.hi) in_b in
    let low_a : a.lo ≤ port = leb-true _ _ of_a.0 in
    let low_b : b.lo ≤ port = leb-true _ _ of_b.0 in
    let high_a : port ≤ a.hi = leb-true _ _ of_a.1 in
    let high_b : port ≤ b.hi = leb-true _ _ of_b.1 in
    and_from _ _
    (elim (or_cases (nat_le cover.lo a.lo) (nat_le cover.lo b.lo) both.0) [
      | inl by_a ↦ let least : cover.lo ≤ a.lo = leb-true _ _ by_a in let so : cover.lo ≤ port = omega arith in le-leb _ _ so
      | inr by_b ↦ let least : cover.lo ≤ b.lo = leb-true _ _ by_b in let so : cover.lo ≤ port = omega arith in le-leb _ _ so
    ])
    (elim (or_cases (nat_le a.hi cover.hi) (nat_le b.hi cover.hi) both.1) [
      | inl by_a ↦ let most : a.hi ≤ cover.hi = leb-true _ _ by_a in let so : port ≤ cover.hi = omega arith in le-leb _ _ so
      | inr by_b ↦ let most : b.hi ≤ cover.hi = leb-true _ _ by_b in let so : port ≤ cover.hi = omega arith in le-leb _ _ so
    ])

-- the five conditions that hold
parts-of : (rule : Rule) (key : Key) → rule_matches rule key ≡ true → (block_holds rule.src key.src ≡ true) × (block_holds rule.dst key.dst ≡ true) × (proto_holds rule.proto key.proto ≡ true) × (range_holds rule.sport key.sport ≡ true) × (range_holds rule.dport key.dport ≡ true)
parts-of rule key hit =
    let four = and_parts (block_holds rule.src key.src && block_holds rule.dst key.dst && proto_holds rule.proto key.proto && range_holds rule.sport key.sport) (range_holds rule.dport key.dport) hit in
    let three = and_parts (block_holds rule.src key.src && block_holds rule.dst key.dst && proto_holds rule.proto key.proto) (range_holds rule.sport key.sport) four.0 in
    let two = and_parts (block_holds rule.src key.src && block_holds rule.dst key.dst) (proto_holds rule.proto key.proto) three.0 in
    let one = and_parts (block_holds rule.src key.src) (block_holds rule.dst key.dst) two.0 in
    (one.0, one.1, two.1, three.1, four.1)

-- a rule that covers two matches what both match
covers-key : (cover a b : Rule) (key : Key) → HasConditions a → HasConditions b → rule_covers cover a b ≡ true → rule_matches a key ≡ true → rule_matches b key ≡ true → rule_matches cover key ≡ true
covers-key cover a b key right_a right_b covers hit_a hit_b =
    let in_a = parts-of a key hit_a in
    let in_b = parts-of b key hit_b in
    let one = and_parts (block_covers cover.src a.src b.src) (block_covers cover.dst a.dst b.dst && (proto_covers cover.proto a.proto b.proto && (range_covers cover.sport a.sport b.sport && range_covers cover.dport a.dport b.dport))) covers in
    let two = and_parts (block_covers cover.dst a.dst b.dst) (proto_covers cover.proto a.proto b.proto && (range_covers cover.sport a.sport b.sport && range_covers cover.dport a.dport b.dport)) one.1 in
    let three = and_parts (proto_covers cover.proto a.proto b.proto) (range_covers cover.sport a.sport b.sport && range_covers cover.dport a.dport b.dport) two.1 in
    let four = and_parts (range_covers cover.sport a.sport b.sport) (range_covers cover.dport a.dport b.dport) three.1 in
    and_from _ _ (and_from _ _ (and_from _ _ (and_from _ _ (covers-block cover.src a.src b.src key.src right_a.src_right right_b.src_right one.0 in_a.0 in_b.0)
    (covers-block cover.dst a.dst b.dst key.dst right_a.dst_right right_b.dst_right two.0 in_a.1 in_b.1)) (covers-proto cover.proto a.proto b.proto key.proto three.0 in_a.2 in_b.2))
    (covers-range cover.sport a.sport b.sport key.sport four.0 in_a.3 in_b.3)) (covers-range cover.dport a.dport b.dport key.dport four.1 in_a.4 in_b.4)

module _ (set_rules : List Rule) (batch : List Command) where
  -- what the test of covers says at a key
  spares : (rule other : Rule) (key : Key) → HasConditions rule → HasConditions other → is_spared set_rules batch rule other ≡ true → rule_matches rule key ≡ true → rule_matches other key ≡ true → IsSpared set_rules batch rule other key
  spares rule other key right_rule right_other is hit matched =
      let (cover, member, told) = any_is (λ (c : Rule). rule_covers c rule other && (nat_lt rule.priority c.priority || (nat_lt other.priority c.priority && not (is_named c.priority batch)))) set_rules is in
      let parts = and_parts (rule_covers cover rule other) (nat_lt rule.priority cover.priority || (nat_lt other.priority cover.priority && not (is_named cover.priority batch))) told in (
        cover,
        member,
        covers-key cover rule other key right_rule right_other parts.0 hit matched,
        elim (or_cases (nat_lt rule.priority cover.priority) (nat_lt other.priority cover.priority && not (is_named cover.priority batch)) parts.1) [
          | inl above ↦ inl (ltb-true _ _ above)
          | inr left ↦ let both = and_parts (nat_lt other.priority cover.priority) (not (is_named cover.priority batch)) left in inr (ltb-true _ _ both.0, not-true _ both.1)
        ],
      )

  members : (rules : List Rule) (rule : Rule) → Contains (spared_rules_in set_rules batch rules) rule → Contains rules rule
  members [] rule member = absurd (contains_none rule member)
  members (first ∷ lower) rule member =
      cond_both (spared_goes_first set_rules batch first lower (spared_rules_in set_rules batch lower)) (first ∷ spared_rules_in set_rules batch lower) (spared_rules_in set_rules batch lower) (λ some. Contains some rule → Contains (first ∷ lower) rule)
      (λ goes is. elim (contains_cases first rule (spared_rules_in set_rules batch lower) is) [
        | inl here ↦ subst (Contains (first ∷ lower)) here (contains_head first lower)
        | inr later ↦ contains_tail first rule lower (members lower rule later)
      ])
      (λ stays is. contains_tail first rule lower (members lower rule is))
      member

  below : (bound : ℕ) (rules : List Rule) → AllByRecursion (λ (lower : Rule). IsTrue (nat_lt lower.priority bound)) rules → AllByRecursion (λ (lower : Rule). IsTrue (nat_lt lower.priority bound)) (spared_rules_in set_rules batch rules)
  below bound [] all = tt
  below bound (first ∷ lower) all =
      cond_both (spared_goes_first set_rules batch first lower (spared_rules_in set_rules batch lower)) (first ∷ spared_rules_in set_rules batch lower) (spared_rules_in set_rules batch lower) (AllByRecursion (λ (one : Rule). IsTrue (nat_lt one.priority bound)))
      (λ goes. (all.0, below bound lower all.1)) (λ stays. below bound lower all.1)

  falls : (rules : List Rule) → IsRuleSet rules → IsRuleSet (spared_rules_in set_rules batch rules)
  falls [] set = tt
  falls (first ∷ lower) set =
      cond_both (spared_goes_first set_rules batch first lower (spared_rules_in set_rules batch lower)) (first ∷ spared_rules_in set_rules batch lower) (spared_rules_in set_rules batch lower) IsRuleSet
      (λ goes. (below first.priority lower set.0, falls lower set.1)) (λ stays. falls lower set.1)

  -- what a rule that goes first passed
  passed : (rule : Rule) (lower early : List Rule) → spared_goes_first set_rules batch rule lower early ≡ true → IsTrue (removes rule.priority batch)
      × IsFalse (list_any (λ new. rules_meet rule new && not (is_spared set_rules batch rule new)) (additions batch))
      × IsFalse (list_any (λ other. rules_meet rule other && (is_named other.priority batch && (not (has_priority early other.priority) && not (is_spared set_rules batch rule other)))) lower)
  passed rule lower early goes =
      let one = and_parts (removes rule.priority batch)
      (not (list_any (λ new. rules_meet rule new && not (is_spared set_rules batch rule new)) (additions batch))
      && not (list_any (λ other. rules_meet rule other && (is_named other.priority batch && (not (has_priority early other.priority) && not (is_spared set_rules batch rule other)))) lower)) goes in
      let two = and_parts (not (list_any (λ new. rules_meet rule new && not (is_spared set_rules batch rule new)) (additions batch)))
      (not (list_any (λ other. rules_meet rule other && (is_named other.priority batch && (not (has_priority early other.priority) && not (is_spared set_rules batch rule other)))) lower)) one.1 in
      (one.0, not-true _ two.0, not-true _ two.1)

  removed : (rules : List Rule) (rule : Rule) → Contains (spared_rules_in set_rules batch rules) rule → IsTrue (removes rule.priority batch)
  removed [] rule member = absurd (contains_none rule member)
  removed (first ∷ lower) rule member =
      cond_both (spared_goes_first set_rules batch first lower (spared_rules_in set_rules batch lower)) (first ∷ spared_rules_in set_rules batch lower) (spared_rules_in set_rules batch lower) (λ some. Contains some rule → IsTrue (removes rule.priority batch))
      (λ goes is. elim (contains_cases first rule (spared_rules_in set_rules batch lower) is) [
        | inl here ↦ subst (λ (r : Rule). IsTrue (removes r.priority batch)) here (passed first lower (spared_rules_in set_rules batch lower) goes).0
        | inr later ↦ removed lower rule later
      ])
      (λ stays is. removed lower rule is)
      member

  apart : (rules : List Rule) → AllByRecursion HasConditions rules → AllByRecursion HasConditions (additions batch) → (rule new : Rule) (key : Key) → Contains (spared_rules_in set_rules batch rules) rule → Contains (additions batch) new
      → IsKey key → IsTrue (rule_matches rule key) → IsTrue (rule_matches new key) → IsSpared set_rules batch rule new key
  apart [] right right_added rule new key member added is_key hit matched = absurd (contains_none rule member)
  apart (first ∷ lower) right right_added rule new key member added is_key hit matched =
      cond_both (spared_goes_first set_rules batch first lower (spared_rules_in set_rules batch lower)) (first ∷ spared_rules_in set_rules batch lower) (spared_rules_in set_rules batch lower) (λ some. Contains some rule → IsSpared set_rules batch rule new key)
      (λ goes is. elim (contains_cases first rule (spared_rules_in set_rules batch lower) is) [
        | inl here ↦
            let right_new = AllByRecursion-member HasConditions (additions batch) new right_added added in
            let hit_first : rule_matches first key ≡ true = subst (λ (r : Rule). rule_matches r key ≡ true) (sym here) hit in
            subst (λ (r : Rule). IsSpared set_rules batch r new key) here (elim (cases_Bool (is_spared set_rules batch first new)) [
              | inl so ↦ spares first new key right.0 right_new so hit_first matched
              | inr no_cover ↦ absurd (
                  let meet = meets first new right.0 right_new (key, is_key, hit_first, matched) in
                  let some = any_from (λ (one : Rule). rules_meet first one && not (is_spared set_rules batch first one)) (additions batch) new added (and_from _ _ meet (not_from_false _ no_cover)) in
                  let bad : true ≡ false = sym some ∙ (passed first lower (spared_rules_in set_rules batch lower) goes).1 in cc)
            ])
        | inr later ↦ apart lower right.1 right_added rule new key later added is_key hit matched
      ])
      (λ stays is. apart lower right.1 right_added rule new key is added is_key hit matched)
      member

  -- a lower rule that both match and the batch names goes first too, or is spared
  too : (first : Rule) (lower : List Rule) (other : Rule) (key : Key) → IsRuleSet lower → HasConditions first → AllByRecursion HasConditions lower → spared_goes_first set_rules batch first lower (spared_rules_in set_rules batch lower) ≡ true
      → Contains lower other → IsKey key → IsTrue (rule_matches first key) → IsTrue (rule_matches other key) → IsTrue (is_named other.priority batch)
      → Contains (spared_rules_in set_rules batch lower) other ⊎ IsSpared set_rules batch first other key
  too first lower other key set right_first right goes member is_key hit matched named = elim (cases_Bool (has_priority (spared_rules_in set_rules batch lower) other.priority)) [
    | inl has ↦
        let (same, in_early, own) = any_is (λ (one : Rule). nat_eq one.priority other.priority) (spared_rules_in set_rules batch lower) has in
        inl (subst (Contains (spared_rules_in set_rules batch lower)) (IsRuleSet-distinct lower set same other (members lower same in_early) member (eqb-true _ _ own)) in_early)
    | inr lacks ↦
        let right_other = AllByRecursion-member HasConditions lower other right member in
        elim (cases_Bool (is_spared set_rules batch first other)) [
          | inl so ↦ inr (spares first other key right_first right_other so hit matched)
          | inr no_cover ↦ absurd (
              let meet = meets first other right_first right_other (key, is_key, hit, matched) in
              let some = any_from (λ (one : Rule). rules_meet first one && (is_named one.priority batch && (not (has_priority (spared_rules_in set_rules batch lower) one.priority) && not (is_spared set_rules batch first one)))) lower other member
              (and_from _ _ meet (and_from _ _ named (and_from _ _ (not_from_false _ lacks) (not_from_false _ no_cover)))) in
              let bad : true ≡ false = sym some ∙ (passed first lower (spared_rules_in set_rules batch lower) goes).2 in cc)
        ]
  ]

  closed : (rules : List Rule) → IsRuleSet rules → AllByRecursion HasConditions rules → (rule other : Rule) (key : Key) → Contains (spared_rules_in set_rules batch rules) rule → Contains rules other → other.priority < rule.priority → IsKey key
      → IsTrue (rule_matches rule key) → IsTrue (rule_matches other key) → IsTrue (is_named other.priority batch) → Contains (spared_rules_in set_rules batch rules) other ⊎ IsSpared set_rules batch rule other key
  closed [] set right rule other key member in_set less is_key hit matched named = absurd (contains_none rule member)
  closed (first ∷ lower) set right rule other key member in_set less is_key hit matched named =
      cond_both (spared_goes_first set_rules batch first lower (spared_rules_in set_rules batch lower)) (first ∷ spared_rules_in set_rules batch lower) (spared_rules_in set_rules batch lower) (λ some. Contains some rule → Contains some other ⊎ IsSpared set_rules batch rule other key)
      (λ goes is. elim (contains_cases first rule (spared_rules_in set_rules batch lower) is) [
        | inl here ↦ elim (contains_cases first other lower in_set) [
          | inl same ↦ absurd (let a = ap (λ (r : Rule). r.priority) here in let b = ap (λ (r : Rule). r.priority) same in omega arith)
          | inr later ↦ elim (too first lower other key set.1 right.0 right.1 goes later is_key (subst (λ (r : Rule). IsTrue (rule_matches r key)) (sym here) hit) matched named) [
            | inl goes_too ↦ inl (contains_tail first other (spared_rules_in set_rules batch lower) goes_too)
            | inr so ↦ inr (subst (λ (r : Rule). IsSpared set_rules batch r other key) here so)
          ]
        ]
        | inr later ↦ elim (on later (λ there. closed lower set.1 right.1 rule other key later there less is_key hit matched named)) [
          | inl goes_too ↦ inl (contains_tail first other (spared_rules_in set_rules batch lower) goes_too)
          | inr so ↦ inr so
        ]
      ])
      (λ stays is. on is (λ there. closed lower set.1 right.1 rule other key is there less is_key hit matched named))
      member
    where
      on : Contains (spared_rules_in set_rules batch lower) rule → (Contains lower other → Contains (spared_rules_in set_rules batch lower) other ⊎ IsSpared set_rules batch rule other key)
          → Contains (spared_rules_in set_rules batch lower) other ⊎ IsSpared set_rules batch rule other key
      on is later_too = elim (contains_cases first other lower in_set) [
        | inl same ↦ absurd (
            let beneath = ltb-true _ _ (AllByRecursion-member (λ (one : Rule). IsTrue (nat_lt one.priority first.priority)) lower rule set.0 (members lower rule is)) in
            let b = ap (λ (r : Rule). r.priority) same in omega arith)
        | inr later ↦ later_too later
      ]

pub spared_told : SparedRulesAreEarly
spared_told rules batch set right changes = record {
  members = members rules batch rules;
  is_set = falls rules batch rules set;
  removed = removed rules batch rules;
  apart = apart rules batch rules right (added-right batch changes);
  closed = closed rules batch rules set right;
}
