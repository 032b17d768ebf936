-- The early rules that are told from the lowest up are plainly early.
use Rattle.std.proofs.Common.{◌≡◌, ℕ, ◌<◌, true, false, not, ◌&&◌, List, [], ◌∷◌, IsTrue, IsFalse, Contains, inl, inr, sym, ap, subst, ◌∙◌, arith, eqb-true, nat_eq, nat_lt, ltb-true}
use Rattle.std.specs.List.{list_any, AllByRecursion}
use Rattle.std.proofs.lemmas.Bool.{cases_Bool, cond_both, and_parts, and_from, not-true, not_from_false}
use Rattle.slot_order.proofs.Lists.{contains_head, contains_tail, contains_cases, contains_none, AllByRecursion-member, any_is, any_from}
use Rattle.rule_model.specs.declared.Rule.{Rule}
use Rattle.rule_model.specs.Rule.{Overlap, HasConditions, rules_meet}
use Rattle.rule_model.specs.Piece.{whole_piece}
use Rattle.rule_model.specs.RuleSet.{IsRuleSet, has_priority}
use Rattle.rule_model.proofs.CommonKeys.{pieces_meet-is}
use Rattle.rule_model.proofs.RuleSets.{IsRuleSet-distinct}
use Rattle.rule_store.specs.declared.Command.{Command}
use Rattle.rule_store.specs.declared.Command.TheVariants.{Add, Set, Del}
use Rattle.rule_store.specs.Batch.{ChangesRules, additions, removes}
use Rattle.settled_changes.specs.Laws.{is_named}
use Rattle.removals_first.specs.Early.{EarlyRulesAreEarly, early_rules, goes_first}

-- rules that overlap meet
pub meets : (a b : Rule) → HasConditions a → HasConditions b → Overlap a b → rules_meet a b ≡ true
meets a b right_a right_b overlap = (pieces_meet-is (whole_piece a) (whole_piece b) right_a right_b).1 overlap

-- the conditions of added rules are right
pub added-right : (batch : List Command) → AllByRecursion ChangesRules batch → AllByRecursion HasConditions (additions batch)
added-right [] all = tt
added-right (Add rule ∷ batch) all = (all.0, added-right batch all.1)
added-right (Set priority answer ∷ batch) all = added-right batch all.1
added-right (Del priority ∷ batch) all = added-right batch all.1

module _ (batch : List Command) where
  members : (rules : List Rule) (rule : Rule) → Contains (early_rules batch rules) rule → Contains rules rule
  members [] rule member = absurd (contains_none rule member)
  members (first ∷ lower) rule member =
      cond_both (goes_first batch first lower (early_rules batch lower)) (first ∷ early_rules batch lower) (early_rules batch lower) (λ some. Contains some rule → Contains (first ∷ lower) rule)
      (λ goes is. elim (contains_cases first rule (early_rules batch lower) is) [
        | inl here ↦ subst (Contains (first ∷ lower)) here (contains_head first lower)
        | inr later ↦ contains_tail first rule lower (members lower rule later)
      ])
      (λ stays is. contains_tail first rule lower (members lower rule is))
      member

  below : (bound : ℕ) (rules : List Rule) → AllByRecursion (λ (lower : Rule). IsTrue (nat_lt lower.priority bound)) rules → AllByRecursion (λ (lower : Rule). IsTrue (nat_lt lower.priority bound)) (early_rules batch rules)
  below bound [] all = tt
  below bound (first ∷ lower) all =
      cond_both (goes_first batch first lower (early_rules batch lower)) (first ∷ early_rules batch lower) (early_rules batch lower) (AllByRecursion (λ (one : Rule). IsTrue (nat_lt one.priority bound)))
      (λ goes. (all.0, below bound lower all.1)) (λ stays. below bound lower all.1)

  falls : (rules : List Rule) → IsRuleSet rules → IsRuleSet (early_rules batch rules)
  falls [] set = tt
  falls (first ∷ lower) set =
      cond_both (goes_first batch first lower (early_rules batch lower)) (first ∷ early_rules batch lower) (early_rules batch lower) IsRuleSet
      (λ goes. (below first.priority lower set.0, falls lower set.1)) (λ stays. falls lower set.1)

  -- what a rule that goes first passed
  passed : (rule : Rule) (lower early : List Rule) → goes_first batch rule lower early ≡ true → IsTrue (removes rule.priority batch) × IsFalse (list_any (rules_meet rule) (additions batch))
      × IsFalse (list_any (λ other. rules_meet rule other && (is_named other.priority batch && not (has_priority early other.priority))) lower)
  passed rule lower early goes =
      let three = and_parts (removes rule.priority batch && not (list_any (rules_meet rule) (additions batch))) (not (list_any (λ other. rules_meet rule other && (is_named other.priority batch && not (has_priority early other.priority))) lower)) goes in
      let two = and_parts (removes rule.priority batch) (not (list_any (rules_meet rule) (additions batch))) three.0 in
      (two.0, not-true _ two.1, not-true _ three.1)

  removed : (rules : List Rule) (rule : Rule) → Contains (early_rules batch rules) rule → IsTrue (removes rule.priority batch)
  removed [] rule member = absurd (contains_none rule member)
  removed (first ∷ lower) rule member =
      cond_both (goes_first batch first lower (early_rules batch lower)) (first ∷ early_rules batch lower) (early_rules batch lower) (λ some. Contains some rule → IsTrue (removes rule.priority batch))
      (λ goes is. elim (contains_cases first rule (early_rules batch lower) is) [
        | inl here ↦ subst (λ (r : Rule). IsTrue (removes r.priority batch)) here (passed first lower (early_rules batch lower) goes).0
        | inr later ↦ removed lower rule later
      ])
      (λ stays is. removed lower rule is)
      member

  module _ (right_added : AllByRecursion HasConditions (additions batch)) where
    apart : (rules : List Rule) → AllByRecursion HasConditions rules → (rule new : Rule) → Contains (early_rules batch rules) rule → Contains (additions batch) new → Overlap rule new → ⊥
    apart [] right rule new member added overlap = contains_none rule member
    apart (first ∷ lower) right rule new member added overlap =
        cond_both (goes_first batch first lower (early_rules batch lower)) (first ∷ early_rules batch lower) (early_rules batch lower) (λ some. Contains some rule → ⊥)
        (λ goes is. elim (contains_cases first rule (early_rules batch lower) is) [
          | inl here ↦
              let meet : rules_meet first new ≡ true = meets first new right.0 (AllByRecursion-member HasConditions (additions batch) new right_added added) (subst (λ r. Overlap r new) (sym here) overlap) in
              let some : list_any (rules_meet first) (additions batch) ≡ true = any_from (rules_meet first) (additions batch) new added meet in
              let bad : true ≡ false = sym some ∙ (passed first lower (early_rules batch lower) goes).1 in cc
          | inr later ↦ apart lower right.1 rule new later added overlap
        ])
        (λ stays is. apart lower right.1 rule new is added overlap)
        member

  -- a lower rule that is met and named goes first too
  too : (first : Rule) (lower : List Rule) (other : Rule) → IsRuleSet lower → HasConditions first → AllByRecursion HasConditions lower → goes_first batch first lower (early_rules batch lower) ≡ true
      → Contains lower other → Overlap first other → IsTrue (is_named other.priority batch) → Contains (early_rules batch lower) other
  too first lower other set right_first right goes member overlap named = elim (cases_Bool (has_priority (early_rules batch lower) other.priority)) [
    | inl has ↦
        let (same, in_early, own) = any_is (λ (one : Rule). nat_eq one.priority other.priority) (early_rules batch lower) has in
        subst (Contains (early_rules batch lower)) (IsRuleSet-distinct lower set same other (members lower same in_early) member (eqb-true _ _ own)) in_early
    | inr lacks ↦ absurd (
        let meet : rules_meet first other ≡ true = meets first other right_first (AllByRecursion-member HasConditions lower other right member) overlap in
        let some = any_from (λ (one : Rule). rules_meet first one && (is_named one.priority batch && not (has_priority (early_rules batch lower) one.priority))) lower other member
        (and_from _ _ meet (and_from _ _ named (not_from_false _ lacks))) in
        let bad : true ≡ false = sym some ∙ (passed first lower (early_rules batch lower) goes).2 in cc)
  ]

  closed : (rules : List Rule) → IsRuleSet rules → AllByRecursion HasConditions rules → (rule other : Rule) → Contains (early_rules batch rules) rule → Contains rules other → other.priority < rule.priority → Overlap rule other
      → IsTrue (is_named other.priority batch) → Contains (early_rules batch rules) other
  closed [] set right rule other member in_set less overlap named = absurd (contains_none rule member)
  closed (first ∷ lower) set right rule other member in_set less overlap named =
      cond_both (goes_first batch first lower (early_rules batch lower)) (first ∷ early_rules batch lower) (early_rules batch lower) (λ some. Contains some rule → Contains some other)
      (λ goes is. elim (contains_cases first rule (early_rules batch lower) is) [
        | inl here ↦ elim (contains_cases first other lower in_set) [
          | inl same ↦ absurd (let a = ap (λ (r : Rule). r.priority) here in let b = ap (λ (r : Rule). r.priority) same in omega arith)
          | inr later ↦ contains_tail first other (early_rules batch lower) (too first lower other set.1 right.0 right.1 goes later (subst (λ r. Overlap r other) (sym here) overlap) named)
        ]
        | inr later ↦ contains_tail first other (early_rules batch lower) (on later (λ there. closed lower set.1 right.1 rule other later there less overlap named))
      ])
      (λ stays is. on is (λ there. closed lower set.1 right.1 rule other is there less overlap named))
      member
    where
      on : Contains (early_rules batch lower) rule → (Contains lower other → Contains (early_rules batch lower) other) → Contains (early_rules batch lower) other
      on is later_too = elim (contains_cases first other lower in_set) [
        | inl same ↦ absurd (
            let beneath = ltb-true _ _ (AllByRecursion-member (λ (one : Rule). IsTrue (nat_lt one.priority first.priority)) lower rule set.0 (members lower rule is)) in
            let b = ap (λ (r : Rule). r.priority) same in omega arith)
        | inr later ↦ later_too later
      ]

pub told : EarlyRulesAreEarly
told rules batch set right changes = record {
  members = members batch rules;
  is_set = falls batch rules set;
  removed = removed batch rules;
  apart = apart batch (added-right batch changes) rules right;
  closed = closed batch rules set right;
}
