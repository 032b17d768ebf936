-- The best rule of a set in words, and that a set answers the same in any order.
use Rattle.std.proofs.Common.{◌≡◌, true, false, nat_lt, IsTrue, Option, Some, None, List, [], ◌∷◌, Contains, IsPermutation, option_map, inl, inr, refl, arith, sym, ◌∙◌, ap, le-ltb, ltb-true, ltb-false}
use Rattle.std.proofs.lemmas.Bool.{false_from_ne_true}
use Rattle.std.proofs.lemmas.List.Sorted.{Contains-permutation, IsPermutation-sym}
use Rattle.slot_order.specs.Order.{IsBest, Distinct}
use Rattle.slot_order.proofs.Lists.{contains_cases, contains_none, AllByRecursion-member}
use Rattle.slot_order.proofs.Rules.{best_best}
use Rattle.rule_model.specs.declared.Key.{Key}
use Rattle.rule_model.specs.declared.Rule.{Rule}
use Rattle.rule_model.specs.Rule.{rule_matches}
use Rattle.rule_model.specs.RuleSet.{IsRuleSet, IsBestRule, best_rule, answer}

-- the best rule of a list in words
pub best_rule-is : (rules : List Rule) (key : Key) → IsBestRule rules key (best_rule rules key)
best_rule-is rules key = at (best_rule rules key) (best_best rule_matches (λ (rule : Rule). rule.priority) rules key)
  where
    at : (found : Option Rule) → IsBest rule_matches (λ (rule : Rule). rule.priority) (Contains rules) key found → IsBestRule rules key found
    at None none = λ rule member. false_from_ne_true _ (none rule member)
    at (Some rule) is = (is.0, is.1, λ other member matched. le-ltb _ _ (is.2 other member matched))

-- no priority stands twice
pub IsRuleSet-distinct : (rules : List Rule) → IsRuleSet rules → Distinct (λ rule. rule.priority) rules
IsRuleSet-distinct [] set a b member_a member_b same = absurd (contains_none a member_a)
IsRuleSet-distinct (rule ∷ rules) set a b member_a member_b same =
    elim (contains_cases rule a rules member_a) [
      | inl first ↦ elim (contains_cases rule b rules member_b) [
        | inl second ↦ sym first ∙ second
        | inr later ↦
            let lower = ltb-true b.priority rule.priority (AllByRecursion-member (λ (lower : Rule). IsTrue (nat_lt lower.priority rule.priority)) rules b set.0 later) in
            let one = ap (λ (r : Rule). r.priority) first in
            absurd (omega arith)
      ]
      | inr early ↦ elim (contains_cases rule b rules member_b) [
        | inl second ↦
            let lower = ltb-true a.priority rule.priority (AllByRecursion-member (λ (lower : Rule). IsTrue (nat_lt lower.priority rule.priority)) rules a set.0 early) in
            let one = ap (λ (r : Rule). r.priority) second in
            absurd (omega arith)
        | inr later ↦ IsRuleSet-distinct rules set.1 a b early later same
      ]
    ]

-- of two rules that are both best in a set, one is the other
pub IsBestRule-one : (rules : List Rule) (key : Key) (a b : Option Rule) → IsRuleSet rules → IsBestRule rules key a → IsBestRule rules key b → a ≡ b
IsBestRule-one rules key None None set is_a is_b = refl
IsBestRule-one rules key None (Some b) set is_a is_b = let wrong : true ≡ false = sym is_b.1 ∙ is_a b is_b.0 in cc
IsBestRule-one rules key (Some a) None set is_a is_b = let wrong : true ≡ false = sym is_a.1 ∙ is_b a is_a.0 in cc
IsBestRule-one rules key (Some a) (Some b) set is_a is_b =
    let no_less = ltb-false a.priority b.priority (is_a.2 b is_b.0 is_b.1) in
    let no_more = ltb-false b.priority a.priority (is_b.2 a is_a.0 is_a.1) in
    ap (λ (r : Rule). let found : Option Rule = Some r in found) (IsRuleSet-distinct rules set a b is_a.0 is_b.0 (omega arith))

-- the words say which rule it is
pub best_rule-only : (rules : List Rule) (key : Key) (found : Option Rule) → IsRuleSet rules → IsBestRule rules key found → found ≡ best_rule rules key
best_rule-only rules key found set is = IsBestRule-one rules key found (best_rule rules key) set is (best_rule-is rules key)

-- what is best in a list is best in each list of the same members
pub IsBestRule-members : (a b : List Rule) (key : Key) (found : Option Rule) → ((rule : Rule) → Contains a rule → Contains b rule) → ((rule : Rule) → Contains b rule → Contains a rule)
    → IsBestRule b key found → IsBestRule a key found
IsBestRule-members a b key None forth back is = λ rule member. is rule (forth rule member)
IsBestRule-members a b key (Some found) forth back is = (back found is.0, is.1, λ rule member. is.2 rule (forth rule member))

-- the order of a set doesn't matter
pub answer-permutation : (a b : List Rule) (key : Key) → IsRuleSet a → IsPermutation a b → answer b key ≡ answer a key
answer-permutation a b key set same =
    let forth = λ (rule : Rule). Contains-permutation a b rule same in
    let back = λ (rule : Rule). Contains-permutation b a rule (IsPermutation-sym a b same) in
    let best_in_a = IsBestRule-members a b key (best_rule b key) forth back (best_rule-is b key) in
    ap (λ (found : Option Rule). option_map (λ rule. (rule.priority, rule.result)) found) (best_rule-only a key (best_rule b key) set best_in_a)
