-- Sets of rules, and what a set answers.
use Rattle.std.specs.Prelude.{ℕ, Bool, IsTrue, IsFalse, Option, MatchOption, List, [], ◌∷◌, Contains, IsPermutation, ◌≡◌, option_map, nat_lt, nat_eq}
use Rattle.std.specs.List.{list_any, find, AllByRecursion}
use Rattle.slot_order.specs.Order.{best}
use Rattle.slot_order.specs.Chains.{IsChain, BoundsMemberChains}
use Rattle.rule_model.specs.declared.Key.{Key}
use Rattle.rule_model.specs.declared.Rule.{Rule}
use Rattle.rule_model.specs.Rule.{rule_matches, Overlap}

-- A set of rules: a list by strictly falling priority, so that no priority stands twice.
abbrev pub IsRuleSet : List Rule → Type 0
IsRuleSet [] = Unit {0}
IsRuleSet (rule ∷ rules) = AllByRecursion (λ lower. IsTrue (nat_lt lower.priority rule.priority)) rules × IsRuleSet rules

-- What a look-up answers: the priority and the result of a rule, or nothing.
abbrev pub Answer : Type 0
Answer = Option (ℕ × ℕ)

-- The matching rule of greatest priority, if a rule matches.
abbrev pub best_rule : List Rule → Key → Option Rule
best_rule rules key = best rule_matches (λ rule. rule.priority) rules key

-- The answer of a set: the priority and the result of that rule.
abbrev pub answer : List Rule → Key → Answer
answer rules key = option_map (λ rule. (rule.priority, rule.result)) (best_rule rules key)

-- in words: a matching rule of the set that no matching one exceeds, and nothing only where none matches
abbrev pub IsBestRule : List Rule → Key → Option Rule → Type 0
IsBestRule rules key found =
    MatchOption found ((rule : Rule) → Contains rules rule → IsFalse (rule_matches rule key))
    (λ best. Contains rules best × IsTrue (rule_matches best key) ×
    ((rule : Rule) → Contains rules rule → IsTrue (rule_matches rule key) → IsFalse (nat_lt best.priority rule.priority)))

-- what a set answers is such a rule
abbrev pub AnswersByItsBestRule : Type 0
AnswersByItsBestRule = (rules : List Rule) (key : Key) → IsBestRule rules key (best_rule rules key)

-- the order in which a set is listed doesn't matter
abbrev pub AnswersInAnyOrder : Type 0
AnswersInAnyOrder = (set list : List Rule) (key : Key) → IsRuleSet set → IsPermutation set list → answer list key ≡ answer set key

-- the rule of a set at a priority
abbrev pub rule_at : List Rule → ℕ → Option Rule
rule_at rules priority = find (λ rule. nat_eq rule.priority priority) rules

-- whether a rule of the set has the priority
abbrev pub has_priority : List Rule → ℕ → Bool
has_priority rules priority = list_any (λ rule. nat_eq rule.priority priority) rules

-- An overlap chain: rules of strictly falling priority, each overlapping the next.
abbrev pub IsOverlapChain : List Rule → Type 0
IsOverlapChain rules = IsChain Overlap (λ rule. rule.priority) rules

-- No overlap chain of these rules is longer.
abbrev pub BoundsChains : List Rule → ℕ → Type 0
BoundsChains rules bound = BoundsMemberChains Overlap (λ rule. rule.priority) (Contains rules) bound
