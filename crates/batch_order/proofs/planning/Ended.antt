-- The rules of a set at either end.
use Rattle.std.proofs.Common.{◌≡◌, ℕ, zero, suc, ◌+◌, ◌≤◌, Some, None, List, [], ◌∷◌, length, Contains, arith, inl, inr, sym, ◌∙◌, subst}
use Rattle.std.specs.Prelude.{nat_lt, slice_get}
use Rattle.std.proofs.lemmas.Bool.{ltb-true, lt-ltb}
use Rattle.slot_order.proofs.Lists.{contains_head, contains_tail, contains_cases, contains_none, AllByRecursion-member, any_is, any_from}
use Rattle.rule_model.specs.declared.Rule.{Rule}
use Rattle.rule_model.specs.RuleSet.{IsRuleSet}
use Rattle.placement.proofs.Cutting.{same_bool}
use Rattle.batch_order.specs.Placing.{has_higher, has_lower}

-- a rule at a place is one of them
at_in : (rules : List Rule) (k : ℕ) (one : Rule) → slice_get rules k ≡ Some one → Contains rules one
at_in [] k one is = absurd (let z : None ≡ Some one = is in cc)
at_in (rule ∷ rules) zero one is = let z : Some rule ≡ Some one = is in let same : rule ≡ one = cc in subst (Contains (rule ∷ rules)) same (contains_head rule rules)
at_in (rule ∷ rules) (suc k) one is = contains_tail rule one rules (at_in rules k one is)

-- none is above the first
first_most : (rules : List Rule) (first other : Rule) → IsRuleSet rules → slice_get rules 0 ≡ Some first → Contains rules other → other.priority ≤ first.priority
first_most [] first other set is has = absurd (contains_none other has)
first_most (rule ∷ rules) first other set is has =
    let z : Some rule ≡ Some first = is in let same : rule ≡ first = cc in
    subst (λ (top : Rule). other.priority ≤ top.priority) same (elim (contains_cases rule other rules has) [
      | inl here ↦ subst (λ (x : Rule). x.priority ≤ rule.priority) here (omega arith)
      | inr later ↦ let less = ltb-true other.priority rule.priority (AllByRecursion-member _ rules other set.0 later) in omega arith
    ])

-- none is below the last
last_least : (rules : List Rule) (k : ℕ) (last other : Rule) → IsRuleSet rules → k + 1 ≡ length rules → slice_get rules k ≡ Some last → Contains rules other → last.priority ≤ other.priority
last_least [] k last other set size is has = absurd (contains_none other has)
last_least (rule ∷ rules) (suc k) last other set size is has = elim (contains_cases rule other rules has) [
  | inl here ↦ subst (λ (x : Rule). last.priority ≤ x.priority) here
      (let less = ltb-true last.priority rule.priority (AllByRecursion-member _ rules last set.0 (at_in rules k last is)) in omega arith)
  | inr later ↦ last_least rules k last other set.1 (omega arith) is later
]
last_least (rule ∷ []) zero last other set size is has = elim (contains_cases rule other [] has) [
  | inl here ↦ let z : Some rule ≡ Some last = is in let same : last ≡ other = (let y : rule ≡ last = cc in sym y ∙ here) in subst (λ (x : Rule). last.priority ≤ x.priority) same (omega arith)
  | inr later ↦ absurd (contains_none other later)
]
last_least (rule ∷ next ∷ rules) zero last other set size is has = absurd (omega arith)

-- so one is above a priority where the first is, and one below where the last is
pub higher_first : (rules : List Rule) (priority : ℕ) (first : Rule) → IsRuleSet rules → slice_get rules 0 ≡ Some first → nat_lt priority first.priority ≡ has_higher rules priority
higher_first rules priority first set is = same_bool _ _
    (λ above. any_from (λ (rule : Rule). nat_lt priority rule.priority) rules first (at_in rules 0 first is) above)
    (λ some. let w = any_is (λ (rule : Rule). nat_lt priority rule.priority) rules some in
    let less = ltb-true priority w.0.priority w.2 in let most = first_most rules first w.0 set is w.1 in lt-ltb priority first.priority (omega arith))

pub lower_last : (rules : List Rule) (priority k : ℕ) (last : Rule) → IsRuleSet rules → k + 1 ≡ length rules → slice_get rules k ≡ Some last → nat_lt last.priority priority ≡ has_lower rules priority
lower_last rules priority k last set size is = same_bool _ _
    (λ below. any_from (λ (rule : Rule). nat_lt rule.priority priority) rules last (at_in rules k last is) below)
    (λ some. let w = any_is (λ (rule : Rule). nat_lt rule.priority priority) rules some in
    let less = ltb-true w.0.priority priority w.2 in let least = last_least rules k last w.0 set size is w.1 in lt-ltb last.priority priority (omega arith))
