-- The rule at a priority.
use Rattle.std.proofs.Common.{◌≡◌, ℕ, nat_eq, true, List, [], ◌∷◌, Option, Some, None, Contains, ◌⊎◌, inl, inr, refl, ap, ◌∙◌, eqb-true}
use Rattle.std.proofs.lemmas.Bool.{cases_Bool, cond-true, cond-false, eq-eqb}
use Rattle.slot_order.specs.Order.{Distinct}
use Rattle.slot_order.proofs.Lists.{contains_head, contains_tail, contains_cases, contains_none}
use Rattle.rule_model.specs.declared.Rule.{Rule}
use Rattle.rule_model.specs.RuleSet.{rule_at}

-- the rule at a priority, or that there is none
pub cases_rule_at : (rules : List Rule) (priority : ℕ) → ((rule : Rule) × (rule_at rules priority ≡ Some rule) × Contains rules rule × (rule.priority ≡ priority)) ⊎ ((rule_at rules priority ≡ None) × ((rule : Rule) → Contains rules rule → rule.priority ≡ priority → ⊥))
cases_rule_at [] priority = inr (refl, λ rule none same. contains_none rule none)
cases_rule_at (first ∷ rules) priority = elim (cases_Bool (nat_eq first.priority priority)) [
  | inl here ↦ inl (first, cond-true _ _ _ here, contains_head first rules, eqb-true _ _ here)
  | inr other ↦ elim (cases_rule_at rules priority) [
    | inl later ↦ inl (later.0, cond-false _ _ _ other ∙ later.1, contains_tail first later.0 rules later.2, later.3)
    | inr none ↦ inr (
      cond-false _ _ _ other ∙ none.0,
      λ rule member same. elim (contains_cases first rule rules member) [
        | inl here ↦ let wrong : nat_eq first.priority priority ≡ true = eq-eqb first.priority priority (ap (λ (r : Rule). r.priority) here ∙ same) in absurd (cc)
        | inr later ↦ none.1 rule later same
      ],
    )
  ]
]

-- where no two rules have one priority, the rule at a member's is that member
pub rule_at-member : (rules : List Rule) (rule : Rule) → Distinct (λ (r : Rule). r.priority) rules → Contains rules rule → rule_at rules rule.priority ≡ Some rule
rule_at-member rules rule distinct member = elim (cases_rule_at rules rule.priority) [
  | inl found ↦ found.1 ∙ ap (λ (r : Rule). let is : Option Rule = Some r in is) (distinct found.0 rule found.2 member found.3)
  | inr none ↦ absurd (none.1 rule member refl)
]
