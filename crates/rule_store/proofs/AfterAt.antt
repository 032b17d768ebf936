-- What a batch leaves at a priority, by the commands that name it.
use Rattle.std.proofs.Common.{◌≡◌, ℕ, true, false, not, cond, Bool, Option, Some, None, unwrap_or, List, [], ◌∷◌, map, filter, Contains, inl, inr, refl, sym, ap, subst, ◌∙◌, eqb-true}
use Rattle.std.specs.Prelude.{nat_eq, option_map}
use Rattle.std.specs.Option.{option_or}
use Rattle.std.proofs.lemmas.Bool.{cases_Bool, cond-true, cond-false}
use Rattle.rule_model.specs.declared.Rule.{Rule}
use Rattle.rule_model.specs.RuleSet.{IsRuleSet, rule_at}
use Rattle.rule_model.proofs.RuleSets.{IsRuleSet-distinct}
use Rattle.rule_store.specs.declared.Command.{Command}
use Rattle.rule_store.specs.declared.Command.TheVariants.{Add, Set, Del}
use Rattle.rule_store.specs.Applied.{kept_rules}
use Rattle.rule_store.specs.Batch.{commands_naming, removes, additions, result_after, with_result_after, set_after}
use Rattle.rule_store.proofs.Members.{with_rules-to, with_rules-from}
use Rattle.rule_store.proofs.RulesAt.{cases_rule_at, rule_at-member}

-- what a batch adds at a priority is what the commands that name it add
pub additions_at : (batch : List Command) (priority : ℕ) → rule_at (additions batch) priority ≡ rule_at (additions (commands_naming priority batch)) priority
additions_at [] priority = refl
additions_at (Add rule ∷ batch) priority = elim (cases_Bool (nat_eq rule.priority priority)) [
  | inl same ↦ cond-true _ _ _ same ∙ sym (ap (λ some. rule_at (additions some) priority) (cond-true _ _ _ same) ∙ cond-true _ _ _ same)
  | inr other ↦ cond-false _ _ _ other ∙ additions_at batch priority ∙ sym (ap (λ some. rule_at (additions some) priority) (cond-false _ _ _ other))
]
additions_at (Set changed answer ∷ batch) priority = additions_at batch priority ∙ ap (λ some. rule_at some priority) (sym (at (nat_eq changed priority)))
  where
    at : (test : Bool) → additions (cond test (Set changed answer ∷ commands_naming priority batch) (commands_naming priority batch)) ≡ additions (commands_naming priority batch)
    at true = refl
    at false = refl
additions_at (Del removed ∷ batch) priority = additions_at batch priority ∙ ap (λ some. rule_at some priority) (sym (at (nat_eq removed priority)))
  where
    at : (test : Bool) → additions (cond test (Del removed ∷ commands_naming priority batch) (commands_naming priority batch)) ≡ additions (commands_naming priority batch)
    at true = refl
    at false = refl

-- and its result there is the one that they give
pub result_at : (batch : List Command) (priority old : ℕ) → result_after batch priority old ≡ result_after (commands_naming priority batch) priority old
result_at [] priority old = refl
result_at (Add rule ∷ batch) priority old = result_at batch priority old ∙ sym (at (nat_eq rule.priority priority))
  where
    at : (test : Bool) → result_after (cond test (Add rule ∷ commands_naming priority batch) (commands_naming priority batch)) priority old ≡ result_after (commands_naming priority batch) priority old
    at true = refl
    at false = refl
result_at (Set changed answer ∷ batch) priority old = elim (cases_Bool (nat_eq changed priority)) [
  | inl same ↦
      ap (λ test. unwrap_or (cond test (Some answer) None) (result_after batch priority old)) same
      ∙ sym (ap (λ some. result_after some priority old) (cond-true _ _ _ same) ∙ ap (λ test. unwrap_or (cond test (Some answer) None) (result_after (commands_naming priority batch) priority old)) same)
  | inr other ↦
      ap (λ test. unwrap_or (cond test (Some answer) None) (result_after batch priority old)) other
      ∙ result_at batch priority old ∙ sym (ap (λ some. result_after some priority old) (cond-false _ _ _ other))
]
result_at (Del removed ∷ batch) priority old = result_at batch priority old ∙ sym (at (nat_eq removed priority))
  where
    at : (test : Bool) → result_after (cond test (Del removed ∷ commands_naming priority batch) (commands_naming priority batch)) priority old ≡ result_after (commands_naming priority batch) priority old
    at true = refl
    at false = refl

-- among the rules whose priorities pass a test
pub rule_at-filter : (test : ℕ → Bool) (rules : List Rule) (priority : ℕ) → rule_at (filter (λ rule. test rule.priority) rules) priority ≡ cond (test priority) (rule_at rules priority) None
rule_at-filter test [] priority = sym (either (test priority))
  where
    either : (passes : Bool) → cond {A = Option Rule} passes None None ≡ None
    either true = refl
    either false = refl
rule_at-filter test (rule ∷ rules) priority = elim (cases_Bool (nat_eq rule.priority priority)) [
  | inl same ↦ elim (cases_Bool (test priority)) [
    | inl passes ↦
        ap (λ some. rule_at some priority) (cond-true _ _ _ (ap test (eqb-true _ _ same) ∙ passes)) ∙ cond-true _ _ _ same
        ∙ sym (cond-true _ _ _ passes ∙ cond-true _ _ _ same)
    | inr fails ↦
        ap (λ some. rule_at some priority) (cond-false _ _ _ (ap test (eqb-true _ _ same) ∙ fails))
        ∙ rule_at-filter test rules priority ∙ cond-false _ _ _ fails ∙ sym (cond-false _ _ _ fails)
  ]
  | inr other ↦ rest other ∙ rule_at-filter test rules priority ∙ ap (λ found. cond (test priority) found None) (sym (cond-false _ _ _ other))
]
  where
    rest : nat_eq rule.priority priority ≡ false → rule_at (filter (λ one. test one.priority) (rule ∷ rules)) priority ≡ rule_at (filter (λ one. test one.priority) rules) priority
    rest other = elim (cases_Bool (test rule.priority)) [
      | inl passes ↦ ap (λ some. rule_at some priority) (cond-true _ _ _ passes) ∙ cond-false _ _ _ other
      | inr fails ↦ ap (λ some. rule_at some priority) (cond-false _ _ _ fails)
    ]

rule_at-results : (batch : List Command) (rules : List Rule) (priority : ℕ) → rule_at (map (with_result_after batch) rules) priority ≡ option_map (with_result_after batch) (rule_at rules priority)
rule_at-results batch [] priority = refl
rule_at-results batch (rule ∷ rules) priority = elim (cases_Bool (nat_eq rule.priority priority)) [
  | inl same ↦ cond-true _ _ _ same ∙ sym (ap (option_map (with_result_after batch)) (cond-true _ _ _ same))
  | inr other ↦ cond-false _ _ _ other ∙ rule_at-results batch rules priority ∙ sym (ap (option_map (with_result_after batch)) (cond-false _ _ _ other))
]

-- what a batch keeps of a set at a priority
abbrev pub kept_at : List Rule → List Command → ℕ → Option Rule
kept_at rules batch priority = option_map (with_result_after batch) (cond (not (removes priority batch)) (rule_at rules priority) None)

-- behind the batch there stands what it adds there, or else what it keeps
pub after_at : (rules : List Rule) (batch : List Command) (priority : ℕ) → IsRuleSet (set_after rules batch) → rule_at (set_after rules batch) priority ≡ option_or (rule_at (additions batch) priority) (kept_at rules batch priority)
after_at rules batch priority set = elim (cases_rule_at (additions batch) priority) [
  | inl new ↦ stands new.0 new.3 (with_rules-from kept (additions batch) new.0 (inl new.2)) ∙ sym (ap (λ found. option_or found (kept_at rules batch priority)) new.1)
  | inr no_new ↦ elim (cases_rule_at kept priority) [
    | inl old ↦ stands old.0 old.3 (with_rules-from kept (additions batch) old.0 (inr old.2)) ∙ sym (ap (λ found. option_or found (kept_at rules batch priority)) no_new.0 ∙ (sym kept_is ∙ old.1))
    | inr no_old ↦ elim (cases_rule_at (set_after rules batch) priority) [
      | inl now ↦ absurd (elim (with_rules-to kept (additions batch) now.0 now.2) [ inl new ↦ no_new.1 now.0 new now.3 | inr old ↦ no_old.1 now.0 old now.3 ])
      | inr none ↦ none.0 ∙ sym (ap (λ found. option_or found (kept_at rules batch priority)) no_new.0 ∙ (sym kept_is ∙ no_old.0))
    ]
  ]
]
  where
    kept : List Rule
    kept = kept_rules rules batch

    kept_is : rule_at kept priority ≡ kept_at rules batch priority
    kept_is = rule_at-results batch (filter (λ rule. not (removes rule.priority batch)) rules) priority
        ∙ ap (option_map (with_result_after batch)) (rule_at-filter (λ n. not (removes n batch)) rules priority)

    stands : (rule : Rule) → rule.priority ≡ priority → Contains (set_after rules batch) rule → rule_at (set_after rules batch) priority ≡ Some rule
    stands rule own member = subst (λ n. rule_at (set_after rules batch) n ≡ Some rule) own (rule_at-member (set_after rules batch) rule (IsRuleSet-distinct (set_after rules batch) set) member)

-- what is found at a priority has it
pub own_priority : (rules : List Rule) (priority : ℕ) (rule : Rule) → rule_at rules priority ≡ Some rule → rule.priority ≡ priority
own_priority rules priority rule is = elim (cases_rule_at rules priority) [
  | inl found ↦ let both : Some found.0 ≡ Some rule = sym found.1 ∙ is in let same : found.0 ≡ rule = cc in ap (λ (r : Rule). r.priority) (sym same) ∙ found.3
  | inr none ↦ absurd (let bad : None ≡ Some rule = sym none.0 ∙ is in cc)
]

pub or_first : (found other : Option Rule) (rule : Rule) → found ≡ Some rule → option_or found other ≡ Some rule
or_first found other rule is = ap (λ some. option_or some other) is
