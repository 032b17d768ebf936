-- What keeps a list of rules a set: an addition of an absent priority, rules left out, and changed results.
use Rattle.std.proofs.Common.{◌≡◌, ℕ, ◌<◌, ◌≤◌, Bool, List, [], ◌∷◌, map, filter, IsTrue, IsFalse, refl, arith, ltb, eqb}
use Rattle.std.specs.List.{AllByRecursion}
use Rattle.std.proofs.lemmas.Bool.{cond_both, ltb-true, ltb-false, lt-ltb, eqb-false, or_parts}
use Rattle.rule_model.specs.declared.Rule.{Rule}
use Rattle.rule_model.specs.RuleSet.{IsRuleSet, has_priority}
use Rattle.rule_store.specs.Batch.{with_rule}
use Rattle.rule_store.specs.Store.{answered, with_answer, without_rule}

-- each of the rules is below a bound
abbrev AllBelow : ℕ → List Rule → Type 0
AllBelow bound rules = AllByRecursion (λ lower. IsTrue (ltb lower.priority bound)) rules

AllBelow-greater : (bound greater : ℕ) (rules : List Rule) → bound ≤ greater → AllBelow bound rules → AllBelow greater rules
AllBelow-greater bound greater [] least all = tt
AllBelow-greater bound greater (rule ∷ rules) least all =
    let below = ltb-true rule.priority bound all.0 in (lt-ltb _ _ (omega arith), AllBelow-greater bound greater rules least all.1)

AllBelow-with_rule : (bound : ℕ) (rules : List Rule) (new : Rule) → AllBelow bound rules → new.priority < bound → AllBelow bound (with_rule rules new)
AllBelow-with_rule bound [] new all below = (lt-ltb _ _ below, tt)
AllBelow-with_rule bound (rule ∷ rules) new all below =
    cond_both (ltb rule.priority new.priority) (new ∷ rule ∷ rules) (rule ∷ with_rule rules new) (AllBelow bound)
    (λ lower. (lt-ltb _ _ below, all))
    (λ higher. (all.0, AllBelow-with_rule bound rules new all.1 below))

AllBelow-filter : (bound : ℕ) (test : Rule → Bool) (rules : List Rule) → AllBelow bound rules → AllBelow bound (filter test rules)
AllBelow-filter bound test [] all = tt
AllBelow-filter bound test (rule ∷ rules) all =
    cond_both (test rule) (rule ∷ filter test rules) (filter test rules) (AllBelow bound)
    (λ passes. (all.0, AllBelow-filter bound test rules all.1))
    (λ fails. AllBelow-filter bound test rules all.1)

AllBelow-map : (bound : ℕ) (f : Rule → Rule) → ((rule : Rule) → (f rule).priority ≡ rule.priority) → (rules : List Rule) → AllBelow bound rules → AllBelow bound (map f rules)
AllBelow-map bound f same [] all = tt
AllBelow-map bound f same (rule ∷ rules) all = (rw (same rule) all.0, AllBelow-map bound f same rules all.1)

-- an addition at an absent priority
pub IsRuleSet-with_rule : (rules : List Rule) (new : Rule) → IsRuleSet rules → IsFalse (has_priority rules new.priority) → IsRuleSet (with_rule rules new)
IsRuleSet-with_rule [] new falling absent = (tt, tt)
IsRuleSet-with_rule (rule ∷ rules) new falling absent =
    cond_both (ltb rule.priority new.priority) (new ∷ rule ∷ rules) (rule ∷ with_rule rules new) IsRuleSet
    (λ lower. let below = ltb-true rule.priority new.priority lower in ((lower, AllBelow-greater rule.priority new.priority rules (omega arith) falling.0), falling))
    (λ higher.
    let least = ltb-false rule.priority new.priority higher in
    let differs = eqb-false rule.priority new.priority (or_parts _ _ absent).0 in (
      AllBelow-with_rule rule.priority rules new falling.0 (omega (arith, differs)),
      IsRuleSet-with_rule rules new falling.1 (or_parts _ _ absent).1,
    ))

-- rules that are left out
pub IsRuleSet-filter : (test : Rule → Bool) (rules : List Rule) → IsRuleSet rules → IsRuleSet (filter test rules)
IsRuleSet-filter test [] falling = tt
IsRuleSet-filter test (rule ∷ rules) falling =
    cond_both (test rule) (rule ∷ filter test rules) (filter test rules) IsRuleSet
    (λ passes. (AllBelow-filter rule.priority test rules falling.0, IsRuleSet-filter test rules falling.1))
    (λ fails. IsRuleSet-filter test rules falling.1)

-- changes that leave each priority
pub IsRuleSet-map : (f : Rule → Rule) → ((rule : Rule) → (f rule).priority ≡ rule.priority) → (rules : List Rule) → IsRuleSet rules → IsRuleSet (map f rules)
IsRuleSet-map f same [] falling = tt
IsRuleSet-map f same (rule ∷ rules) falling =
    (rw (same rule) (AllBelow-map rule.priority f same rules falling.0), IsRuleSet-map f same rules falling.1)

answered-priority : (priority answer : ℕ) (rule : Rule) → (answered priority answer rule).priority ≡ rule.priority
answered-priority priority answer rule =
    cond_both (eqb rule.priority priority) (record rule { result = answer }) rule (λ (r : Rule). r.priority ≡ rule.priority) (λ same. refl) (λ other. refl)

pub IsRuleSet-with_answer : (rules : List Rule) (priority answer : ℕ) → IsRuleSet rules → IsRuleSet (with_answer rules priority answer)
IsRuleSet-with_answer rules priority answer falling = IsRuleSet-map (answered priority answer) (answered-priority priority answer) rules falling

pub IsRuleSet-without_rule : (rules : List Rule) (priority : ℕ) → IsRuleSet rules → IsRuleSet (without_rule rules priority)
IsRuleSet-without_rule rules priority falling = IsRuleSet-filter _ rules falling
