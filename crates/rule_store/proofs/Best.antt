-- The best rule of a set is the first that matches.
use Rattle.std.proofs.Common.{◌≡◌, ℕ, zero, suc, ◌+◌, ◌<◌, ◌≤◌, List, [], ◌∷◌, length, get_or, drop, Option, Some, None, IsTrue, IsFalse, IfSome, refl, ap, ◌∙◌, arith, ltb}
use Rattle.std.specs.List.{AllByRecursion}
use Rattle.std.proofs.lemmas.Bool.{cond-true, cond-false, cond_both, ltb-true, le-ltb}
use Rattle.std.proofs.lemmas.List.{drop_more}
use Rattle.slot_order.specs.Order.{higher}
use Rattle.rule_model.specs.declared.Rule.{Rule}
use Rattle.rule_model.specs.declared.Key.{Key}
use Rattle.rule_model.specs.Rule.{rule_matches}
use Rattle.rule_model.specs.RuleSet.{IsRuleSet, best_rule}

-- the best of rules below a bound is below it
best-below : (bound : ℕ) (rules : List Rule) (key : Key) → AllByRecursion (λ (lower : Rule). IsTrue (ltb lower.priority bound)) rules → IfSome (best_rule rules key) (λ best. best.priority < bound)
best-below bound [] key all = tt
best-below bound (rule ∷ rules) key all =
    cond_both (rule_matches rule key) (higher (λ (r : Rule). r.priority) rule (best_rule rules key)) (best_rule rules key) (λ found. IfSome found (λ best. best.priority < bound))
    (λ hit. joined (best_rule rules key) (best-below bound rules key all.1))
    (λ miss. best-below bound rules key all.1)
  where
    joined : (found : Option Rule) → IfSome found (λ best. best.priority < bound) → IfSome (higher (λ (r : Rule). r.priority) rule found) (λ best. best.priority < bound)
    joined None below = ltb-true rule.priority bound all.0
    joined (Some later) below =
        cond_both (ltb rule.priority later.priority) (Some later) (Some rule) (λ found. IfSome found (λ best. best.priority < bound))
        (λ less. below)
        (λ more. ltb-true rule.priority bound all.0)

-- the first rule of a set is the best where it matches
pub best-first : (rule : Rule) (rules : List Rule) (key : Key) → IsRuleSet (rule ∷ rules) → IsTrue (rule_matches rule key) → best_rule (rule ∷ rules) key ≡ Some rule
best-first rule rules key falling hit =
    cond-true _ _ _ hit ∙ joined (best_rule rules key) (best-below rule.priority rules key falling.0)
  where
    joined : (found : Option Rule) → IfSome found (λ best. best.priority < rule.priority) → higher (λ (r : Rule). r.priority) rule found ≡ Some rule
    joined None below = refl
    joined (Some later) below = let least : later.priority ≤ rule.priority = omega arith in cond-false _ _ _ (le-ltb rule.priority later.priority least)

-- and is passed over where it doesn't
pub best-next : (rule : Rule) (rules : List Rule) (key : Key) → IsFalse (rule_matches rule key) → best_rule (rule ∷ rules) key ≡ best_rule rules key
best-next rule rules key miss = cond-false _ _ _ miss

pub IsRuleSet-drop : (rules : List Rule) (count : ℕ) → IsRuleSet rules → IsRuleSet (drop count rules)
IsRuleSet-drop rules zero falling = falling
IsRuleSet-drop [] (suc count) falling = tt
IsRuleSet-drop (rule ∷ rules) (suc count) falling = IsRuleSet-drop rules count falling.1

-- the rule at a place is the best where it matches and none before it does
pub best-at : (rules : List Rule) (key : Key) (place : ℕ) (rule : Rule) → IsRuleSet rules → place < length rules → get_or rules place rule ≡ rule → IsTrue (rule_matches rule key) → best_rule (drop place rules) key ≡ Some rule
best-at rules key place rule falling within read hit =
    let split = drop_more rules place rule within ∙ ap (λ (r : Rule). r ∷ drop (place + 1) rules) read in
    rw split (best-first rule (drop (place + 1) rules) key (rw split at (IsRuleSet-drop rules place falling)) hit)

pub best-past : (rules : List Rule) (key : Key) (place : ℕ) (rule : Rule) → place < length rules → get_or rules place rule ≡ rule → IsFalse (rule_matches rule key) → best_rule (drop place rules) key ≡ best_rule (drop (place + 1) rules) key
best-past rules key place rule within read miss =
    let split = drop_more rules place rule within ∙ ap (λ (r : Rule). r ∷ drop (place + 1) rules) read in
    rw split (best-next rule (drop (place + 1) rules) key miss)
