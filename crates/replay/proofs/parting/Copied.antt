-- A set is made anew of its rules, the highest first.
use Rattle.std.proofs.Common.{◌≡◌, ℕ, zero, suc, ◌+◌, ◌<◌, ◌≤◌, false, IsTrue, IsFalse, List, [], ◌∷◌, ◌++◌, Some, take, get_or, length, refl, sym, ◌∙◌, ap, ap₂, subst, arith, ltb}
use Rattle.std.specs.Prelude.{◌||◌, slice_get}
use Rattle.std.specs.List.{AllByRecursion}
use Rattle.std.proofs.lemmas.Bool.{cond-false, le-ltb, ltb-true, ne_eqb}
use Rattle.std.proofs.lemmas.List.{take_more}
use Rattle.slot_order.proofs.Lists.{AllByRecursion-member}
use Rattle.rule_model.specs.declared.Rule.{Rule}
use Rattle.rule_model.specs.RuleSet.{IsRuleSet, has_priority}
use Rattle.rule_store.specs.Batch.{with_rule}
use Rattle.rule_store.proofs.Sums.{slice_get-read, slice_get-within}

-- all of some rules are above another one
abbrev AreAbove : Rule → List Rule → Type 0
AreAbove rule rules = AllByRecursion (λ (above : Rule). rule.priority < above.priority) rules

last_in : (rule : Rule) (front : List Rule) → AreAbove rule front → with_rule front rule ≡ front ++ rule ∷ []
last_in rule [] all = refl
last_in rule (one ∷ front) all =
    let least : rule.priority ≤ one.priority = let less = all.0 in omega arith in
    cond-false _ _ _ (le-ltb one.priority rule.priority least) ∙ ap (λ (rest : List Rule). one ∷ rest) (last_in rule front all.1)

none_in : (rule : Rule) (front : List Rule) → AreAbove rule front → has_priority front rule.priority ≡ false
none_in rule [] all = refl
none_in rule (one ∷ front) all =
    ap₂ (λ a b. a || b) (ne_eqb one.priority rule.priority (λ same. let less = all.0 in omega arith)) (none_in rule front all.1)

above_at : (rules : List Rule) (i : ℕ) (rule : Rule) → IsRuleSet rules → i < length rules → get_or rules i rule ≡ rule → AreAbove rule (take i rules)
above_at rules zero rule falling within read = tt
above_at [] (suc i) rule falling within read = tt
above_at (one ∷ rules) (suc i) rule falling within read = (
  ltb-true rule.priority one.priority (AllByRecursion-member (λ (lower : Rule). IsTrue (ltb lower.priority one.priority)) rules rule falling.0 (i, omega arith, read)),
  above_at rules i rule falling.1 (omega arith) read,
)

module _ (rules : List Rule) (i : ℕ) (rule : Rule) (falling : IsRuleSet rules) (read : slice_get rules i ≡ Some rule) where
  above : AreAbove rule (take i rules)
  above = above_at rules i rule falling (slice_get-within rules i rule read) (slice_get-read rules i rule read)

  -- the next rule isn't in yet,
  pub not_yet : (copy : List Rule) → copy ≡ take i rules → IsFalse (has_priority copy rule.priority)
  not_yet copy is = subst (λ (some : List Rule). IsFalse (has_priority some rule.priority)) (sym is) (none_in rule (take i rules) above)

  -- and comes last
  pub one_more_in : (copy after : List Rule) → copy ≡ take i rules → after ≡ with_rule copy rule → after ≡ take (i + 1) rules
  one_more_in copy after is put =
      put ∙ ap (λ (some : List Rule). with_rule some rule) is ∙ last_in rule (take i rules) above
      ∙ sym (take_more rules i rule (slice_get-within rules i rule read) ∙ ap (λ (one : Rule). take i rules ++ one ∷ []) (slice_get-read rules i rule read))
