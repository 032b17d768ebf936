-- The set after a batch: that it is one, and its members.
use Rattle.std.proofs.Common.{◌≡◌, ℕ, Bool, true, false, not, ◌||◌, fold, List, [], ◌∷◌, ◌++◌, map, filter, None, IsTrue, IsFalse, ◌⊎◌, inl, inr, refl, sym, ap, subst, ◌∙◌, eqb, ltb}
use Rattle.std.proofs.lemmas.Bool.{cases_Bool, cond_both, or_from, or_parts, or_left, eqb-true}
use Rattle.std.proofs.lemmas.List.{append-nil, append_assoc}
use Rattle.std.proofs.lemmas.List.Sums.{fold-append}
use Rattle.rule_model.specs.declared.Rule.{Rule}
use Rattle.rule_model.specs.RuleSet.{IsRuleSet, has_priority}
use Rattle.rule_store.specs.declared.Command.{Command}
use Rattle.rule_store.specs.declared.Command.TheVariants.{Add, Set, Del}
use Rattle.rule_store.specs.Batch.{removes, batch_fault_after, IsSound, additions, with_rule, with_result_after, set_after}
use Rattle.rule_store.specs.Applied.{kept_rules}
use Rattle.rule_store.proofs.Falling.{IsRuleSet-with_rule, IsRuleSet-filter, IsRuleSet-map}
use Rattle.rule_store.proofs.Sound.{IsTaken, taken, sound-parts, removes-append, additions-append, fresh-taken}

-- the kept rules and so many additions
abbrev pub with_rules : List Rule → List Rule → List Rule
with_rules rules added = fold with_rule rules added

pub has_priority-with_rule : (rules : List Rule) (new : Rule) (priority : ℕ) → has_priority (with_rule rules new) priority ≡ (eqb new.priority priority || has_priority rules priority)
has_priority-with_rule [] new priority = refl
has_priority-with_rule (rule ∷ rules) new priority =
    cond_both (ltb rule.priority new.priority) (new ∷ rule ∷ rules) (rule ∷ with_rule rules new)
    (λ found. has_priority found priority ≡ (eqb new.priority priority || (eqb rule.priority priority || has_priority rules priority)))
    (λ lower. refl)
    (λ higher. ap (λ t. eqb rule.priority priority || t) (has_priority-with_rule rules new priority) ∙ turned (eqb rule.priority priority) (eqb new.priority priority) (has_priority rules priority))
  where
    turned : (x y z : Bool) → (x || (y || z)) ≡ (y || (x || z))
    turned true true z = refl
    turned true false z = refl
    turned false y z = refl

pub has_priority-with_rules : (rules added : List Rule) (priority : ℕ) → IsFalse (has_priority rules priority) → IsFalse (has_priority added priority) → IsFalse (has_priority (with_rules rules added) priority)
has_priority-with_rules rules [] priority absent none = absent
has_priority-with_rules rules (new ∷ added) priority absent none =
    has_priority-with_rules (with_rule rules new) added priority
    (has_priority-with_rule rules new priority ∙ or_from _ _ (or_parts _ _ none).0 absent) (or_parts _ _ none).1

pub has_priority-kept : (rules : List Rule) (batch : List Command) (priority : ℕ) → IsFalse (has_priority rules priority) ⊎ IsTrue (removes priority batch) → IsFalse (has_priority (kept_rules rules batch) priority)
has_priority-kept [] batch priority gone = refl
has_priority-kept (rule ∷ rules) batch priority gone =
    cond_both (not (removes rule.priority batch)) (rule ∷ kept) kept (λ left. IsFalse (has_priority (map (with_result_after batch) left) priority))
    (λ stays. or_from _ _ (differs stays) (has_priority-kept rules batch priority (rest gone)))
    (λ goes. has_priority-kept rules batch priority (rest gone))
  where
    kept : List Rule
    kept = filter (λ other. not (removes other.priority batch)) rules

    rest : IsFalse (has_priority (rule ∷ rules) priority) ⊎ IsTrue (removes priority batch) → IsFalse (has_priority rules priority) ⊎ IsTrue (removes priority batch)
    rest (inl absent) = inl (or_parts _ _ absent).1
    rest (inr removed) = inr removed

    differs : not (removes rule.priority batch) ≡ true → eqb rule.priority priority ≡ false
    differs stays =
        elim (cases_Bool (eqb rule.priority priority)) [
          | inl same ↦ elim gone [
            | inl absent ↦ (or_parts _ _ absent).0
            | inr removed ↦ let here : removes rule.priority batch ≡ true = rw (eqb-true rule.priority priority same) removed in absurd (cc)
          ]
          | inr differ ↦ differ
        ]

-- one command more of a sound batch leaves a set
falls-step : (rules : List Rule) (batch earlier : List Command) (command : Command) → IsTaken rules earlier command → ((priority : ℕ) → IsTrue (removes priority earlier) → IsTrue (removes priority batch)) → IsRuleSet (with_rules (kept_rules rules batch) (additions earlier)) → IsRuleSet (with_rules (kept_rules rules batch) (additions (earlier ++ command ∷ [])))
falls-step rules batch earlier (Add rule) is removed falling =
    let fresh = fresh-taken rules earlier rule is in
    let kept = kept_rules rules batch in
    let gone : IsFalse (has_priority rules rule.priority) ⊎ IsTrue (removes rule.priority batch) = elim fresh.absent [ inl absent ↦ inl absent | inr before ↦ inr (removed rule.priority before) ] in
    let absent = has_priority-with_rules kept (additions earlier) rule.priority (has_priority-kept rules batch rule.priority gone) fresh.first in
    let split : with_rules kept (additions (earlier ++ Add rule ∷ [])) ≡ with_rule (with_rules kept (additions earlier)) rule =
    ap (with_rules kept) (additions-append earlier (Add rule ∷ [])) ∙ fold-append with_rule kept (additions earlier) (rule ∷ []) in
    subst IsRuleSet (sym split) (IsRuleSet-with_rule (with_rules kept (additions earlier)) rule falling absent)
falls-step rules batch earlier (Set priority answer) is removed falling =
    subst (λ added. IsRuleSet (with_rules (kept_rules rules batch) added)) (sym (additions-append earlier (Set priority answer ∷ []) ∙ append-nil _)) falling
falls-step rules batch earlier (Del priority) is removed falling =
    subst (λ added. IsRuleSet (with_rules (kept_rules rules batch) added)) (sym (additions-append earlier (Del priority ∷ []) ∙ append-nil _)) falling

-- a sound batch leaves a set, command by command
falls-on : (rules : List Rule) (batch earlier later : List Command) → batch ≡ earlier ++ later → batch_fault_after rules earlier later ≡ None → IsRuleSet (with_rules (kept_rules rules batch) (additions earlier)) → IsRuleSet (with_rules (kept_rules rules batch) (additions batch))
falls-on rules batch earlier [] whole none falling =
    subst (λ commands. IsRuleSet (with_rules (kept_rules rules batch) (additions commands))) (sym (whole ∙ append-nil earlier)) falling
falls-on rules batch earlier (command ∷ later) whole none falling =
    let parts = sound-parts rules earlier command later none in
    falls-on rules batch (earlier ++ command ∷ []) later (whole ∙ sym (append_assoc earlier (command ∷ []) later)) parts.1
    (falls-step rules batch earlier command (taken rules earlier command parts.0)
    (λ priority before. ap (removes priority) whole ∙ removes-append priority earlier (command ∷ later) ∙ or_left _ _ before) falling)

pub set_after-set : (rules : List Rule) (batch : List Command) → IsRuleSet rules → IsSound rules batch → IsRuleSet (set_after rules batch)
set_after-set rules batch falling sound =
    falls-on rules batch [] batch refl sound (IsRuleSet-map (with_result_after batch) (λ rule. refl) _ (IsRuleSet-filter _ rules falling))
