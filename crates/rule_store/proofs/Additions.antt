-- The additions of a sound batch are a set.
use Rattle.std.proofs.Common.{◌≡◌, fold, List, [], ◌∷◌, ◌++◌, None, IsFalse, Contains, inl, inr, refl, ap, subst, ◌∙◌}
use Rattle.std.proofs.lemmas.List.{append-nil}
use Rattle.std.proofs.lemmas.List.Sums.{fold-append}
use Rattle.slot_order.specs.Order.{Distinct}
use Rattle.slot_order.proofs.Lists.{contains_none}
use Rattle.rule_model.specs.declared.Rule.{Rule}
use Rattle.rule_model.specs.RuleSet.{IsRuleSet, has_priority}
use Rattle.rule_model.proofs.RuleSets.{IsRuleSet-distinct}
use Rattle.rule_store.specs.declared.Command.{Command}
use Rattle.rule_store.specs.declared.Command.TheVariants.{Add, Set, Del}
use Rattle.rule_store.specs.Batch.{IsSound, batch_fault_after, additions, with_rule}
use Rattle.rule_store.proofs.After.{with_rules, has_priority-with_rules}
use Rattle.rule_store.proofs.Falling.{IsRuleSet-with_rule}
use Rattle.rule_store.proofs.Members.{set_after-member}
use Rattle.rule_store.proofs.Sound.{taken, sound-parts, additions-append, fresh-taken}

-- the rules that a batch adds, by falling priority
abbrev pub new_rules : List Command → List Rule
new_rules batch = fold with_rule [] (additions batch)

-- they are its additions
pub new_rules-member : (batch : List Command) (rule : Rule) → Contains (new_rules batch) rule → Contains (additions batch) rule
new_rules-member batch rule member = elim ((set_after-member [] batch rule).0 member) [
  | inl new ↦ new
  | inr kept ↦ absurd (contains_none kept.0 kept.1)
]

pub member-new_rules : (batch : List Command) (rule : Rule) → Contains (additions batch) rule → Contains (new_rules batch) rule
member-new_rules batch rule member = (set_after-member [] batch rule).1 (inl member)

-- rules whose priorities neither a set nor an earlier one of them has
abbrev AreNew : List Rule → List Rule → Type 0
AreNew rules [] = Unit {0}
AreNew rules (rule ∷ added) = IsFalse (has_priority rules rule.priority) × AreNew (with_rule rules rule) added

-- a set with new rules is a set
set_with_new : (rules added : List Rule) → IsRuleSet rules → AreNew rules added → IsRuleSet (fold with_rule rules added)
set_with_new rules [] set new = set
set_with_new rules (rule ∷ added) set new = set_with_new (with_rule rules rule) added (IsRuleSet-with_rule rules rule set new.0) new.1

-- the additions of a sound batch have distinct priorities
apart_from : (rules : List Rule) (earlier later : List Command) → batch_fault_after rules earlier later ≡ None → AreNew (with_rules [] (additions earlier)) (additions later)
apart_from rules earlier [] none = tt
apart_from rules earlier (Add rule ∷ later) none =
    let parts = sound-parts rules earlier (Add rule) later none in
    let fresh = fresh-taken rules earlier rule (taken rules earlier (Add rule) parts.0) in
    let split : with_rules [] (additions (earlier ++ Add rule ∷ [])) ≡ with_rule (with_rules [] (additions earlier)) rule =
    ap (with_rules []) (additions-append earlier (Add rule ∷ [])) ∙ fold-append with_rule [] (additions earlier) (rule ∷ []) in (
      has_priority-with_rules [] (additions earlier) rule.priority refl fresh.first,
      subst (λ set. AreNew set (additions later)) split (apart_from rules (earlier ++ Add rule ∷ []) later parts.1),
    )
apart_from rules earlier (Set changed answer ∷ later) none =
    subst (λ added. AreNew (with_rules [] added) (additions later)) (additions-append earlier (Set changed answer ∷ []) ∙ append-nil _)
    (apart_from rules (earlier ++ Set changed answer ∷ []) later (sound-parts rules earlier (Set changed answer) later none).1)
apart_from rules earlier (Del removed ∷ later) none =
    subst (λ added. AreNew (with_rules [] added) (additions later)) (additions-append earlier (Del removed ∷ []) ∙ append-nil _)
    (apart_from rules (earlier ++ Del removed ∷ []) later (sound-parts rules earlier (Del removed) later none).1)

-- so they are a set
pub additions_set : (rules : List Rule) (batch : List Command) → IsSound rules batch → IsRuleSet (new_rules batch)
additions_set rules batch sound = set_with_new [] (additions batch) tt (apart_from rules [] batch sound)

pub additions_distinct : (rules : List Rule) (batch : List Command) → IsSound rules batch → Distinct (λ rule. rule.priority) (additions batch)
additions_distinct rules batch sound a b in_a in_b same =
    IsRuleSet-distinct (new_rules batch) (additions_set rules batch sound) a b (member-new_rules batch a in_a) (member-new_rules batch b in_b) same
