-- Without the early rules of a batch each key gets the old or the new answer.
use Rattle.std.proofs.Common.{◌≡◌, ◌<◌, true, false, not, Option, Some, None, List, [], IsTrue, IsFalse, Contains, ◌⊎◌, inl, inr, refl, sym, ap, subst, ◌∙◌, arith, eqb-true, eq-eqb, ltb-false, le-ltb, nat_lt, nat_eq, option_map}
use Rattle.std.specs.List.{list_any}
use Rattle.std.proofs.lemmas.Bool.{cases_Bool, false_from_ne_true, not-true, not_from_false, eqb-false}
use Rattle.slot_order.proofs.Lists.{any_is, any_from, in_filter, filter_in}
use Rattle.rule_model.specs.declared.Rule.{Rule}
use Rattle.rule_model.specs.Rule.{rule_matches}
use Rattle.rule_model.specs.RuleSet.{IsRuleSet, IsBestRule, best_rule, answer, has_priority}
use Rattle.rule_model.proofs.RuleSets.{best_rule-is, best_rule-only, IsRuleSet-distinct}
use Rattle.rule_store.specs.Batch.{is_removal, commands_naming, removes, result_after, with_result_after, set_after}
use Rattle.rule_store.proofs.After.{set_after-set}
use Rattle.rule_store.proofs.Falling.{IsRuleSet-filter}
use Rattle.rule_store.proofs.Members.{set_after-member}
use Rattle.settled_changes.specs.Laws.{is_named}
use Rattle.settled_changes.proofs.Forgiving.{named-none}
use Rattle.rule_store.proofs.AfterAt.{result_at}
use Rattle.removals_first.specs.Early.{IsSpared, without_early, EarlyRemovalsShowOldOrNew, PlainlyEarlyAreEarly}

pub between : EarlyRemovalsShowOldOrNew
between rules batch early is_set sound are key is_key = go (best_rule rules key) refl (best_rule-is rules key)
  where
    mid : List Rule
    mid = without_early rules early

    new : List Rule
    new = set_after rules batch

    mid_set : IsRuleSet mid
    mid_set = IsRuleSet-filter (λ (rule : Rule). not (has_priority early rule.priority)) rules is_set

    new_set : IsRuleSet new
    new_set = set_after-set rules batch is_set sound

    said : Option Rule → Rattle.rule_model.specs.RuleSet.Answer
    said found = option_map (λ (rule : Rule). (rule.priority, rule.result)) found

    by_best : (a b : List Rule) (found : Option Rule) → IsRuleSet a → IsRuleSet b → IsBestRule a key found → IsBestRule b key found → answer a key ≡ answer b key
    by_best a b found set_a set_b is_a is_b = ap said (sym (best_rule-only a key found set_a is_a) ∙ best_rule-only b key found set_b is_b)

    in_mid : (rule : Rule) → Contains mid rule → Contains rules rule × IsFalse (has_priority early rule.priority)
    in_mid rule member = let both = in_filter (λ (one : Rule). not (has_priority early one.priority)) rules rule member in (both.0, not-true _ both.1)

    mid_in : (rule : Rule) → Contains rules rule → IsFalse (has_priority early rule.priority) → Contains mid rule
    mid_in rule member stays = filter_in (λ (one : Rule). not (has_priority early one.priority)) rules rule member (not_from_false _ stays)

    is_early : (rule : Rule) → Contains rules rule → IsTrue (has_priority early rule.priority) → Contains early rule
    is_early rule member has =
        let (other, in_early, same) = any_is (λ (one : Rule). nat_eq one.priority rule.priority) early has in
        subst (Contains early) (IsRuleSet-distinct rules is_set other rule (are.members other in_early) member (eqb-true _ _ same)) in_early

    -- a rule that the batch keeps isn't early
    kept_stays : (old : Rule) → Contains rules old → IsFalse (removes old.priority batch) → Contains mid old
    kept_stays old member stays = mid_in old member (false_from_ne_true _ (λ has. let bad : true ≡ false = sym (are.removed old (is_early old member has)) ∙ stays in cc))

    unnamed_stays : (rule : Rule) → Contains rules rule → IsFalse (is_named rule.priority batch) → Contains mid rule
    unnamed_stays rule member unnamed = kept_stays rule member (ap (list_any is_removal) (named-none rule.priority batch unnamed))

    -- where the best rule is early, a rule that spares it stands in the set between, above the other one
    spared : (best other : Rule) → IsBestRule rules key (Some best) → IsSpared rules batch best other key
        → (cover : Rule) × Contains mid cover × IsTrue (rule_matches cover key) × (other.priority < cover.priority)
    spared best other is (cover, member, hit, inl above) = absurd (let most = ltb-false _ _ (is.2 cover member hit) in omega arith)
    spared best other is (cover, member, hit, inr both) = (cover, unnamed_stays cover member both.1, hit, both.0)

    next : (best : Rule) → IsBestRule rules key (Some best) → Contains early best → (found : Option Rule) → IsBestRule mid key found → IsBestRule new key found
    next best is in_early None none = λ rule member. false_from_ne_true _ (λ matched. elim ((set_after-member rules batch rule).0 member) [
      | inl added ↦
          let (cover, there, hit, above) = spared best rule is (are.apart best rule key in_early added is_key is.1 matched) in
          let bad : true ≡ false = sym hit ∙ none cover there in cc
      | inr kept ↦
          let hit : rule_matches kept.0 key ≡ true = subst (λ (r : Rule). IsTrue (rule_matches r key)) kept.3 matched in
          let bad : true ≡ false = sym hit ∙ none kept.0 (kept_stays kept.0 kept.1 kept.2) in cc
    ])
    next best is in_early (Some lower) below = (there, below.1, most)
      where
        stood : Contains rules lower × IsFalse (has_priority early lower.priority)
        stood = in_mid lower below.0

        less : lower.priority < best.priority
        less =
            let most = ltb-false _ _ (is.2 lower stood.0 below.1) in
            elim (cases_Bool (nat_eq lower.priority best.priority)) [
              | inl same ↦ absurd (let bad : true ≡ false = sym (any_from (λ (one : Rule). nat_eq one.priority lower.priority) early best in_early (eq-eqb _ _ (sym (eqb-true _ _ same)))) ∙ stood.1 in cc)
              | inr differs ↦ let apart = eqb-false _ _ differs in omega (arith, apart)
            ]

        unnamed : commands_naming lower.priority batch ≡ []
        unnamed = elim (cases_Bool (is_named lower.priority batch)) [
          | inr none ↦ named-none lower.priority batch none
          | inl named ↦ absurd (elim (are.closed best lower key in_early stood.0 less is_key is.1 below.1 named) [
            | inl too ↦ let bad : true ≡ false = sym (any_from (λ (one : Rule). nat_eq one.priority lower.priority) early lower too (eq-eqb lower.priority lower.priority refl)) ∙ stood.1 in cc
            | inr spares ↦
                let (cover, in_it, hit, above) = spared best lower is spares in
                let top = ltb-false _ _ (below.2 cover in_it hit) in omega arith
          ])
        ]

        same : lower ≡ with_result_after batch lower
        same = ap (λ n. record lower { result = n }) (sym (result_at batch lower.priority lower.result ∙ ap (λ some. result_after some lower.priority lower.result) unnamed))

        there : Contains new lower
        there = (set_after-member rules batch lower).1 (inr (lower, stood.0, ap (list_any is_removal) unnamed, same))

        most : (rule : Rule) → Contains new rule → IsTrue (rule_matches rule key) → IsFalse (nat_lt lower.priority rule.priority)
        most rule member matched = elim ((set_after-member rules batch rule).0 member) [
          | inl added ↦
              let (cover, in_it, hit, above) = spared best rule is (are.apart best rule key in_early added is_key is.1 matched) in
              let top = ltb-false _ _ (below.2 cover in_it hit) in le-ltb _ _ (omega arith)
          | inr kept ↦
              let hit : rule_matches kept.0 key ≡ true = subst (λ (r : Rule). IsTrue (rule_matches r key)) kept.3 matched in
              subst (λ (r : Rule). IsFalse (nat_lt lower.priority r.priority)) (sym kept.3) (below.2 kept.0 (kept_stays kept.0 kept.1 kept.2) hit)
        ]

    go : (found : Option Rule) → best_rule rules key ≡ found → IsBestRule rules key found → (answer mid key ≡ answer rules key) ⊎ (answer mid key ≡ answer new key)
    go None read none = inl (by_best mid rules None mid_set is_set (λ rule member. none rule (in_mid rule member).0) none)
    go (Some best) read is = elim (cases_Bool (has_priority early best.priority)) [
      | inr stays ↦ inl (by_best mid rules (Some best) mid_set is_set (mid_in best is.0 stays, is.1, λ rule member. is.2 rule (in_mid rule member).0) is)
      | inl goes ↦ inr (by_best mid new (best_rule mid key) mid_set new_set (best_rule-is mid key) (next best is (is_early best is.0 goes) (best_rule mid key) (best_rule-is mid key)))
    ]

-- rules that are plainly early are
pub plainly : PlainlyEarlyAreEarly
plainly rules batch early are = record {
  members = are.members;
  is_set = are.is_set;
  removed = are.removed;
  apart = λ rule new key in_early added is_key hit matched. absurd (are.apart rule new in_early added (key, is_key, hit, matched));
  closed = λ rule lower key in_early member less is_key hit matched named. inl (are.closed rule lower in_early member less (key, is_key, hit, matched) named);
}
