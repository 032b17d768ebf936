-- The rules that go first, told from the lowest one up.
use Rattle.std.proofs.Common.{◌≡◌, ℕ, ◌+◌, ◌<◌, ◌≤◌, Bool, true, false, Some, List, [], ◌∷◌, map, filter, length, drop, slice_get, inl, inr, sym, ap, subst, ◌∙◌, arith}
use Rattle.std.proofs.Math.Path.{fun_ext}
use Rattle.std.specs.BTreeSet.{BTreeSet, Updates, contains}
use Rattle.std.specs.Ordering.{nat_cmp}
use Rattle.std.proofs.lemmas.Bool.{cond-true, cond-false}
use Rattle.std.proofs.lemmas.List.{drop_all}
use Rattle.std.proofs.lemmas.Option.{slice_get_cases}
use Rattle.std.proofs.lemmas.Simd.{map-map}
use Rattle.rule_model.specs.declared.Rule.{Rule}
use Rattle.rule_model.specs.RuleSet.{has_priority}
use Rattle.rule_store.specs.declared.Command.{Command}
use Rattle.rule_store.specs.declared.Command.TheVariants.{Del}
use Rattle.rule_store.specs.Batch.{removes}
use Rattle.settled_changes.specs.Laws.{is_named}
use Rattle.removals_first.specs.Early.{spared_goes_first, spared_rules_in, early_batch, late_batch}
use Rattle.removals_first.specs.Tests.{AreNames, AreRanks, goes_first_by, stays_late}
use Rattle.removals_first.proofs.NameSets.{ranks-more, ranks-none}
use Rattle.removals_first.proofs.Searches.{split-at}

-- those among the rules from a place on
pub record AreLowest (rules : List Rule) (batch : List Command) (place : ℕ) (ranks : List ℕ) (set : BTreeSet ℕ) : Type 0 where
  pub within : place ≤ length rules
  pub are : AreRanks (spared_rules_in rules batch (drop place rules)) ranks set

pub lowest-none : (rules : List Rule) (batch : List Command) (place : ℕ) (ranks : List ℕ) (set : BTreeSet ℕ) → place ≡ length rules → ranks ≡ [] → set.keys ≡ [] → AreLowest rules batch place ranks set
lowest-none rules batch place ranks set end none empty = record {
  within = omega arith;
  are = subst (λ some. AreRanks (spared_rules_in rules batch some) ranks set) (sym (drop_all place rules (omega arith))) (ranks-none ranks set none empty);
}

-- the rule at a place
pub rule-at : (rules : List Rule) (place : ℕ) → place < length rules → (rule : Rule) × (slice_get rules place ≡ Some rule)
rule-at rules place within = elim (slice_get_cases rules place).1 [
  | inl inside ↦ (inside.0, inside.2)
  | inr past ↦ absurd (let least = past.0 in omega arith)
]

-- what the tests by sets tell is what the lists tell
pub goes-same : (rules : List Rule) (batch : List Command) (named removed set : BTreeSet ℕ) (early : List Rule) (rule : Rule) (lower : List Rule)
    → AreNames named removed batch → ((priority : ℕ) → contains nat_cmp set priority ≡ has_priority early priority)
    → goes_first_by (contains nat_cmp named) (contains nat_cmp removed) (contains nat_cmp set) rules batch rule lower ≡ spared_goes_first rules batch rule lower early
goes-same rules batch named removed set early rule lower names is =
    ap (λ (by : ℕ → Bool). goes_first_by by (contains nat_cmp removed) (contains nat_cmp set) rules batch rule lower) (fun_ext names.named_are)
    ∙ ap (λ (by : ℕ → Bool). goes_first_by (λ n. is_named n batch) by (contains nat_cmp set) rules batch rule lower) (fun_ext names.removed_are)
    ∙ ap (λ (by : ℕ → Bool). goes_first_by (λ n. is_named n batch) (λ n. removes n batch) by rules batch rule lower) (fun_ext is)

module _ (rules : List Rule) (batch : List Command) (before place : ℕ) (rule : Rule) (named removed set : BTreeSet ℕ) (ranks : List ℕ) (next : before ≡ place + 1)
    (read : slice_get rules place ≡ Some rule) (names : AreNames named removed batch) (was : AreLowest rules batch before ranks set) where
  split : drop place rules ≡ rule ∷ drop before rules
  split = split-at rules place rule read ∙ ap (λ n. rule ∷ drop n rules) (sym next)

  told : (goes : Bool) → goes ≡ goes_first_by (contains nat_cmp named) (contains nat_cmp removed) (contains nat_cmp set) rules batch rule (drop (place + 1) rules)
      → goes ≡ spared_goes_first rules batch rule (drop before rules) (spared_rules_in rules batch (drop before rules))
  told goes is =
      is ∙ ap (λ n. goes_first_by (contains nat_cmp named) (contains nat_cmp removed) (contains nat_cmp set) rules batch rule (drop n rules)) (sym next)
      ∙ goes-same rules batch named removed set (spared_rules_in rules batch (drop before rules)) rule (drop before rules) names was.are.set_is

  -- the rule at a place goes first,
  pub lowest-goes : (goes : Bool) (ranks' : List ℕ) (set' : BTreeSet ℕ) → goes ≡ goes_first_by (contains nat_cmp named) (contains nat_cmp removed) (contains nat_cmp set) rules batch rule (drop (place + 1) rules)
      → goes ≡ true → ranks' ≡ rule.priority ∷ ranks → Updates nat_cmp set set' rule.priority true → AreLowest rules batch place ranks' set'
  lowest-goes goes ranks' set' is true_so pushed updates = record {
    within = let inside = was.within in omega arith;
    are = subst (λ some. AreRanks some ranks' set') (sym (ap (spared_rules_in rules batch) split ∙ cond-true _ _ _ (sym (told goes is) ∙ true_so)))
        (ranks-more (spared_rules_in rules batch (drop before rules)) rule ranks ranks' set set' was.are pushed updates);
  }

  -- or it doesn't
  pub lowest-stays : (goes : Bool) → goes ≡ goes_first_by (contains nat_cmp named) (contains nat_cmp removed) (contains nat_cmp set) rules batch rule (drop (place + 1) rules)
      → goes ≡ false → AreLowest rules batch place ranks set
  lowest-stays goes is false_so = record {
    within = let inside = was.within in omega arith;
    are = subst (λ some. AreRanks some ranks set) (sym (ap (spared_rules_in rules batch) split ∙ cond-false _ _ _ (sym (told goes is) ∙ false_so))) was.are;
  }

-- the two parts
pub early-is : (early : List Rule) (ranks : List ℕ) (part : List Command) → part ≡ map (λ priority. Del priority) ranks → ranks ≡ map (λ (rule : Rule). rule.priority) early → part ≡ early_batch early
early-is early ranks part is ranks_are = is ∙ ap (map (λ priority. Del priority)) ranks_are ∙ map-map (λ priority. Del priority) (λ (rule : Rule). rule.priority) early

pub late-is : (early : List Rule) (set : BTreeSet ℕ) (batch part : List Command) → part ≡ filter (stays_late (contains nat_cmp set)) batch → ((priority : ℕ) → contains nat_cmp set priority ≡ has_priority early priority)
    → part ≡ late_batch early batch
late-is early set batch part is set_is = is ∙ ap (λ (by : ℕ → Bool). filter (stays_late by) batch) (fun_ext set_is)
