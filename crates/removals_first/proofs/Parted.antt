-- The two parts of a batch: each is sound, and together they lead where the batch leads.
use Rattle.std.proofs.Common.{◌≡◌, ℕ, Bool, true, false, not, ◌&&◌, ◌||◌, cond, Option, None, List, [], ◌∷◌, filter, fold, inl, inr, refl, sym, ap, ap₂, subst, ◌∙◌, eqb-true, nat_eq}
use Rattle.std.specs.List.{list_any}
use Rattle.std.proofs.lemmas.Bool.{cases_Bool, cond-true, cond-false, not_from_true, not_from_false, and_left, and_right, and_from, or_parts}
use Rattle.slot_order.proofs.Lists.{any_is, any_from}
use Rattle.rule_model.specs.declared.Rule.{Rule}
use Rattle.rule_model.specs.RuleSet.{IsRuleSet, rule_at, has_priority}
use Rattle.rule_store.specs.declared.Command.{Command}
use Rattle.rule_store.specs.declared.Command.TheVariants.{Del}
use Rattle.rule_store.specs.Batch.{named_priority, is_removal, commands_naming, removes, IsSound, set_after}
use Rattle.rule_store.proofs.After.{set_after-set}
use Rattle.rule_store.proofs.Falling.{IsRuleSet-filter}
use Rattle.settled_changes.proofs.At.{rule_behind, none-later, sets-same}
use Rattle.settled_changes.proofs.EachKind.{sound-fits, fits-sound}
use Rattle.settled_changes.proofs.Leads.{present-is}
use Rattle.rule_store.proofs.AfterAt.{rule_at-filter}
use Rattle.settled_changes.proofs.Fits.{Fits, fits_none, fits_added, fits_changed, fits_removed, fits_replaced, after-fits}
use Rattle.removals_first.specs.Early.{AreEarly, without_early, early_batch, late_batch, PartsAreSound}

-- the first part at a priority
naming-absent : (early : List Rule) (priority : ℕ) → has_priority early priority ≡ false → commands_naming priority (early_batch early) ≡ []
naming-absent [] priority absent = refl
naming-absent (rule ∷ early) priority absent = let parts = or_parts (nat_eq rule.priority priority) (has_priority early priority) absent in cond-false _ _ _ parts.0 ∙ naming-absent early priority parts.1

naming-present : (early : List Rule) (priority : ℕ) → IsRuleSet early → has_priority early priority ≡ true → commands_naming priority (early_batch early) ≡ Del priority ∷ []
naming-present [] priority set present = absurd (cc)
naming-present (rule ∷ early) priority set present = elim (cases_Bool (nat_eq rule.priority priority)) [
  | inl here ↦
      let own = eqb-true rule.priority priority here in
      let absent : has_priority early priority ≡ false = subst (λ n. has_priority early n ≡ false) own (present-is early rule.priority ∙ ap Rattle.std.specs.Prelude.is_some (none-later rule early set)) in
      cond-true _ _ _ here ∙ ap₂ (λ n rest. Del n ∷ rest) own (naming-absent early priority absent)
  | inr other ↦ cond-false _ _ _ other ∙ naming-present early priority set.1 (sym (ap (λ test. test || has_priority early priority) other) ∙ present)
]

-- the second part at a priority
abbrev additions_of : List Command → List Command
additions_of commands = filter (λ command. not (is_removal command)) commands

late-present : (early : List Rule) (batch : List Command) (priority : ℕ) → has_priority early priority ≡ true → commands_naming priority (late_batch early batch) ≡ additions_of (commands_naming priority batch)
late-present early [] priority present = refl
late-present early (command ∷ batch) priority present = elim (cases_Bool (nat_eq (named_priority command) priority)) [
  | inl names ↦
      let has : has_priority early (named_priority command) ≡ true = ap (has_priority early) (eqb-true _ _ names) ∙ present in
      elim (cases_Bool (is_removal command)) [
        | inl removal ↦
            ap (commands_naming priority) (cond-false _ _ _ (not_from_true _ (and_from _ _ removal has))) ∙ late-present early batch priority present
            ∙ sym (ap additions_of (cond-true _ _ _ names) ∙ cond-false _ _ _ (not_from_true _ removal))
        | inr other ↦
            ap (commands_naming priority) (cond-true _ _ _ (not_from_false _ (and_left _ _ other))) ∙ cond-true _ _ _ names
            ∙ ap (λ rest. command ∷ rest) (late-present early batch priority present) ∙ sym (ap additions_of (cond-true _ _ _ names) ∙ cond-true _ _ _ (not_from_false _ other))
      ]
  | inr differs ↦ elim (cases_Bool (is_removal command && has_priority early (named_priority command))) [
    | inl goes ↦ ap (commands_naming priority) (cond-false _ _ _ (not_from_true _ goes)) ∙ late-present early batch priority present ∙ sym (ap additions_of (cond-false _ _ _ differs))
    | inr stays ↦ ap (commands_naming priority) (cond-true _ _ _ (not_from_false _ stays)) ∙ cond-false _ _ _ differs ∙ late-present early batch priority present ∙ sym (ap additions_of (cond-false _ _ _ differs))
  ]
]

late-absent : (early : List Rule) (batch : List Command) (priority : ℕ) → has_priority early priority ≡ false → commands_naming priority (late_batch early batch) ≡ commands_naming priority batch
late-absent early [] priority absent = refl
late-absent early (command ∷ batch) priority absent = elim (cases_Bool (nat_eq (named_priority command) priority)) [
  | inl names ↦
      let lacks : has_priority early (named_priority command) ≡ false = ap (has_priority early) (eqb-true _ _ names) ∙ absent in
      ap (commands_naming priority) (cond-true _ _ _ (not_from_false _ (and_right (is_removal command) _ lacks))) ∙ cond-true _ _ _ names
      ∙ ap (λ rest. command ∷ rest) (late-absent early batch priority absent) ∙ sym (cond-true _ _ _ names)
  | inr differs ↦ elim (cases_Bool (is_removal command && has_priority early (named_priority command))) [
    | inl goes ↦ ap (commands_naming priority) (cond-false _ _ _ (not_from_true _ goes)) ∙ late-absent early batch priority absent ∙ sym (cond-false _ _ _ differs)
    | inr stays ↦ ap (commands_naming priority) (cond-true _ _ _ (not_from_false _ stays)) ∙ cond-false _ _ _ differs ∙ late-absent early batch priority absent ∙ sym (cond-false _ _ _ differs)
  ]
]

-- what fits and removes a rule adds it anew or not at all behind the removal
late-fits : (present : Bool) (priority : ℕ) (commands : List Command) → Fits present priority commands → list_any is_removal commands ≡ true → Fits false priority (additions_of commands)
late-fits present priority commands fits_none removal = absurd (cc)
late-fits present priority commands (fits_added rule own absent) removal = absurd (cc)
late-fits present priority commands (fits_changed answer there) removal = absurd (cc)
late-fits present priority commands (fits_removed there) removal = fits_none
late-fits present priority commands (fits_replaced rule own there) removal = fits_added rule own refl

late-leads : (present : Bool) (priority : ℕ) (old : Option Rule) (commands : List Command) → Fits present priority commands → list_any is_removal commands ≡ true
    → fold rule_behind None (additions_of commands) ≡ fold rule_behind old commands
late-leads present priority old commands fits_none removal = absurd (cc)
late-leads present priority old commands (fits_added rule own absent) removal = absurd (cc)
late-leads present priority old commands (fits_changed answer there) removal = absurd (cc)
late-leads present priority old commands (fits_removed there) removal = refl
late-leads present priority old commands (fits_replaced rule own there) removal = refl

module _ (rules : List Rule) (batch : List Command) (early : List Rule) (set : IsRuleSet rules) (sound : IsSound rules batch) (are : AreEarly rules batch early) where
  pub mid_set : IsRuleSet (without_early rules early)
  mid_set = IsRuleSet-filter (λ (rule : Rule). not (has_priority early rule.priority)) rules set

  -- an early rule is one of the set, and the batch removes it
  has-early : (priority : ℕ) → has_priority early priority ≡ true → (has_priority rules priority ≡ true) × (removes priority batch ≡ true)
  has-early priority has =
      let (rule, in_early, own) = any_is (λ (one : Rule). nat_eq one.priority priority) early has in (
        any_from (λ (one : Rule). nat_eq one.priority priority) rules rule (are.members rule in_early) own,
        subst (λ n. removes n batch ≡ true) (eqb-true _ _ own) (are.removed rule in_early),
      )

  at-mid : (priority : ℕ) → rule_at (without_early rules early) priority ≡ cond (not (has_priority early priority)) (rule_at rules priority) None
  at-mid priority = rule_at-filter (λ n. not (has_priority early n)) rules priority

  early-fits : (priority : ℕ) → Fits (has_priority rules priority) priority (commands_naming priority (early_batch early))
  early-fits priority = elim (cases_Bool (has_priority early priority)) [
    | inl has ↦ subst (Fits (has_priority rules priority) priority) (sym (naming-present early priority are.is_set has)) (fits_removed (has-early priority has).0)
    | inr absent ↦ subst (Fits (has_priority rules priority) priority) (sym (naming-absent early priority absent)) fits_none
  ]

  pub early-sound : IsSound rules (early_batch early)
  early-sound = sound-fits rules [] (early_batch early) early-fits

  pub early-leads : set_after rules (early_batch early) ≡ without_early rules early
  early-leads = sets-same (set_after rules (early_batch early)) (without_early rules early) (set_after-set rules (early_batch early) set early-sound) mid_set
      (λ priority. after-fits rules (early_batch early) priority (has_priority rules priority) set early-sound (early-fits priority) ∙ at priority ∙ sym (at-mid priority))
    where
      at : (priority : ℕ) → fold rule_behind (rule_at rules priority) (commands_naming priority (early_batch early)) ≡ cond (not (has_priority early priority)) (rule_at rules priority) None
      at priority = elim (cases_Bool (has_priority early priority)) [
        | inl has ↦ ap (fold rule_behind (rule_at rules priority)) (naming-present early priority are.is_set has) ∙ sym (cond-false _ _ _ (not_from_true _ has))
        | inr absent ↦ ap (fold rule_behind (rule_at rules priority)) (naming-absent early priority absent) ∙ sym (cond-true _ _ _ (not_from_false _ absent))
      ]

  -- what the set between has at a priority
  mid-early : (priority : ℕ) → has_priority early priority ≡ true → rule_at (without_early rules early) priority ≡ None
  mid-early priority has = at-mid priority ∙ cond-false _ _ _ (not_from_true _ has)

  mid-other : (priority : ℕ) → has_priority early priority ≡ false → rule_at (without_early rules early) priority ≡ rule_at rules priority
  mid-other priority absent = at-mid priority ∙ cond-true _ _ _ (not_from_false _ absent)

  late-fits-at : (priority : ℕ) → Fits (has_priority (without_early rules early) priority) priority (commands_naming priority (late_batch early batch))
  late-fits-at priority = elim (cases_Bool (has_priority early priority)) [
    | inl has ↦
        subst (λ present. Fits present priority (commands_naming priority (late_batch early batch))) (sym (present-is (without_early rules early) priority ∙ ap Rattle.std.specs.Prelude.is_some (mid-early priority has)))
        (subst (Fits false priority) (sym (late-present early batch priority has)) (late-fits (has_priority rules priority) priority (commands_naming priority batch) (fits-sound rules batch priority sound) (has-early priority has).1))
    | inr absent ↦
        subst (λ present. Fits present priority (commands_naming priority (late_batch early batch)))
        (present-is rules priority ∙ sym (present-is (without_early rules early) priority ∙ ap Rattle.std.specs.Prelude.is_some (mid-other priority absent)))
        (subst (Fits (has_priority rules priority) priority) (sym (late-absent early batch priority absent)) (fits-sound rules batch priority sound))
  ]

  pub late-sound : IsSound (without_early rules early) (late_batch early batch)
  late-sound = sound-fits (without_early rules early) [] (late_batch early batch) late-fits-at

  pub late-leads-too : set_after (without_early rules early) (late_batch early batch) ≡ set_after rules batch
  late-leads-too = sets-same (set_after (without_early rules early) (late_batch early batch)) (set_after rules batch)
      (set_after-set (without_early rules early) (late_batch early batch) mid_set late-sound) (set_after-set rules batch set sound)
      (λ priority.
      after-fits (without_early rules early) (late_batch early batch) priority (has_priority (without_early rules early) priority) mid_set late-sound (late-fits-at priority) ∙ at priority
      ∙ sym (after-fits rules batch priority (has_priority rules priority) set sound (fits-sound rules batch priority sound)))
    where
      at : (priority : ℕ) → fold rule_behind (rule_at (without_early rules early) priority) (commands_naming priority (late_batch early batch)) ≡ fold rule_behind (rule_at rules priority) (commands_naming priority batch)
      at priority = elim (cases_Bool (has_priority early priority)) [
        | inl has ↦
            ap₂ (λ (old : Option Rule) (commands : List Command). fold rule_behind old commands) (mid-early priority has) (late-present early batch priority has)
            ∙ late-leads (has_priority rules priority) priority (rule_at rules priority) (commands_naming priority batch) (fits-sound rules batch priority sound) (has-early priority has).1
        | inr absent ↦ ap₂ (λ (old : Option Rule) (commands : List Command). fold rule_behind old commands) (mid-other priority absent) (late-absent early batch priority absent)
      ]

pub parted : PartsAreSound
parted rules batch early set sound are = (
  early-sound rules batch early set sound are,
  early-leads rules batch early set sound are,
  late-sound rules batch early set sound are,
  late-leads-too rules batch early set sound are,
)
