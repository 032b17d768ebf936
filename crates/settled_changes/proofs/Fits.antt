-- What stands at a priority behind a sound batch, by the commands that name it.
use Rattle.std.proofs.Common.{◌≡◌, ℕ, true, false, not, cond, Bool, Option, Some, None, unwrap_or, List, [], ◌∷◌, fold, refl, ap, ap₂, ◌∙◌, eq-eqb}
use Rattle.std.specs.Prelude.{option_map}
use Rattle.std.specs.List.{list_any}
use Rattle.std.specs.Option.{option_or}
use Rattle.std.proofs.lemmas.Bool.{cond-true}
use Rattle.rule_model.specs.declared.Rule.{Rule}
use Rattle.rule_model.specs.RuleSet.{IsRuleSet, rule_at}
use Rattle.rule_store.specs.declared.Command.{Command}
use Rattle.rule_store.specs.declared.Command.TheVariants.{Add, Set, Del}
use Rattle.rule_store.specs.Batch.{is_removal, commands_naming, IsSound, additions, result_after, with_result_after, set_after}
use Rattle.rule_store.proofs.After.{set_after-set}
use Rattle.rule_store.proofs.AfterAt.{additions_at, result_at, kept_at, after_at, own_priority, or_first}
use Rattle.settled_changes.proofs.At.{with_new_result, rule_behind}

-- The commands of a sound batch that name a priority, where the set has it or hasn't: none, an addition of an absent rule, a
-- change or a removal of a present one, or a replacement of it.
pub data Fits (present : Bool) (priority : ℕ) : List Command → Type 0 where
  fits_none : Fits present priority []
  fits_added : (rule : Rule) → rule.priority ≡ priority → present ≡ false → Fits present priority (Add rule ∷ [])
  fits_changed : (answer : ℕ) → present ≡ true → Fits present priority (Set priority answer ∷ [])
  fits_removed : present ≡ true → Fits present priority (Del priority ∷ [])
  fits_replaced : (rule : Rule) → rule.priority ≡ priority → present ≡ true → Fits present priority (Del priority ∷ Add rule ∷ [])

-- behind a sound batch there stands what its commands at the priority leave, one after the other
pub after-fits : (rules : List Rule) (batch : List Command) (priority : ℕ) (present : Bool) → IsRuleSet rules → IsSound rules batch → Fits present priority (commands_naming priority batch)
    → rule_at (set_after rules batch) priority ≡ fold rule_behind (rule_at rules priority) (commands_naming priority batch)
after-fits rules batch priority present set sound fits = go (commands_naming priority batch) refl fits ∙ refl
  where
    after : rule_at (set_after rules batch) priority ≡ option_or (rule_at (additions batch) priority) (kept_at rules batch priority)
    after = after_at rules batch priority (set_after-set rules batch set sound)

    adds : (commands : List Command) (rule : Rule) → commands_naming priority batch ≡ commands → rule_at (additions commands) priority ≡ Some rule → rule_at (set_after rules batch) priority ≡ Some rule
    adds commands rule is new = after ∙ or_first _ _ rule (additions_at batch priority ∙ ap (λ some. rule_at (additions some) priority) is ∙ new)

    keeps : (commands : List Command) → commands_naming priority batch ≡ commands → rule_at (additions commands) priority ≡ None
        → rule_at (set_after rules batch) priority ≡ option_map (with_result_after batch) (cond (not (list_any is_removal commands)) (rule_at rules priority) None)
    keeps commands is none = after ∙ ap₂ option_or (additions_at batch priority ∙ ap (λ some. rule_at (additions some) priority) is ∙ none)
        (ap (λ some. option_map (with_result_after batch) (cond (not (list_any is_removal some)) (rule_at rules priority) None)) is)

    given : (commands : List Command) (answer : ℕ) (found : Option Rule) → commands_naming priority batch ≡ commands → rule_at rules priority ≡ found
        → ((old : ℕ) → result_after commands priority old ≡ answer) → option_map (with_result_after batch) found ≡ with_new_result answer found
    given commands answer None named read by = refl
    given commands answer (Some rule) named read by = ap (λ n. Some (record rule { result = n }))
        (ap (λ n. result_after batch n rule.result) (own_priority rules priority rule read) ∙ result_at batch priority rule.result ∙ ap (λ some. result_after some priority rule.result) named ∙ by rule.result)

    as_before : (found : Option Rule) → commands_naming priority batch ≡ [] → rule_at rules priority ≡ found → option_map (with_result_after batch) found ≡ found
    as_before None named read = refl
    as_before (Some rule) named read = ap (λ n. Some (record rule { result = n }))
        (ap (λ n. result_after batch n rule.result) (own_priority rules priority rule read) ∙ result_at batch priority rule.result ∙ ap (λ some. result_after some priority rule.result) named)

    go : (commands : List Command) → commands_naming priority batch ≡ commands → Fits present priority commands → rule_at (set_after rules batch) priority ≡ fold rule_behind (rule_at rules priority) commands
    go commands is fits_none = keeps [] is refl ∙ as_before (rule_at rules priority) is refl
    go commands is (fits_added rule own absent) = adds (Add rule ∷ []) rule is (cond-true _ _ _ (eq-eqb _ _ own))
    go commands is (fits_changed answer there) = keeps (Set priority answer ∷ []) is refl
        ∙ given (Set priority answer ∷ []) answer (rule_at rules priority) is refl (λ old. ap (λ test. unwrap_or (cond test (Some answer) None) old) (eq-eqb priority priority refl))
    go commands is (fits_removed there) = keeps (Del priority ∷ []) is refl
    go commands is (fits_replaced rule own there) = adds (Del priority ∷ Add rule ∷ []) rule is (cond-true _ _ _ (eq-eqb _ _ own))
