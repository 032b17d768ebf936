-- A command can be meant where the batch with it is sound.
use Rattle.std.proofs.Common.{◌≡◌, true, false, List, [], ◌∷◌, ◌++◌, Option, Some, None, refl, sym, ◌∙◌, ap, append_assoc, append-nil}
use Rattle.std.specs.Prelude.{is_none}
use Rattle.std.specs.Option.{option_or}
use Rattle.rule_model.specs.declared.Rule.{Rule}
use Rattle.rule_store.specs.declared.BatchFault.{BatchFault}
use Rattle.rule_store.specs.declared.Command.{Command}
use Rattle.rule_store.specs.Batch.{IsSound, batch_fault_after, command_fault}
use Rattle.rule_store.proofs.Sound.{sound-parts}

module _ (rules : List Rule) (command : Command) where
  fault_last : (earlier later : List Command) → batch_fault_after rules earlier later ≡ None
      → batch_fault_after rules earlier (later ++ command ∷ []) ≡ option_or (command_fault rules (earlier ++ later) command) None
  fault_last earlier [] sound = ap (λ (some : List Command). option_or (command_fault rules some command) None) (sym (append-nil earlier))
  fault_last earlier (first ∷ later) sound =
      let parts = sound-parts rules earlier first later sound in
      ap (λ (found : Option BatchFault). option_or found (batch_fault_after rules (earlier ++ first ∷ []) (later ++ command ∷ []))) parts.0
      ∙ fault_last (earlier ++ first ∷ []) later parts.1
      ∙ ap (λ (some : List Command). option_or (command_fault rules some command) None) (append_assoc earlier (first ∷ []) later)

  none_or : (found : Option BatchFault) → option_or found None ≡ found
  none_or None = refl
  none_or (Some fault) = refl

  pub fault_is : (batch : List Command) → IsSound rules batch → batch_fault_after rules [] (batch ++ command ∷ []) ≡ command_fault rules batch command
  fault_is batch sound = fault_last [] batch sound ∙ none_or (command_fault rules batch command)

  pub meant : (batch : List Command) → IsSound rules batch → IsSound rules (batch ++ command ∷ []) → is_none (command_fault rules batch command) ≡ true
  meant batch sound with_it = ap is_none (sym (fault_is batch sound) ∙ with_it)

  pub not_meant : (batch : List Command) → IsSound rules batch → (IsSound rules (batch ++ command ∷ []) → ⊥) → is_none (command_fault rules batch command) ≡ false
  not_meant batch sound unsound = by (command_fault rules batch command) (fault_is batch sound)
    where
      by : (found : Option BatchFault) → batch_fault_after rules [] (batch ++ command ∷ []) ≡ found → is_none found ≡ false
      by None is = absurd (unsound is)
      by (Some fault) is = refl
