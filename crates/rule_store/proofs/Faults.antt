-- A command's fault by how it names its priority, and a batch's fault command by command.
use Rattle.std.proofs.Common.{◌≡◌, ℕ, ◌+◌, ◌<◌, Bool, true, false, not, ◌&&◌, ◌||◌, cond, fold, List, [], ◌∷◌, ◌++◌, length, get_or, take, drop, slice_get, Option, Some, None, refl, sym, ap, ap₂, ◌∙◌, inl, inr}
use Rattle.std.specs.List.{list_any}
use Rattle.std.specs.Option.{option_or}
use Rattle.std.proofs.lemmas.List.{take_more, drop_more, get_or_default}
use Rattle.std.proofs.lemmas.Option.{slice_get_cases}
use Rattle.rule_model.specs.declared.Rule.{Rule}
use Rattle.rule_model.specs.RuleSet.{has_priority}
use Rattle.rule_store.specs.declared.BatchFault.{BatchFault}
use Rattle.rule_store.specs.declared.BatchFault.TheVariants.{Twice, Taken, Absent}
use Rattle.rule_store.specs.declared.Command.{Command}
use Rattle.rule_store.specs.declared.Command.TheVariants.{Add, Set, Del}
use Rattle.rule_store.specs.declared.pending.Uses.{Uses}
use Rattle.rule_store.specs.declared.pending.Uses.TheVariants.{Used}
use Rattle.rule_store.specs.declared.pending.Naming.{Naming}
use Rattle.rule_store.specs.declared.pending.Named.{Named}
use Rattle.rule_store.specs.Batch.{named_priority, is_addition, is_removal, commands_naming, is_repeated, command_fault, batch_fault_after}
use Rattle.rule_store.specs.Naming.{uses_with, uses_of, naming_by, naming_after, fault_by, named_fault}

-- a priority that is used in any other way than by one removal stays so
pub uses-used : (commands : List Command) → fold (λ uses command. Some (uses_with uses command)) (Some Used) commands ≡ Some Used
uses-used [] = refl
uses-used (command ∷ commands) = uses-used commands

-- the fault of a command by the tests that its definition makes
abbrev tested : Bool → Bool → Bool → Bool → ℕ → Option BatchFault
tested repeated adds present removed priority =
    cond repeated (Some (Twice priority))
    (cond (adds && present && not removed) (Some (Taken priority)) (cond (not adds && not present) (Some (Absent priority)) None))

tested-first : (command : Command) (adds present : Bool) (priority : ℕ) → tested false adds present false priority ≡ fault_by (naming_by None command) adds priority present
tested-first command true true priority = refl
tested-first command true false priority = refl
tested-first command false true priority = refl
tested-first command false false priority = refl

tested-second : (earlier command : Command) (present : Bool) (priority : ℕ) → tested (not (is_removal earlier && is_addition command)) (is_addition command) present (is_removal earlier || false) priority ≡ fault_by (naming_by (Some (uses_with None earlier)) command) (is_addition command) priority present
tested-second (Add rule) command present priority = refl
tested-second (Set changed answer) command present priority = refl
tested-second (Del removed) (Add rule) true priority = refl
tested-second (Del removed) (Add rule) false priority = refl
tested-second (Del removed) (Set changed answer) present priority = refl
tested-second (Del removed) (Del again) present priority = refl

named : (command : Command) (earlier : List Command) (present : Bool) (priority : ℕ) → tested (is_repeated command earlier) (is_addition command) present (list_any is_removal earlier) priority ≡ fault_by (naming_by (uses_of earlier) command) (is_addition command) priority present
named command [] present priority = tested-first command (is_addition command) present priority
named command (earlier ∷ []) present priority = tested-second earlier command present priority
named command (earlier ∷ other ∷ more) present priority =
    sym (ap (λ (uses : Option Uses). fault_by (naming_by uses command) (is_addition command) priority present) (uses-used more))

-- the fault of a command by how it names its priority
pub command_fault-named : (rules : List Rule) (earlier : List Command) (command : Command) → command_fault rules earlier command ≡ fault_by (naming_after earlier command) (is_addition command) (named_priority command) (has_priority rules (named_priority command))
command_fault-named rules earlier command = named command (commands_naming (named_priority command) earlier) (has_priority rules (named_priority command)) (named_priority command)

-- the entry at a place of a batch tells the fault of the command there
module _ (rules : List Rule) (batch : List Command) (place : ℕ) (entry : Named) (read : slice_get batch place ≡ Some entry.command) (naming : entry.naming ≡ naming_after (take place batch) entry.command) where
  within-batch : place < length batch
  within-batch =
      elim (slice_get_cases batch place).1 [
        | inl found ↦ found.1
        | inr past ↦ let none = past.1 in absurd (cc)
      ]

  read-batch : get_or batch place entry.command ≡ entry.command
  read-batch =
      elim (slice_get_cases batch place).1 [
        | inl found ↦ let is = found.2 in let same : found.0 ≡ entry.command = cc in get_or_default batch place entry.command found.0 within-batch ∙ found.3 ∙ same
        | inr past ↦ let none = past.1 in absurd (cc)
      ]

  from-here : batch_fault_after rules (take place batch) (drop place batch) ≡ option_or (named_fault rules entry) (batch_fault_after rules (take (place + 1) batch) (drop (place + 1) batch))
  from-here =
      let command = entry.command in
      let rest = drop (place + 1) batch in
      let split : drop place batch ≡ command ∷ rest = drop_more batch place command within-batch ∙ ap (λ (first : Command). first ∷ rest) read-batch in
      let taken : take (place + 1) batch ≡ take place batch ++ command ∷ [] = take_more batch place command within-batch ∙ ap (λ (last : Command). take place batch ++ last ∷ []) read-batch in
      let fault : command_fault rules (take place batch) command ≡ named_fault rules entry =
      command_fault-named rules (take place batch) command
      ∙ ap (λ (by : Naming). fault_by by (is_addition command) (named_priority command) (has_priority rules (named_priority command))) (sym naming) in
      ap (batch_fault_after rules (take place batch)) split
      ∙ ap₂ (λ (found : Option BatchFault) (earlier : List Command). option_or found (batch_fault_after rules earlier rest)) fault (sym taken)

  pub fault-here : (fault : BatchFault) → named_fault rules entry ≡ Some fault → batch_fault_after rules (take place batch) (drop place batch) ≡ Some fault
  fault-here fault is = from-here ∙ ap (λ (found : Option BatchFault). option_or found (batch_fault_after rules (take (place + 1) batch) (drop (place + 1) batch))) is

  pub fault-later : named_fault rules entry ≡ None → batch_fault_after rules (take place batch) (drop place batch) ≡ batch_fault_after rules (take (place + 1) batch) (drop (place + 1) batch)
  fault-later is = from-here ∙ ap (λ (found : Option BatchFault). option_or found (batch_fault_after rules (take (place + 1) batch) (drop (place + 1) batch))) is
