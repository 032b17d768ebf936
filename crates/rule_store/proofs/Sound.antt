-- What no fault says of each command of a batch.
use Rattle.std.proofs.Common.{◌≡◌, ℕ, Bool, true, false, ◌||◌, List, [], ◌∷◌, ◌++◌, cond, Option, Some, None, IsTrue, IsFalse, ◌⊎◌, inl, inr, refl, sym, ap, ◌∙◌, eqb}
use Rattle.std.specs.List.{list_any}
use Rattle.std.specs.Option.{option_or}
use Rattle.std.proofs.lemmas.Bool.{or_from, or_parts, or_left}
use Rattle.std.proofs.lemmas.List.Elements.{filter-append, filter_map-append}
use Rattle.std.proofs.lemmas.List.Folds.{list_any-append}
use Rattle.rule_model.specs.declared.Rule.{Rule}
use Rattle.rule_model.specs.RuleSet.{has_priority}
use Rattle.rule_store.specs.declared.BatchFault.{BatchFault}
use Rattle.rule_store.specs.declared.BatchFault.TheVariants.{Twice}
use Rattle.rule_store.specs.declared.pending.Naming.TheVariants.{Repeated}
use Rattle.rule_store.specs.declared.Command.{Command}
use Rattle.rule_store.specs.declared.Command.TheVariants.{Add, Set, Del}
use Rattle.rule_store.specs.Batch.{named_priority, is_addition, is_removal, commands_naming, removes, command_fault, batch_fault_after, additions, added_rule}
use Rattle.rule_store.specs.Naming.{uses_of, naming_by, fault_by}
use Rattle.rule_store.proofs.Faults.{command_fault-named, uses-used}

-- What no fault says of a command behind earlier ones: an addition's priority is absent and unnamed, or the one command that
-- names it removes it; another command's priority is present and unnamed.
abbrev pub IsTaken : List Rule → List Command → Command → Type 0
IsTaken rules earlier (Add rule) =
    (IsFalse (has_priority rules rule.priority) × (commands_naming rule.priority earlier ≡ []))
    ⊎ ((removal : Command) × IsTrue (is_removal removal) × (commands_naming rule.priority earlier ≡ removal ∷ []))
IsTaken rules earlier (Set priority answer) = IsTrue (has_priority rules priority) × (commands_naming priority earlier ≡ [])
IsTaken rules earlier (Del priority) = IsTrue (has_priority rules priority) × (commands_naming priority earlier ≡ [])

taken-add : (rules : List Rule) (rule : Rule) (named : List Command) (present : Bool) → fault_by (naming_by (uses_of named) (Add rule)) true rule.priority present ≡ None
    → (IsFalse present × (named ≡ [])) ⊎ ((removal : Command) × IsTrue (is_removal removal) × (named ≡ removal ∷ []))
taken-add rules rule [] true none = absurd (cc)
taken-add rules rule [] false none = inl (refl, refl)
taken-add rules rule (Add other ∷ []) present none = absurd (cc)
taken-add rules rule (Set priority answer ∷ []) present none = absurd (cc)
taken-add rules rule (Del priority ∷ []) present none = inr (Del priority, refl, refl)
taken-add rules rule (earlier ∷ other ∷ more) present none =
    let used = uses-used more in
    let wrong : Some (Twice rule.priority) ≡ None = rw used at none in
    absurd (cc)

-- what no fault says of a command that adds nothing
taken-other : (command : Command) (named : List Command) (present : Bool) → IsFalse (is_addition command) → fault_by (naming_by (uses_of named) command) false (named_priority command) present ≡ None → IsTrue present × (named ≡ [])
taken-other command [] true other none = (refl, refl)
taken-other command [] false other none = absurd (cc)
taken-other command (Add rule ∷ []) present other none = absurd (cc)
taken-other command (Set priority answer ∷ []) present other none = absurd (cc)
taken-other command (Del priority ∷ []) present other none = let wrong : fault_by Repeated false (named_priority command) present ≡ None = rw other at none in absurd (cc)
taken-other command (earlier ∷ more ∷ most) present other none =
    let used = uses-used most in
    let wrong : Some (Twice (named_priority command)) ≡ None = rw used at none in
    absurd (cc)

pub taken : (rules : List Rule) (earlier : List Command) (command : Command) → command_fault rules earlier command ≡ None → IsTaken rules earlier command
taken rules earlier (Add rule) none =
    taken-add rules rule (commands_naming rule.priority earlier) (has_priority rules rule.priority) (sym (command_fault-named rules earlier (Add rule)) ∙ none)
taken rules earlier (Set priority answer) none =
    taken-other (Set priority answer) (commands_naming priority earlier) (has_priority rules priority) refl (sym (command_fault-named rules earlier (Set priority answer)) ∙ none)
taken rules earlier (Del priority) none =
    taken-other (Del priority) (commands_naming priority earlier) (has_priority rules priority) refl (sym (command_fault-named rules earlier (Del priority)) ∙ none)

-- no fault of a batch is none of its first command, and none of the rest
pub sound-parts : (rules : List Rule) (earlier : List Command) (command : Command) (commands : List Command) → batch_fault_after rules earlier (command ∷ commands) ≡ None
    → (command_fault rules earlier command ≡ None) × (batch_fault_after rules (earlier ++ command ∷ []) commands ≡ None)
sound-parts rules earlier command commands none = parts (command_fault rules earlier command) (batch_fault_after rules (earlier ++ command ∷ []) commands) none
  where
    parts : (first rest : Option BatchFault) → option_or first rest ≡ None → (first ≡ None) × (rest ≡ None)
    parts None rest is = (refl, is)
    parts (Some fault) rest is = absurd (cc)

-- a removal among earlier commands is one of all
pub removes-append : (priority : ℕ) (earlier later : List Command) → removes priority (earlier ++ later) ≡ (removes priority earlier || removes priority later)
removes-append priority earlier later =
    ap (list_any is_removal) (filter-append (λ command. eqb (named_priority command) priority) earlier later)
    ∙ list_any-append is_removal (commands_naming priority earlier) (commands_naming priority later)

pub additions-append : (earlier later : List Command) → additions (earlier ++ later) ≡ additions earlier ++ additions later
additions-append earlier later = filter_map-append added_rule earlier later

rest-none : (test : Bool) (head : Command) (rest : List Command) → list_any is_addition (cond test (head ∷ rest) rest) ≡ false → list_any is_addition rest ≡ false
rest-none true head rest none = (or_parts _ _ none).1
rest-none false head rest none = none

not-added : (test : Bool) (rule : Rule) (rest : List Command) → list_any is_addition (cond test (Add rule ∷ rest) rest) ≡ false → test ≡ false
not-added true rule rest none = absurd (cc)
not-added false rule rest none = refl

-- an addition of a priority stands among the commands that name it
pub unnamed-additions : (priority : ℕ) (commands : List Command) → list_any is_addition (commands_naming priority commands) ≡ false → IsFalse (has_priority (additions commands) priority)
unnamed-additions priority [] none = refl
unnamed-additions priority (Add rule ∷ commands) none =
    or_from _ _ (not-added (eqb rule.priority priority) rule (commands_naming priority commands) none)
    (unnamed-additions priority commands (rest-none (eqb rule.priority priority) (Add rule) (commands_naming priority commands) none))
unnamed-additions priority (Set changed answer ∷ commands) none =
    unnamed-additions priority commands (rest-none (eqb changed priority) (Set changed answer) (commands_naming priority commands) none)
unnamed-additions priority (Del removed ∷ commands) none =
    unnamed-additions priority commands (rest-none (eqb removed priority) (Del removed) (commands_naming priority commands) none)

-- what an addition of a sound batch meets: no earlier one of its priority, which is absent or was removed
pub record IsFresh (rules : List Rule) (earlier : List Command) (rule : Rule) : Type 0 where
  pub first : IsFalse (has_priority (additions earlier) rule.priority)
  pub absent : IsFalse (has_priority rules rule.priority) ⊎ IsTrue (removes rule.priority earlier)

pub fresh-taken : (rules : List Rule) (earlier : List Command) (rule : Rule) → IsTaken rules earlier (Add rule) → IsFresh rules earlier rule
fresh-taken rules earlier rule (inl new) =
    record { first = unnamed-additions rule.priority earlier (ap (list_any is_addition) new.1); absent = inl new.0 }
fresh-taken rules earlier rule (inr (removal, removes', named)) =
    record {
      first = unnamed-additions rule.priority earlier (ap (list_any is_addition) named ∙ or_from _ _ (no-addition removal removes') refl);
      absent = inr (ap (list_any is_removal) named ∙ or_left _ _ removes');
    }
  where
    no-addition : (command : Command) → IsTrue (is_removal command) → is_addition command ≡ false
    no-addition (Add other) is = absurd (cc)
    no-addition (Set priority answer) is = refl
    no-addition (Del priority) is = refl
