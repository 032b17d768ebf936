-- A command whose priority no earlier one of its batch names is meant by the set alone.
use Rattle.std.proofs.Common.{◌≡◌, ◌≤◌, ◌+◌, ℕ, Bool, true, false, IsTrue, List, [], ◌∷◌, ◌++◌, Option, Some, None, length, take, refl, sym, ◌∙◌, ap, ap₂}
use Rattle.std.specs.Prelude.{◌&&◌, ◌↔◌, if◌then◌else◌, is_none, nat_eq, not, slice_get}
use Rattle.std.specs.List.{list_any}
use Rattle.std.proofs.lemmas.Bool.{ne_eqb}
use Rattle.std.proofs.lemmas.List.{take_all}
use Rattle.std.proofs.lemmas.List.Elements.{filter-append}
use Rattle.rule_model.specs.declared.Rule.{Rule}
use Rattle.rule_model.specs.RuleSet.{has_priority}
use Rattle.rule_store.proofs.Sums.{take-read}
use Rattle.rule_store.specs.declared.BatchFault.{BatchFault}
use Rattle.rule_store.specs.declared.BatchFault.TheVariants.{Absent, Taken, Twice}
use Rattle.rule_store.specs.declared.Command.{Command}
use Rattle.rule_store.specs.declared.Command.TheVariants.{Add, Set, Del}
use Rattle.rule_store.specs.Batch.{IsSound, batch_fault, command_fault, commands_naming, is_addition, is_removal, is_repeated, named_priority}
use Rattle.line_judge.specs.Meant.{IsLastOf}
use Rattle.line_judge.proofs.Meant.{fault_is}

-- some commands none of which names a priority, and one more
pub unnamed_more : (priority : ℕ) (batch : List Command) (i : ℕ) (command : Command) → slice_get batch i ≡ Some command → (named_priority command ≡ priority → ⊥)
    → commands_naming priority (take i batch) ≡ [] → commands_naming priority (take (i + 1) batch) ≡ []
unnamed_more priority batch i command at other none =
    ap (commands_naming priority) (take-read batch i command at) ∙ filter-append (λ (c : Command). nat_eq (named_priority c) priority) (take i batch) (command ∷ [])
    ∙ ap₂ (λ (a b : List Command). a ++ b) none alone
  where
    one : (test : Bool) → test ≡ false → (if test then command ∷ [] else []) ≡ []
    one true is = absurd (cc)
    one false is = refl

    alone : commands_naming priority (command ∷ []) ≡ []
    alone = one (nat_eq (named_priority command) priority) (ne_eqb (named_priority command) priority other)

pub unnamed_all : (priority : ℕ) (batch : List Command) (i : ℕ) → length batch ≤ i → commands_naming priority (take i batch) ≡ [] → commands_naming priority batch ≡ []
unnamed_all priority batch i past none = ap (commands_naming priority) (sym (take_all i batch past)) ∙ none

-- what a command comes to by those that name its priority
abbrev fault_by : List Rule → Command → List Command → Option BatchFault
fault_by rules command named =
    let priority = named_priority command in
    if is_repeated command named then Some (Twice priority)
    else (if is_addition command && has_priority rules priority && not (list_any is_removal named) then Some (Taken priority)
    else (if not (is_addition command) && not (has_priority rules priority) then Some (Absent priority)
    else None))

module _ (rules : List Rule) where
  fault_alone : (earlier : List Command) (command : Command) → commands_naming (named_priority command) earlier ≡ [] → command_fault rules earlier command ≡ command_fault rules [] command
  fault_alone earlier command none = ap (fault_by rules command) none

  adds : (priority : ℕ) (has : Bool) → is_none (if has && true then Some (Taken priority) else None) ≡ not has
  adds priority true = refl
  adds priority false = refl

  changes : (priority : ℕ) (has : Bool) → is_none (if not has then Some (Absent priority) else None) ≡ has
  changes priority true = refl
  changes priority false = refl

  -- a rule is added that isn't there, and changed or removed where it is
  pub add_alone : (rule : Rule) → is_none (command_fault rules [] (Add rule)) ≡ not (has_priority rules rule.priority)
  add_alone rule = adds rule.priority (has_priority rules rule.priority)

  pub set_alone : (priority answer : ℕ) → is_none (command_fault rules [] (Set priority answer)) ≡ has_priority rules priority
  set_alone priority answer = changes priority (has_priority rules priority)

  pub del_alone : (priority : ℕ) → is_none (command_fault rules [] (Del priority)) ≡ has_priority rules priority
  del_alone priority = changes priority (has_priority rules priority)

  none_is : (found : Option BatchFault) → IsTrue (is_none found) → found ≡ None
  none_is None is = refl
  none_is (Some fault) is = absurd (cc)

  is_none_at : (found : Option BatchFault) → found ≡ None → IsTrue (is_none found)
  is_none_at found is = ap is_none is

  -- so the last command of a batch is meant where it is by itself
  pub last_alone : (batch : List Command) (command : Command) (result : Bool) → IsLastOf rules batch command true → result ≡ is_none (command_fault rules [] command)
      → IsTrue result ↔ IsSound rules batch
  last_alone batch command result last is = (λ told. to told, λ sound. from sound)
    where
      fault : batch_fault rules batch ≡ command_fault rules [] command
      fault = ap (batch_fault rules) last.batch_is ∙ fault_is rules command last.earlier last.sound ∙ fault_alone last.earlier command (last.alone refl)

      to : IsTrue result → IsSound rules batch
      to told = fault ∙ none_is (command_fault rules [] command) (sym is ∙ told)

      from : IsSound rules batch → IsTrue result
      from sound = is ∙ is_none_at (command_fault rules [] command) (sym fault ∙ sound)
