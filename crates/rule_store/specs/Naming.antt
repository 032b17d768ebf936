-- How a command names its priority among the earlier commands of its batch, and what a Batch keeps to know it.
use Rattle.std.specs.Prelude.{Bool, true, false, ◌≡◌, ℕ, ◌≤◌, ◌<◌, Option, Some, None, List, fold, length, map, slice_index_or, take, if◌then◌else◌}
use Rattle.std.specs.List.{AllByRecursion}
use Rattle.std.specs.Ordering.{nat_cmp}
use Rattle.std.specs.BTreeMap.{BTreeMap, get}
use Rattle.rule_model.specs.declared.Rule.{Rule}
use Rattle.rule_model.specs.RuleSet.{has_priority}
use Rattle.rule_store.specs.declared.BatchFault.{BatchFault}
use Rattle.rule_store.specs.declared.BatchFault.TheVariants.{Twice, Taken, Absent}
use Rattle.rule_store.specs.declared.Command.{Command}
use Rattle.rule_store.specs.declared.pending.Uses.{Uses}
use Rattle.rule_store.specs.declared.pending.Uses.TheVariants.{Removed, Used}
use Rattle.rule_store.specs.declared.pending.Naming.{Naming}
use Rattle.rule_store.specs.declared.pending.Naming.TheVariants.{First, Replacing, Repeated}
use Rattle.rule_store.specs.declared.pending.Named.{Named}
use Rattle.rule_store.specs.Batch.{ChangesRules, named_priority, commands_naming, is_addition, is_removal, most_commands}

-- how a priority is used, one command later that names it
abbrev pub uses_with : Option Uses → Command → Uses
uses_with None command = if is_removal command then Removed else Used
uses_with (Some before) command = Used

-- how commands that name one priority use it, if there are any
abbrev pub uses_of : List Command → Option Uses
uses_of commands = fold (λ uses command. Some (uses_with uses command)) None commands

-- how a command names a priority that is used so
abbrev pub naming_by : Option Uses → Command → Naming
naming_by None command = First
naming_by (Some Removed) command = if is_addition command then Replacing else Repeated
naming_by (Some Used) command = Repeated

-- how a command names its priority behind the earlier ones
abbrev pub naming_after : List Command → Command → Naming
naming_after earlier command = naming_by (uses_of (commands_naming (named_priority command) earlier)) command

-- why a command fails, by how it names its priority, whether it adds, its priority, and whether the set has that
abbrev pub fault_by : Naming → Bool → ℕ → Bool → Option BatchFault
fault_by Repeated adds priority present = Some (Twice priority)
fault_by Replacing adds priority present = None
fault_by First true priority true = Some (Taken priority)
fault_by First true priority false = None
fault_by First false priority true = None
fault_by First false priority false = Some (Absent priority)

-- why a command that so names its priority fails over a set, if it does
abbrev pub named_fault : List Rule → Named → Option BatchFault
named_fault rules one = fault_by one.naming (is_addition one.command) (named_priority one.command) (has_priority rules (named_priority one.command))

-- the commands, without how they name their priorities
abbrev pub commands_of : List Named → List Command
commands_of named = map (λ one. one.command) named

-- There are as many commands as a batch has room for at most, each a right one and kept with how it names its priority, and
-- the map has the use of each priority.
pub record IsIndexed (named : List Named) (uses : BTreeMap ℕ Uses) : Type 0 where
  pub count : length named ≤ most_commands
  pub right : AllByRecursion ChangesRules (commands_of named)
  pub namings : (k : ℕ) (none : Named) → k < length named → (slice_index_or named k none).naming ≡ naming_after (take k (commands_of named)) (slice_index_or named k none).command
  pub used : (priority : ℕ) → get nat_cmp uses priority ≡ uses_of (commands_naming priority (commands_of named))
