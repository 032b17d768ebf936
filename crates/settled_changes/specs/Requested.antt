-- What waits for a commit: strict commands alone, or changes that are settled over the set; and what it comes to.
use Rattle.std.specs.Prelude.{◌≡◌, ℕ, List, [], ◌∷◌, ◌++◌, length, map}
use Rattle.rule_model.specs.declared.Rule.{Rule}
use Rattle.rule_model.specs.RuleSet.{IsRuleSet}
use Rattle.rule_store.specs.declared.Command.{Command}
use Rattle.rule_store.specs.declared.Command.TheVariants.{Add, Del}
use Rattle.rule_store.specs.declared.Mode.{Mode}
use Rattle.rule_store.specs.Batch.{set_after}
use Rattle.rule_store.specs.Verdict.{Accepted, Verdict, room_verdict, verdict, verdict_by}
use Rattle.settled_changes.specs.declared.Request.{Request}
use Rattle.settled_changes.specs.declared.Request.TheVariants.{Strict, Put, Drop}
use Rattle.settled_changes.specs.declared.SettleFault.{SettleFault}
use Rattle.settled_changes.specs.Requests.{AreTaken, asked_set, requests_fault}
use Rattle.settled_changes.specs.Settled.{IsWhyNoSet, IsWhyUnsettled, requests_verdict, settled, whole_requests}
use Rattle.settled_changes.specs.declared.requested.Requested.{Requested}
use Rattle.settled_changes.specs.declared.requested.Requested.TheVariants.{Nothing, Changes, Whole}

-- how many changes wait: those of the batch, or those that are asked for
abbrev pub changes_in : List Command → Requested → ℕ
changes_in batch Nothing = length batch
changes_in batch (Changes requests) = length requests
changes_in batch (Whole requests) = length requests

-- A strict command joins the batch while nothing else is asked for, and else what is asked for, in its place.
abbrev pub batch_with : List Command → Requested → Command → List Command
batch_with batch Nothing command = batch ++ command ∷ []
batch_with batch (Changes requests) command = batch
batch_with batch (Whole requests) command = batch

abbrev pub asked_with : Requested → Command → Requested
asked_with Nothing command = Nothing
asked_with (Changes requests) command = Changes (requests ++ Strict command ∷ [])
asked_with (Whole requests) command = Whole (requests ++ Strict command ∷ [])

-- A forgiving change joins what is asked for. The first one makes requests of the batch, in their order, and leaves it empty.
abbrev pub batch_behind : List Command → Requested → List Command
batch_behind batch Nothing = []
batch_behind batch (Changes requests) = batch
batch_behind batch (Whole requests) = batch

abbrev pub asked_behind : List Command → Requested → Request → Requested
asked_behind batch Nothing request = Changes (map Strict batch ++ request ∷ [])
asked_behind batch (Changes requests) request = Changes (requests ++ request ∷ [])
asked_behind batch (Whole requests) request = Whole (requests ++ request ∷ [])

-- The batch that it comes to over the set: strict commands as they are, requests as they are settled, and as a whole new set
-- the rules that its changes make of none.
abbrev pub settled_batch : List Rule → List Command → Requested → List Command
settled_batch rules batch Nothing = batch
settled_batch rules batch (Changes requests) = settled rules requests
settled_batch rules batch (Whole requests) = settled rules (whole_requests rules (asked_set [] requests))

-- The verdict on it: the fault of the first change that fails, of a whole new set over no rules, or the room of that batch.
abbrev pub settled_verdict : ℕ → Mode → List Rule → List Command → Requested → Verdict
settled_verdict slots mode rules batch Nothing = verdict slots mode rules batch
settled_verdict slots mode rules batch (Changes requests) = requests_verdict slots mode rules requests
settled_verdict slots mode rules batch (Whole requests) =
    verdict_by (requests_fault [] requests) (room_verdict slots mode rules (settled_batch rules batch (Whole requests)))

-- the set takes what is asked for
abbrev pub TakesAsked : List Rule → Requested → Type 0
TakesAsked rules Nothing = Unit {0}
TakesAsked rules (Changes requests) = AreTaken rules requests
TakesAsked rules (Whole requests) = AreTaken [] requests

-- what is asked for beside strict commands alone
abbrev pub IsAsked : Requested → Type 0
IsAsked Nothing = ⊥
IsAsked (Changes requests) = Unit {0}
IsAsked (Whole requests) = Unit {0}

-- why what is asked for comes to no batch: the fault of a change, of a whole new set over no rules, or want of memory
abbrev pub IsWhyNone : List Rule → Requested → SettleFault → Type 0
IsWhyNone rules Nothing fault = ⊥
IsWhyNone rules (Changes requests) fault = IsWhyUnsettled rules requests fault
IsWhyNone rules (Whole requests) fault = IsWhyNoSet requests fault

-- the strict command that asks for the same as a request
abbrev pub strict_form : Request → Command
strict_form (Strict command) = command
strict_form (Put rule) = Add rule
strict_form (Drop priority) = Del priority

-- The set that it asks for: that of the strict commands, the one that the changes make of the set one after the other, or the
-- one that they make of no rules.
abbrev pub asked_rules : List Rule → List Command → Requested → List Rule
asked_rules rules batch Nothing = set_after rules batch
asked_rules rules batch (Changes requests) = asked_set rules requests
asked_rules rules batch (Whole requests) = asked_set [] requests

-- Where it is accepted, the batch that it comes to leads to that set.
abbrev pub AcceptedLeadsWhereAsked : Type 0
AcceptedLeadsWhereAsked =
    (slots : ℕ) (mode : Mode) (rules : List Rule) (batch : List Command) (asked : Requested) → IsRuleSet rules
    → settled_verdict slots mode rules batch asked ≡ Accepted → set_after rules (settled_batch rules batch asked) ≡ asked_rules rules batch asked
