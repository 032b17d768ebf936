-- What settled requests are to their user.
use Rattle.std.specs.Prelude.{◌≡◌, ◌≢◌, ℕ, Bool, IsTrue, IsFalse, List, [], map, nat_eq}
use Rattle.std.specs.List.{list_any, AllByRecursion}
use Rattle.rule_model.specs.declared.Rule.{Rule}
use Rattle.rule_model.specs.RuleSet.{IsRuleSet, rule_at}
use Rattle.rule_store.specs.declared.Command.{Command}
use Rattle.rule_store.specs.declared.Mode.{Mode}
use Rattle.rule_store.specs.Batch.{named_priority, batch_fault, IsSound, set_after}
use Rattle.rule_store.specs.Verdict.{verdict}
use Rattle.settled_changes.specs.declared.Request.{Request}
use Rattle.settled_changes.specs.declared.Request.TheVariants.{Strict}
use Rattle.settled_changes.specs.Requests.{AreTaken, asked_set, is_strict, requests_fault}
use Rattle.settled_changes.specs.Settled.{settled, requests_verdict, whole_requests}

-- Requests that are all strict are their batch, with the same fault and the same verdict.
abbrev pub KeepsStrictBatches : Type 0
KeepsStrictBatches =
    (rules : List Rule) (batch : List Command)
    → (settled rules (map Strict batch) ≡ batch)
    × (requests_fault rules (map Strict batch) ≡ batch_fault rules batch)
    × ((slots : ℕ) (mode : Mode) → requests_verdict slots mode rules (map Strict batch) ≡ verdict slots mode rules batch)

-- What requests come to is sound, and leads to the set that they mean one after the other; and their verdict is that of the
-- batch.
abbrev pub LeadsWhereAsked : Type 0
LeadsWhereAsked =
    (rules : List Rule) (requests : List Request) → IsRuleSet rules → AreTaken rules requests
    → IsSound rules (settled rules requests)
    × (set_after rules (settled rules requests) ≡ asked_set rules requests)
    × ((slots : ℕ) (mode : Mode)
    → requests_verdict slots mode rules requests ≡ verdict slots mode rules (settled rules requests))

-- whether a command of the batch names the priority
abbrev pub is_named : ℕ → List Command → Bool
is_named priority batch = list_any (λ command. nat_eq (named_priority command) priority) batch

-- A priority that no strict request names is named by the batch only where its rule differs afterward.
abbrev pub ChangesOnlyWhatDiffers : Type 0
ChangesOnlyWhatDiffers =
    (rules : List Rule) (requests : List Request) (priority : ℕ) → IsRuleSet rules
    → AllByRecursion (λ request. IsFalse (is_strict request)) requests
    → IsTrue (is_named priority (settled rules requests))
    → rule_at rules priority ≢ rule_at (asked_set rules requests) priority

-- So each sound batch that leads to the same set names at least as many rules: those that this one names.
abbrev pub MakesTheLeastChange : Type 0
MakesTheLeastChange =
    (rules : List Rule) (requests : List Request) (batch : List Command) (priority : ℕ) → IsRuleSet rules
    → AllByRecursion (λ request. IsFalse (is_strict request)) requests
    → IsSound rules batch → set_after rules batch ≡ set_after rules (settled rules requests)
    → IsTrue (is_named priority (settled rules requests)) → IsTrue (is_named priority batch)

-- Forgiving requests that come again change nothing more.
abbrev pub IsSettledOnce : Type 0
IsSettledOnce =
    (rules : List Rule) (requests : List Request) → IsRuleSet rules
    → AllByRecursion (λ request. IsFalse (is_strict request)) requests
    → settled (set_after rules (settled rules requests)) requests ≡ []

-- A whole new set leads to exactly its rules.
abbrev pub GivesTheWholeSet : Type 0
GivesTheWholeSet =
    (rules whole : List Rule) → IsRuleSet rules → IsRuleSet whole
    → AreTaken rules (whole_requests rules whole)
    × (set_after rules (settled rules (whole_requests rules whole)) ≡ whole)
