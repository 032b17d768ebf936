-- The sets that a router's script leads each table through, and the status that it decides, by the rule lists alone. A commit that
-- one table refuses changes neither.
use Rattle.std.specs.Prelude.{Bool, true, false, ◌&&◌, List, [], ◌∷◌, ◌++◌}
use Rattle.rule_model.specs.declared.Rule.{Rule}
use Rattle.rule_store.specs.declared.Command.{Command}
use Rattle.rule_store.specs.Batch.{set_after}
use Rattle.rule_store.specs.Verdict.{Verdict, Accepted, Unsound, OutOfBits, OutOfSlots, verdict}
use Rattle.script_runs.specs.declared.Status.{Status}
use Rattle.script_runs.specs.Script.{Script, acts_of}
use Rattle.script_runs.specs.Outcomes.{status_at}
use Rattle.router.specs.declared.Side.{Side}
use Rattle.router.specs.declared.Side.TheVariants as side
use Rattle.router.specs.declared.RouterAct.{RouterAct}
use Rattle.router.specs.declared.RouterAct.TheVariants.{Change, Packet, Commit}
use Rattle.router.specs.Run.{Setting}

-- a table's rules and pending changes
pub record RuleList : Type 0 where
  pub rules : List Rule
  pub batch : List Command

abbrev pub rule_list : List Rule → List Command → RuleList
rule_list rules batch = record { rules = rules; batch = batch }

-- those of both tables
pub record RuleLists : Type 0 where
  pub listed : RuleList
  pub routed : RuleList

abbrev pub rule_lists : RuleList → RuleList → RuleLists
rule_lists listed routed = record { listed = listed; routed = routed }

-- no rules, and no changes
abbrev pub no_rules : RuleLists
no_rules = rule_lists (rule_list [] []) (rule_list [] [])

abbrev pub rules_of : Side → RuleLists → List Rule
rules_of side.List lists = lists.listed.rules
rules_of side.Routes lists = lists.routed.rules

-- a change joins the pending ones of its table
abbrev pub lists_with : Side → Command → RuleLists → RuleLists
lists_with side.List command lists = rule_lists (rule_list lists.listed.rules (lists.listed.batch ++ command ∷ [])) lists.routed
lists_with side.Routes command lists = rule_lists lists.listed (rule_list lists.routed.rules (lists.routed.batch ++ command ∷ []))

abbrev pub is_accepted : Verdict → Bool
is_accepted Accepted = true
is_accepted (Unsound fault) = false
is_accepted (OutOfBits field need free) = false
is_accepted (OutOfSlots need free) = false

-- the verdict on a table's pending changes
abbrev pub verdict_on : Setting → RuleList → Verdict
verdict_on setting list = verdict setting.slots setting.mode list.rules list.batch

-- whether neither table refuses
abbrev pub both_accept : Setting → RuleLists → Bool
both_accept setting lists = is_accepted (verdict_on setting lists.listed) && is_accepted (verdict_on setting lists.routed)

-- a table once its pending changes are made, or dropped
abbrev pub list_after : RuleList → RuleList
list_after list = rule_list (set_after list.rules list.batch) []

abbrev pub list_dropped : RuleList → RuleList
list_dropped list = rule_list list.rules []

-- both tables after a commit that neither refuses, and after one that either refuses
abbrev pub lists_after : RuleLists → RuleLists
lists_after lists = rule_lists (list_after lists.listed) (list_after lists.routed)

abbrev pub lists_dropped : RuleLists → RuleLists
lists_dropped lists = rule_lists (list_dropped lists.listed) (list_dropped lists.routed)

-- The sets that acts lead a table through: the first, and one more for each commit that neither table refuses.
abbrev pub table_sets_through : Side → Setting → RuleLists → List RouterAct → List (List Rule)
table_sets_through which setting lists [] = rules_of which lists ∷ []
table_sets_through which setting lists (Change one command ∷ acts) = table_sets_through which setting (lists_with one command lists) acts
table_sets_through which setting lists (Packet key ∷ acts) = table_sets_through which setting lists acts
table_sets_through which setting lists (Commit ∷ acts) =
    elim (both_accept setting lists) [
      | true ↦ rules_of which lists ∷ table_sets_through which setting (lists_after lists) acts
      | false ↦ table_sets_through which setting (lists_dropped lists) acts
    ]

-- the sets that a script leads a table through that is blank: the empty one first
abbrev pub table_sets : Side → Setting → Script RouterAct → List (List Rule)
table_sets which setting script = table_sets_through which setting no_rules (acts_of script)

-- whether a commit of the acts is refused, by either table
abbrev pub either_refuses : Setting → RuleLists → List RouterAct → Bool
either_refuses setting lists [] = false
either_refuses setting lists (Change one command ∷ acts) = either_refuses setting (lists_with one command lists) acts
either_refuses setting lists (Packet key ∷ acts) = either_refuses setting lists acts
either_refuses setting lists (Commit ∷ acts) =
    elim (both_accept setting lists) [ true ↦ either_refuses setting (lists_after lists) acts | false ↦ true ]

-- the status of a script that is carried out to its end
abbrev pub status_of_lists : Setting → Script RouterAct → Status
status_of_lists setting script = status_at (either_refuses setting no_rules (acts_of script)) script.last
