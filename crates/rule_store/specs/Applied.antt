-- The set between the parts of a batch: its removals, then its changes of results, then its additions.
use Rattle.std.specs.Prelude.{◌≡◌, not, List, map, filter}
use Rattle.rule_model.specs.declared.Rule.{Rule}
use Rattle.rule_store.specs.declared.Command.{Command}
use Rattle.rule_store.specs.Batch.{IsSound, removes, with_result_after}

-- the rules that a batch doesn't remove
abbrev pub remaining_rules : List Rule → List Command → List Rule
remaining_rules rules batch = filter (λ rule. not (removes rule.priority batch)) rules

-- the rules that a batch doesn't remove, with their results after it
abbrev pub kept_rules : List Rule → List Command → List Rule
kept_rules rules batch = map (with_result_after batch) (remaining_rules rules batch)

-- the rules are those that a batch that was sound over some set has left of it
pub record IsRemainder (rules : List Rule) (batch : List Command) : Type 0 where
  pub old : List Rule
  pub sound : IsSound old batch
  pub is : rules ≡ remaining_rules old batch

-- the same, with their results after the batch
pub record IsKeptPart (rules : List Rule) (batch : List Command) : Type 0 where
  pub old : List Rule
  pub sound : IsSound old batch
  pub is : rules ≡ kept_rules old batch
