-- Whether a rule goes first, where what a batch names and what goes first already are known by tests of priorities; and the
-- two parts of a batch as lists of priorities and commands tell them.
use Rattle.std.specs.Prelude.{◌≡◌, ℕ, Bool, not, ◌&&◌, ◌||◌, nat_lt, List, map}
use Rattle.std.specs.List.{list_any}
use Rattle.std.specs.BTreeSet.{BTreeSet, contains}
use Rattle.std.specs.Ordering.{nat_cmp}
use Rattle.rule_model.specs.declared.Rule.{Rule}
use Rattle.rule_model.specs.Rule.{rules_meet}
use Rattle.rule_model.specs.RuleSet.{has_priority}
use Rattle.rule_store.specs.declared.Command.{Command}
use Rattle.rule_store.specs.Batch.{additions, is_removal, named_priority, removes}
use Rattle.settled_changes.specs.Laws.{is_named}
use Rattle.removals_first.specs.Early.{rule_covers}

-- one rule spares all keys that an early rule and another one match
abbrev pub spares : (ℕ → Bool) → Rule → Rule → Rule → Bool
spares named rule other cover =
    rule_covers cover rule other
    && (nat_lt rule.priority cover.priority || (nat_lt other.priority cover.priority && not (named cover.priority)))

-- some rule of the set does
abbrev pub is_spared_by : (ℕ → Bool) → List Rule → Rule → Rule → Bool
is_spared_by named rules rule other = list_any (spares named rule other) rules

-- an added rule keeps a rule from going first,
abbrev pub hinders : (ℕ → Bool) → List Rule → Rule → Rule → Bool
hinders named rules rule new = rules_meet rule new && not (is_spared_by named rules rule new)

-- and so does a lower one that stands later
abbrev pub hinders_below : (ℕ → Bool) → (ℕ → Bool) → List Rule → Rule → Rule → Bool
hinders_below named early rules rule other =
    rules_meet rule other && (named other.priority
    && (not (early other.priority) && not (is_spared_by named rules rule other)))

-- a rule goes first, over these lower ones
abbrev pub goes_first_by : (ℕ → Bool) → (ℕ → Bool) → (ℕ → Bool) → List Rule → List Command → Rule → List Rule → Bool
goes_first_by named removed early rules batch rule lower =
    removed rule.priority
    && (not (list_any (hinders named rules rule) (additions batch))
    && not (list_any (hinders_below named early rules rule) lower))

-- a command is no removal of an early rule
abbrev pub stays_late : (ℕ → Bool) → Command → Bool
stays_late early command = not (is_removal command && early (named_priority command))

-- the priorities that commands name, and those that they remove
pub record AreNames (named removed : BTreeSet ℕ) (batch : List Command) : Type 0 where
  pub named_are : (priority : ℕ) → contains nat_cmp named priority ≡ is_named priority batch
  pub removed_are : (priority : ℕ) → contains nat_cmp removed priority ≡ removes priority batch

-- the priorities of some rules, as a list and as a set
pub record AreRanks (rules : List Rule) (ranks : List ℕ) (set : BTreeSet ℕ) : Type 0 where
  pub ranks_are : ranks ≡ map (λ (rule : Rule). rule.priority) rules
  pub set_is : (priority : ℕ) → contains nat_cmp set priority ≡ has_priority rules priority
