-- What a contract sees of a Store, and what its calls do to the set.
use Rattle.std.specs.Prelude.{ℕ, ◌+◌, ◌^◌, ◌<◌, ◌≤◌, ◌≡◌, ◌⊎◌, not, nat_eq, nat_lt, if◌then◌else◌, List, [], ◌∷◌, ◌++◌, length, map, filter, slice_index_or, All}
use Rattle.counted_blocks.specs.declared.Item.{Item}
use Rattle.counted_blocks.specs.Counted.{start_of}
use Rattle.rule_model.specs.declared.Rule.{Rule}
use Rattle.rule_model.specs.AddressBlock.{any_address}
use Rattle.rule_model.specs.Rule.{route_rule}
use Rattle.rule_model.specs.RuleSet.{IsRuleSet}
use Rattle.rule_store.specs.declared.Mode.TheVariants.{Cover}
use Rattle.rule_store.specs.Verdict.{entries_needed}

-- the rules by falling priority, and how many more have their memory
pub record StoredRules : Type 0 where
  pub rules : List Rule
  pub spare : ℕ

-- what is read where there is no rule
abbrev pub no_rule : Rule
no_rule = route_rule 0 any_address 0

-- the rule under a key
abbrev pub rule_under : List Rule → Item → Rule
rule_under rules item = slice_index_or rules item.key no_rule

-- the rules under these keys
abbrev pub rules_under : List Rule → List Item → List Rule
rules_under rules items = map (rule_under rules) items

-- each key has a rule
abbrev pub AreKeyed : List Rule → List Item → Type 0
AreKeyed rules items = All (λ item. item.key < length rules) items

-- the rules above a priority
abbrev pub rules_above : List Rule → ℕ → List Rule
rules_above rules priority = filter (λ rule. nat_lt priority rule.priority) rules

-- A rule is put under a key that none has: the last one that was given up, or else the next.
pub record PutsRule (old : List Rule) (free : List ℕ) (new : List Rule) (freed : List ℕ) (key : ℕ) (rule : Rule) : Type 0 where
  pub within : key < length new
  pub is : slice_index_or new key no_rule ≡ rule
  pub others : (k : ℕ) → k < length old → (k ≡ key → ⊥) → slice_index_or new k no_rule ≡ slice_index_or old k no_rule
  pub longer : length old ≤ length new
  pub count : length new + length free ≡ length old + length freed + 1
  pub fresh : (free ≡ freed ++ key ∷ []) ⊎ ((key ≡ length old) × (freed ≡ []))

-- no key is free twice
abbrev pub AreOnce : List ℕ → Type 0
AreOnce free = (i j none : ℕ) → i < j → j < length free → slice_index_or free i none ≡ slice_index_or free j none → ⊥

-- Each key has a rule, or is free, and no key both, and the rules are a set. The spare ones have room in the table, in the
-- list of free keys, in the order and in a u32.
pub record IsStored (rules : List Rule) (capacity : ℕ) (free : List ℕ) (free_capacity : ℕ) (items : List Item) (room spare : ℕ) : Type 0 where
  pub keyed : AreKeyed rules items
  pub falling : IsRuleSet (rules_under rules items)
  pub free_within : All (λ key. key < length rules) free
  pub once : AreOnce free
  pub apart : All (λ item. All (λ key. key ≡ item.key → ⊥) free) items
  pub keys : length rules ≡ length items + length free
  pub rule_room : length items + spare ≤ capacity
  pub free_room : length items + spare ≤ free_capacity
  pub key_room : length rules ≤ free_capacity
  pub order_room : spare ≤ room
  pub count : length items + spare < 2 ^ 32

-- And beside each key stands how many entries its rule takes by covers.
pub record IsSized (rules : List Rule) (capacity : ℕ) (free : List ℕ) (free_capacity : ℕ) (items : List Item) (room spare : ℕ) : Type 0 where
  pub stored : IsStored rules capacity free free_capacity items room spare
  pub sizes_are : map (λ item. item.size) items ≡ map (entries_needed Cover) (rules_under rules items)

-- a rule with this result where it has this priority
abbrev pub answered : ℕ → ℕ → Rule → Rule
answered priority answer rule = if nat_eq rule.priority priority then record rule { result = answer } else rule

-- the set with this result at this priority
abbrev pub with_answer : List Rule → ℕ → ℕ → List Rule
with_answer rules priority answer = map {A = Rule} (answered priority answer) rules

-- the set without the rule of this priority
abbrev pub without_rule : List Rule → ℕ → List Rule
without_rule rules priority = filter (λ rule. not (nat_eq rule.priority priority)) rules

-- the rules before a place are above a priority, and those from it on aren't
pub record IsPlace (rules : List Rule) (priority place : ℕ) : Type 0 where
  pub within : place ≤ length rules
  pub above : (k : ℕ) (none : Rule) → k < place → priority < (slice_index_or rules k none).priority
  pub below : (k : ℕ) (none : Rule) → place ≤ k → k < length rules → (slice_index_or rules k none).priority ≤ priority

-- The rules before a block are above a priority, and those behind it aren't.
pub record IsAround (rules : List Rule) (priority : ℕ) (blocks : List (List Item)) (block : ℕ) : Type 0 where
  pub within : block < length blocks
  pub above : (k : ℕ) (none : Rule) → k < start_of blocks block → priority < (slice_index_or rules k none).priority
  pub below : (k : ℕ) (none : Rule) → start_of blocks (block + 1) ≤ k → k < length rules → (slice_index_or rules k none).priority ≤ priority
