-- Which keys a write matters to, and which ones the end of a commit does.
use Rattle.std.specs.Prelude.{◌≡◌, ℕ, ◌<◌, ◌⊎◌, IsTrue, Option, Some, None, List, Contains}
use Rattle.slot_order.specs.Order.{slot, Distinct}
use Rattle.rule_model.specs.declared.Key.{Key}
use Rattle.rule_model.specs.declared.Rule.{Rule}
use Rattle.rule_model.specs.declared.Field.{Field}
use Rattle.rule_model.specs.declared.Field.TheVariants.{Src, Dst}
use Rattle.rule_model.specs.Key.{IsKey}
use Rattle.rule_model.specs.Rule.{rule_matches}
use Rattle.rule_model.specs.RuleSet.{answer}
use Rattle.rule_model.specs.declared.words.Entry.{Entry}
use Rattle.tcam_device.specs.declared.Write.TheVariants.{Slot, Table}
use Rattle.tcam_device.specs.State.{State, Shows, apply, hits_key, lookup}
use Rattle.tcam_device.specs.Hitless.{ShowsOldOrNew}

-- what stands in a slot, or comes there, hits the key
abbrev pub HitsIt : State → Key → Option Entry → Type 0
HitsIt state key None = ⊥
HitsIt state key (Some entry) = IsTrue (hits_key state entry key)

-- A write of a slot touches the keys that its old or its new entry hits, and no lesser slot.
pub record TouchesKey (state : State) (at : ℕ) (content : Option Entry) (key : Key) : Type 0 where
  pub hit : HitsIt state key (slot state.slots at) ⊎ HitsIt state key content
  pub reached : (lesser : ℕ) → lesser < at → HitsIt state key (slot state.slots lesser) → ⊥

-- a key has the old or the new answer
abbrev pub IsOldOrNewAt : State → List Rule → List Rule → Key → Type 0
IsOldOrNewAt state old new key = (lookup state key ≡ answer old key) ⊎ (lookup state key ≡ answer new key)

-- Where all keys had the old or the new answer, after one write of a slot those that it touches decide, and no others.
abbrev pub OneWriteIsJudgedByItsKeys : Type 0
OneWriteIsJudgedByItsKeys =
    (state : State) (old new : List Rule) (at : ℕ) (content : Option Entry) → ShowsOldOrNew state old new
    → ((key : Key) → IsKey key → TouchesKey state at content key → IsOldOrNewAt (apply state (Slot at content)) old new key)
    → ShowsOldOrNew (apply state (Slot at content)) old new

-- the key's port in a field
abbrev pub key_port : Field → Key → ℕ
key_port Src key = key.sport
key_port Dst key = key.dport

-- After one write of a table's word those with its port do.
abbrev pub OneTableWriteIsJudgedByItsPort : Type 0
OneTableWriteIsJudgedByItsPort =
    (state : State) (old new : List Rule) (field : Field) (port word : ℕ) → ShowsOldOrNew state old new
    → ((key : Key) → IsKey key → key_port field key ≡ port → IsOldOrNewAt (apply state (Table field port word)) old new key)
    → ShowsOldOrNew (apply state (Table field port word)) old new

-- each rule of some that matches the key is one of others
abbrev pub AreAmong : Key → List Rule → List Rule → Type 0
AreAmong key some others = (rule : Rule) → Contains some rule → IsTrue (rule_matches rule key) → Contains others rule

-- A key that only rules of both sets match has one answer.
abbrev pub OtherKeysKeepTheirAnswer : Type 0
OtherKeysKeepTheirAnswer =
    (old new : List Rule) (key : Key) → Distinct (λ (rule : Rule). rule.priority) old → Distinct (λ (rule : Rule). rule.priority) new
    → AreAmong key old new → AreAmong key new old → answer old key ≡ answer new key

-- So at the end of a commit only keys of changed rules are to be judged: of some that have each rule that one of the sets
-- has and the other hasn't.
abbrev pub TheEndIsJudgedByChangedRules : Type 0
TheEndIsJudgedByChangedRules =
    (state : State) (old new changed : List Rule) → Distinct (λ (rule : Rule). rule.priority) old → Distinct (λ (rule : Rule). rule.priority) new
    → ((rule : Rule) → Contains old rule → Contains new rule ⊎ Contains changed rule)
    → ((rule : Rule) → Contains new rule → Contains old rule ⊎ Contains changed rule)
    → ShowsOldOrNew state old new
    → ((key : Key) (rule : Rule) → IsKey key → Contains changed rule → IsTrue (rule_matches rule key) → lookup state key ≡ answer new key)
    → Shows state new

-- Slots that differ only in what doesn't hit a key answer it alike, whatever moved.
abbrev pub AlikeSlotsKeepLookUps : Type 0
AlikeSlotsKeepLookUps =
    (state : State) (slots : List (Option Entry)) (key : Key)
    → ((at : ℕ) → (slot slots at ≡ slot state.slots at) ⊎ ((HitsIt state key (slot state.slots at) → ⊥) × (HitsIt state key (slot slots at) → ⊥)))
    → lookup (record state { slots = slots }) key ≡ lookup state key

-- And so does a table's word at another port.
abbrev pub OtherPortsKeepLookUps : Type 0
OtherPortsKeepLookUps =
    (state : State) (field : Field) (port word : ℕ) (key : Key) → (key_port field key ≡ port → ⊥)
    → lookup (apply state (Table field port word)) key ≡ lookup state key
