-- What holds of a manager between its calls.
use Rattle.std.specs.Prelude.{◌≡◌, ℕ, ◌≤◌, ◌+◌, ◌-◌, ◌++◌, Bool, true, false, ◌&&◌, IsTrue, IsFalse, IsSome, Option, Some, None, List, length, take, drop, nat_eq, nat_lt, slice_get}
use Rattle.std.specs.List.{AllByRecursion, IsDistinct}
use Rattle.slot_pool.specs.Arrangement.{Slots}
use Rattle.rule_model.specs.declared.Rule.{Rule}
use Rattle.rule_model.specs.Rule.{HasConditions}
use Rattle.rule_model.specs.RuleSet.{IsRuleSet}
use Rattle.rule_model.specs.declared.words.Entry.{Entry}
use Rattle.rule_store.specs.declared.Mode.{Mode}
use Rattle.rule_store.specs.declared.Command.{Command}
use Rattle.rule_store.specs.declared.Mode.TheVariants.{Cover, Bits}
use Rattle.rule_store.specs.Batch.{ChangesRules, IsSound, set_after}
use Rattle.rule_store.specs.Store.{StoredRules}
use Rattle.rule_store.specs.Verdict.{entries_of}
use Rattle.placement.specs.declared.LivePiece.{LivePiece}
use Rattle.placement.specs.Live.{is_live}
use Rattle.tcam_device.specs.State.{State, IsState, IsInUse, blank, state_after}
use Rattle.tcam_device.specs.declared.Action.{Action}
use Rattle.tcam_device.specs.declared.Write.{Write}
use Rattle.tcam_device.specs.Insertion.{is_table_write}
use Rattle.commit_writes.specs.declared.Done.{Done}
use Rattle.commit_writes.specs.declared.Rewrite.{Rewrite}
use Rattle.commit_writes.specs.Actions.{with_drain}
use Rattle.commit_writes.specs.Bits.{FieldBits, no_bits, bits_with, bits_left}
use Rattle.commit_writes.specs.Serving.{AreBitsOf, HaveFreeBits}
use Rattle.commit_writes.specs.Undo.{undo_writes, restorings}
use Rattle.commit_writes.specs.Shape.{set_pieces}
use Rattle.commit_writes.specs.Planned.{AreEntriesOf, contents, with_slots}
use Rattle.commit_writes.specs.PlannedBatch.{rewritten_entries, erased_live}
use Rattle.commit_writes.specs.Needed.{with_needed}
use Rattle.commit_writes.specs.Changes.{coded_by, during_of}
use Rattle.batch_order.specs.declared.held.Held.{Held}
use Rattle.batch_order.specs.declared.planned_writes.PlannedWrite.{PlannedWrite}
use Rattle.batch_order.specs.declared.translation.Translation.{Translation}
use Rattle.batch_order.specs.ByParts.{longest_parts}
use Rattle.batch_order.specs.Entries.{AreLast, Entries}
use Rattle.batch_order.specs.Noting.{all_undo}
use Rattle.batch_order.specs.Planning.{IsSettled, as_writes, all_writes}
use Rattle.batch_order.specs.Managed.{HeldCommit, Way}
use Rattle.batch_order.specs.Going.{IsGoing}
use Rattle.batch_order.specs.Managed.Way.{On, Back}

-- What a manager keeps of its device's translation: by covers nothing, and by bits the live ranges and both tables.
abbrev pub mode_of : Option Translation → Mode
mode_of None = Cover
mode_of (Some kept) = Bits

abbrev pub bits_of : Option Translation → FieldBits
bits_of None = no_bits
bits_of (Some kept) = kept.bits

-- as a state without slots
abbrev pub tables_of : Option Translation → State
tables_of None = blank 0
tables_of (Some kept) = kept.tables

-- the live ranges with those that a batch needs bits for
abbrev pub needed_by : Option Translation → List Command → FieldBits
needed_by None batch = no_bits
needed_by (Some kept) batch = with_needed kept.bits batch

-- what is kept once the writes of a commit are made and its rules are the set's
abbrev pub translated_by : Option Translation → Option FieldBits → List Rule → List Write → Option Translation
translated_by None bits rules writes = None
translated_by (Some kept) None rules writes = Some kept
translated_by (Some kept) (Some bits) rules writes =
    Some (record { bits = bits_left rules bits; tables = state_after kept.tables writes })

-- the device writes of a commit under way, while the ids have these entries
abbrev pub held_writes : List (Option Entry) → Held → List Write
held_writes entries held = as_writes entries held.rewrites.items (all_writes held.writes)

-- what is kept after a commit under way
abbrev pub translation_after : Option Translation → List Rule → List (Option Entry) → Held → Option Translation
translation_after translation rules entries held =
    translated_by translation held.bits (set_after rules held.batch) (held_writes entries held)

-- the live ranges once a commit has finished
abbrev pub bits_after : List Rule → Held → FieldBits
bits_after rules held = bits_left (set_after rules held.batch) (during_of held.bits)

-- whether the drain is next, with so many writes made
abbrev pub drains_at : Bool → ℕ → Done → Bool
drains_at awaits made counts = awaits && nat_eq made counts.words

-- what tables and slots in use hold before a commit under way: the entries as they are arranged
abbrev pub settled_state : Option Translation → List (Option Entry) → Slots → State
settled_state translation entries slots = with_slots (tables_of translation) (contents entries slots)

-- the ranges that the words in flight are current for: those before the commit, and once it has drained those meanwhile
abbrev pub current_of : Option Translation → Held → FieldBits
current_of translation held = elim held.drained [ true ↦ during_of held.bits | false ↦ bits_of translation ]

-- the way of a commit, with so many undo writes once it is turned round, and these undo writes now
abbrev pub way_of : Option ℕ → List Write → Way
way_of None undo = On undo
way_of (Some undone) undo = Back undone

-- the writes that are left of it: these, and once it is turned round the undo writes
abbrev pub left_of : Option ℕ → List Write → List Write → List Write
left_of turned writes undo = elim turned [ None ↦ writes | Some undone ↦ undo ]

-- with the drain where it is still to come
abbrev pub course_of : Option ℕ → Bool → List Write → List Write → List Action
course_of turned awaits writes undo = with_drain awaits (left_of turned writes undo)

-- the undo writes of those of its writes that stand
abbrev pub undo_left : Option Translation → Slots → List (Option Entry) → Held → List Write
undo_left translation slots entries held = undo_writes (settled_state translation entries slots) (take held.made (held_writes entries held))

-- the commit under way, as callers see it
abbrev pub held_of : Option Translation → Slots → List Rule → List (Option Entry) → Held → HeldCommit
held_of translation slots rules entries held =
    record {
      prepared = held.prepared;
      actions = course_of held.turned held.awaits (drop held.made (held_writes entries held)) (undo_left translation slots entries held);
      way = way_of held.turned (undo_left translation slots entries held);
      counts = held.counts;
      rules = set_after rules held.batch;
      during = during_of held.bits;
      bits = bits_after rules held;
      current = current_of translation held;
    }

-- and after those of its writes that were made
abbrev pub state_of : Option Translation → List (Option Entry) → Slots → Option Held → State
state_of translation entries slots None = settled_state translation entries slots
state_of translation entries slots (Some held) =
    state_after (settled_state translation entries slots) (take held.made (held_writes entries held))

-- how many writes it has left, forward or back
abbrev pub left_count : Held → ℕ
left_count held = elim held.turned [ None ↦ length (all_writes held.writes) - held.made | Some undone ↦ held.made ]

-- the planned write that is due, none where the drain is next: the one behind those that stand, and once it is turned round
-- what undoes the last of these
abbrev pub due_of : Held → Option PlannedWrite
due_of held = elim (drains_at held.awaits held.made held.counts) [
  | true ↦ None
  | false ↦ elim held.turned [
    | None ↦ slice_get (all_writes held.writes) held.made
    | Some undone ↦ elim (nat_eq held.made 0) [ true ↦ None | false ↦ slice_get (all_undo held.undo) (held.made - 1) ]
  ]
]

-- a commit as it is turned round: what undoes its writes is left of it, and no drain is to come
abbrev pub turned_at : Held → Held
turned_at held = record held { turned = Some held.made; awaits = false }

-- a commit with the write made that was due: one more stands, and once it is turned round one less; with a table word undone
-- the new bits are no words' any more
abbrev pub made_then : Option ℕ → ℕ → ℕ
made_then turned made = elim turned [ None ↦ made + 1 | Some undone ↦ made - 1 ]

abbrev pub drained_then : Option ℕ → ℕ → ℕ → Bool → Bool
drained_then turned made words drained = elim turned [ None ↦ drained | Some undone ↦ elim (nat_lt (made - 1) words) [ true ↦ false | false ↦ drained ] ]

abbrev pub passed : Held → Held
passed held = record held { made = made_then held.turned held.made; drained = drained_then held.turned held.made held.counts.words held.drained }

-- the pieces of a set have an entry each, and these stand in order
pub record IsArranged (mode : Mode) (bits : FieldBits) (rules : List Rule) (kept : Entries) (slots : Slots) : Type 0 where
  pub settled : IsSettled kept slots
  pub entries_are : AreEntriesOf (set_pieces mode bits rules) kept.live kept.entries

-- the live ids and their entries once some of them are rewritten and some erased
abbrev pub changed_by : Entries → List Rewrite → List ℕ → Entries
changed_by kept rewrites erased =
    record kept { live = erased_live kept.live erased; entries = rewritten_entries kept.entries rewrites }

-- What the way back of a commit needs: the set's entries stand in order before its writes, and each of these can be undone.
pub record IsPrepared (translation : Option Translation) (rules : StoredRules) (kept : Entries) (slots : Slots) (ids : List ℕ) (writes undo : List Write) : Type 0 where
  -- the ids that are live without the commit: the new ones are those that became live last
  pub before : List LivePiece
  pub added : AreLast kept.live ids
  pub before_is : before ≡ take (length kept.live - length ids) kept.live
  pub old : IsArranged (mode_of translation) (bits_of translation) rules.rules (record kept { live = before }) slots
  pub undo_is : undo ≡ restorings (settled_state translation kept.entries slots) writes

-- so many of some writes are words of the tables, and these come first
pub record AreWordsFirst (words : ℕ) (writes : List Write) : Type 0 where
  pub tables : List Write
  pub behind : List Write
  pub parts : writes ≡ tables ++ behind
  pub to_tables : AllByRecursion (λ write. IsTrue (is_table_write write)) tables
  pub to_slots : AllByRecursion (λ write. IsFalse (is_table_write write)) behind
  pub count : words ≡ length tables

-- A commit under way can be carried out: its writes lead to the new set's entries in order, and it goes on from action to
-- action. Meanwhile the ids of both sets are live, with the old entries where a piece gets a result, and so are the bits of
-- both. One that `prepare` planned has its way back.
pub record IsHeld (translation : Option Translation) (rules : StoredRules) (kept : Entries) (slots : Slots) (held : Held) : Type 0 where
  pub size : length slots ≡ kept.slots
  pub entries : entries_of (mode_of translation) rules.rules ≤ length slots
  pub coded : coded_by held.bits ≡ mode_of translation
  pub during : during_of held.bits ≡ bits_with (mode_of translation) rules.rules held.batch (bits_of translation)
  pub way_back : held.prepared ≡ true
      → IsPrepared translation rules kept slots held.ids.items (held_writes kept.entries held) (as_writes kept.entries held.rewrites.items (all_undo held.undo))
  pub back : IsSome held.turned → held.prepared ≡ true
  -- and the parts of its longest insertion are known
  pub longest : held.prepared ≡ true → held.most_parts ≡ longest_parts (settled_state translation kept.entries slots) (held_writes kept.entries held)
  pub after : IsArranged (mode_of translation) (bits_after rules.rules held) (set_after rules.rules held.batch) (changed_by kept held.rewrites.items held.erased.items) held.arrangement
  pub leads : state_after (settled_state translation kept.entries slots) (held_writes kept.entries held)
      ≡ settled_state (translation_after translation rules.rules kept.entries held) (rewritten_entries kept.entries held.rewrites.items) held.arrangement
  pub tables : IsState 0 (tables_of (translation_after translation rules.rules kept.entries held))
  pub translated : AreBitsOf (mode_of translation) (bits_after rules.rules held) (set_after rules.rules held.batch) (tables_of (translation_after translation rules.rules kept.entries held))
  -- what is left of it can be made, and it can be turned round: each key has the old or the new answer all along
  pub going : IsGoing (length slots) rules.rules (bits_of translation) (state_of translation kept.entries slots (Some held)) (held_of translation slots rules.rules kept.entries held)
  -- the drain, where a new bit asks for it, stands behind the words of the tables
  pub words_first : AreWordsFirst held.counts.words (held_writes kept.entries held)
  -- by covers there are none
  pub plain : mode_of translation ≡ Cover → held.counts.words ≡ 0
  pub early : held.awaits ≡ true → held.made ≤ held.counts.words
  pub made : held.made ≤ length (all_writes held.writes)
  pub in_use : AllByRecursion (IsInUse (length slots)) (held_writes kept.entries held)
  -- the batch can be applied to the set, without memory
  pub right : AllByRecursion HasConditions (set_after rules.rules held.batch)
  pub sound : IsSound rules.rules held.batch
  pub changes : AllByRecursion ChangesRules held.batch
  pub few : HaveFreeBits (mode_of translation) rules.rules held.batch
  pub room : length held.batch ≤ rules.spare
  -- and what it rewrites and erases are live ids, each erased once
  pub changed : AllByRecursion (λ rewrite. IsTrue (is_live kept.live rewrite.id)) held.rewrites.items
  pub gone : AllByRecursion (λ id. IsTrue (is_live kept.live id)) held.erased.items
  pub once : IsDistinct nat_eq held.erased.items

-- the set's entries stand in order, and with a commit under way it can be carried out
abbrev pub IsCarried : Option Translation → StoredRules → Entries → Slots → Option Held → Type 0
IsCarried translation rules kept slots None = IsArranged (mode_of translation) (bits_of translation) rules.rules kept slots
IsCarried translation rules kept slots (Some held) = IsHeld translation rules kept slots held

-- a set of rules with right conditions, whose entries stand in order, and whose port ranges have their bits
pub record IsManaged (translation : Option Translation) (rules : StoredRules) (kept : Entries) (slots : Slots) (held : Option Held) : Type 0 where
  pub right : AllByRecursion HasConditions rules.rules
  pub is_set : IsRuleSet rules.rules
  pub tables : IsState 0 (tables_of translation)
  pub translated : AreBitsOf (mode_of translation) (bits_of translation) rules.rules (tables_of translation)
  pub carried : IsCarried translation rules kept slots held
