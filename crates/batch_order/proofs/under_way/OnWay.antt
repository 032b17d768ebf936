-- What is known of a commit under way stays so while it is carried out or back: where it stands alone changes.
use Rattle.std.proofs.Common.{◌≡◌, ℕ, ◌≤◌, Bool, true, Option, Some, length}
use Rattle.std.specs.Prelude.{IsSome}
use Rattle.slot_pool.specs.Arrangement.{Slots}
use Rattle.rule_store.specs.Store.{StoredRules}
use Rattle.batch_order.specs.declared.held.Held.{Held}
use Rattle.batch_order.specs.declared.translation.Translation.{Translation}
use Rattle.batch_order.specs.Entries.{Entries}
use Rattle.batch_order.specs.Going.{IsGoing}
use Rattle.batch_order.specs.Kept.{IsManaged, bits_of, held_of, state_of}
use Rattle.batch_order.specs.Planning.{all_writes}

-- it stands elsewhere: so many of its writes are made, and it is turned round, awaits its drain or has drained as said
abbrev pub standing_at : Held → ℕ → Option ℕ → Bool → Bool → Held
standing_at held made turned awaits drained = record held { made = made; turned = turned; awaits = awaits; drained = drained }

-- what there is to know of where it stands
pub record MayStand (translation : Option Translation) (rules : StoredRules) (kept : Entries) (slots : Slots) (held : Held) (made : ℕ) (turned : Option ℕ) (awaits drained : Bool) : Type 0 where
  pub back : IsSome turned → held.prepared ≡ true
  pub early : awaits ≡ true → made ≤ held.counts.words
  pub made_are : made ≤ length (all_writes held.writes)
  pub going : IsGoing (length slots) rules.rules (bits_of translation) (state_of translation kept.entries slots (Some (standing_at held made turned awaits drained)))
      (held_of translation slots rules.rules kept.entries (standing_at held made turned awaits drained))

pub managed_at : (translation : Option Translation) (rules : StoredRules) (kept : Entries) (slots : Slots) (held : Held) → IsManaged translation rules kept slots (Some held)
    → (made : ℕ) (turned : Option ℕ) (awaits drained : Bool) → MayStand translation rules kept slots held made turned awaits drained
    → IsManaged translation rules kept slots (Some (standing_at held made turned awaits drained))
managed_at translation rules kept slots held managed made turned awaits drained may =
    let carried = managed.carried in
    record {
      right = managed.right;
      is_set = managed.is_set;
      tables = managed.tables;
      translated = managed.translated;
      carried = record {
        size = carried.size;
        entries = carried.entries;
        coded = carried.coded;
        during = carried.during;
        way_back = carried.way_back;
        back = may.back;
        longest = carried.longest;
        after = carried.after;
        leads = carried.leads;
        tables = carried.tables;
        translated = carried.translated;
        going = may.going;
        words_first = carried.words_first;
        plain = carried.plain;
        early = may.early;
        made = may.made_are;
        in_use = carried.in_use;
        right = carried.right;
        sound = carried.sound;
        changes = carried.changes;
        few = carried.few;
        room = carried.room;
        changed = carried.changed;
        gone = carried.gone;
        once = carried.once;
      };
    }
