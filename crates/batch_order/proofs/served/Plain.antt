-- By covers the tables are blank at every moment.
use Rattle.std.proofs.Common.{◌≡◌, Option, Some, None, List, [], ◌∷◌, ◌++◌, length, take, refl, sym, subst, arith}
use Rattle.std.specs.Prelude.{IsFalse}
use Rattle.slot_pool.specs.Arrangement.{Slots}
use Rattle.rule_store.specs.declared.Mode.TheVariants.{Cover, Bits}
use Rattle.rule_store.specs.Store.{StoredRules}
use Rattle.tcam_device.specs.declared.Write.{Write}
use Rattle.tcam_device.specs.Insertion.{is_table_write}
use Rattle.tcam_device.proofs.Wider.{all_take}
use Rattle.commit_writes.proofs.SlotWrites.{AreToSlots, tables_left}
use Rattle.batch_order.specs.declared.held.Held.{Held}
use Rattle.batch_order.specs.declared.translation.Translation.{Translation}
use Rattle.batch_order.specs.Entries.{Entries}
use Rattle.batch_order.specs.Kept.{AreWordsFirst, IsManaged, held_writes, mode_of, settled_state, state_of}
use Rattle.batch_order.specs.Managed.{HasBlankTables}

-- with no word first all writes go to slots
pub no_words_first : (writes : List Write) → AreWordsFirst 0 writes → AreToSlots writes
no_words_first writes first = go first.tables first.parts first.count
  where
    go : (tables : List Write) → writes ≡ tables ++ first.behind → 0 ≡ length tables → AreToSlots writes
    go [] parts none = subst AreToSlots (sym parts) first.to_slots
    go (write ∷ tables) parts none = absurd (omega arith)

pub blank_by_covers : (translation : Option Translation) (rules : StoredRules) (kept : Entries) (slots : Slots) (held : Option Held) → IsManaged translation rules kept slots held
    → mode_of translation ≡ Cover → HasBlankTables (state_of translation kept.entries slots held)
blank_by_covers (Some tables) rules kept slots held managed cover = absurd (let clash : Bits ≡ Cover = cover in cc)
blank_by_covers None rules kept slots None managed cover = record { src = refl; dst = refl }
blank_by_covers None rules kept slots (Some held) managed cover =
    let writes = held_writes kept.entries held in
    let all = no_words_first writes (subst (λ n. AreWordsFirst n writes) (managed.carried.plain refl) managed.carried.words_first) in
    let left = tables_left (settled_state None kept.entries slots) (take held.made writes) (all_take (λ write. IsFalse (is_table_write write)) held.made writes all) in
    record { src = left.src; dst = left.dst }
