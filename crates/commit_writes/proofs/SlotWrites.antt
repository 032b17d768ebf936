-- Writes of slots: those of a planned batch are none to a table, and leave both tables.
use Rattle.std.proofs.Common.{◌≡◌, ℕ, List, [], ◌∷◌, ◌++◌, map, refl, arith, ◌∙◌}
use Rattle.std.specs.Prelude.{IsFalse}
use Rattle.std.specs.List.{AllByRecursion}
use Rattle.slot_order.proofs.Lists.{all_append}
use Rattle.slot_pool.specs.Arrangement.{Slots}
use Rattle.rule_store.proofs.Counts.{count_by-cons}
use Rattle.placement.specs.declared.Move.{Move}
use Rattle.placement.specs.declared.Move.TheVariants.{Put, Erase}
use Rattle.tcam_device.specs.declared.Write.{Write}
use Rattle.tcam_device.specs.declared.Write.TheVariants.{Slot, Table}
use Rattle.tcam_device.specs.State.{State, apply, state_after}
use Rattle.tcam_device.specs.Insertion.{is_table_write, table_writes}
use Rattle.commit_writes.specs.declared.Rewrite.{Rewrite}
use Rattle.commit_writes.specs.Planned.{IdEntries, Planned, write_for, planned_writes, slots_after}
use Rattle.commit_writes.specs.PlannedBatch.{rewrite_write, erase_write, batch_writes}

-- no write is to a table
abbrev pub AreToSlots : List Write → Type 0
AreToSlots writes = AllByRecursion (λ write. IsFalse (is_table_write write)) writes

pub no_table : (writes : List Write) → AreToSlots writes → table_writes writes ≡ 0
no_table [] slots = refl
no_table (write ∷ writes) slots = let rest = no_table writes slots.1 in let first = slots.0 in count_by-cons is_table_write write writes ∙ rw first (omega arith)

-- both tables are as they were
pub record LeavesTables (state after : State) : Type 0 where
  pub src : after.src ≡ state.src
  pub dst : after.dst ≡ state.dst

pub tables_left : (state : State) (writes : List Write) → AreToSlots writes → LeavesTables state (state_after state writes)
tables_left state [] slots = record { src = refl; dst = refl }
tables_left state (Slot at entry ∷ writes) slots = let rest = tables_left (apply state (Slot at entry)) writes slots.1 in record { src = rest.src; dst = rest.dst }
tables_left state (Table field port word ∷ writes) slots = absurd (let wrong = slots.0 in cc)

-- the moves of insertions are slot writes,
planned_slots : (entries : IdEntries) (planned : List Planned) → AreToSlots (planned_writes entries planned)
planned_slots entries [] = tt
planned_slots entries (insertion ∷ planned) =
    all_append (λ write. IsFalse (is_table_write write)) (map (write_for entries) insertion.moves) (planned_writes entries planned) (each insertion.moves) (planned_slots entries planned)
  where
    each : (moves : List Move) → AreToSlots (map (write_for entries) moves)
    each [] = tt
    each (Put slot id ∷ moves) = (refl, each moves)
    each (Erase slot ∷ moves) = (refl, each moves)

-- and so are new results and erases
pub batch_slots : (entries : IdEntries) (slots : Slots) (planned : List Planned) (rewrites : List Rewrite) (erased : List ℕ) → AreToSlots (batch_writes entries slots planned rewrites erased)
batch_slots entries slots planned rewrites erased =
    all_append (λ write. IsFalse (is_table_write write)) (planned_writes entries planned)
    (map (rewrite_write arranged) rewrites ++ map (erase_write arranged) erased) (planned_slots entries planned)
    (all_append (λ write. IsFalse (is_table_write write)) (map (rewrite_write arranged) rewrites) (map (erase_write arranged) erased) (results rewrites) (erases erased))
  where
    arranged : Slots
    arranged = slots_after slots planned

    results : (some : List Rewrite) → AreToSlots (map (rewrite_write arranged) some)
    results [] = tt
    results (rewrite ∷ some) = (refl, results some)

    erases : (ids : List ℕ) → AreToSlots (map (erase_write arranged) ids)
    erases [] = tt
    erases (id ∷ ids) = (refl, erases ids)
