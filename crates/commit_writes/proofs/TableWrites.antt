-- Writes of tables in front of others: they write no slot and belong to no insertion, and the words of new bits are such
-- writes.
use Rattle.std.proofs.Common.{◌≡◌, ℕ, List, [], ◌∷◌, ◌++◌, length, IsTrue, inl, inr, refl, ap, ◌∙◌, arith}
use Rattle.std.specs.List.{AllByRecursion}
use Rattle.slot_order.proofs.Lists.{AllByRecursion-member}
use Rattle.rule_store.proofs.Counts.{count_by-cons}
use Rattle.tcam_device.specs.declared.Write.{Write}
use Rattle.tcam_device.specs.declared.Write.TheVariants.{Slot, Table}
use Rattle.tcam_device.specs.State.{State, IsInUse, apply, state_after}
use Rattle.tcam_device.specs.Insertion.{is_table_write, table_writes, insertions}
use Rattle.commit_writes.proofs.Filters.{all_members}
use Rattle.commit_writes.proofs.TableWords.{IsBitWrite, bit_writes-words}
use Rattle.commit_writes.specs.Bits.{FieldBits}
use Rattle.commit_writes.specs.Shape.{bit_writes}

-- each write is to a table
abbrev pub AreToTables : List Write → Type 0
AreToTables writes = AllByRecursion (λ write. IsTrue (is_table_write write)) writes

-- the words of new bits are
pub bit_writes-tables : (state : State) (fresh : FieldBits) → AreToTables (bit_writes state fresh)
bit_writes-tables state fresh = all_members (λ write. IsTrue (is_table_write write)) (bit_writes state fresh)
    (λ write member. to_table write (AllByRecursion-member (IsBitWrite fresh state) (bit_writes state fresh) write (bit_writes-words state fresh) member))
  where
    to_table : (write : Write) → IsBitWrite fresh state write → IsTrue (is_table_write write)
    to_table write (inl word) = ap is_table_write word.is
    to_table write (inr word) = ap is_table_write word.is

-- they count as writes of tables alone,
pub all_tables : (tables : List Write) → AreToTables tables → table_writes tables ≡ length tables
all_tables [] words = refl
all_tables (write ∷ tables) words = let rest = all_tables tables words.1 in let first = words.0 in count_by-cons is_table_write write tables ∙ rw first (omega arith)

-- write no slot,
pub tables_in_use : (size : ℕ) (tables : List Write) → AreToTables tables → AllByRecursion (IsInUse size) tables
tables_in_use size [] words = tt
tables_in_use size (Slot at entry ∷ tables) words = absurd (let wrong = words.0 in cc)
tables_in_use size (Table field port word ∷ tables) words = (tt, tables_in_use size tables words.1)

-- and are part of no insertion
pub insertions-behind : (state : State) (tables made : List Write) → AreToTables tables → insertions state (tables ++ made) ≡ insertions (state_after state tables) made
insertions-behind state [] made words = refl
insertions-behind state (Slot at entry ∷ tables) made words = absurd (let wrong = words.0 in cc)
insertions-behind state (Table field port word ∷ tables) made words = insertions-behind (apply state (Table field port word)) tables made words.1
