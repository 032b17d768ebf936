-- Ids and slots as one value, and what changes of them.
use Rattle.std.specs.Prelude.{ℕ, List}
use Rattle.slot_pool.specs.Arrangement.{Slots}
use Rattle.commit_writes.specs.declared.Rewrite.{Rewrite}
use Rattle.batch_order.specs.Entries.{Entries}

-- the ids with their entries, and the slots where they stand
pub record Arranged : Type 0 where
  pub kept : Entries
  pub slots : Slots

abbrev pub arranged_at : Entries → Slots → Arranged
arranged_at kept slots = record { kept = kept; slots = slots }

-- the ids that get another entry, and those that go
pub record LeftChanges : Type 0 where
  pub rewrites : List Rewrite
  pub erased : List ℕ

abbrev pub left_changes : List Rewrite → List ℕ → LeftChanges
left_changes rewrites erased = record { rewrites = rewrites; erased = erased }
