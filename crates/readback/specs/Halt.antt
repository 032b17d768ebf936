-- Where a commit was halted, and what is planned from there.
use Rattle.std.specs.Prelude.{ℕ, Option, List}
use Rattle.commit_writes.specs.Planned.{Planned}
use Rattle.commit_writes.specs.declared.Rewrite.{Rewrite}
use Rattle.readback.specs.Tasks.{Task}

-- the tasks that are done and those that are left, and the slot of a twin, or none
pub record Halt : Type 0 where
  pub done : List Task
  pub left : List Task
  pub twin : Option ℕ

abbrev pub halt_at : List Task → List Task → Option ℕ → Halt
halt_at done left twin = record { done = done; left = left; twin = twin }

-- what is planned: insertions, ids that get another entry, and ids that go
pub record PlannedParts : Type 0 where
  pub planned : List Planned
  pub rewrites : List Rewrite
  pub erased : List ℕ

abbrev pub parts_as_planned : List Planned → List Rewrite → List ℕ → PlannedParts
parts_as_planned planned rewrites erased = record { planned = planned; rewrites = rewrites; erased = erased }
