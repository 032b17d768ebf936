-- What takes a plan back: the writes that restore what its writes replace, as planned writes.
use Rattle.std.specs.Prelude.{◌≡◌, true, IsTrue, Option, Some, None, List, [], ◌∷◌, length}
use Rattle.std.specs.List.{AllByRecursion}
use Rattle.slot_pool.specs.Arrangement.{Slots}
use Rattle.move_planner.specs.Noted.{IsInside, taken_back}
use Rattle.tcam_device.specs.declared.Write.{Write}
use Rattle.tcam_device.specs.Insertion.{is_table_write}
use Rattle.tcam_device.specs.State.{State, apply}
use Rattle.commit_writes.specs.declared.Rewrite.{Rewrite}
use Rattle.commit_writes.specs.Planned.{IdEntries}
use Rattle.commit_writes.specs.Undo.{restorings}
use Rattle.batch_order.specs.declared.held.Held.{Held}
use Rattle.batch_order.specs.declared.plan.Plan.{Plan}
use Rattle.batch_order.specs.declared.planned_writes.PlannedWrite.{PlannedWrite}
use Rattle.batch_order.specs.declared.translation.Translation.{Translation}
use Rattle.batch_order.specs.declared.undoing.PlannedUndo.{PlannedUndo}
use Rattle.batch_order.specs.Kept.{settled_state, tables_of}
use Rattle.batch_order.specs.Planning.{as_writes}

-- planned writes restore those of a plan, whatever the entries of the ids are
abbrev pub AreRestoring : Option Translation → Slots → List PlannedWrite → List PlannedWrite → Type 0
AreRestoring translation slots writes undo =
    (entries : IdEntries) (rewrites : List Rewrite)
    → as_writes entries rewrites undo ≡ restorings (settled_state translation entries slots) (as_writes entries rewrites writes)

-- a state once some writes are made, the last one first
abbrev pub unmade : State → List Write → State
unmade state [] = state
unmade state (write ∷ writes) = apply (unmade state writes) write

-- what the words of a plan replace is noted, and each is to a table
abbrev pub HasNotedWords : Option Translation → Plan → Plan → Type 0
HasNotedWords translation plan plan' =
    (plan'.undo.words.items ≡ restorings (tables_of translation) plan.writes.words.items)
    × AllByRecursion (λ write. IsTrue (is_table_write write)) plan.writes.words.items

-- What is noted of a plan takes an arrangement back that stands as the plan leads to.
pub record TakesBack (before now : Slots) (undo : PlannedUndo) : Type 0 where
  pub moves_inside : AllByRecursion (IsInside (length now)) undo.moves
  pub changes_inside : AllByRecursion (IsInside (length now)) undo.changes
  pub leads : taken_back (taken_back now undo.changes) undo.moves ≡ before

-- The arrangement that a manager keeps is that of its set, and with a commit under way the one that its plan leads to, which can
-- be taken back where `prepare` planned it.
abbrev pub StandsAt : Slots → Slots → Option Held → Type 0
StandsAt before now None = now ≡ before
StandsAt before now (Some held) = (now ≡ held.arrangement) × (held.prepared ≡ true → TakesBack before now held.undo)
