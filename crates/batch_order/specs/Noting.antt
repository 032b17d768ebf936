-- What is noted while a plan is made, so that it can be taken back.
use Rattle.std.specs.Prelude.{◌≡◌, ℕ, ◌^◌, ◌≤◌, Option, List, [], ◌++◌, length, map}
use Rattle.std.specs.List.{AllByRecursion, AllZip}
use Rattle.slot_pool.specs.Arrangement.{Slots}
use Rattle.rule_model.specs.declared.words.Entry.{Entry}
use Rattle.rule_store.specs.declared.Mode.{Mode}
use Rattle.rule_store.specs.declared.Mode.TheVariants.{Cover}
use Rattle.tcam_device.specs.declared.Write.TheVariants.{Slot}
use Rattle.placement.specs.declared.Move.{Move}
use Rattle.placement.specs.declared.Move.TheVariants.{Put}
use Rattle.move_planner.specs.Noted.{AreNoted}
use Rattle.commit_writes.specs.declared.Rewrite.{Rewrite}
use Rattle.commit_writes.specs.Planned.{IdEntries}
use Rattle.commit_writes.specs.PlannedBatch.{erase_write, home_slot, rewrite_write}
use Rattle.batch_order.specs.declared.plan.Plan.{Plan}
use Rattle.batch_order.specs.declared.planned_writes.PlannedWrite.{PlannedWrite}
use Rattle.batch_order.specs.declared.planned_writes.PlannedWrite.TheVariants.{Tabled, Moved}
use Rattle.batch_order.specs.declared.undoing.PlannedUndo.{PlannedUndo}
use Rattle.batch_order.specs.Planning.{IsWithin, all_writes, as_write, as_writes}

-- what restores the writes of a plan, in the order of these
abbrev pub all_undo : PlannedUndo → List PlannedWrite
all_undo undo = map Tabled undo.words.items ++ (map Moved undo.moves ++ map Moved undo.changes)

-- nothing is noted yet
pub record IsUnnoted (undo : PlannedUndo) : Type 0 where
  pub no_words : undo.words.items ≡ []
  pub no_moves : undo.moves ≡ []
  pub no_changes : undo.changes ≡ []

-- a plan has no writes yet but words of the tables, and of these none by covers
pub record BeginsWithWords (mode : Mode) (plan : Plan) : Type 0 where
  pub covers : mode ≡ Cover → plan.writes.words.items ≡ []
  pub no_moves : plan.writes.moves ≡ []
  pub unnoted : IsUnnoted plan.undo

-- the ids that get a new entry, and those that go
abbrev pub changed_ids : List Rewrite → List ℕ → List ℕ
changed_ids rewrites erased = map (λ rewrite. rewrite.id) rewrites ++ erased

-- a planned write is to the slot where an id stands, whatever it puts there
abbrev pub IsAtHome : Slots → ℕ → PlannedWrite → Type 0
IsAtHome slots id planned =
    (entries : IdEntries) (rewrites : List Rewrite) → (entry : Option Entry) × (as_write entries rewrites planned ≡ Slot (home_slot slots id) entry)

-- some planned writes gained one for each id, to where it stands
pub record GainsAtHome (slots : Slots) (ids : List ℕ) (planned planned' : List PlannedWrite) : Type 0 where
  pub more : List PlannedWrite
  pub gained : planned' ≡ planned ++ more
  pub each : AllZip (IsAtHome slots) ids more

-- an id is put where it stands
abbrev pub put_at_home : Slots → ℕ → Move
put_at_home slots id = Put (home_slot slots id) id

-- what puts back the slots of some new entries and erases: their own ids
abbrev pub changes_back : Slots → List Rewrite → List ℕ → List Move
changes_back slots rewrites erased = map (λ rewrite. put_at_home slots rewrite.id) rewrites ++ map (put_at_home slots) erased

-- Insertions were planned and made in an arrangement: the moves are noted, and nothing else is planned or noted.
pub record AreNotedIn (slots slots' : Slots) (plan plan' : Plan) : Type 0 where
  pub moves : AreNoted slots slots' plan.writes.moves plan'.writes.moves plan.undo.moves plan'.undo.moves
  pub words : plan'.writes.words.items ≡ plan.writes.words.items
  pub changes : plan'.writes.changes.items ≡ plan.writes.changes.items
  pub undo_words : plan'.undo.words.items ≡ plan.undo.words.items
  pub undo_changes : plan'.undo.changes ≡ plan.undo.changes

-- what was planned and noted of words and moves is as it was
pub record HasSameNotes (plan plan' : Plan) : Type 0 where
  pub words : plan'.writes.words.items ≡ plan.writes.words.items
  pub moves : plan'.writes.moves ≡ plan.writes.moves
  pub undo_words : plan'.undo.words.items ≡ plan.undo.words.items
  pub undo_moves : plan'.undo.moves ≡ plan.undo.moves

-- New entries and erases were planned behind the insertions, and are noted.
pub record AreChangesPlanned (slots : Slots) (rewrites : List Rewrite) (erased : List ℕ) (plan plan' : Plan) : Type 0 where
  pub within : AllByRecursion (IsWithin (length slots)) (all_writes plan'.writes)
  pub writes : (entries : IdEntries) → as_writes entries rewrites (all_writes plan'.writes)
      ≡ as_writes entries rewrites (all_writes plan.writes) ++ (map (rewrite_write slots) rewrites ++ map (erase_write slots) erased)
  pub words : plan'.words ≡ plan.words
  pub most : plan'.most ≡ plan.most
  pub span : plan'.span ≡ plan.span
  pub most_parts : plan'.most_parts ≡ plan.most_parts
  pub few : length (all_writes plan'.writes) ≤ 2 ^ 35
  pub at_home : GainsAtHome slots (changed_ids rewrites erased) plan.writes.changes.items plan'.writes.changes.items
  pub noted : plan'.undo.changes ≡ plan.undo.changes ++ changes_back slots rewrites erased
  pub same_words : plan'.writes.words.items ≡ plan.writes.words.items
  pub same_moves : plan'.writes.moves ≡ plan.writes.moves
