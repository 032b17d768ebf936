-- What a plan needs and keeps: entries that stand once and in order, and writes within the slots in use.
use Rattle.std.specs.Prelude.{◌≡◌, ℕ, ◌+◌, ◌^◌, ◌<◌, ◌≤◌, IsTrue, IsSome, Some, List, [], ◌++◌, length, flat_map, fold, map, max, option_map, slice_get}
use Rattle.std.specs.List.{AllByRecursion}
use Rattle.slot_order.specs.Order.{most_slots}
use Rattle.slot_pool.specs.Arrangement.{Slots, home_of}
use Rattle.rule_model.specs.Entry.{RankedPiece, entry_for}
use Rattle.placement.specs.Live.{AreApart, is_live, is_above, rank_in}
use Rattle.placement.specs.declared.Move.{Move}
use Rattle.placement.specs.Placement.{Aiming, IsPlacement, IsInOrder, after_moves, span_of}
use Rattle.placement.specs.Insertion.{IsLive, IsOther, StandOnce, free_slots}
use Rattle.move_planner.specs.Noted.{IsInside}
use Rattle.tcam_device.specs.declared.Write.{Write}
use Rattle.tcam_device.specs.declared.Write.TheVariants.{Slot}
use Rattle.tcam_device.specs.State.{IsInUse}
use Rattle.commit_writes.specs.declared.Rewrite.{Rewrite}
use Rattle.commit_writes.specs.PlannedBatch.{erase_write, rewrite_write}
use Rattle.commit_writes.specs.Planned.{IdEntries, Planned, ArePlanned, ranked_of, live_after, slots_after, write_for, entry_at}
use Rattle.batch_order.specs.Arranged.{Arranged}
use Rattle.batch_order.specs.declared.plan.Plan.{Plan}
use Rattle.batch_order.specs.declared.planned_writes.PlannedWrite.{PlannedWrite}
use Rattle.batch_order.specs.declared.planned_writes.PlannedWrites.{PlannedWrites}
use Rattle.batch_order.specs.declared.planned_writes.PlannedWrite.TheVariants.{Tabled, Moved, Rewritten}
use Rattle.batch_order.specs.ByParts.{insertion_parts, moves_put}
use Rattle.batch_order.specs.Entries.{AreTold, Entries, KeepEntries}

-- the id stands in a slot
abbrev pub IsStanding : Slots → ℕ → Type 0
IsStanding slots id = IsSome (home_of slots id)

-- the writes of a plan in the order in which they are made
abbrev pub all_writes : PlannedWrites → List PlannedWrite
all_writes writes = map Tabled writes.words.items ++ (map Moved writes.moves ++ writes.changes.items)

-- the device write that a planned one is, by the entries of the ids and the new entries of the commit
abbrev pub as_write : IdEntries → List Rewrite → PlannedWrite → Write
as_write entries rewrites (Tabled word) = word
as_write entries rewrites (Moved move) = write_for entries move
as_write entries rewrites (Rewritten slot place) = Slot slot (option_map (λ rewrite. rewrite.entry) (slice_get rewrites place))

abbrev pub as_writes : IdEntries → List Rewrite → List PlannedWrite → List Write
as_writes entries rewrites writes = map (as_write entries rewrites) writes

-- a planned write is to a slot that is one of so many, or to a table
abbrev pub IsWithin : ℕ → PlannedWrite → Type 0
IsWithin slots (Tabled word) = IsInUse slots word
IsWithin slots (Moved move) = IsInside slots move
IsWithin slots (Rewritten slot place) = slot < slots

-- the planned writes of insertions
abbrev pub planned_moves : List Planned → List PlannedWrite
planned_moves planned = flat_map (λ insertion. map Moved insertion.moves) planned

-- each live id stands in one slot, in order, and the other slots are free
pub record IsSettled (kept : Entries) (slots : Slots) : Type 0 where
  pub size : length slots ≡ kept.slots
  pub few : kept.slots ≤ most_slots
  pub apart : AreApart kept.slots kept.live
  pub standing : StandOnce (IsLive kept.live) slots
  pub order : IsInOrder (is_above kept.live) slots
  pub count : free_slots slots + length kept.live ≡ kept.slots

-- and the writes that lead there are within the slots in use, none is planned yet that comes behind the moves, and where ids
-- stand is told
pub record IsPlannable (kept : Entries) (slots : Slots) (writes : PlannedWrites) : Type 0 where
  pub settled : IsSettled kept slots
  pub within : AllByRecursion (IsWithin kept.slots) (all_writes writes)
  pub no_changes : writes.changes.items ≡ []
  pub told : AreTold kept slots

-- the others are settled, and this live id is still to be placed
pub record IsLastLive (kept : Entries) (slots : Slots) (id : ℕ) : Type 0 where
  pub size : length slots ≡ kept.slots
  pub few : kept.slots ≤ most_slots
  pub apart : AreApart kept.slots kept.live
  pub live : IsTrue (is_live kept.live id)
  pub standing : StandOnce (IsOther kept.live id) slots
  pub order : IsInOrder (is_above kept.live) slots
  pub count : free_slots slots + length kept.live ≡ kept.slots + 1
  pub room : length kept.live ≤ kept.slots
  pub told : AreTold kept slots

-- the insertion of a live id was planned: its moves are those of a placement with its aim, and stand behind the other
-- writes
pub record IsInserted (kept : Entries) (slots slots' : Slots) (aiming : Aiming) (id : ℕ) (plan plan' : Plan) : Type 0 where
  pub moves : List Move
  pub placement : IsPlacement (is_above kept.live) (rank_in kept.live) aiming id slots moves
  pub slots_are : slots' ≡ after_moves slots moves
  pub writes : all_writes plan'.writes ≡ all_writes plan.writes ++ map Moved moves
  pub words : plan'.words ≡ plan.words
  pub most : plan'.most ≡ max plan.most (length moves)
  pub span : plan'.span ≡ max plan.span (span_of (is_above kept.live) slots id)
  pub most_parts : plan'.most_parts ≡ max plan.most_parts (insertion_parts (moves_put moves))

-- insertions of some pieces were planned with these aims, one after the other, under ids that weren't live before
pub record ArePlannedSince (old new : Entries) (slots slots' : Slots) (plan plan' : Plan) (pieces : List RankedPiece) (aims : List Aiming) : Type 0 where
  pub planned : List Planned
  pub are_planned : ArePlanned old.live slots planned
  pub pieces_are : map ranked_of planned ≡ pieces
  pub aims_are : map (λ insertion. insertion.aiming) planned ≡ aims
  pub live_is : new.live ≡ live_after old.live planned
  pub slots_are : slots' ≡ slots_after slots planned
  pub have_entries : AllByRecursion (λ insertion. entry_at new.entries insertion.one.id ≡ Some (entry_for (ranked_of insertion))) planned
  pub kept : KeepEntries old.live old.entries new.entries
  pub writes : all_writes plan'.writes ≡ all_writes plan.writes ++ planned_moves planned
  pub words : plan'.words ≡ plan.words
  pub most : plan'.most ≡ fold max plan.most (map (λ insertion. length insertion.moves) planned)
  pub span : plan'.span ≡ fold max plan.span (map (λ insertion. insertion.span) planned)
  pub most_parts : plan'.most_parts ≡ fold max plan.most_parts (map (λ insertion. insertion_parts (moves_put insertion.moves)) planned)

-- All writes of a commit were planned: insertions of some pieces with these aims, behind them the new entry of each id that
-- gets one, and last the erase of each id that goes.
pub record AreAllPlanned (before after : Arranged) (plan plan' : Plan) (pieces : List RankedPiece) (aims : List Aiming)
    (rewrites : List Rewrite) (erased : List ℕ) : Type 0 where
  pub between : Plan
  pub inserted : ArePlannedSince before.kept after.kept before.slots after.slots plan between pieces aims
  pub settled : IsSettled after.kept after.slots
  pub within : AllByRecursion (IsWithin (length after.slots)) (all_writes plan'.writes)
  pub writes : (entries : IdEntries) → as_writes entries rewrites (all_writes plan'.writes)
      ≡ as_writes entries rewrites (all_writes between.writes) ++ (map (rewrite_write after.slots) rewrites ++ map (erase_write after.slots) erased)
  pub words : plan'.words ≡ between.words
  pub most : plan'.most ≡ between.most
  pub span : plan'.span ≡ between.span
  pub most_parts : plan'.most_parts ≡ between.most_parts
  pub few : length (all_writes plan'.writes) ≤ 2 ^ 35
