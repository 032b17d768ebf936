-- What walks over the slots and the tasks find behind a write of a slot.
use Rattle.std.specs.Prelude.{◌≡◌, ℕ, ◌+◌, ◌<◌, Bool, false, ◌||◌, nat_lt, Option, List, map, length, option_map, slice_index_or, if◌then◌else◌}
use Rattle.slot_order.specs.Order.{slot}
use Rattle.rule_model.specs.declared.words.Entry.{Entry}
use Rattle.rule_model.specs.Entry.{RankedPiece, entry_for}
use Rattle.tcam_device.specs.Insertion.{holds_match}
use Rattle.readback.specs.Tasks.{Task, Insert, Rewrite, Erase, piece_of, is_done, holds_told}
use Rattle.trace_check.specs.declared.tasks.TaskKind.{TaskKind}
use Rattle.trace_check.specs.declared.tasks.TaskKind.TheVariants as kind

-- what the slots hold whose pieces these are
abbrev pub entries_in : List (Option RankedPiece) → List (Option Entry)
entries_in places = map (option_map entry_for) places

-- what is done to a piece
abbrev pub task_by_kind : TaskKind → RankedPiece → Task
task_by_kind kind.Insert ranked = Insert ranked
task_by_kind kind.Rewrite ranked = Rewrite ranked
task_by_kind kind.Erase ranked = Erase ranked

-- whether a slot holds an entry of the piece, whatever its result
abbrev pub is_of : RankedPiece → Option RankedPiece → Bool
is_of ranked place = holds_match (entry_for ranked) (option_map entry_for place)

-- and whether it holds the piece's entry with its result
abbrev pub tells : RankedPiece → Option RankedPiece → Bool
tells ranked place = holds_told (entry_for ranked) (option_map entry_for place)

-- whether a write touches the piece, which stood in its slot before or stands there now
abbrev pub touches : List (Option RankedPiece) → ℕ → Option RankedPiece → RankedPiece → Bool
touches places at before ranked = is_of ranked before || is_of ranked (slot places at)

-- whether a task is done behind a write: one that isn't touched is where it was
abbrev pub done_behind : List (Option RankedPiece) → ℕ → Option RankedPiece → Bool → Task → Bool
done_behind places at before was task =
    if touches places at before (piece_of task) then is_done (entries_in places) task else was

-- of the tasks of some pieces, numbered from the first on, those that aren't touched are done where they are among so many
abbrev pub ArePlacedTasks : List (Option RankedPiece) → ℕ → Option RankedPiece → TaskKind → List RankedPiece → ℕ → ℕ → Type 0
ArePlacedTasks places at before kind pieces first were_done =
    (i : ℕ) (ranked : RankedPiece) → i < length pieces → slice_index_or pieces i ranked ≡ ranked → touches places at before ranked ≡ false
    → nat_lt (first + i) were_done ≡ is_done (entries_in places) (task_by_kind kind ranked)
