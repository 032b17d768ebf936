-- The tasks of a commit behind its table words, and whether one is done.
use Rattle.std.specs.Prelude.{ℕ, Bool, false, not, ◌&&◌, nat_eq, Option, Some, None, List, ◌++◌, filter, map}
use Rattle.std.specs.List.{list_any}
use Rattle.rule_model.specs.declared.Rule.{Rule}
use Rattle.rule_model.specs.RuleSet.{rule_at}
use Rattle.rule_model.specs.declared.words.Entry.{Entry}
use Rattle.rule_model.specs.Entry.{RankedPiece, entry_for, same_match}
use Rattle.rule_store.specs.declared.Mode.{Mode}
use Rattle.rule_store.specs.declared.Command.{Command}
use Rattle.tcam_device.specs.State.{State}
use Rattle.tcam_device.specs.Order.{StandsAt}
use Rattle.tcam_device.specs.Insertion.{holds_match}
use Rattle.commit_writes.specs.Bits.{FieldBits, bits_with}
use Rattle.commit_writes.specs.Shape.{set_pieces, inserted_pieces, rewritten_pieces, erased_pieces, Stands}

-- the pieces that a commit finds, and those that it puts in, that get another result, with that, and that it takes out
pub record CommitPieces : Type 0 where
  pub old : List RankedPiece
  pub inserted : List RankedPiece
  pub rewritten : List RankedPiece
  pub erased : List RankedPiece

-- whether a rule has the result
abbrev pub has_result : ℕ → Option Rule → Bool
has_result answer None = false
has_result answer (Some rule) = nat_eq rule.result answer

-- whether a piece that both sets have gets another result than the old set's rule has
abbrev pub changes_result : List Rule → RankedPiece → Bool
changes_result rules ranked = not (has_result ranked.result (rule_at rules ranked.rank))

-- the pieces of a commit, each with the bits that are live meanwhile
abbrev pub pieces_with : Mode → FieldBits → List Rule → List Command → CommitPieces
pieces_with mode during rules batch =
    record {
      old = set_pieces mode during rules;
      inserted = inserted_pieces mode during rules batch;
      rewritten = filter (changes_result rules) (rewritten_pieces mode during rules batch);
      erased = erased_pieces mode during rules batch;
    }

-- so they are by the bits before it
abbrev pub commit_pieces : Mode → FieldBits → List Rule → List Command → CommitPieces
commit_pieces mode bits rules batch = pieces_with mode (bits_with mode rules batch bits) rules batch

-- all that may stand meanwhile, with an old or a new result
abbrev pub known_pieces : CommitPieces → List RankedPiece
known_pieces pieces = pieces.old ++ (pieces.inserted ++ pieces.rewritten)

-- a task: a piece is put in, gets its new result, or is taken out
pub data Task : Type 0 where
  Insert : (ranked : RankedPiece) → Task
  Rewrite : (ranked : RankedPiece) → Task
  Erase : (ranked : RankedPiece) → Task

-- the piece of a task
abbrev pub piece_of : Task → RankedPiece
piece_of (Insert ranked) = ranked
piece_of (Rewrite ranked) = ranked
piece_of (Erase ranked) = ranked

-- the tasks of a commit in the order of its writes; results that don't change are none
abbrev pub tasks_of : CommitPieces → List Task
tasks_of pieces = map Insert pieces.inserted ++ (map Rewrite pieces.rewritten ++ map Erase pieces.erased)

-- a slot holds an entry of the piece, whatever its result
abbrev pub IsStanding : State → RankedPiece → Type 0
IsStanding state ranked = (at : ℕ) × Stands state at ranked

-- a slot holds the piece's entry with its result
abbrev pub IsTold : State → RankedPiece → Type 0
IsTold state ranked = (at : ℕ) × StandsAt state at ranked

-- the task is done: the piece stands, stands with its new result, or stands no more
abbrev pub IsDone : State → Task → Type 0
IsDone state (Insert ranked) = IsStanding state ranked
IsDone state (Rewrite ranked) = IsTold state ranked
IsDone state (Erase ranked) = IsStanding state ranked → ⊥

-- the task isn't done: the piece isn't in yet, hasn't its new result yet, or still stands
abbrev pub IsLeft : State → Task → Type 0
IsLeft state (Insert ranked) = IsStanding state ranked → ⊥
IsLeft state (Rewrite ranked) = IsTold state ranked → ⊥
IsLeft state (Erase ranked) = IsStanding state ranked

-- The same by tests: an entry of the piece stands in some slot,
abbrev pub stands_in : List (Option Entry) → RankedPiece → Bool
stands_in slots ranked = list_any (holds_match (entry_for ranked)) slots

-- and one with the piece's result,
abbrev pub holds_told : Entry → Option Entry → Bool
holds_told entry None = false
holds_told entry (Some standing) = same_match entry standing && nat_eq entry.result standing.result

-- in some slot,
abbrev pub is_told_in : List (Option Entry) → RankedPiece → Bool
is_told_in slots ranked = list_any (holds_told (entry_for ranked)) slots

-- so a task is done
abbrev pub is_done : List (Option Entry) → Task → Bool
is_done slots (Insert ranked) = stands_in slots ranked
is_done slots (Rewrite ranked) = is_told_in slots ranked
is_done slots (Erase ranked) = not (stands_in slots ranked)
