-- What a batch does to a set: its changes, a priority each, and the pieces that a change inserts, rewrites and erases.
use Rattle.std.specs.Prelude.{◌≡◌, ◌↔◌, ℕ, ◌<◌, Bool, not, IsTrue, Option, Some, None, IfSome, List, [], Contains, AllPairs, length, map, filter, fold, slice_get, nat_eq}
use Rattle.std.specs.List.{list_any}
use Rattle.std.specs.Ordering.{nat_cmp}
use Rattle.std.specs.BTreeMap.{BTreeMap, IsOrdered, get}
use Rattle.rule_model.specs.declared.Rule.{Rule}
use Rattle.rule_model.specs.RuleSet.{rule_at}
use Rattle.rule_model.specs.Piece.{same_piece}
use Rattle.rule_store.specs.declared.Mode.{Mode}
use Rattle.rule_store.specs.declared.Mode.TheVariants.{Cover, Bits}
use Rattle.rule_store.specs.declared.Command.{Command}
use Rattle.rule_store.specs.declared.Command.TheVariants.{Add, Set, Del}
use Rattle.rule_store.specs.Batch.{named_priority, commands_naming, set_after}
use Rattle.rule_store.specs.Verdict.{pieces_of}
use Rattle.rule_model.specs.Entry.{RankedPiece}
use Rattle.commit_writes.specs.Bits.{FieldBits, no_bits}
use Rattle.commit_writes.specs.Shape.{ranked_pieces}
use Rattle.commit_writes.specs.declared.batch.pieces.Choice.{Choice}
use Rattle.commit_writes.specs.declared.batch.pieces.Choice.TheVariants.{Common, Fresh}

-- what a batch changes at one priority: the rule of the set there, and the rule there after the batch, where there is one
pub record RuleChange : Type 0 where
  pub old : Option Rule
  pub new : Option Rule

-- whether a command of the batch names the priority
abbrev pub names_at : List Command → ℕ → Bool
names_at batch priority = list_any (λ command. nat_eq (named_priority command) priority) batch

-- the change of a batch at a priority
abbrev pub change_at : List Rule → List Command → ℕ → RuleChange
change_at rules batch priority = record { old = rule_at rules priority; new = rule_at (set_after rules batch) priority }

-- the changes of a batch: by falling priority, one at each priority that it names
pub record AreChanges (rules : List Rule) (batch : List Command) (changes : List RuleChange) : Type 0 where
  pub priorities : List ℕ
  pub falling : AllPairs (λ a b. b < a) priorities
  pub named : (priority : ℕ) → Contains priorities priority ↔ IsTrue (names_at batch priority)
  pub are : changes ≡ map (change_at rules batch) priorities

-- the last of some commands
abbrev pub last_command : List Command → Option Command
last_command commands = fold (λ before command. Some command) None commands

-- the command at a place, if there is one
abbrev pub placed : List Command → Option ℕ → Option Command
placed batch None = None
placed batch (Some place) = slice_get batch place

-- at each priority that some commands of a batch name stands the place of the last of these
pub record AreLastCommands (batch commands : List Command) (last : BTreeMap ℕ ℕ) : Type 0 where
  pub ordered : IsOrdered nat_cmp last
  pub within : (priority : ℕ) → IfSome (get nat_cmp last priority) (λ place. place < length batch)
  pub at : (priority : ℕ) → placed batch (get nat_cmp last priority) ≡ last_command (commands_naming priority commands)

-- a rule with another result
abbrev pub with_new_result : ℕ → Option Rule → Option Rule
with_new_result answer None = None
with_new_result answer (Some rule) = Some (record rule { result = answer })

-- what stands at a command's priority behind it, where this stood in the set
abbrev pub rule_behind : Option Rule → Command → Option Rule
rule_behind old (Add rule) = Some rule
rule_behind old (Set priority answer) = with_new_result answer old
rule_behind old (Del priority) = None

-- what a command changes in a set at its priority
abbrev pub change_by : List Rule → Command → RuleChange
change_by rules command =
    let old = rule_at rules (named_priority command) in record { old = old; new = rule_behind old command }

-- the pieces of a rule, with their bits, its priority and its result, and none where there is no rule
abbrev pub pieces_at : Mode → FieldBits → Option Rule → List RankedPiece
pieces_at mode bits None = []
pieces_at mode bits (Some rule) = ranked_pieces bits rule (pieces_of mode rule)

-- whether a piece is meant, which others have or haven't
abbrev pub wants : Choice → Bool → Bool
wants Common has = has
wants Fresh has = not has

-- whether one of these has the same conditions
abbrev pub is_among : List RankedPiece → RankedPiece → Bool
is_among others ranked = list_any (λ other. same_piece ranked.piece other.piece) others

-- the pieces that are meant beside others
abbrev pub chosen_pieces : Choice → List RankedPiece → List RankedPiece → List RankedPiece
chosen_pieces choice others pieces = filter (λ ranked. wants choice (is_among others ranked)) pieces

-- a change inserts the pieces of the new rule that the old one hasn't,
abbrev pub inserted_by : Mode → FieldBits → RuleChange → List RankedPiece
inserted_by mode bits change = chosen_pieces Fresh (pieces_at mode bits change.old) (pieces_at mode bits change.new)

-- rewrites those that it has,
abbrev pub rewritten_by : Mode → FieldBits → RuleChange → List RankedPiece
rewritten_by mode bits change = chosen_pieces Common (pieces_at mode bits change.old) (pieces_at mode bits change.new)

-- and erases the pieces of the old rule that the new one hasn't
abbrev pub erased_by : Mode → FieldBits → RuleChange → List RankedPiece
erased_by mode bits change = chosen_pieces Fresh (pieces_at mode bits change.new) (pieces_at mode bits change.old)

-- the live ranges while a commit is made: by covers none
abbrev pub during_of : Option FieldBits → FieldBits
during_of None = no_bits
during_of (Some bits) = bits

-- the mode that they are of
abbrev pub coded_by : Option FieldBits → Mode
coded_by None = Cover
coded_by (Some bits) = Bits
