-- What stands behind a handle, of one kind of memory or the other, and what its calls do.
use Rattle.std.specs.Prelude.{◌≡◌, ℕ, ◌-◌, Result, Ok, Err, Option, Some, List, IfOk, OnErr}
use Rattle.rule_model.specs.declared.Key.{Key}
use Rattle.rule_model.specs.declared.Rule.{Rule}
use Rattle.rule_model.specs.RuleSet.{Answer}
use Rattle.rule_store.specs.declared.Command.{Command}
use Rattle.rule_store.specs.declared.Mode.{Mode}
use Rattle.rule_store.specs.Verdict.{entries_of}
use Rattle.tcam_device.specs.State.{lookup, replay}
use Rattle.tcam_device.specs.declared.Action.TheVariants as whole_action
use Rattle.commit_writes.specs.declared.Done.{Done}
use Rattle.batch_order.specs.declared.AbortFault.{AbortFault}
use Rattle.batch_order.specs.declared.AbortFault.TheVariants as abort_fault
use Rattle.batch_order.specs.declared.Placement.{Placement}
use Rattle.batch_order.specs.declared.Refusal.{Refusal}
use Rattle.batch_order.specs.CarriedOut.{GoesForward}
use Rattle.batch_order.specs.Managed.{Judges, Managed}
use Rattle.batch_order.specs.Steps.{ServesNow}
use Rattle.split_device.specs.State.{split_lookup}
use Rattle.split_writes.specs.declared.SplitDone.{SplitDone}
use Rattle.split_order.specs.Left.{state_on}
use Rattle.split_order.specs.Managed.{SplitManaged, fresh_split}
use Rattle.split_order.specs.Prepared.{JudgesSplit}
use Rattle.tcam_c.specs.Driven.{AbortsHeld, ComesFrom, Driven, IsEnded, IsServing, IsServingAhead, KeepsLive, PassesOn, Prepares, due_of, fresh_driven, journal_of, kind_of_due}
use Rattle.tcam_c.specs.Plain.{IsDuePart, IsDueWrite}
use Rattle.tcam_c.specs.Split.{Cancels, IsServingSplit, IsSplitEnded, PassesDue, PlansParts, ServesOn, kind_of_part, part_due}
use Rattle.tcam_c.specs.declared.plain.TcamNumbers.{TcamNumbers}
use Rattle.tcam_c.specs.declared.plain.TcamWrite.{TcamWrite}
use Rattle.tcam_c.specs.declared.split.Cancelled.{Cancelled}
use Rattle.tcam_c.specs.declared.split.Cancelled.TheVariants as cancelled
use Rattle.tcam_c.specs.declared.steps.DueKind.{DueKind}
use Rattle.tcam_c.specs.declared.table.Table.{Table}
use Rattle.tcam_c.specs.declared.table.Table.TheVariants.{Whole, Split}
use Rattle.tcam_c.specs.declared.table.TableKind.{TableKind}
use Rattle.tcam_c.specs.declared.table.TableKind.TheVariants as table_kind

-- without rules, of a blank memory of this kind
abbrev pub fresh_table : TableKind → ℕ → Mode → Placement → Table
fresh_table table_kind.Whole slots mode placement = Whole (fresh_driven slots mode placement)
fresh_table table_kind.Split slots mode placement = Split (fresh_split slots mode placement)

-- Each key is answered, by what was made, as the rules do, and while a commit is under way as the old ones or the new ones do.
abbrev pub IsServingTable : Table → Type 0
IsServingTable (Whole driven) = IsServing driven
IsServingTable (Split manager) = IsServingSplit manager

-- what kind of thing is due
abbrev pub kind_of_table : Table → DueKind
kind_of_table (Whole driven) = kind_of_due (due_of driven.manager.held)
kind_of_table (Split manager) = kind_of_part (part_due manager)

-- the numbers that are told, as those of a commit of either kind
abbrev pub as_whole : Result TcamNumbers Refusal → Result Done Refusal
as_whole (Ok told) = Ok (record { writes = told.writes; words = told.words; most = told.most; span = told.span })
as_whole (Err fault) = Err fault

abbrev pub as_split : Result TcamNumbers Refusal → Result SplitDone Refusal
as_split (Ok told) = Ok (record { writes = told.writes; words = told.words; most = told.most; span = told.span })
as_split (Err fault) = Err fault

-- A batch is judged and planned: the manager's own clauses. Whatever comes of it, each key is answered as before the call.
pub record PreparesWhole (batch : List Command) (judged : Result Done Refusal) (before after : Driven) : Type 0 where
  pub judges : Judges before.manager before.manager.held batch judged
  pub ready : IfOk judged (λ counts. Prepares before batch counts after)
  pub refused : OnErr judged (after ≡ before)
  pub keeps : KeepsLive before.manager after.manager
  pub before_serves : IsServing before
  pub after_serves : IsServing after

pub record PreparesSplit (batch : List Command) (judged : Result SplitDone Refusal) (before after : SplitManaged) : Type 0 where
  pub judges : JudgesSplit before.whole.slots before before.whole.held batch judged
  pub ready : IfOk judged (λ counts. PlansParts before batch counts after)
  pub refused : OnErr judged (after ≡ before)
  pub keeps : KeepsLive before.whole after.whole
  pub before_serves : IsServingSplit before
  pub after_serves : IsServingSplit after

abbrev pub PreparesTable : List Command → Result TcamNumbers Refusal → Table → Table → Type 0
PreparesTable batch told (Whole before) (Whole after) = PreparesWhole batch (as_whole told) before after
PreparesTable batch told (Split before) (Split after) = PreparesSplit batch (as_split told) before after
PreparesTable batch told (Whole before) (Split after) = ⊥
PreparesTable batch told (Split before) (Whole after) = ⊥

-- What is due is told: a write or a part, a drain, or nothing where no commit is under way. Each key is answered as the old rules
-- or the new ones do, even where what is due was made already; and so is one whose word was made earlier, by the ranges that
-- words are current for. Of entries a drain is due only of a commit that isn't turned round, and of an entry that is put it is
-- told which slot holds it already, if one does.
pub record TellsWhole (write : TcamWrite) (driven : Driven) : Type 0 where
  pub from : Option ℕ
  pub comes : ComesFrom driven (due_of driven.manager.held) from
  pub due : IsDueWrite (due_of driven.manager.held) from write
  pub ended : IsEnded driven.manager.held (due_of driven.manager.held)
  pub drain : due_of driven.manager.held ≡ Some whole_action.Drained → GoesForward driven.manager.held
  pub serving : IsServing driven
  pub now : ServesNow driven.manager
  pub ahead : IsServingAhead driven (due_of driven.manager.held)

pub record TellsSplit (write : TcamWrite) (manager : SplitManaged) : Type 0 where
  pub due : IsDuePart (part_due manager) write
  pub ended : IsSplitEnded manager.whole.held (part_due manager)
  pub serves : ServesOn manager

abbrev pub TellsTable : TcamWrite → Table → Type 0
TellsTable write (Whole driven) = TellsWhole write driven
TellsTable write (Split manager) = TellsSplit write manager

-- what is due was made
abbrev pub PassesTable : Table → Table → Type 0
PassesTable (Whole before) (Whole after) = PassesOn before after
PassesTable (Split before) (Split after) = PassesDue (part_due before) before after
PassesTable (Whole before) (Split after) = ⊥
PassesTable (Split before) (Whole after) = ⊥

-- How many undo writes there are is told, but where none is under way or it can't be taken back.
abbrev pub IsAbortTold : ℕ → ℕ → Result ℕ AbortFault → ℕ → Type 0
IsAbortTold left left' (Ok undone) code = (code ≡ 0) × (left' ≡ undone)
IsAbortTold left left' (Err (abort_fault.Back undone)) code = (code ≡ 22) × (left' ≡ undone)
IsAbortTold left left' (Err abort_fault.Idle) code = (code ≡ 18) × (left' ≡ left)
IsAbortTold left left' (Err abort_fault.Restarted) code = (code ≡ 23) × (left' ≡ left)

-- a plan that was dropped has none
abbrev pub IsCancelTold : ℕ → ℕ → Cancelled → ℕ → Type 0
IsCancelTold left left' cancelled.Dropped code = (code ≡ 0) × (left' ≡ 0)
IsCancelTold left left' cancelled.Idle code = (code ≡ 18) × (left' ≡ left)
IsCancelTold left left' cancelled.Begun code = (code ≡ 24) × (left' ≡ left)

pub record AbortsWhole (left left' code : ℕ) (before after : Driven) : Type 0 where
  pub answer : Result ℕ AbortFault
  pub aborts : AbortsHeld before before.manager.held answer after
  pub told : IsAbortTold left left' answer code
  pub before_serves : IsServing before
  pub after_serves : IsServing after

pub record AbortsSplit (left left' code : ℕ) (before after : SplitManaged) : Type 0 where
  pub answer : Cancelled
  pub cancels : Cancels before answer after
  pub told : IsCancelTold left left' answer code
  pub keeps : KeepsLive before.whole after.whole
  pub before_serves : IsServingSplit before
  pub after_serves : IsServingSplit after

abbrev pub AbortsTable : ℕ → ℕ → ℕ → Table → Table → Type 0
AbortsTable left left' code (Whole before) (Whole after) = AbortsWhole left left' code before after
AbortsTable left left' code (Split before) (Split after) = AbortsSplit left left' code before after
AbortsTable left left' code (Whole before) (Split after) = ⊥
AbortsTable left left' code (Split before) (Whole after) = ⊥

-- what a key is answered by what was made
abbrev pub answer_of_table : Table → Key → Answer
answer_of_table (Whole driven) key = lookup (replay driven.manager.slots (journal_of driven)) key
answer_of_table (Split manager) key = split_lookup (state_on manager.whole.slots manager) key

-- the rules of the set by falling priority; while a commit is under way, those of the old set
abbrev pub rules_of_table : Table → List Rule
rules_of_table (Whole driven) = driven.manager.rules
rules_of_table (Split manager) = manager.whole.rules

-- the slots that their entries leave free, of which a batch may take as many
abbrev pub slots_left : Managed → ℕ
slots_left manager = manager.slots - entries_of manager.mode manager.rules

abbrev pub slots_left_of_table : Table → ℕ
slots_left_of_table (Whole driven) = slots_left driven.manager
slots_left_of_table (Split manager) = slots_left manager.whole
