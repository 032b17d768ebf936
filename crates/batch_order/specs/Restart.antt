-- What a restarted manager holds, what a refused restart answers, and what a manager leaves of itself.
use Rattle.std.specs.Prelude.{◌≡◌, ℕ, ◌≤◌, ◌^◌, Bool, true, false, ◌&&◌, Result, Ok, Err, Option, Some, List, [], length, take}
use Rattle.std.specs.List.{AllByRecursion, list_any}
use Rattle.rule_model.specs.declared.Rule.{Rule}
use Rattle.rule_model.specs.declared.IpVersion.{IpVersion}
use Rattle.rule_store.specs.declared.Mode.{Mode}
use Rattle.rule_store.specs.declared.Command.{Command}
use Rattle.rule_store.specs.Batch.{set_after}
use Rattle.rule_store.specs.Verdict.{Accepted, verdict}
use Rattle.tcam_device.specs.declared.Write.{Write}
use Rattle.tcam_device.specs.State.{State, IsInUse, on_device}
use Rattle.tcam_device.specs.Insertion.{IsUncrossed}
use Rattle.commit_writes.specs.Proposal.{proposal}
use Rattle.commit_writes.specs.declared.Done.{Done}
use Rattle.commit_writes.specs.Actions.{have_bits, with_drain}
use Rattle.commit_writes.specs.Bits.{FieldBits, bits_with, bits_left, new_bits}
use Rattle.commit_writes.specs.Routes.{IsRoute, prefix_lengths}
use Rattle.commit_writes.specs.Shape.{inserted_pieces, insertions_behind}
use Rattle.commit_writes.specs.Commit.{AreCounts}
use Rattle.readback.specs.declared.Parts.{Parts}
use Rattle.readback.specs.declared.StageFault.TheVariants.{Memory}
use Rattle.readback.specs.Judged.{judgement}
use Rattle.readback.specs.Tasks.{Task, stands_in}
use Rattle.readback.specs.Stage.{IsCommitAt, IsStage, IsTwinSlot}
use Rattle.readback.specs.Fault.{AreSetBits, IsFaultOf}
use Rattle.readback.specs.Going.{needs_drain, GoesOn}
use Rattle.batch_order.specs.declared.Placement.{Placement}
use Rattle.batch_order.specs.declared.restarting.fault.RestartFault.{RestartFault}
use Rattle.batch_order.specs.declared.restarting.fault.RestartFault.TheVariants.{Refused, Stage}
use Rattle.batch_order.specs.Managed.{Managed, HeldCommit, OnlyChangesRoutes}
use Rattle.batch_order.specs.Managed.Way.{On}
use Rattle.batch_order.specs.Placing.{IsRestPlacedBy}

-- the live ranges that were handed in
abbrev pub bits_in : Parts → FieldBits
bits_in parts = record { src = parts.src; dst = parts.dst }

-- the parts are those of a manager: while a commit is under way, of the set before it
pub record ArePartsOf (manager : Managed) (parts : Parts) : Type 0 where
  pub rules : parts.rules.rules ≡ manager.rules
  pub bits : bits_in parts ≡ manager.bits

-- what the slots in use and the tables show
abbrev pub in_use : ℕ → State → State
in_use slots state = record state { slots = take slots state.slots }

-- whether the commit drained before it was stopped: bits are given, and an inserted piece stands
abbrev pub has_drained : Mode → FieldBits → List Rule → List Command → State → Bool
has_drained mode bits rules batch state =
    let during = bits_with mode rules batch bits in
    have_bits (new_bits bits during) && list_any (stands_in state.slots) (inserted_pieces mode during rules batch)

-- what is left of a commit, as it is held, with these writes and numbers
abbrev pub rest_of : Mode → FieldBits → List Rule → List Command → State → List Write → Done → HeldCommit
rest_of mode bits rules batch state made counts =
    let during = bits_with mode rules batch bits in
    record {
      prepared = false;
      actions = with_drain (needs_drain mode bits rules batch state) made;
      way = On [];
      counts = counts;
      rules = set_after rules batch;
      during = during;
      bits = bits_left (set_after rules batch) during;
      current = elim (has_drained mode bits rules batch state) [ true ↦ during | false ↦ bits ];
    }

-- A rebuilt manager holds the plan that goes on from the stage that the device shows.
pub record Resumes (slots : ℕ) (mode : Mode) (placement : Placement) (parts : Parts) (batch : List Command) (device_slots : ℕ) (state : State) (new : Managed) : Type 0 where
  pub made : List Write
  pub counts : Done
  pub done : List Task
  pub left : List Task
  pub twin : Option ℕ
  pub set_bits : AreSetBits mode parts.rules.rules (bits_in parts)
  pub stage : IsCommitAt slots mode (bits_in parts) parts.rules.rules batch state done left
  pub is_twin : IsTwinSlot state.slots twin
  pub new_is : new ≡ record {
    slots = slots;
    mode = mode;
    placement = placement;
    rules = parts.rules.rules;
    bits = bits_in parts;
    state = in_use slots state;
    held = Some (rest_of mode (bits_in parts) parts.rules.rules batch state made counts);
  }
  pub on : on_device device_slots (in_use slots state) ≡ state
  pub writes_in_use : AllByRecursion (IsInUse slots) made
  pub few : length made ≤ 2 ^ 35
  -- hitless after every write, and within the bounds on insertions
  pub goes_on : GoesOn slots mode (bits_in parts) parts.rules.rules batch state left twin made
  -- its insertions are those of the placement, each with its aim
  pub placed : IsRestPlacedBy placement device_slots (proposal mode (bits_in parts) parts.rules.rules batch) (in_use slots state) done left twin made
  pub numbers : AreCounts made (insertions_behind goes_on.shape) counts
  -- of routes no insertion crosses others, and none takes more writes than a prefix may have lengths
  pub uncrossed : (version : IpVersion) → AllByRecursion (IsRoute version) parts.rules.rules → OnlyChangesRoutes version batch
      → IsUncrossed (prefix_lengths version) (insertions_behind goes_on.shape)

-- where a fault of a restart may come: a refusal exactly as the verdict, and a stage's only where it accepts and that one
-- applies
abbrev pub IsRestartFault : ℕ → Mode → Parts → List Command → State → RestartFault → Type 0
IsRestartFault slots mode parts batch state (Refused rejection) = judgement (verdict slots mode parts.rules.rules batch) ≡ Err rejection
IsRestartFault slots mode parts batch state (Stage fault) =
    (verdict slots mode parts.rules.rules batch ≡ Accepted) × IsFaultOf slots mode (bits_in parts) parts.rules.rules batch state fault

-- What a restart answers: a manager that goes on; or a fault that applies, with the parts as they came: the refusal where the
-- verdict is one, and for a stage of the set's bits none but want of memory.
abbrev pub AnswersRestart : ℕ → Mode → Placement → Parts → List Command → ℕ → State → Result Managed (RestartFault × Parts) → Type 0
AnswersRestart slots mode placement parts batch device_slots state (Ok manager) =
    (verdict slots mode parts.rules.rules batch ≡ Accepted) × Resumes slots mode placement parts batch device_slots state manager
AnswersRestart slots mode placement parts batch device_slots state (Err (fault, back)) =
    (back ≡ parts) × IsRestartFault slots mode parts batch state fault
    × (verdict slots mode parts.rules.rules batch ≡ Accepted → AreSetBits mode parts.rules.rules (bits_in parts)
    → IsStage slots mode (bits_in parts) parts.rules.rules batch state → fault ≡ Stage Memory)
