-- A line that keeps the order is hitless.
use Rattle.std.proofs.Common.{◌≡◌, List, None, Some, ap, inl, inr}
use Rattle.rule_model.specs.declared.Rule.{Rule}
use Rattle.rule_store.specs.Batch.{set_after}
use Rattle.rule_store.specs.Verdict.{Accepted, verdict}
use Rattle.tcam_device.specs.declared.Write.{Write}
use Rattle.tcam_device.specs.declared.Write.TheVariants as write
use Rattle.tcam_device.specs.State.{Shows, State, apply}
use Rattle.tcam_device.specs.Hitless.{ShowsOldOrNew}
use Rattle.readback.specs.Laws.{CanCommit}
use Rattle.readback.specs.Stage.{IsStage}
use Rattle.readback.proofs.Accepted.{taken}
use Rattle.readback.proofs.Stages.{last_stages_answer, stages_answer}
use Rattle.trace_file.specs.declared.TraceLine.{TraceLine}
use Rattle.trace_file.specs.declared.TraceLine.TheVariants.{Head, Commit, Add, Set, Del, Put, Erase, Table, Drain, Done, Refused, End, Fault}
use Rattle.trace_check.specs.Orderly.{IsArrived, Keeps, MayBeStopped, Tracing}
use Rattle.trace_check.proofs.Sized.{HasWord, IsState-apply}
use Rattle.driver_trace.specs.declared.Compared.{Compared}
use Rattle.driver_trace.specs.declared.DriverLine.TheVariants.{Common}
use Rattle.driver_trace.specs.Compared.{ShowsBy, ShowsOldOrNewBy, as_compared}
use Rattle.driver_trace.specs.Judged.{IsHitlessLine}
use Rattle.two_judges.specs.InStep.{HasRightSet, IsLineRight, known_by}

-- answers that agree do so by what is compared of them
pub shows_by : (by : Compared) (state : State) (rules : List Rule) → Shows state rules → ShowsBy by state rules
shows_by by state rules shows = λ key valid. ap (as_compared by) (shows key valid)

pub old_or_new_by : (by : Compared) (state : State) (old new : List Rule) → ShowsOldOrNew state old new → ShowsOldOrNewBy by state old new
old_or_new_by by state old new shows = λ key valid. elim (shows key valid) [
  | inl as_old ↦ inl (ap (as_compared by) as_old)
  | inr as_new ↦ inr (ap (as_compared by) as_new)
]

-- an accepted batch can be committed
pub can_commit : (now : Tracing) → HasRightSet now → verdict now.slots now.mode now.rules now.batch ≡ Accepted → CanCommit now.mode now.bits now.rules now.batch
can_commit now set accepted =
    let t = taken now.slots now.mode now.rules now.batch accepted in
    record {
      is_set = set.is_set;
      right = set.right;
      src_map = set.src_map;
      dst_map = set.dst_map;
      bits_are = set.bits_are;
      changes = set.changes;
      sound = t.sound;
      few = t.few;
    }

module _ (by : Compared) (now : Tracing) (set : HasRightSet now) where
  -- behind a write that leads to a stage every key has the old or the new answer,
  written : (one : Write) → HasWord one → verdict now.slots now.mode now.rules now.batch ≡ Accepted
      → IsStage now.slots now.mode now.bits now.rules now.batch (apply now.state one)
      → ShowsOldOrNewBy by (apply now.state one) now.rules (set_after now.rules now.batch)
  written one word accepted stage =
      old_or_new_by by (apply now.state one) now.rules (set_after now.rules now.batch)
      (stages_answer now.slots now.slots now.mode now.bits now.rules now.batch (apply now.state one) (can_commit now set accepted)
      (IsState-apply now.slots now.state one set.sized word) stage)

  -- and where all tasks are done the new one
  finished : MayBeStopped now → IsArrived now → ShowsBy by now.state (set_after now.rules now.batch)
  finished may arrived =
      shows_by by now.state (set_after now.rules now.batch)
      (last_stages_answer now.slots now.slots now.mode now.bits now.rules now.batch now.state arrived.done (can_commit now set may.taken) set.sized arrived.ended)

  -- so each line that keeps the order is hitless
  pub ordered_hitless : (line : TraceLine) → IsLineRight line → Keeps now line → IsHitlessLine by (known_by now) (Common line)
  ordered_hitless (Head version acl bits slots) right keeps = tt
  ordered_hitless (Commit n) right keeps = tt
  ordered_hitless (Add rule) right keeps = tt
  ordered_hitless (Set priority answer) right keeps = tt
  ordered_hitless (Del priority) right keeps = tt
  ordered_hitless (Put slot entry) right keeps = written (write.Slot slot (Some entry)) tt keeps.0.taken keeps.0.stage
  ordered_hitless (Erase slot) right keeps = written (write.Slot slot None) tt keeps.taken keeps.stage
  ordered_hitless (Table field port word) right keeps = written (write.Table field port word) right keeps.0.taken keeps.0.stage
  ordered_hitless Drain right keeps = tt
  ordered_hitless (Done n) right keeps = finished keeps.0 keeps.1
  ordered_hitless (Refused n) right keeps = tt
  ordered_hitless (End writes) right keeps = tt
  ordered_hitless (Fault line) right keeps = tt
