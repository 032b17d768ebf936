-- What the walks found together: a stage, with its numbers.
use Rattle.std.proofs.Common.{ℕ, Option, List, IsTrue, IsFalse, length, inl, inr, sym, ◌∙◌, ap, arith}
use Rattle.std.specs.List.{AllByRecursion}
use Rattle.slot_order.proofs.Lists.{AllByRecursion-member}
use Rattle.rule_model.specs.declared.Field.{Field}
use Rattle.rule_model.specs.declared.Rule.{Rule}
use Rattle.rule_store.specs.declared.Command.{Command}
use Rattle.rule_store.specs.declared.Mode.{Mode}
use Rattle.rule_model.specs.declared.words.Entry.{Entry}
use Rattle.tcam_device.specs.State.{State}
use Rattle.tcam_device.specs.Order.{HasOneTwin}
use Rattle.commit_writes.specs.Bits.{FieldBits, bits_with}
use Rattle.commit_writes.proofs.Filters.{all_members}
use Rattle.readback.specs.Fault.{HasWrongWord, IsForeign, IsCrossed, IsOneTooMany, IsMissing, IsEarly}
use Rattle.readback.specs.Progress.{AreParted}
use Rattle.readback.specs.Stage.{IsTwinSlot, Finds}
use Rattle.readback.specs.Tasks.{CommitPieces, commit_pieces, tasks_of, IsDone, IsLeft, is_done}
use Rattle.readback.proofs.Complete.{is_stage}
use Rattle.readback.proofs.Faults.{done_or_left, later_in}
use Rattle.readback.proofs.Stages.{tasks_part_once}
use Rattle.readback.proofs.Tests.{done_is, left_is}

-- where one slot at most is a twin none is one too many
pub none_too_many : (slots : List (Option Entry)) → HasOneTwin slots → (at : ℕ) → IsOneTooMany slots at → ⊥
none_too_many slots twins at (inl (lesser, alike, differ)) = differ (twins.equal lesser at alike)
none_too_many slots twins at (inr (is, (other, is_other, less))) = let same = twins.one other at is_other is in omega arith

module _ (p : CommitPieces) (state : State) (done left : ℕ) (parted : AreParted state.slots (tasks_of p) done left) where
  are_done : AllByRecursion (IsDone state) parted.front
  are_done = all_members (IsDone state) parted.front (λ task member.
      done_is state task (AllByRecursion-member (λ one. IsTrue (is_done state.slots one)) parted.front task parted.are_done member))

  are_left : AllByRecursion (IsLeft state) parted.back
  are_left = all_members (IsLeft state) parted.back (λ task member.
      left_is state task (AllByRecursion-member (λ one. IsFalse (is_done state.slots one)) parted.back task parted.are_left member))

  -- tasks that are parted are done in their turn
  none_early : (priority : ℕ) → IsEarly p state priority → ⊥
  none_early priority e = elim (later_in parted.front parted.back e.front e.between e.back e.first e.second (sym parted.parts ∙ e.parts)) [
    | inl is ↦ done_or_left state e.first (AllByRecursion-member (IsDone state) parted.front e.first are_done is) e.not_done
    | inr is ↦ done_or_left state e.second e.done (AllByRecursion-member (IsLeft state) parted.back e.second are_left is)
  ]

pub finds : (slots : ℕ) (mode : Mode) (bits : FieldBits) (rules : List Rule) (batch : List Command) (state : State) (done left : ℕ) (twin : Option ℕ)
    → ((field : Field) (port : ℕ) → HasWrongWord bits (bits_with mode rules batch bits) (commit_pieces mode bits rules batch) state field port → ⊥)
    → ((at : ℕ) → IsForeign slots (commit_pieces mode bits rules batch) state at → ⊥) → ((at : ℕ) → IsCrossed (commit_pieces mode bits rules batch) state at → ⊥)
    → ((priority : ℕ) → IsMissing (commit_pieces mode bits rules batch) state priority → ⊥)
    → HasOneTwin state.slots → IsTwinSlot state.slots twin → AreParted state.slots (tasks_of (commit_pieces mode bits rules batch)) done left
    → Finds slots mode bits rules batch state (record { done = done; left = left; twin = twin })
finds slots mode bits rules batch state done left twin no_word no_foreign no_crossed no_missing twins is_twin parted =
    let p = commit_pieces mode bits rules batch in
    let w = is_stage slots bits (bits_with mode rules batch bits) p state no_word no_foreign no_crossed (none_too_many state.slots twins) no_missing (none_early p state done left parted) in
    let one = tasks_part_once state w.0 w.1 parted.front parted.back (sym w.2.parts ∙ parted.parts) w.2.are_done w.2.are_left (are_done p state done left parted) (are_left p state done left parted) in
    record {
      done = w.0;
      left = w.1;
      stage = w.2;
      done_number = parted.done_number ∙ ap length (sym one.0);
      left_number = parted.left_number ∙ ap length (sym one.1);
      twin = is_twin;
    }
