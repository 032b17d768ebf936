-- What the daemon's commit leaves: a batch that is refused or taken, and a write that failed.
use Rattle.std.specs.Prelude.{◌≡◌, ℕ, ◌≤◌, ◌++◌, Err, Some, List, []}
use Rattle.rule_model.specs.declared.Rule.{Rule}
use Rattle.rule_store.specs.declared.Command.{Command}
use Rattle.rule_store.specs.Verdict.{Accepted, verdict}
use Rattle.tcam_device.specs.declared.Write.{Write}
use Rattle.tcam_device.specs.State.{apply, replay}
use Rattle.tcam_device.specs.Hitless.{ShowsOldOrNew}
use Rattle.tcam_device.specs.View.{DeviceView, journal}
use Rattle.commit_writes.specs.declared.Done.{Done}
use Rattle.batch_order.specs.declared.Refusal.{Refusal}
use Rattle.readback.specs.Judged.{judgement}
use Rattle.batch_order.specs.Managed.{Managed, Answers, Holds, IsOn}
use Rattle.batch_order.specs.Steps.{next_of}
use Rattle.batch_order.specs.CarriedOut.{GoesForward, HasRoomLeft, ahead, writes_left}

-- The device has the manager's slots and holds what its writes left, no word is in flight, and a commit under way goes
-- forward and has room for what is left of it.
pub record IsLed (manager : Managed) (device : DeviceView) : Type 0 where
  pub slots : manager.slots ≤ device.slots
  pub on : IsOn device.slots (journal device) manager
  pub none_in_flight : device.flight ≡ []
  pub room : HasRoomLeft manager.held device.spare
  pub forward : GoesForward manager.held

-- A batch is refused as the verdict on it says, and nothing changes.
pub record IsRefused (manager manager' : Managed) (batch : List Command) (journal journal' : List Write) (refusal : Refusal) : Type 0 where
  pub judged : Answers (judgement (verdict manager.slots manager.mode manager.rules batch)) (Err refusal)
  pub unchanged : manager' ≡ manager
  pub unwritten : journal' ≡ journal

-- A batch that the verdict accepts is taken, and what is written and what is left to make are together what was planned for
-- it before the first write.
pub record TakesCommit (manager manager' : Managed) (batch : List Command) (journal journal' : List Write) : Type 0 where
  pub accepted : verdict manager.slots manager.mode manager.rules batch ≡ Accepted
  pub counts : Done
  pub planned : Managed
  pub holds : Holds manager batch counts planned
  pub made : journal' ++ writes_left manager'.held ≡ journal ++ writes_left planned.held

-- A commit from the old rules to the new ones stopped at a write that failed, and which is next again. Each key is answered
-- as the old rules or the new ones do even where that write was made all the same.
pub record IsStuck (device_slots : ℕ) (journal : List Write) (old new : List Rule) (manager : Managed) : Type 0 where
  pub rules : manager.rules ≡ old
  pub leads : ahead manager ≡ new
  pub due : Write
  pub next : next_of manager.held ≡ Some due
  pub made : ShowsOldOrNew (apply (replay device_slots journal) due) old new
