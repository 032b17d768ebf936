-- What a restart answers where the device shows no stage, or memory is wanting.
use Rattle.std.proofs.Common.{◌≡◌, ℕ, Err, List, refl, ap}
use Rattle.rule_store.specs.declared.Mode.{Mode}
use Rattle.rule_store.specs.declared.Command.{Command}
use Rattle.rule_store.specs.Verdict.{Accepted, verdict}
use Rattle.tcam_device.specs.State.{State}
use Rattle.readback.specs.declared.Parts.{Parts}
use Rattle.readback.specs.declared.StageFault.{StageFault}
use Rattle.readback.specs.declared.StageFault.TheVariants.{Memory}
use Rattle.readback.specs.Found.{AnswersStage}
use Rattle.batch_order.specs.declared.Placement.{Placement}
use Rattle.batch_order.specs.declared.restarting.fault.RestartFault.TheVariants.{Stage}
use Rattle.batch_order.specs.Restart.{AnswersRestart, bits_in}

module _ (slots : ℕ) (mode : Mode) (placement : Placement) (parts : Parts) (batch : List Command) (device_slots : ℕ) (state : State) where
  -- the fault of a stage
  pub stage_answers : (fault : StageFault) → verdict slots mode parts.rules.rules batch ≡ Accepted → AnswersStage slots mode (bits_in parts) parts.rules.rules batch state (Err fault)
      → AnswersRestart slots mode placement parts batch device_slots state (Err (Stage fault, parts))
  stage_answers fault accepted answers = (refl, (accepted, answers.fault), λ again bits is_stage. ap Stage (answers.no_fault bits is_stage))

  -- want of memory
  pub memory_answers : (back : Parts) → verdict slots mode parts.rules.rules batch ≡ Accepted → back ≡ parts
      → AnswersRestart slots mode placement parts batch device_slots state (Err (Stage Memory, back))
  memory_answers back accepted same = (same, (accepted, tt), λ again bits is_stage. refl)
