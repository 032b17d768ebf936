-- What keeps the order on a device with more slots keeps it in the slots in use.
use Rattle.std.proofs.Common.{◌≡◌, ℕ, ◌-◌, List, [], ◌∷◌, length, Some, None, refl, sym, ap, subst}
use Rattle.std.specs.List.{AllByRecursion}
use Rattle.slot_order.specs.Order.{slot}
use Rattle.rule_model.specs.declared.Rule.{Rule}
use Rattle.rule_store.specs.declared.Mode.{Mode}
use Rattle.rule_store.specs.declared.Command.{Command}
use Rattle.tcam_device.specs.declared.Write.{Write}
use Rattle.tcam_device.specs.declared.Write.TheVariants as write
use Rattle.tcam_device.specs.declared.Action.{Action}
use Rattle.tcam_device.specs.declared.Action.TheVariants.{Written, Drained}
use Rattle.tcam_device.specs.Flight.{writes_in}
use Rattle.tcam_device.specs.State.{State, IsInUse, apply, on_device}
use Rattle.tcam_device.proofs.Wider.{slot-padded, in_use_after, state_after-on_device}
use Rattle.commit_writes.specs.Actions.{have_bits, commit_actions}
use Rattle.commit_writes.specs.Bits.{FieldBits, bits_with, new_bits}
use Rattle.commit_writes.proofs.WritesIn.{writes_of_commit}
use Rattle.readback.specs.Stage.{IsStage}
use Rattle.readback.specs.Tasks.{commit_pieces}
use Rattle.readback.proofs.Same.{stage_on, twin_on}
use Rattle.trace_file.specs.declared.TraceLine.TheVariants.{Put, Erase, Table, Drain}
use Rattle.trace_check.specs.Orderly.{Tracing, traced_on, MayBeStopped, IsArrived, AllKeepOrder}
use Rattle.trace_check.specs.Segments.{commit_lines}
use Rattle.trace_check.proofs.Kept.{segments_keep}
use Rattle.json_traces.specs.OnDevices.{over_device, SegmentsAreOrderlyOnDevices}

-- each slot holds the same
same_slots : (device_slots : ℕ) (state : State) (at : ℕ) → slot state.slots at ≡ slot (on_device device_slots state).slots at
same_slots device_slots state at = sym (slot-padded state.slots (device_slots - length state.slots) at)

stage_in_use : (device_slots slots : ℕ) (mode : Mode) (bits : FieldBits) (rules : List Rule) (batch : List Command) (state : State)
    → IsStage slots mode bits rules batch (on_device device_slots state) → IsStage slots mode bits rules batch state
stage_in_use device_slots slots mode bits rules batch state stage = (
  stage.0,
  stage.1,
  stage_on (on_device device_slots state) state (same_slots device_slots state) slots bits (bits_with mode rules batch bits) (commit_pieces mode bits rules batch) stage.0 stage.1 refl refl stage.2,
)

stopped_in_use : (device_slots : ℕ) (now : Tracing) → MayBeStopped (over_device device_slots now) → MayBeStopped now
stopped_in_use device_slots now may = record { taken = may.taken; stage = stage_in_use device_slots now.slots now.mode now.bits now.rules now.batch now.state may.stage }

arrived_in_use : (device_slots : ℕ) (now : Tracing) → IsArrived (over_device device_slots now) → IsArrived now
arrived_in_use device_slots now is = record {
  done = is.done;
  ended = stage_on (on_device device_slots now.state) now.state (same_slots device_slots now.state) now.slots now.bits (bits_with now.mode now.rules now.batch now.bits)
      (commit_pieces now.mode now.bits now.rules now.batch) is.done [] refl refl is.ended;
  alone = twin_on (on_device device_slots now.state) now.state (same_slots device_slots now.state) None is.alone;
}

-- a write within the slots in use does the same on the device
one_write : (device_slots : ℕ) (now : Tracing) (made : Write) → IsInUse (length now.state.slots) made → apply (on_device device_slots now.state) made ≡ on_device device_slots (apply now.state made)
one_write device_slots now made inside = state_after-on_device device_slots now.state (made ∷ []) (inside, tt)

lines_in_use : (device_slots : ℕ) (actions : List Action) (now : Tracing) (number : ℕ) → AllByRecursion (IsInUse (length now.state.slots)) (writes_in actions)
    → AllKeepOrder (over_device device_slots now) (commit_lines actions number) → AllKeepOrder now (commit_lines actions number)
lines_in_use device_slots [] now number inside keeps = ((stopped_in_use device_slots now keeps.0.0, arrived_in_use device_slots now keeps.0.1), tt)
lines_in_use device_slots (Written (write.Slot at (Some entry)) ∷ actions) now number inside keeps =
    let next : Tracing = traced_on now (Put at entry) in
    let same : traced_on (over_device device_slots now) (Put at entry) ≡ over_device device_slots next =
    ap (λ (state : State). record next { state = state }) (one_write device_slots now (write.Slot at (Some entry)) inside.0) in (
      (stopped_in_use device_slots next (subst MayBeStopped same keeps.0.0), keeps.0.1),
      lines_in_use device_slots actions next number (in_use_after now.state (write.Slot at (Some entry)) (writes_in actions) inside.1)
          (subst (λ (t : Tracing). AllKeepOrder t (commit_lines actions number)) same keeps.1),
    )
lines_in_use device_slots (Written (write.Slot at None) ∷ actions) now number inside keeps =
    let next : Tracing = traced_on now (Erase at) in
    let same : traced_on (over_device device_slots now) (Erase at) ≡ over_device device_slots next =
    ap (λ (state : State). record next { state = state }) (one_write device_slots now (write.Slot at None) inside.0) in (
      stopped_in_use device_slots next (subst MayBeStopped same keeps.0),
      lines_in_use device_slots actions next number (in_use_after now.state (write.Slot at None) (writes_in actions) inside.1)
          (subst (λ (t : Tracing). AllKeepOrder t (commit_lines actions number)) same keeps.1),
    )
lines_in_use device_slots (Written (write.Table field port word) ∷ actions) now number inside keeps =
    let next : Tracing = traced_on now (Table field port word) in
    let same : traced_on (over_device device_slots now) (Table field port word) ≡ over_device device_slots next =
    ap (λ (state : State). record next { state = state }) (one_write device_slots now (write.Table field port word) inside.0) in (
      (stopped_in_use device_slots next (subst MayBeStopped same keeps.0.0), keeps.0.1),
      lines_in_use device_slots actions next number (in_use_after now.state (write.Table field port word) (writes_in actions) inside.1)
          (subst (λ (t : Tracing). AllKeepOrder t (commit_lines actions number)) same keeps.1),
    )
lines_in_use device_slots (Drained ∷ actions) now number inside keeps =
    (stopped_in_use device_slots now keeps.0, lines_in_use device_slots actions (traced_on now Drain) number inside keeps.1)

pub segments_on_devices : SegmentsAreOrderlyOnDevices
segments_on_devices now device_slots number made size begins segment in_use =
    let actions = commit_actions now.mode now.bits now.rules now.batch made in
    let written : writes_in actions ≡ made = writes_of_commit (have_bits (new_bits now.bits (bits_with now.mode now.rules now.batch now.bits))) made in
    lines_in_use device_slots actions now number
    (subst (AllByRecursion (IsInUse (length now.state.slots))) (sym written) (subst (λ n. AllByRecursion (IsInUse n) made) (sym size) in_use))
    (segments_keep (over_device device_slots now) number made begins segment in_use)
