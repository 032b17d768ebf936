-- The counts of failures, by the status that a fault of an act gives.
use Rattle.std.proofs.Common.{◌≡◌, ◌≢◌, ℕ, Option, Some, Result, Err, List, [], ◌++◌, length, refl, sym, ap, ◌∙◌, subst}
use Rattle.tcam_device.specs.View.{DeviceView, journal}
use Rattle.batch_order.specs.CarriedOut.{IsTried}
use Rattle.replay.specs.declared.ActFault.{ActFault}
use Rattle.replay.specs.declared.ActFault.TheVariants.{Stopped}
use Rattle.replay.specs.declared.RunFault.{RunFault}
use Rattle.replay.specs.declared.RunFault.TheVariants as fault
use Rattle.replay.specs.Outside.{Leaves}
use Rattle.replay.proofs.between.Leaving.{leaves-as, leaves-line, leaves-then}
use Rattle.script_runs.specs.declared.Status.{Status}
use Rattle.script_runs.specs.declared.Status.TheVariants.{WriteFault, DeviceFault}
use Rattle.tcam_cli.specs.Rounds.{ClosesReport, status_of_fault}

sink-fault : (why : RunFault) → status_of_fault why ≡ WriteFault → why ≡ fault.Sink
sink-fault fault.Sink e = refl
sink-fault fault.Device e = absurd (cc)
sink-fault fault.Memory e = absurd (cc)

device-fault : (why : RunFault) → status_of_fault why ≡ DeviceFault → why ≡ fault.Device
device-fault fault.Device e = refl
device-fault fault.Sink e = absurd (cc)
device-fault fault.Memory e = absurd (cc)

-- the answer of an act
abbrev failed : RunFault → Result (Unit {0}) ActFault
failed why = Err (Stopped why)

module _ {S : Type 0} (taken : S → Option (List ℕ)) (sink_faults : S → ℕ) where
  -- what a call leaves that failed at an act
  pub stopped-leaves : (sink_old sink_new : S) (device_old device_new : DeviceView) (why : RunFault)
      → Leaves taken sink_faults sink_old sink_new device_old device_new (failed why ≡ failed fault.Sink) (failed why ≡ failed fault.Device)
      → Leaves taken sink_faults sink_old sink_new device_old device_new (status_of_fault why ≡ WriteFault) (status_of_fault why ≡ DeviceFault)
  stopped-leaves sink_old sink_new device_old device_new why is = leaves-as taken sink_faults sink_old sink_new device_old device_new
      (failed why ≡ failed fault.Sink) (failed why ≡ failed fault.Device) (status_of_fault why ≡ WriteFault) (status_of_fault why ≡ DeviceFault)
      (λ e. ap failed (sink-fault why e)) (λ e. let same : why ≡ fault.Sink = cc in ap status_of_fault same)
      (λ e. ap failed (device-fault why e)) (λ e. let same : why ≡ fault.Device = cc in ap status_of_fault same) is

  -- the same as an answer
  pub some-leaves : (sink_old sink_new : S) (device_old device_new : DeviceView) (status : Status)
      → Leaves taken sink_faults sink_old sink_new device_old device_new (status ≡ WriteFault) (status ≡ DeviceFault)
      → Leaves taken sink_faults sink_old sink_new device_old device_new (Some status ≡ Some WriteFault) (Some status ≡ Some DeviceFault)
  some-leaves sink_old sink_new device_old device_new status is = leaves-as taken sink_faults sink_old sink_new device_old device_new
      (status ≡ WriteFault) (status ≡ DeviceFault) (Some status ≡ Some WriteFault) (Some status ≡ Some DeviceFault)
      (λ e. cc) (λ e. ap Some e) (λ e. cc) (λ e. ap Some e) is

  -- and as none
  pub status-leaves : (sink_old sink_new : S) (device_old device_new : DeviceView) (status : Status)
      → Leaves taken sink_faults sink_old sink_new device_old device_new (Some status ≡ Some WriteFault) (Some status ≡ Some DeviceFault)
      → Leaves taken sink_faults sink_old sink_new device_old device_new (status ≡ WriteFault) (status ≡ DeviceFault)
  status-leaves sink_old sink_new device_old device_new status is = leaves-as taken sink_faults sink_old sink_new device_old device_new
      (Some status ≡ Some WriteFault) (Some status ≡ Some DeviceFault) (status ≡ WriteFault) (status ≡ DeviceFault)
      (λ e. ap Some e) (λ e. cc) (λ e. ap Some e) (λ e. cc) is

  -- a call that failed by neither
  pub leaves-none : (sink_old sink_new : S) (device_old device_new : DeviceView) (A B : Type 0)
      → Leaves taken sink_faults sink_old sink_new device_old device_new A B → (A → ⊥) → (B → ⊥)
      → Leaves taken sink_faults sink_old sink_new device_old device_new ⊥ ⊥
  leaves-none sink_old sink_new device_old device_new A B is no_sink no_device = leaves-as taken sink_faults sink_old sink_new device_old device_new
      A B ⊥ ⊥ (λ e. absurd e) no_sink (λ e. absurd e) no_device is

  -- a last line leaves the device
  pub closed-leaves : (accepted : S → List ℕ) (sink_old sink_new : S) (device : DeviceView) (line : List ℕ) (last status : Status) → status ≢ DeviceFault
      → ClosesReport taken accepted sink_faults sink_old sink_new line last status
      → Leaves taken sink_faults sink_old sink_new device device (status ≡ WriteFault) (status ≡ DeviceFault)
  closed-leaves accepted sink_old sink_new device line last status other closes =
      leaves-line taken sink_faults sink_old sink_new device device (status ≡ WriteFault) (status ≡ DeviceFault) closes.told refl refl refl closes.cause other

  -- what a call leaves that failed by neither, and then the last line
  pub closes-leaves : (accepted : S → List ℕ) (sink_old sink_mid sink_new : S) (device_old device_new : DeviceView) (A B : Type 0) (line : List ℕ) (last status : Status)
      → Leaves taken sink_faults sink_old sink_mid device_old device_new A B → (A → ⊥) → (B → ⊥)
      → ClosesReport taken accepted sink_faults sink_mid sink_new line last status → status ≢ DeviceFault
      → Leaves taken sink_faults sink_old sink_new device_old device_new (Some status ≡ Some WriteFault) (Some status ≡ Some DeviceFault)
  closes-leaves accepted sink_old sink_mid sink_new device_old device_new A B line last status leaves no_sink no_device closes other =
      leaves-then taken sink_faults sink_old sink_mid sink_new device_old device_new device_new A B _ _ no_sink no_device leaves
      (some-leaves sink_mid sink_new device_new device_new status (closed-leaves accepted sink_mid sink_new device_new line last status other closes))

  -- the tries of a run whose device was blank, by its journal
  pub made-tried : (sink_old sink_new : S) (device_old device_new : DeviceView) (A B : Type 0) → journal device_old ≡ []
      → Leaves taken sink_faults sink_old sink_new device_old device_new A B → IsTried 4 (length (journal device_new)) B device_old.faults device_new.faults
  made-tried sink_old sink_new device_old device_new A B blank is =
      let all : journal device_new ≡ is.more = is.grown ∙ ap (λ j. j ++ is.more) blank in
      subst (λ writes. IsTried 4 (length writes) B device_old.faults device_new.faults) (sym all) is.device_cause
