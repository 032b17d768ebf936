-- A manager and its device in one: what can be said of the two at a moment, what is always so, and why there is none.
use Rattle.std.specs.Prelude.{◌≡◌, ◌≤◌, ℕ, Err, List}
use Rattle.slot_order.specs.Order.{most_slots}
use Rattle.rule_store.specs.declared.Mode.{Mode}
use Rattle.rule_store.specs.declared.Mode.TheVariants.{Cover}
use Rattle.rule_store.specs.declared.Command.{Command}
use Rattle.tcam_device.specs.View.{DeviceView, device_state, journal}
use Rattle.readback.specs.declared.Parts.{Parts}
use Rattle.batch_order.specs.declared.Placement.{Placement}
use Rattle.batch_order.specs.Managed.{HasBlankTables, IsOn, Managed}
use Rattle.batch_order.specs.CarriedOut.{HasRoomBothWays}
use Rattle.batch_order.specs.Restart.{AnswersRestart}
use Rattle.driven_device.specs.declared.SetUpFault.{SetUpFault}
use Rattle.driven_device.specs.declared.SetUpFault.TheVariants as set_up
use Rattle.driven_device.specs.declared.RestartedFault.{RestartedFault}
use Rattle.driven_device.specs.declared.RestartedFault.TheVariants as restarted

-- a manager and the device that it drives
pub record DrivenView : Type 0 where
  pub manager : Managed
  pub device : DeviceView

-- The device has the manager's slots, and room for what is left of its commit, also where that is taken back. It holds what
-- the manager takes it to hold.
pub record IsDriven (manager : Managed) (device : DeviceView) : Type 0 where
  pub slots_in_use : manager.slots ≤ device.slots
  pub room : HasRoomBothWays manager.held device.spare
  pub on : IsOn device.slots (journal device) manager

-- a manager can have so many slots, and a device of so many has them
abbrev pub CanHave : ℕ → ℕ → Type 0
CanHave slots device_slots = (1 ≤ slots) × (slots ≤ most_slots) × (slots ≤ device_slots)

-- where a fault of setting up may come: the slots exactly where there can't be so many, and else want of memory
abbrev pub IsSetUpFault : ℕ → ℕ → SetUpFault → Type 0
IsSetUpFault slots device_slots (set_up.Slots told) = (told ≡ slots) × ¬ CanHave slots device_slots
IsSetUpFault slots device_slots set_up.Memory = CanHave slots device_slots

-- Where a fault of a restart may come: the slots exactly where there can't be so many, the tables exactly where there can and by
-- covers a table has words, and else what the manager's restart answers.
abbrev pub IsRestartedFault : ℕ → Mode → Placement → Parts → List Command → DeviceView → RestartedFault → Type 0
IsRestartedFault slots mode placement parts batch device (restarted.Slots told) = (told ≡ slots) × ¬ CanHave slots device.slots
IsRestartedFault slots mode placement parts batch device restarted.Tables =
    CanHave slots device.slots × (mode ≡ Cover) × ¬ HasBlankTables (device_state device)
IsRestartedFault slots mode placement parts batch device (restarted.Restart fault) =
    CanHave slots device.slots × (mode ≡ Cover → HasBlankTables (device_state device))
    × AnswersRestart slots mode placement parts batch device.slots (device_state device) (Err (fault, parts))
