-- What a blank device has, and what a write keeps.
use Rattle.std.proofs.Common.{◌≡◌, length, replicate, refl, length-set}
use Rattle.rule_model.specs.declared.Field.TheVariants.{Src, Dst}
use Rattle.tcam_device.specs.declared.Write.{Write}
use Rattle.tcam_device.specs.declared.Write.TheVariants.{Slot, Table}
use Rattle.tcam_device.specs.State.{State, apply, blank_table}

pub blank_table-is : blank_table ≡ replicate 65536 0
unfolding blank_table
blank_table-is = refl

-- a write keeps the number of slots and the sizes of the tables
pub slots-apply : (state : State) (write : Write) → length (apply state write).slots ≡ length state.slots
slots-apply state (Slot at entry) = length-set state.slots at entry
slots-apply state (Table Src port word) = refl
slots-apply state (Table Dst port word) = refl
