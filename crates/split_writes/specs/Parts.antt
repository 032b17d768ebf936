-- The writes by parts that undivided writes amount to, and the drains between them.
use Rattle.std.specs.Prelude.{ℕ, Option, Some, None, List, [], ◌∷◌, ◌++◌, if◌then◌else◌}
use Rattle.slot_order.specs.Order.{slot}
use Rattle.rule_model.specs.declared.words.Entry.{Entry}
use Rattle.rule_model.specs.Entry.{same_match}
use Rattle.tcam_device.specs.declared.Write.{Write}
use Rattle.tcam_device.specs.declared.Write.TheVariants as whole
use Rattle.tcam_device.specs.State.{State, apply}
use Rattle.tcam_device.specs.declared.Action.{Action}
use Rattle.tcam_device.specs.declared.Action.TheVariants as action
use Rattle.split_device.specs.declared.SplitWrite.{SplitWrite}
use Rattle.split_device.specs.declared.SplitWrite.TheVariants.{Slot, Result, Table}
use Rattle.split_device.specs.State.{SplitState, undivided, split_after}
use Rattle.split_device.specs.declared.SplitAction.{SplitAction}
use Rattle.split_device.specs.declared.SplitAction.TheVariants.{Drained}
use Rattle.split_device.specs.Drains.{SinceDrain, nothing_since, since_all, with_drains}

-- an entry that is put into an empty slot: its result word, then its value and mask
abbrev pub put_parts : ℕ → Entry → List SplitWrite
put_parts at entry = Result at entry.tag entry.result ∷ Slot at (Some (entry.value, entry.mask)) ∷ []

-- An entry that is put where this stands: into an empty slot; as a new result of the same entry; or in place of another
-- one, whose slot is erased first.
abbrev pub parts_over : Option Entry → ℕ → Entry → List SplitWrite
parts_over None at entry = put_parts at entry
parts_over (Some standing) at entry =
    if same_match entry standing then Result at entry.tag entry.result ∷ [] else Slot at None ∷ put_parts at entry

-- the parts of one undivided write
abbrev pub write_parts : State → Write → List SplitWrite
write_parts state (whole.Slot at None) = Slot at None ∷ []
write_parts state (whole.Slot at (Some entry)) = parts_over (slot state.slots at) at entry
write_parts state (whole.Table field port word) = Table field port word ∷ []

-- the parts of some undivided writes, one after the other
abbrev pub parts_of_writes : State → List Write → List SplitWrite
parts_of_writes state [] = []
parts_of_writes state (write ∷ writes) = write_parts state write ++ parts_of_writes (apply state write) writes

-- What is made of the writes and the drain of a commit: of each write its parts, with a drain before each part for which one
-- is due; and the drain where the commit has it.
abbrev pub made_of : SplitState → SinceDrain → List Action → List SplitAction
made_of state since [] = []
made_of state since (action.Written write ∷ actions) =
    with_drains state since (write_parts (undivided state) write)
    ++ made_of (split_after state (write_parts (undivided state) write)) (since_all since (with_drains state since (write_parts (undivided state) write))) actions
made_of state since (action.Drained ∷ actions) = Drained ∷ made_of state nothing_since actions
