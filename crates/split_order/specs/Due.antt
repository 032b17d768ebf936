-- The parts of an undivided write as they come due.
use Rattle.std.specs.Prelude.{ℕ, Bool, true, false, Option, Some, None, List, [], ◌∷◌, if◌then◌else◌}
use Rattle.rule_model.specs.declared.words.Entry.{Entry}
use Rattle.rule_model.specs.Entry.{same_match}
use Rattle.tcam_device.specs.declared.Write.{Write}
use Rattle.tcam_device.specs.declared.Write.TheVariants as whole
use Rattle.split_device.specs.declared.SplitWrite.{SplitWrite}
use Rattle.split_device.specs.declared.SplitWrite.TheVariants.{Slot, Result, Table}
use Rattle.split_order.specs.declared.due.DuePart.{DuePart}

-- a part behind which none of its write is left
abbrev pub last_due : SplitWrite → Bool → DuePart
last_due part stands = record { part = part; stands = stands; last = true }

-- those of an entry that is put into an empty slot
abbrev pub put_dues : ℕ → Entry → List DuePart
put_dues at entry =
    record { part = Result at entry.tag entry.result; stands = false; last = false }
    ∷ last_due (Slot at (Some (entry.value, entry.mask))) false ∷ []

-- and where this one stands
abbrev pub over_dues : Option Entry → ℕ → Entry → List DuePart
over_dues None at entry = put_dues at entry
over_dues (Some standing) at entry =
    if same_match entry standing
    then last_due (Result at entry.tag entry.result) true ∷ []
    else record { part = Slot at None; stands = false; last = false } ∷ put_dues at entry

-- the parts of a write, where this stands in its slot
abbrev pub due_parts : Option Entry → Write → List DuePart
due_parts standing (whole.Slot at None) = last_due (Slot at None) false ∷ []
due_parts standing (whole.Slot at (Some entry)) = over_dues standing at entry
due_parts standing (whole.Table field port word) = last_due (Table field port word) false ∷ []

-- what stands in a slot, by the write that would put it back
abbrev pub standing_by : Option Write → Option Entry
standing_by None = None
standing_by (Some (whole.Slot at held)) = held
standing_by (Some (whole.Table field port word)) = None
