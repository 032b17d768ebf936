-- The parts of a word's device write, as a word keeps them.
use Rattle.std.specs.Prelude.{ℕ}
use Rattle.rule_model.specs.declared.Field.{Field}
use Rattle.rule_model.specs.declared.Field.TheVariants.{Src}
use Rattle.tcam_device.specs.declared.Write.{Write}
use Rattle.tcam_device.specs.declared.Write.TheVariants.{Slot, Table}

-- the field of its table; a write of a slot is no word, and its parts are never asked for
abbrev pub field_in : Write → Field
field_in (Slot slot entry) = Src
field_in (Table field port word) = field

-- its port
abbrev pub port_in : Write → ℕ
port_in (Slot slot entry) = 0
port_in (Table field port word) = port

-- what it gets
abbrev pub word_in : Write → ℕ
word_in (Slot slot entry) = 0
word_in (Table field port word) = word
