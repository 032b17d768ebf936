-- Whether the words of both tables have the bits of live ranges right.
use Rattle.std.specs.Prelude.{◌≡◌, ℕ, ◌<◌, ◌^◌, slice_index}
use Rattle.rule_model.specs.declared.Field.{Field}
use Rattle.tcam_device.specs.State.{State, table_of}
use Rattle.commit_writes.specs.Bits.{FieldBits, ranges_in}
use Rattle.commit_writes.specs.InFlight.{HasBits}
use Rattle.readback.specs.declared.StageFault.{StageFault}
use Rattle.readback.specs.declared.StageFault.TheVariants.{Word}
use Rattle.readback.specs.Fault.{IsWrongWord}

-- each word has
abbrev pub AreRight : FieldBits → State → Type 0
AreRight bits state =
    (field : Field) (port : ℕ) → port < 2 ^ 16 → HasBits (ranges_in field bits) port (slice_index (table_of field state) port)

-- each is a number of 16 bits
abbrev pub AreShort : State → Type 0
AreShort state = (field : Field) (port : ℕ) → port < 2 ^ 16 → slice_index (table_of field state) port < 2 ^ 16

-- a fault names a word that hasn't
abbrev pub NamesWord : FieldBits → State → StageFault → Type 0
NamesWord bits state fault =
    (field : Field) × (port : ℕ) × (fault ≡ Word field port) × (port < 2 ^ 16)
    × IsWrongWord (ranges_in field bits) port (slice_index (table_of field state) port)
