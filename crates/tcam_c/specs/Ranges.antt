-- What is told of the port ranges that have bits.
use Rattle.std.specs.Prelude.{◌≡◌, ℕ, Option, Some, None}
use Rattle.rule_model.specs.declared.Field.{Field}
use Rattle.rule_model.specs.PortRange.{PortRange}
use Rattle.range_bits.specs.LiveRanges.{LiveRanges, range_at}
use Rattle.commit_writes.specs.Bits.{FieldBits, ranges_in}
use Rattle.tcam_c.specs.Codes.{field_of_code}
use Rattle.tcam_c.specs.declared.session.Session.{Session}
use Rattle.tcam_c.specs.declared.table.Table.{Table}
use Rattle.tcam_c.specs.declared.table.Table.TheVariants.{Whole, Split}

-- the live ranges of both fields
abbrev pub both_fields : LiveRanges × LiveRanges → FieldBits
both_fields (src, dst) = record { src = src; dst = dst }

-- The live ranges of the set by their bits: while a commit is under way, those of the old set. Of a memory whose results stand
-- beside its slots they aren't told, since no restart asks for them.
abbrev pub bits_of_table : Table → Option FieldBits
bits_of_table (Whole driven) = Some driven.manager.bits
bits_of_table (Split manager) = None

-- the live range of a field's bit, where the field is one and the bit has one
abbrev pub range_of_bit : FieldBits → Option Field → ℕ → Option PortRange
range_of_bit bits None bit = None
range_of_bit bits (Some field) bit = range_at (ranges_in field bits) bit

-- its ends are told, and without one the code says so, and nothing is told
abbrev pub IsRangeTold : Option PortRange → ℕ → ℕ → ℕ → ℕ → ℕ → Type 0
IsRangeTold None first first' last last' code = (code ≡ 27) × (first' ≡ first) × (last' ≡ last)
IsRangeTold (Some range) first first' last last' code = (code ≡ 0) × (first' ≡ range.lo) × (last' ≡ range.hi)

abbrev pub IsBitTold : Option FieldBits → ℕ → ℕ → ℕ → ℕ → ℕ → ℕ → ℕ → Type 0
IsBitTold None field bit first first' last last' code = (code ≡ 28) × (first' ≡ first) × (last' ≡ last)
IsBitTold (Some bits) field bit first first' last last' code =
    IsRangeTold (range_of_bit bits (field_of_code field) bit) first first' last last' code

-- the live range of a bit is told, and nothing changes
abbrev pub TellsRange : ℕ → ℕ → ℕ → ℕ → ℕ → ℕ → Session → Session → ℕ → Type 0
TellsRange field bit first first' last last' before after code =
    (after ≡ before) × IsBitTold (bits_of_table before.table) field bit first first' last last' code
