-- Which line of any driver's trace a text is: one of our own traces, or one of the two that only others have.
use Rattle.std.specs.Prelude.{◌≡◌, ℕ, ◌+◌, ◌-◌, max, Option, Some, None, List, [], ◌∷◌, codes, IsUtf8, option_map, if◌then◌else◌}
use Rattle.std.specs.Option.{option_or}
use Rattle.std.specs.Str.{bytes_eq}
use Rattle.serde_json.specs.Data.{Data, Members, no_members, member}
use Rattle.serde_json.specs.Find.{as_object}
use Rattle.serde_json.specs.Read.{read}
use Rattle.rule_model.specs.declared.IpVersion.{IpVersion}
use Rattle.trace_file.specs.Values.{◌>>=◌, most, number_to, values_in}
use Rattle.trace_file.specs.Lines.{slots_in, line_in}
use Rattle.trace_check.specs.Places.{LineKind, Happens, Finishes, kind_of}
use Rattle.driver_trace.specs.declared.DriverLine.{DriverLine}
use Rattle.driver_trace.specs.declared.DriverLine.TheVariants.{Common, Move, Back}

-- a block of slots that moves: its first slot, the first slot where it comes to, and how many, from 1 to 4,096
abbrev pub move_in : List Data → Option DriverLine
move_in (f ∷ t ∷ c ∷ []) = do
  from ← number_to (most 32) f
  to ← number_to (most 32) t
  count ← slots_in c
  Some (Move from to count)
move_in values = None

-- a line of one member that only another driver's trace has
abbrev pub driver_member : List ℕ → Data → Option DriverLine
driver_member key value =
    if bytes_eq key (codes "move") then move_in (values_in value)
    else if bytes_eq key (codes "back") then option_map Back (number_to (most 32) value)
    else None

abbrev pub driver_members : Members → Option DriverLine
driver_members (member key value no_members) = driver_member key value
driver_members ms = None

-- the line of a value that our own traces don't have
abbrev pub other_line_in : Data → Option DriverLine
other_line_in value = as_object value >>= driver_members

-- and of a text
abbrev pub other_line : List ℕ → Option DriverLine
other_line text = read text >>= other_line_in

-- the bytes are a text of JSON, and it is such a line
abbrev pub IsOtherLineOf : List ℕ → DriverLine → Type 0
IsOtherLineOf text line = IsUtf8 text × (other_line text ≡ Some line)

-- The line that a value is, if it has one of the forms.
abbrev pub driver_line_in : IpVersion → Data → Option DriverLine
driver_line_in version value = option_or (option_map Common (line_in version value)) (other_line_in value)

-- The line of a driver's trace of this version that a text is, if it is one.
abbrev pub driver_line : IpVersion → List ℕ → Option DriverLine
driver_line version text = read text >>= driver_line_in version

-- The bytes are a text of JSON, which is UTF-8, and it is this line.
abbrev pub IsDriverLineOf : IpVersion → List ℕ → DriverLine → Type 0
IsDriverLineOf version text line = IsUtf8 text × (driver_line version text ≡ Some line)

-- the greatest slot that a move names
abbrev pub last_moved : ℕ → ℕ → ℕ → ℕ
last_moved from to count = max from to + (count - 1)

-- The kind of a line, by which it may stand somewhere: a move is an event, and taking back finishes a commit.
abbrev pub driver_kind : DriverLine → LineKind
driver_kind (Common line) = kind_of line
driver_kind (Move from to count) = Happens (Some (last_moved from to count))
driver_kind (Back n) = Finishes n
