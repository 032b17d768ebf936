-- The lines of an older list, as a script has them.
use Rattle.std.specs.Prelude.{◌≡◌, ℕ, ◌+◌, Bool, true, false, ◌==◌, ◌||◌, Result, Ok, Err, Option, Some, None, List, [], ◌∷◌, ◌++◌, codes, length, slice_index, take, drop, if◌then◌else◌}
use Rattle.std.specs.List.{position}
use Rattle.std.specs.Str.{bytes_eq}
use Rattle.line_words.specs.declared.WordFault.{WordFault}
use Rattle.line_words.specs.Kinds.{sequence_of}
use Rattle.kept_numbers.specs.declared.words.OlderLine.{OlderLine}

-- ---- a line

-- it says nothing of the list
abbrev pub is_passed : List ℕ → Bool
is_passed line = (length line == 0) || (slice_index line 0 == 35) || bytes_eq line (codes "commit") || bytes_eq line (codes "acl all")

abbrev pub added_with : Result ℕ WordFault → List ℕ → Option (List OlderLine)
added_with (Ok number) words = Some (record { number = number; words = words } ∷ [])
added_with (Err fault) words = None

-- of a number, which ends at this place, and words, with the blank before them
abbrev pub added_by : List ℕ → Option ℕ → Option (List OlderLine)
added_by rest None = None
added_by rest (Some place) = added_with (sequence_of (take place rest)) (drop place rest)

abbrev pub added : List ℕ → Option (List OlderLine)
added rest = added_by rest (position (λ byte. byte == 32) rest)

-- the lines of the list that a line of a script says, if it is one that an import writes
abbrev pub said : List ℕ → Option (List OlderLine)
said line =
    if is_passed line then Some []
    else if bytes_eq (take 8 line) (codes "acl add ") then added (drop 8 line)
    else None

-- what the code answers of it
abbrev pub IsSaid : Bool → Option (List OlderLine) → List OlderLine → List OlderLine → Type 0
IsSaid true found old new = (lines : List OlderLine) × (found ≡ Some lines) × (new ≡ old ++ lines)
IsSaid false found old new = found ≡ None

-- ---- all lines

-- these bytes and those that come, parted at line feeds
abbrev pub parted : List ℕ → List ℕ → List (List ℕ)
parted line [] = line ∷ []
parted line (byte ∷ bytes) = if byte == 10 then line ∷ parted [] bytes else parted (line ++ byte ∷ []) bytes

abbrev pub before : List OlderLine → Result (List OlderLine) ℕ → Result (List OlderLine) ℕ
before lines (Ok more) = Ok (lines ++ more)
before lines (Err number) = Err number

-- before those of the lines behind it, or the number of the line that is no line of a list
abbrev pub said_before : ℕ → Option (List OlderLine) → Result (List OlderLine) ℕ → Result (List OlderLine) ℕ
said_before number None behind = Err number
said_before number (Some lines) behind = before lines behind

-- by lines, of which the first has this number
abbrev pub older_from : ℕ → List (List ℕ) → Result (List OlderLine) ℕ
older_from number [] = Ok []
older_from number (line ∷ lines) = said_before number (said line) (older_from (number + 1) lines)

-- The lines of a list, by a script; or the number of the first of its lines that no import writes.
abbrev pub older_lines : List ℕ → Result (List OlderLine) ℕ
older_lines text = older_from 1 (parted [] text)

-- ---- what the code answers of a byte

-- what is told of the bytes that come, behind older lines and the front of a line of this number
abbrev pub behind : List OlderLine → ℕ → List ℕ → List ℕ → Result (List OlderLine) ℕ
behind older number line bytes = before older (older_from number (parted line bytes))

abbrev pub taken : Option ℕ → ℕ → List OlderLine → List ℕ → List ℕ → Result (List OlderLine) ℕ
taken None number older line bytes = Err number
taken (Some next) number older line bytes = behind older next line bytes
