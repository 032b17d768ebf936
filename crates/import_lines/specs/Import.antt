-- What the lines of an input come to in a script: each is said, left out by name, or the one at which the script ends.
use Rattle.std.specs.Prelude.{◌≡◌, ℕ, ◌+◌, Bool, true, false, ◌==◌, List, [], ◌∷◌, ◌++◌, map, codes, decimal, if◌then◌else◌}
use Rattle.std.specs.List.{concat}
use Rattle.script_lines.specs.declared.LineFault.TheVariants as fault
use Rattle.script_lines.specs.Lines.{NumberedLine, LinesEnd, EndOfInput, Faulty}
use Rattle.import_lines.specs.declared.Told.{Told}
use Rattle.import_lines.specs.declared.Told.TheVariants as told

-- what a line comes to: bytes of a script, or why it isn't said
pub data LineTold : Type 0 where
  SaidBy : (bytes : List ℕ) → LineTold
  UnsaidBy : (why : List ℕ) → LineTold

-- what the code answers of it
abbrev pub IsTold : Told → List ℕ → LineTold → Type 0
IsTold told.Said bytes line = line ≡ SaidBy bytes
IsTold told.Unsaid bytes line = line ≡ UnsaidBy bytes

-- how a format tells lines by what it knows, what it knows behind a line that is said, and what it tells behind all lines
pub record Telling (Known : Type 0) : Type 0 where
  pub told : Known → List ℕ → LineTold
  pub behind : Known → List ℕ → Known
  pub closing : Known → LineTold

abbrev pub telling : {Known : Type 0} → (Known → List ℕ → LineTold) → (Known → List ℕ → Known) → (Known → LineTold) → Telling Known
telling told behind closing = record { told = told; behind = behind; closing = closing }

-- how a script ends: behind all lines, so many of them left out, at a line, or for want of what should stand behind all lines
pub data ImportEnd : Type 0 where
  Whole : (left_out : ℕ) → ImportEnd
  StoppedAt : (line : ℕ) → ImportEnd
  StoppedAtEnd : ImportEnd

-- the bytes of a script, and how it ends
pub record ImportedScript : Type 0 where
  pub text : List ℕ
  pub last : ImportEnd

-- the last line of a script that ends at a line
abbrev pub stop_line : ℕ → List ℕ → List ℕ
stop_line number why = codes "line " ++ (decimal number ++ (codes " " ++ (why ++ codes "\n")))

-- and of one whose input doesn't say, with all its lines, what would stand behind them
abbrev pub end_line : List ℕ → List ℕ
end_line why = codes "end of input: " ++ (why ++ codes "\n")

-- the comment on a line that is left out
abbrev pub left_out_line : ℕ → List ℕ → List ℕ
left_out_line number why = codes "# left out: line " ++ (decimal number ++ (codes ": " ++ (why ++ codes "\n")))

-- and on how many there are
abbrev pub left_out_count : ℕ → List ℕ
left_out_count count = if count == 0 then [] else codes "# left out: " ++ (decimal count ++ codes " lines\n")

-- bytes before a script
abbrev pub onto_script : List ℕ → ImportedScript → ImportedScript
onto_script bytes script = record script { text = bytes ++ script.text }

-- a script that ends at a line
abbrev pub stops_at : ℕ → List ℕ → ImportedScript
stops_at number why = record { text = stop_line number why; last = StoppedAt number }

-- a script that ends behind all lines, by what the format tells then
abbrev pub end_script : ℕ → LineTold → ImportedScript
end_script left_out (SaidBy bytes) = record { text = left_out_count left_out ++ bytes; last = Whole left_out }
end_script left_out (UnsaidBy why) = record { text = end_line why; last = StoppedAtEnd }

-- it ends there, or at a byte that is at fault
abbrev pub script_end : {Known : Type 0} → Telling Known → Known → ℕ → LinesEnd → ImportedScript
script_end telling known left_out EndOfInput = end_script left_out (telling.closing known)
script_end telling known left_out (Faulty (fault.BadByte line)) = stops_at line (codes "bad byte")
script_end telling known left_out (Faulty (fault.TooLong line)) = stops_at line (codes "line too long")
script_end telling known left_out (Faulty (fault.ScriptTooLong line)) = stops_at line (codes "line too long")
script_end telling known left_out (Faulty fault.Read) = stops_at 0 []

-- what a line has in the script, before what those behind it have: where it is said, and where it is left out
abbrev pub line_script : Bool → NumberedLine → LineTold → ImportedScript → ImportedScript → ImportedScript
line_script leave_out line (SaidBy bytes) said passed = onto_script bytes said
line_script leave_out line (UnsaidBy why) said passed =
    if leave_out then onto_script (left_out_line line.number why) passed else stops_at line.number why

-- the script of some lines, by what is known before them and how many lines are left out by then
abbrev pub script_from : {Known : Type 0} → Telling Known → Bool → Known → ℕ → List NumberedLine → LinesEnd → ImportedScript
script_from telling leave_out known left_out [] last = script_end telling known left_out last
script_from telling leave_out known left_out (line ∷ lines) last =
    line_script leave_out line (telling.told known line.text)
    (script_from telling leave_out (telling.behind known line.text) left_out lines last)
    (script_from telling leave_out known (left_out + 1) lines last)

-- what became of a line: its bytes stand in the script, or it is left out by name
pub data LineFate : Type 0 where
  IsSaid : (line : NumberedLine) → (bytes : List ℕ) → LineFate
  IsLeftOut : (line : NumberedLine) → (why : List ℕ) → LineFate

abbrev pub line_of_fate : LineFate → NumberedLine
line_of_fate (IsSaid line bytes) = line
line_of_fate (IsLeftOut line why) = line

-- the bytes that it has in the script
abbrev pub bytes_of_fate : LineFate → List ℕ
bytes_of_fate (IsSaid line bytes) = bytes
bytes_of_fate (IsLeftOut line why) = left_out_line line.number why

-- how many of some lines are left out
abbrev pub left_out_of : List LineFate → ℕ
left_out_of [] = 0
left_out_of (IsSaid line bytes ∷ fates) = left_out_of fates
left_out_of (IsLeftOut line why ∷ fates) = left_out_of fates + 1

-- a fate is what the format tells of the line, by what it knows of those before it
abbrev pub IsFate : (Known : Type 0) → Telling Known → Bool → Known → LineFate → Type 0
IsFate Known telling leave_out known (IsSaid line bytes) = telling.told known line.text ≡ SaidBy bytes
IsFate Known telling leave_out known (IsLeftOut line why) = (leave_out ≡ true) × (telling.told known line.text ≡ UnsaidBy why)

-- what it knows behind a line, and behind several
abbrev pub known_behind : (Known : Type 0) → Telling Known → Known → LineFate → Known
known_behind Known telling known (IsSaid line bytes) = telling.behind known line.text
known_behind Known telling known (IsLeftOut line why) = known

abbrev pub known_after : (Known : Type 0) → Telling Known → Known → List LineFate → Known
known_after Known telling known [] = known
known_after Known telling known (fate ∷ fates) = known_after Known telling (known_behind Known telling known fate) fates

-- these are fates of lines that stand one behind the other
abbrev pub AreFates : (Known : Type 0) → Telling Known → Bool → Known → List LineFate → Type 0
AreFates Known telling leave_out known [] = Unit {0}
AreFates Known telling leave_out known (fate ∷ fates) =
    IsFate Known telling leave_out known fate × AreFates Known telling leave_out (known_behind Known telling known fate) fates

-- The first of some lines have these fates, and the rest has none.
pub record HaveFates {Known : Type 0} (telling : Telling Known) (leave_out : Bool) (known : Known) (lines : List NumberedLine) (fates : List LineFate) (rest : List NumberedLine) : Type 0 where
  pub are : AreFates Known telling leave_out known fates
  pub lines_are : lines ≡ map line_of_fate fates ++ rest

-- what stands behind the lines that have a fate: the end of the script, or the line that isn't said, at which it stops
abbrev pub EndsBehind : (Known : Type 0) → Telling Known → Bool → Known → ℕ → List NumberedLine → LinesEnd → ImportedScript → Type 0
EndsBehind Known telling leave_out known left_out [] last end = end ≡ script_end telling known left_out last
EndsBehind Known telling leave_out known left_out (line ∷ lines) last end =
    (leave_out ≡ false) × ((why : List ℕ) × (telling.told known line.text ≡ UnsaidBy why) × (end ≡ stops_at line.number why))

-- Each line is said, left out by name, or the one at which the script stops: what these have in the script is, in their order, all
-- that it has before its end.
pub record IsAccounted {Known : Type 0} (telling : Telling Known) (leave_out : Bool) (known : Known) (left_out : ℕ) (lines : List NumberedLine) (last : LinesEnd) (script : ImportedScript) : Type 0 where
  pub fates : List LineFate
  pub rest : List NumberedLine
  pub end : ImportedScript
  pub have : HaveFates telling leave_out known lines fates rest
  pub text : script.text ≡ concat (map bytes_of_fate fates) ++ end.text
  pub same_end : script.last ≡ end.last
  pub ends : EndsBehind Known telling leave_out (known_after Known telling known fates) (left_out + left_out_of fates) rest last end

-- the law: each line of each input is accounted for, whatever is known before it
abbrev pub AllAreAccounted : (Known : Type 0) → Telling Known → Type 0
AllAreAccounted Known telling = (leave_out : Bool) → (known : Known) → (left_out : ℕ) → (lines : List NumberedLine) → (last : LinesEnd)
    → IsAccounted telling leave_out known left_out lines last (script_from telling leave_out known left_out lines last)
