-- What an import comes to, by what its source gave and what its sink took.
use Rattle.std.specs.Prelude.{◌≡◌, ℕ, ◌≤◌, Bool, false, Option, List, [], ◌∷◌, ◌++◌, map, length}
use Rattle.std.specs.List.{concat}
use Rattle.std.specs.Io.KnownBytes.{Appends}
use Rattle.script_lines.specs.Given.{MayGive}
use Rattle.script_lines.specs.Lines.{NumberedLine, LinesEnd, EndOfInput, Faulty, text_lines}
use Rattle.script_runs.specs.declared.Status.{Status}
use Rattle.script_runs.specs.declared.Status.TheVariants as status
use Rattle.import_lines.specs.Import.{Telling, SaidBy, UnsaidBy, LineFate, HaveFates, bytes_of_fate, end_line, known_after, left_out_count, left_out_of, script_end, script_from, stop_line}

-- these bytes are the front of the others, or all of them
abbrev pub IsFront : List ℕ → List ℕ → Type 0
IsFront front bytes = (rest : List ℕ) × (bytes ≡ front ++ rest)

-- the last line of a script names the line that isn't said, the one that has a byte at fault, or what is wanting behind all lines
abbrev pub StopsBy : (Known : Type 0) → Telling Known → Bool → Known → ℕ → List NumberedLine → LinesEnd → List ℕ → Type 0
StopsBy Known telling leave_out known left_out (line ∷ lines) last tail =
    (leave_out ≡ false) × ((why : List ℕ) × (telling.told known line.text ≡ UnsaidBy why) × (tail ≡ stop_line line.number why))
StopsBy Known telling leave_out known left_out [] (Faulty fault) tail = tail ≡ (script_end telling known left_out (Faulty fault)).text
StopsBy Known telling leave_out known left_out [] EndOfInput tail =
    (why : List ℕ) × (telling.closing known ≡ UnsaidBy why) × (tail ≡ end_line why)

-- What was written behind the lines that have a fate, by how the import ended: all that stands behind the last line, what the line
-- names at which it stopped, nothing, or where the sink failed the front of what was to come.
abbrev pub EndsBy : (Known : Type 0) → Telling Known → Bool → Known → ℕ → List NumberedLine → LinesEnd → Status → List ℕ → Type 0
EndsBy Known telling leave_out known left_out rest last status.Done tail =
    (rest ≡ []) × (last ≡ EndOfInput) × ((bytes : List ℕ) × (telling.closing known ≡ SaidBy bytes) × (tail ≡ left_out_count left_out ++ bytes))
EndsBy Known telling leave_out known left_out rest last status.Script tail = StopsBy Known telling leave_out known left_out rest last tail
EndsBy Known telling leave_out known left_out rest last status.ReadFault tail = tail ≡ []
EndsBy Known telling leave_out known left_out rest last status.Memory tail = tail ≡ []
EndsBy Known telling leave_out known left_out rest last status.WriteFault tail = IsFront tail (script_from telling leave_out known left_out rest last).text
EndsBy Known telling leave_out known left_out rest last _ tail = ⊥

-- An import of this text wrote this: what each line has in the script that is said, or left out by name, in their order, and
-- then how it ended. So where it ended behind all lines, each of them is one or the other, and the script counts the latter;
-- where it stopped at a line, that line is named; and what was told before a fault was written before it.
pub record IsImported {Known : Type 0} (telling : Telling Known) (leave_out : Bool) (known : Known) (text : List ℕ) (answer : Status) (written : List ℕ) : Type 0 where
  pub fates : List LineFate
  pub rest : List NumberedLine
  pub tail : List ℕ
  pub have : HaveFates telling leave_out known (text_lines text).lines fates rest
  pub written_is : written ≡ concat (map bytes_of_fate fates) ++ tail
  pub ends : EndsBy Known telling leave_out (known_after Known telling known fates) (left_out_of fates) rest (text_lines text).last answer tail

-- these bytes end with a line feed
abbrev pub EndsLine : List ℕ → Type 0
EndsLine bytes = (front : List ℕ) × (bytes ≡ front ++ 10 ∷ [])

-- And of the bytes that came before a failed read each whole line was told: none is at fault, and none is left but the bytes behind
-- the last line feed, a part of a line. So none is left where the last byte that came is a line feed.
pub record ToldAll {Known : Type 0} (telling : Telling Known) (leave_out : Bool) (known : Known) (came : List ℕ) (answer : Status) (written : List ℕ) : Type 0 where
  pub told : IsImported telling leave_out known came answer written
  pub few : length told.rest ≤ 1
  pub whole : EndsLine came → told.rest ≡ []
  pub last : (text_lines came).last ≡ EndOfInput

-- What an import comes to whose source gave these pieces: what was written is right whatever bytes come behind them.
pub record ImportsBy {Known : Type 0} (telling : Telling Known) (leave_out : Bool) (known : Known) (pieces : List (List ℕ)) (answer : Status) (old new : Option (List ℕ)) : Type 0 where
  pub written : List ℕ
  pub appends : Appends old new written
  pub right : (text after : List ℕ) → MayGive text pieces after → IsImported telling leave_out known text answer written
  pub came : answer ≡ status.ReadFault → ToldAll telling leave_out known (concat pieces) answer written
