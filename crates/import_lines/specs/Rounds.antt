-- Where an import stands between two lines, and what a round comes to.
use Rattle.std.specs.Prelude.{◌≡◌, ◌≢◌, ℕ, ◌+◌, Bool, Result, Err, OnOk, IfErr, List, [], ◌++◌, length}
use Rattle.std.specs.List.{concat}
use Rattle.script_lines.specs.declared.Over.{Over}
use Rattle.script_lines.specs.declared.Over.TheVariants as over
use Rattle.script_lines.specs.Given.{HasEnd, MayGive}
use Rattle.script_lines.specs.Lines.{ScriptLines, onto_lines, text_lines_from}
use Rattle.script_lines.specs.Reader.{HeldBytes, IsOpenLine}
use Rattle.script_runs.specs.declared.Status.{Status}
use Rattle.script_runs.specs.declared.Status.TheVariants as status
use Rattle.import_lines.specs.Import.{Telling, LineFate, IsSaid, IsLeftOut, IsFate, line_of_fate, bytes_of_fate}
use Rattle.import_lines.specs.Imported.{EndsBy}

-- what is known of the lines so far, whether lines may be left out, and how many are
pub record Standing (Known : Type 0) : Type 0 where
  pub known : Known
  pub leave_out : Bool
  pub left_out : ℕ

-- where it stands behind a line
abbrev pub stands_behind : (Known : Type 0) → Telling Known → Standing Known → LineFate → Standing Known
stands_behind Known telling at (IsSaid line bytes) = record at { known = telling.behind at.known line.text }
stands_behind Known telling at (IsLeftOut line why) = record at { left_out = at.left_out + 1 }

-- a reader that begins anew, or that is at its end
abbrev pub MayGoOn : Over → Type 0
MayGoOn over.Going = Unit {0}
MayGoOn over.Ended = Unit {0}
MayGoOn (over.Stopped fault) = ⊥

pub record IsAnew (held : HeldBytes) : Type 0 where
  pub before : held.before ≡ 0
  pub number : held.number ≡ 1
  pub goes_on : MayGoOn held.over

-- A round begins here, at the line of this number, with these bytes held and those to come: they are the text behind what was
-- told of it, and these are their lines.
pub record RoundBegins (text : List ℕ) (held : HeldBytes) (left : List ℕ) (number : ℕ) (lines : ScriptLines) : Type 0 where
  pub told : List ℕ
  pub text_is : text ≡ told ++ (held.pending ++ left)
  pub lines_are : lines ≡ text_lines_from (length text) (length told) number (held.pending ++ left)
  pub last : held.over ≡ over.Ended → held.pending ++ left ≡ []

-- a round that goes on has told the first of these lines, and the next one begins behind it
pub record GoesOn {Known : Type 0} (telling : Telling Known) (text : List ℕ) (held : HeldBytes) (now : List ℕ) (number : ℕ) (at at_new : Standing Known) (lines : ScriptLines) (written : List ℕ) : Type 0 where
  pub fate : LineFate
  pub rest : ScriptLines
  pub is_fate : IsFate Known telling at.leave_out at.known fate
  pub lines_are : lines ≡ onto_lines (line_of_fate fate) rest
  pub written_is : written ≡ bytes_of_fate fate
  pub at_is : at_new ≡ stands_behind Known telling at fate
  pub begins : RoundBegins text held now number rest

-- What a round comes to whose source gave these pieces, and that wrote these bytes.
pub record RoundsBy {Known : Type 0} (telling : Telling Known) (old : HeldBytes) (at : Standing Known) (number : ℕ) (pieces : List (List ℕ)) (written : List ℕ) (result : Result (Unit {0}) Status) (new : HeldBytes) (at_new : Standing Known) : Type 0 where
  pub goes : OnOk result ((text left now : List ℕ) (lines : ScriptLines) → MayGive left pieces now → RoundBegins text old left number lines → GoesOn telling text new now (number + 1) at at_new lines written)
  pub ends : IfErr result (λ answer. (text left now : List ℕ) (lines : ScriptLines) → MayGive left pieces now → RoundBegins text old left number lines
      → EndsBy Known telling at.leave_out at.known at.left_out lines.lines lines.last answer written)
  pub opened : result ≡ Err status.ReadFault → IsOpenLine 0 (old.pending ++ concat pieces)
  pub went : OnOk result (old.over ≡ over.Going)
  pub ended : HasEnd pieces → OnOk result (new.over ≡ over.Ended)
  pub rests : old.over ≢ over.Going → pieces ≡ []
