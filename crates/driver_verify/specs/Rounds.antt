-- Where a judgement of a text stands between two lines, and what a round comes to.
use Rattle.std.specs.Prelude.{◌≡◌, ◌≢◌, ◌⊎◌, ℕ, ◌+◌, true, false, Some, None, IsSome, Result, IfOk, IfErr, List, [], ◌++◌, length}
use Rattle.script_lines.specs.Given.{HasEnd, MayGive}
use Rattle.script_lines.specs.Lines.{ScriptLines, text_lines_from}
use Rattle.script_lines.specs.Reader.{HeldBytes}
use Rattle.script_lines.specs.declared.Over.TheVariants as over
use Rattle.trace_check.specs.declared.places.Place.TheVariants.{AtEnd}
use Rattle.trace_check.specs.Answers.{is_blank_line}
use Rattle.driver_trace.specs.declared.Asked.TheVariants.{Nothing}
use Rattle.driver_trace.specs.declared.Compared.{Compared}
use Rattle.driver_trace.specs.declared.DriverLine.{DriverLine}
use Rattle.driver_trace.specs.DriverLines.{IsDriverLineOf, driver_line}
use Rattle.driver_trace.specs.Judged.{IsLeakAt, asked_by}
use Rattle.driver_trace.specs.Known.{driver_place}
use Rattle.driver_trace.specs.Told.{DriverAnswer, DriverTells, IsDriverAnswer, Judging}
use Rattle.line_judge.specs.Followed.{Followed, Takes}
use Rattle.driver_verify.specs.declared.DriverVerdict.{DriverVerdict}
use Rattle.driver_verify.specs.declared.DriverVerdict.TheVariants as verdict
use Rattle.driver_verify.specs.Verify.{IsRightOf}

-- what is told by some lines from where a judgement stands
abbrev pub TellsLines : Compared → Judging → ScriptLines → DriverAnswer → Type 0
TellsLines by judging lines answer = DriverTells by judging lines.lines lines.last answer

-- So many bytes of a text are done, and a judgement stands there: what is told of the rest from there on is told of the text.
pub record IsBehind (by : Compared) (text : List ℕ) (done : ℕ) (judging : Judging) (rest : List ℕ) : Type 0 where
  pub size : length text ≡ done + length rest
  pub there : (answer : DriverAnswer) → TellsLines by judging (text_lines_from (length text) done judging.next rest) answer → IsDriverAnswer by text answer

-- a judge knows what a judgement does
pub record IsKnown (judging : Judging) (judge : Followed) : Type 0 where
  pub place : judge.place ≡ judging.place
  pub now : judge.now ≡ judging.now

-- A round begins here, at the line of this number, with these bytes held and those to come.
pub record RoundBegins (text : List ℕ) (held : HeldBytes) (left : List ℕ) (number : ℕ) (judge : Followed) : Type 0 where
  pub done : ℕ
  pub judging : Judging
  pub behind : IsBehind judge.by text done judging (held.pending ++ left)
  pub known : IsKnown judging judge
  pub next : judging.next ≡ number
  pub last : held.over ≡ over.Ended → held.pending ++ left ≡ []

-- a line is passed: it has blanks alone, or it is one of a trace and is taken
abbrev pub PassesLine : Followed → List ℕ → Followed → Type 0
PassesLine judge text next =
    ((is_blank_line text ≡ true) × (next ≡ judge))
    ⊎ ((is_blank_line text ≡ false) × ((line : DriverLine) × (driver_line judge.now.version text ≡ Some line) × Takes judge line next))

-- a judgement ends at a line of this number
abbrev pub EndsAtLine : Followed → List ℕ → ℕ → DriverVerdict → Type 0
EndsAtLine judge text number (verdict.Bad line) =
    (line ≡ number) × (is_blank_line text ≡ false)
    × ((found : DriverLine) → IsDriverLineOf judge.now.version text found → driver_place judge.now judge.place found ≡ None)
EndsAtLine judge text number (verdict.No line version leak) =
    (line ≡ number) × (is_blank_line text ≡ false)
    × ((found : DriverLine) × (driver_line judge.now.version text ≡ Some found) × IsSome (driver_place judge.now judge.place found)
    × IsLeakAt judge.by judge.now found leak)
EndsAtLine judge text number (verdict.NotJudged line) =
    (line ≡ number) × (is_blank_line text ≡ false)
    × ((found : DriverLine) × (driver_line judge.now.version text ≡ Some found) × IsSome (driver_place judge.now judge.place found)
    × (asked_by found ≢ Nothing))
EndsAtLine judge text number verdict.Memory = Unit {0}
EndsAtLine judge text number answer = ⊥

-- or at the end of the input, before a line of this number
abbrev pub EndsAtEnd : Followed → ℕ → DriverVerdict → Type 0
EndsAtEnd judge number (verdict.Yes commits writes) = (judge.place ≡ AtEnd) × (commits ≡ judge.now.commits) × (writes ≡ judge.now.writes)
EndsAtEnd judge number (verdict.Bad line) = (line ≡ number) × (judge.place ≡ AtEnd → ⊥)
EndsAtEnd judge number answer = ⊥

-- What a round comes to whose source gave these pieces.
pub record RoundsBy (old : HeldBytes) (number : ℕ) (judge : Followed) (pieces : List (List ℕ)) (result : Result Followed DriverVerdict) (new : HeldBytes) : Type 0 where
  pub goes : IfOk result (λ next. (text left now : List ℕ) → MayGive left pieces now → RoundBegins text old left number judge → RoundBegins text new now (number + 1) next)
  pub ends : IfErr result (λ answer. (text left now : List ℕ) → MayGive left pieces now → RoundBegins text old left number judge → IsRightOf judge.by text now answer)
  pub same : IfOk result (λ next. next.by ≡ judge.by)
  pub went : IfOk result (λ _. old.over ≡ over.Going)
  pub ended : HasEnd pieces → IfOk result (λ _. new.over ≡ over.Ended)
  pub rests : old.over ≢ over.Going → pieces ≡ []
