-- Where a check of a text stands between two lines, and what a round comes to.
use Rattle.std.specs.Prelude.{◌≡◌, ◌≢◌, ◌⊎◌, ℕ, ◌+◌, true, false, Some, None, Result, Err, IfOk, IfErr, List, [], ◌++◌, length}
use Rattle.std.specs.List.{concat}
use Rattle.script_lines.specs.Given.{HasEnd, MayGive}
use Rattle.script_lines.specs.Lines.{ScriptLines, text_lines_from}
use Rattle.script_lines.specs.Reader.{HeldBytes, IsOpenLine, LastAtOpenLine}
use Rattle.script_lines.specs.declared.Over.{Over}
use Rattle.script_lines.specs.declared.Over.TheVariants as over
use Rattle.trace_file.specs.declared.TraceLine.{TraceLine}
use Rattle.trace_file.specs.Lines.{IsLineOf, trace_line}
use Rattle.trace_check.specs.declared.CheckFault.TheVariants.{Unordered}
use Rattle.trace_check.specs.declared.places.Place.TheVariants.{AtEnd}
use Rattle.trace_check.specs.Places.{place_after}
use Rattle.trace_check.specs.Checked.{Checked, Takes, RefusesLine, without_made}
use Rattle.trace_check.specs.Answers.{TraceAnswer, Checking, Tells, IsTraceAnswer, is_blank_line}
use Rattle.trace_verify.specs.declared.Verified.{Verified}
use Rattle.trace_verify.specs.declared.Verified.TheVariants as verified
use Rattle.trace_verify.specs.Verify.{IsRightOf}

-- what is told by some lines from where a check stands
abbrev pub TellsLines : Checking → ScriptLines → TraceAnswer → Type 0
TellsLines check lines answer = Tells check lines.lines lines.last answer

-- So many bytes of a text are done, and a check stands there: what is told of the text is what is told of the rest from there on.
pub record IsBehind (text : List ℕ) (done : ℕ) (check : Checking) (rest : List ℕ) : Type 0 where
  pub size : length text ≡ done + length rest
  pub there : (answer : TraceAnswer) → TellsLines check (text_lines_from (length text) done check.next rest) answer → IsTraceAnswer text answer
  pub back : (answer : TraceAnswer) → IsTraceAnswer text answer → TellsLines check (text_lines_from (length text) done check.next rest) answer

-- a checker knows what a check does, but for the writes of the commit under way
pub record IsKnown (check : Checking) (checked : Checked) : Type 0 where
  pub place : checked.place ≡ check.place
  pub now : checked.now ≡ without_made check.now

-- A round begins here, at the line of this number, with these bytes held and those to come.
pub record RoundBegins (text : List ℕ) (held : HeldBytes) (left : List ℕ) (number : ℕ) (checked : Checked) : Type 0 where
  pub done : ℕ
  pub check : Checking
  pub behind : IsBehind text done check (held.pending ++ left)
  pub known : IsKnown check checked
  pub next : check.next ≡ number
  pub last : held.over ≡ over.Ended → held.pending ++ left ≡ []

-- a reader that begins anew, or that is at its end
abbrev pub MayGoOn : Over → Type 0
MayGoOn over.Going = Unit {0}
MayGoOn over.Ended = Unit {0}
MayGoOn (over.Stopped fault) = ⊥

pub record IsAnew (held : HeldBytes) : Type 0 where
  pub before : held.before ≡ 0
  pub number : held.number ≡ 1
  pub goes_on : MayGoOn held.over

-- a line is passed: it has blanks alone, or it is one of a trace and is taken
abbrev pub PassesLine : Checked → List ℕ → Checked → Type 0
PassesLine checked text next =
    ((is_blank_line text ≡ true) × (next ≡ checked))
    ⊎ ((is_blank_line text ≡ false) × ((line : TraceLine) × (trace_line checked.now.version text ≡ Some line) × Takes checked line next))

-- a check ends at a line of this number
abbrev pub EndsAtLine : Checked → List ℕ → ℕ → Verified → Type 0
EndsAtLine checked text number (verified.Bad line) =
    (line ≡ number) × (is_blank_line text ≡ false) × ((found : TraceLine) → IsLineOf checked.now.version text found → place_after checked.now.slots checked.place found ≡ None)
EndsAtLine checked text number (verified.No line) =
    (line ≡ number) × (is_blank_line text ≡ false) × ((found : TraceLine) × (trace_line checked.now.version text ≡ Some found) × RefusesLine checked found Unordered)
EndsAtLine checked text number verified.Memory = Unit {0}
EndsAtLine checked text number answer = ⊥

-- or at the end of the input, before a line of this number
abbrev pub EndsAtEnd : Checked → ℕ → Verified → Type 0
EndsAtEnd checked number (verified.Yes commits writes) = (checked.place ≡ AtEnd) × (commits ≡ checked.now.accepted) × (writes ≡ checked.now.writes)
EndsAtEnd checked number (verified.Bad line) = (line ≡ number) × (checked.place ≡ AtEnd → ⊥)
EndsAtEnd checked number answer = ⊥

-- What a round comes to whose source gave these pieces.
pub record RoundsBy (old : HeldBytes) (number : ℕ) (checked : Checked) (pieces : List (List ℕ)) (result : Result Checked Verified) (new : HeldBytes) : Type 0 where
  pub goes : IfOk result (λ next. (text left now : List ℕ) → MayGive left pieces now → RoundBegins text old left number checked → RoundBegins text new now (number + 1) next)
  pub ends : IfErr result (λ answer. (text left now : List ℕ) → MayGive left pieces now → RoundBegins text old left number checked → IsRightOf text now answer)
  pub went : IfOk result (λ _. old.over ≡ over.Going)
  pub ended : HasEnd pieces → IfOk result (λ _. new.over ≡ over.Ended)
  pub rests : old.over ≢ over.Going → pieces ≡ []
  pub last : LastAtOpenLine 0 old.pending pieces
  pub failed : result ≡ Err verified.Read → (old.over ≡ over.Going) × (HasEnd pieces → ⊥) × IsOpenLine 0 (old.pending ++ concat pieces)
