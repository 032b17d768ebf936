-- What is told of a trace: that it is orderly, or the first line that isn't, or that is no line of one or may not stand there.
use Rattle.std.specs.Prelude.{◌≡◌, ℕ, ◌+◌, ◌⊎◌, Bool, true, false, ◌==◌, ◌||◌, Option, Some, None, option_map, option_and_then, List, [], ◌∷◌, length, if◌then◌else◌}
use Rattle.std.specs.List.{list_all, AllByRecursion}
use Rattle.script_lines.specs.Lines.{NumberedLine, LinesEnd, EndOfInput, Faulty, text_lines}
use Rattle.script_lines.specs.declared.LineFault.{LineFault}
use Rattle.rule_model.specs.declared.IpVersion.{IpVersion}
use Rattle.rule_model.specs.declared.IpVersion.TheVariants.{V4}
use Rattle.trace_file.specs.declared.TraceLine.{TraceLine}
use Rattle.trace_file.specs.declared.TraceLine.TheVariants.{Head}
use Rattle.trace_file.specs.Lines.{trace_line}
use Rattle.trace_check.specs.declared.places.Place.{Place}
use Rattle.trace_check.specs.declared.places.Place.TheVariants.{AtStart, AtEnd}
use Rattle.trace_check.specs.Places.{place_after}
use Rattle.trace_check.specs.Orderly.{Tracing, untraced, traced_on, Keeps, IsTrace, IsOrderly}
use Rattle.trace_check.specs.Hitless.{commits_of, trace_writes, AreHitless}
use Rattle.trace_file.specs.Forms.{IsTraceLine}

-- what is told of a trace
pub data TraceAnswer : Type 0 where
  -- it is orderly: the accepted commits, and the device writes
  Yes : (commits writes : ℕ) → TraceAnswer
  -- the first line that breaks the order
  No : (line : ℕ) → TraceAnswer
  -- the first line that is none of a trace, or that may not stand there
  Bad : (line : ℕ) → TraceAnswer
  -- a byte at fault, as in a script
  Unread : (fault : LineFault) → TraceAnswer

-- where a check stands: the place in the trace, what is known, and the number of the next line of the input
pub record Checking : Type 0 where
  pub place : Place
  pub now : Tracing
  pub next : ℕ

-- before the first line
abbrev pub unchecked : Checking
unchecked = record { place = AtStart; now = untraced; next = 1 }

-- a line is skipped where it has blanks alone: spaces, tabs and carriage returns
abbrev pub is_blank_line : List ℕ → Bool
is_blank_line text = list_all (λ byte. (byte == 32) || (byte == 9) || (byte == 13)) text

-- behind the line of this number
abbrev pub past : Checking → ℕ → Checking
past check number = record check { next = number + 1 }

-- behind a line that was taken
abbrev pub taken : Checking → ℕ → TraceLine → Place → Checking
taken check number line place = record { place = place; now = traced_on check.now line; next = number + 1 }

-- where the input ends behind a last line, the trace is orderly; else a last line is missing, which has the next number
abbrev pub answer_at_end : Checking → Place → TraceAnswer
answer_at_end check AtEnd = Yes check.now.accepted check.now.writes
answer_at_end check place = Bad check.next

-- a line of a trace breaks the order, or keeps it and more is told; or it may not stand
abbrev pub TellsPlaced : Checking → ℕ → TraceLine → (Checking → Type 0) → TraceAnswer → Option Place → Type 0
TellsPlaced check number line More answer None = answer ≡ Bad number
TellsPlaced check number line More answer (Some place) =
    (Keeps check.now line × More (taken check number line place)) ⊎ ((Keeps check.now line → ⊥) × (answer ≡ No number))

-- a line is one of a trace, or isn't
abbrev pub TellsRead : Checking → ℕ → (Checking → Type 0) → TraceAnswer → Option TraceLine → Type 0
TellsRead check number More answer None = answer ≡ Bad number
TellsRead check number More answer (Some line) =
    TellsPlaced check number line More answer (place_after check.now.slots check.place line)

-- a line is skipped, or read
abbrev pub TellsLine : Checking → NumberedLine → (Checking → Type 0) → TraceAnswer → Bool → Type 0
TellsLine check line More answer true = More (past check line.number)
TellsLine check line More answer false = TellsRead check line.number More answer (trace_line check.now.version line.text)

-- What is told, from where a check stands, by the lines still to come and how they end.
abbrev pub Tells : Checking → List NumberedLine → LinesEnd → TraceAnswer → Type 0
Tells check [] EndOfInput answer = answer ≡ answer_at_end check check.place
Tells check [] (Faulty fault) answer = answer ≡ Unread fault
Tells check (line ∷ lines) last answer =
    TellsLine check line (λ next. Tells next lines last answer) answer (is_blank_line line.text)

-- What is told of some bytes, however many.
abbrev pub IsTraceAnswer : List ℕ → TraceAnswer → Type 0
IsTraceAnswer bytes answer = Tells unchecked (text_lines bytes).lines (text_lines bytes).last answer

-- the version by which the lines behind a line are read: a head tells it, and all others keep it
abbrev pub version_after : IpVersion → TraceLine → IpVersion
version_after version (Head family acl bits slots) = family
version_after version line = version

-- the lines of a trace of this version in some lines of text, those with blanks alone left out; None where one is no line
-- of such a trace
abbrev pub trace_lines : IpVersion → List NumberedLine → Option (List TraceLine)
trace_lines version [] = Some []
trace_lines version (line ∷ lines) =
    if is_blank_line line.text then trace_lines version lines
    else option_and_then (λ found. option_map (λ rest. found ∷ rest) (trace_lines (version_after version found) lines)) (trace_line version line.text)

-- The lines of a whole trace: its first one is a head, which has one form in either version.
abbrev pub whole_lines : List NumberedLine → Option (List TraceLine)
whole_lines lines = trace_lines V4 lines

-- What a yes says: the input was read to its end, its lines are a trace, and orderly, with so many commits and writes.
pub record IsOrderlyText (bytes : List ℕ) (commits writes : ℕ) : Type 0 where
  pub lines : List TraceLine
  pub whole : (text_lines bytes).last ≡ EndOfInput
  pub read : whole_lines (text_lines bytes).lines ≡ Some lines
  pub within : AllByRecursion IsTraceLine lines
  pub trace : IsTrace lines
  pub orderly : IsOrderly lines
  pub commits_are : commits ≡ length (commits_of lines)
  pub writes_are : writes ≡ length (trace_writes lines)

-- yes is told exactly of such a text
abbrev pub YesIsOrderly : Type 0
YesIsOrderly = (bytes : List ℕ) (commits writes : ℕ) → IsTraceAnswer bytes (Yes commits writes) → IsOrderlyText bytes commits writes

-- no two answers are told of one text
abbrev pub AnswersAreOne : Type 0
AnswersAreOne = (bytes : List ℕ) (a b : TraceAnswer) → IsTraceAnswer bytes a → IsTraceAnswer bytes b → a ≡ b

-- and each commit of such a text is hitless for every key
abbrev pub YesIsHitless : Type 0
YesIsHitless =
    (bytes : List ℕ) (commits writes : ℕ) → IsTraceAnswer bytes (Yes commits writes)
    → (text : IsOrderlyText bytes commits writes) × AreHitless (commits_of text.lines)

-- and an orderly trace gets yes, by whatever numbers its lines have
abbrev pub OrderlyTracesGetYes : Type 0
OrderlyTracesGetYes =
    (texts : List NumberedLine) (lines : List TraceLine) → whole_lines texts ≡ Some lines → IsTrace lines → IsOrderly lines
    → Tells unchecked texts EndOfInput (Yes (length (commits_of lines)) (length (trace_writes lines)))
