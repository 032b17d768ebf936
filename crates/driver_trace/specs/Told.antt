-- What is told of any driver's trace: that each write is hitless, or the first packet for which it isn't, or the first line
-- that can't be judged, is none of a trace or may not stand there.
use Rattle.std.specs.Prelude.{◌≡◌, ◌≢◌, ◌⊎◌, ℕ, ◌+◌, Bool, true, false, Option, Some, None, option_map, option_and_then, List, [], ◌∷◌, ◌++◌, if◌then◌else◌}
use Rattle.script_lines.specs.Lines.{NumberedLine, LinesEnd, EndOfInput, Faulty, text_lines}
use Rattle.script_lines.specs.declared.LineFault.{LineFault}
use Rattle.rule_model.specs.declared.IpVersion.{IpVersion}
use Rattle.rule_model.specs.declared.IpVersion.TheVariants.{V4}
use Rattle.trace_check.specs.declared.places.Place.{Place}
use Rattle.trace_check.specs.declared.places.Place.TheVariants.{AtStart, AtEnd}
use Rattle.trace_check.specs.Answers.{is_blank_line, version_after}
use Rattle.driver_trace.specs.declared.DriverLine.{DriverLine}
use Rattle.driver_trace.specs.declared.DriverLine.TheVariants.{Common, Move, Back}
use Rattle.driver_trace.specs.declared.Compared.{Compared}
use Rattle.driver_trace.specs.declared.Leak.{Leak}
use Rattle.driver_trace.specs.DriverLines.{driver_line}
use Rattle.driver_trace.specs.Known.{Known, unknown, known_on, driver_place}
use Rattle.driver_trace.specs.declared.Asked.TheVariants.{Nothing}
use Rattle.driver_trace.specs.Judged.{asked_by, IsHitlessLine, AreHitlessLines, IsLeakAt}

-- what is told of a trace
pub data DriverAnswer : Type 0 where
  -- every write is hitless: the commits that came to an end, and the writes
  Hitless : (commits writes : ℕ) → DriverAnswer
  -- the first line behind which a packet gets a wrong answer, and that packet
  Leaks : (line : ℕ) (leak : Leak) → DriverAnswer
  -- a line that wasn't judged; each one before it is hitless
  NotJudged : (line : ℕ) → DriverAnswer
  -- the first line that is none of a trace, or that may not stand there
  Bad : (line : ℕ) → DriverAnswer
  -- a byte at fault, as in a script
  Unread : (fault : LineFault) → DriverAnswer

-- where a judgement stands: the place in the trace, what is known, and the number of the next line of the input
pub record Judging : Type 0 where
  pub place : Place
  pub now : Known
  pub next : ℕ

-- before the first line
abbrev pub unjudged : Judging
unjudged = record { place = AtStart; now = unknown; next = 1 }

-- behind the line of this number, which was skipped,
abbrev pub driver_past : Judging → ℕ → Judging
driver_past judging number = record judging { next = number + 1 }

-- or which is hitless
abbrev pub driver_behind : Judging → ℕ → DriverLine → Place → Judging
driver_behind judging number line place = record { place = place; now = known_on judging.now line; next = number + 1 }

-- where the input ends behind a last line, every write is hitless; else a last line is missing, which has the next number
abbrev pub driver_answer_at_end : Judging → Place → DriverAnswer
driver_answer_at_end judging AtEnd = Hitless judging.now.commits judging.now.writes
driver_answer_at_end judging place = Bad judging.next

-- a line that asks something of the device wasn't judged
abbrev pub IsNotJudged : DriverLine → ℕ → DriverAnswer → Type 0
IsNotJudged line number answer = (asked_by line ≢ Nothing) × (answer ≡ NotJudged number)

-- a packet gets a wrong answer behind a line
abbrev pub IsNo : Compared → Known → DriverLine → ℕ → DriverAnswer → Type 0
IsNo by now line number answer = (leak : Leak) × IsLeakAt by now line leak × (answer ≡ Leaks number leak)

-- a line of a trace is hitless and more is told, or it isn't, or it wasn't judged; or it may not stand
abbrev pub DriverTellsPlaced : Compared → Judging → ℕ → DriverLine → (Judging → Type 0) → DriverAnswer → Option Place → Type 0
DriverTellsPlaced by judging number line More answer None = answer ≡ Bad number
DriverTellsPlaced by judging number line More answer (Some place) =
    (IsHitlessLine by judging.now line × More (driver_behind judging number line place))
    ⊎ (IsNo by judging.now line number answer ⊎ IsNotJudged line number answer)

-- a line is one of a trace, or isn't
abbrev pub DriverTellsRead : Compared → Judging → ℕ → (Judging → Type 0) → DriverAnswer → Option DriverLine → Type 0
DriverTellsRead by judging number More answer None = answer ≡ Bad number
DriverTellsRead by judging number More answer (Some line) =
    DriverTellsPlaced by judging number line More answer (driver_place judging.now judging.place line)

-- a line is skipped, or read
abbrev pub DriverTellsLine : Compared → Judging → NumberedLine → (Judging → Type 0) → DriverAnswer → Bool → Type 0
DriverTellsLine by judging line More answer true = More (driver_past judging line.number)
DriverTellsLine by judging line More answer false =
    DriverTellsRead by judging line.number More answer (driver_line judging.now.version line.text)

-- What is told, from where a judgement stands, by the lines still to come and how they end.
abbrev pub DriverTells : Compared → Judging → List NumberedLine → LinesEnd → DriverAnswer → Type 0
DriverTells by judging [] EndOfInput answer = answer ≡ driver_answer_at_end judging judging.place
DriverTells by judging [] (Faulty fault) answer = answer ≡ Unread fault
DriverTells by judging (line ∷ lines) last answer =
    DriverTellsLine by judging line (λ next. DriverTells by next lines last answer) answer (is_blank_line line.text)

-- What is told of some bytes, however many. Of a text that isn't whole more than one answer may be right: a line may be judged or not.
abbrev pub IsDriverAnswer : Compared → List ℕ → DriverAnswer → Type 0
IsDriverAnswer by bytes answer = DriverTells by unjudged (text_lines bytes).lines (text_lines bytes).last answer

-- the version by which the lines behind a line are read
abbrev pub driver_version_after : IpVersion → DriverLine → IpVersion
driver_version_after version (Common line) = version_after version line
driver_version_after version (Move from to count) = version
driver_version_after version (Back n) = version

-- the lines of a trace of this version in some lines of text, those with blanks alone left out; None where one is no line
-- of such a trace
abbrev pub driver_lines : IpVersion → List NumberedLine → Option (List DriverLine)
driver_lines version [] = Some []
driver_lines version (line ∷ lines) =
    if is_blank_line line.text then driver_lines version lines
    else option_and_then (λ found. option_map (λ rest. found ∷ rest) (driver_lines (driver_version_after version found) lines))
    (driver_line version line.text)

-- lines that may stand one behind the other, from a place to another one
abbrev pub FollowOn : Known → Place → List DriverLine → Place → Type 0
FollowOn now place [] end = place ≡ end
FollowOn now place (line ∷ lines) end =
    (next : Place) × (driver_place now place line ≡ Some next) × FollowOn (known_on now line) next lines end

-- what is known behind some lines
abbrev pub known_past : Known → List DriverLine → Known
known_past now [] = now
known_past now (line ∷ lines) = known_past (known_on now line) lines

-- What a yes says: the input was read to its end, its lines are a trace, and hitless, with so many commits and writes.
pub record IsHitlessDriverText (by : Compared) (bytes : List ℕ) (commits writes : ℕ) : Type 0 where
  pub lines : List DriverLine
  pub whole : (text_lines bytes).last ≡ EndOfInput
  pub read : driver_lines V4 (text_lines bytes).lines ≡ Some lines
  pub trace : FollowOn unknown AtStart lines AtEnd
  pub hitless : AreHitlessLines by unknown lines
  pub commits_are : commits ≡ (known_past unknown lines).commits
  pub writes_are : writes ≡ (known_past unknown lines).writes

-- it is told only of such a text
abbrev pub YesIsHitlessByLines : Type 0
YesIsHitlessByLines =
    (by : Compared) (bytes : List ℕ) (commits writes : ℕ) → IsDriverAnswer by bytes (Hitless commits writes)
    → IsHitlessDriverText by bytes commits writes

-- What a no says: the line of this number is the first behind which a packet gets a wrong answer, and this packet does. The
-- lines before it are the first of a trace, and each of them is hitless.
pub record IsLeakyText (by : Compared) (bytes : List ℕ) (number : ℕ) (leak : Leak) : Type 0 where
  pub front : List NumberedLine
  pub text : NumberedLine
  pub later : List NumberedLine
  pub lines : List DriverLine
  pub line : DriverLine
  pub place : Place
  pub texts_are : (text_lines bytes).lines ≡ front ++ text ∷ later
  pub number_is : text.number ≡ number
  pub read : driver_lines V4 front ≡ Some lines
  pub trace : FollowOn unknown AtStart lines place
  pub hitless : AreHitlessLines by unknown lines
  pub line_is : driver_line (known_past unknown lines).version text.text ≡ Some line
  pub stands : (next : Place) × (driver_place (known_past unknown lines) place line ≡ Some next)
  pub leaks : IsLeakAt by (known_past unknown lines) line leak

-- it is told only of such a text
abbrev pub NoIsALeak : Type 0
NoIsALeak =
    (by : Compared) (bytes : List ℕ) (number : ℕ) (leak : Leak) → IsDriverAnswer by bytes (Leaks number leak) → IsLeakyText by bytes number leak
