-- What is told of a text, where a line of it, its end or a fault comes.
use Rattle.std.proofs.Common.{◌≡◌, ◌≢◌, ◌<◌, ◌≤◌, ◌+◌, ℕ, List, [], ◌∷◌, ◌++◌, length, IsTrue, IsUtf8, refl, sym, ap, subst, arith, length-append}
use Rattle.std.specs.List.{AllByRecursion}
use Rattle.std.proofs.lemmas.Str.{IsUtf8-from_ascii}
use Rattle.std.specs.Prelude.{IsAscii}
use Rattle.std.proofs.lemmas.Str.Ascii.{IsAscii-nil, IsAscii-cons}
use Rattle.std.proofs.lemmas.Bool.Decides.{nat_tests}
use Rattle.script_lines.specs.declared.LineFault.{LineFault}
use Rattle.script_lines.specs.Lines.{NumberedLine, LinesEnd, ScriptLines, EndOfInput, Faulty, ends_at, onto_lines, lines_of, most_bytes, text_lines_from}
use Rattle.script_lines.specs.Reader.{IsOpenLine, is_of_line}
use Rattle.script_lines.proofs.Texts.{text-whole, text-last, text-fault, at_line, IsOfLine}
use Rattle.trace_check.specs.Answers.{TraceAnswer, Unread, Checking, Tells, IsTraceAnswer}
use Rattle.trace_verify.specs.Rounds.{TellsLines, IsBehind}
use Rattle.trace_verify.proofs.Judged.{IsPast, line_at}

-- the bytes of a line are ASCII
small : (byte : ℕ) → IsTrue (is_of_line byte) → byte < 128
small byte is = grind (arith, nat_tests)

plain-ascii : (text : List ℕ) → AllByRecursion (λ byte. IsTrue (is_of_line byte)) text → IsAscii text
plain-ascii [] plain = IsAscii-nil
plain-ascii (byte ∷ text) plain = IsAscii-cons byte text (small byte plain.0) (plain-ascii text plain.1)

pub plain-utf8 : (before : ℕ) (text : List ℕ) → IsOpenLine before text → IsUtf8 text
plain-utf8 before text is = IsUtf8-from_ascii text (plain-ascii text is.plain)

-- an open line is one from wherever it begins
pub open-anew : (before : ℕ) (text : List ℕ) → before ≡ 0 → IsOpenLine before text → IsOpenLine 0 text
open-anew before text none is = subst (λ b. IsOpenLine b text) none is

-- ---- a line comes

-- the rest of a text begins with a line, and these come behind it
abbrev pub BeginsWith : List ℕ → ℕ → Checking → List ℕ → List ℕ → ScriptLines → Type 0
BeginsWith text done check rest line later = text_lines_from (length text) done check.next rest ≡ onto_lines (line_at check line) later

-- with its line feed
pub begins-whole : (text : List ℕ) (done : ℕ) (check : Checking) (line rest : List ℕ) → IsBehind text done check (line ++ 10 ∷ rest) → IsOpenLine 0 line
    → BeginsWith text done check (line ++ 10 ∷ rest) line (text_lines_from (length text) (done + length line + 1) (check.next + 1) rest)
begins-whole text done check line rest is opened =
    let size = is.size in
    let long = length-append line (10 ∷ rest) in
    let room : done + length line < length text = omega (arith, size, long) in
    text-whole (length text) done check.next line rest opened room

-- or without one
pub begins-last : (text : List ℕ) (done : ℕ) (check : Checking) (line : List ℕ) → IsBehind text done check line → IsOpenLine 0 line → line ≢ []
    → BeginsWith text done check line line (ends_at EndOfInput)
begins-last text done check line is opened some =
    let size = is.size in
    let room : done + length line ≤ length text = omega (arith, size) in
    text-last (length text) done check.next line opened room some

-- what is told at it is told of the text
pub told-here : (text : List ℕ) (done : ℕ) (check : Checking) (rest line : List ℕ) (later : ScriptLines) (answer : TraceAnswer) → IsBehind text done check rest
    → BeginsWith text done check rest line later → ((lines : List NumberedLine) (last : LinesEnd) → Tells check (line_at check line ∷ lines) last answer) → IsTraceAnswer text answer
told-here text done check rest line later answer is begins told =
    is.there answer (subst (λ l. TellsLines check l answer) (sym begins) (told later.lines later.last))

-- behind it
pub behind-whole : (text : List ℕ) (done : ℕ) (check later : Checking) (line rest : List ℕ) → IsBehind text done check (line ++ 10 ∷ rest) → IsOpenLine 0 line → IsPast check line later
    → IsBehind text (done + length line + 1) later rest
behind-whole text done check later line rest is opened past =
    let begins = begins-whole text done check line rest is opened in
    let size = is.size in
    let long = length-append line (10 ∷ rest) in
    let here : ScriptLines = text_lines_from (length text) (done + length line + 1) (check.next + 1) rest in
    let number = ap (λ n. text_lines_from (length text) (done + length line + 1) n rest) past.next in
    record {
      size = omega (arith, size, long);
      there = λ answer told.
          is.there answer (subst (λ l. TellsLines check l answer) (sym begins) (past.there here.lines here.last answer (subst (λ l. TellsLines later l answer) number told)));
      back = λ answer told.
          subst (λ l. TellsLines later l answer) (sym number) (past.back here.lines here.last answer (subst (λ l. TellsLines check l answer) begins (is.back answer told)));
    }

pub behind-last : (text : List ℕ) (done : ℕ) (check later : Checking) (line : List ℕ) → IsBehind text done check line → IsOpenLine 0 line → line ≢ [] → IsPast check line later
    → IsBehind text (done + length line) later []
behind-last text done check later line is opened some past =
    let begins = begins-last text done check line is opened some in
    let size = is.size in
    record {
      size = omega (arith, size);
      there = λ answer told. is.there answer (subst (λ l. TellsLines check l answer) (sym begins) (past.there [] EndOfInput answer told));
      back = λ answer told. past.back [] EndOfInput answer (subst (λ l. TellsLines check l answer) begins (is.back answer told));
    }

-- ---- no line comes

pub told-at-end : (text : List ℕ) (done : ℕ) (check : Checking) (rest : List ℕ) (answer : TraceAnswer) → IsBehind text done check rest → rest ≡ [] → Tells check [] EndOfInput answer → IsTraceAnswer text answer
told-at-end text done check rest answer is none told =
    is.there answer (subst (λ r. TellsLines check (text_lines_from (length text) done check.next r) answer) (sym none) told)

-- a byte at fault
pub told-at-fault : (text : List ℕ) (done : ℕ) (check : Checking) (rest : List ℕ) (fault : LineFault) → IsBehind text done check rest → lines_of most_bytes rest ≡ ends_at (Faulty fault)
    → IsTraceAnswer text (Unread (at_line check.next fault))
told-at-fault text done check rest fault is faulty =
    let size = is.size in
    let room : done + length rest ≤ length text = omega (arith, size) in
    let here = text-fault (length text) done check.next rest fault room faulty in
    is.there (Unread (at_line check.next fault)) (subst (λ l. TellsLines check l (Unread (at_line check.next fault))) (sym here.0) refl)

-- which is one of a line, and not of the whole text
pub fault-of-line : (rest : List ℕ) (fault : LineFault) → lines_of most_bytes rest ≡ ends_at (Faulty fault) → IsOfLine fault
fault-of-line rest fault faulty =
    let room : 0 + length rest ≤ length rest = omega arith in
    (text-fault (length rest) 0 1 rest fault room faulty).1
