-- What is told of a text, where a line of it, its end or a fault comes.
use Rattle.std.proofs.Common.{◌≡◌, ◌≢◌, ◌<◌, ◌≤◌, ◌+◌, ℕ, List, [], ◌∷◌, ◌++◌, length, refl, sym, ap, subst, arith, length-append}
use Rattle.script_lines.specs.declared.LineFault.{LineFault}
use Rattle.script_lines.specs.Lines.{NumberedLine, LinesEnd, ScriptLines, EndOfInput, Faulty, ends_at, onto_lines, lines_of, most_bytes, text_lines_from}
use Rattle.script_lines.specs.Reader.{IsOpenLine}
use Rattle.script_lines.proofs.Texts.{text-whole, text-last, text-fault, at_line}
use Rattle.driver_trace.specs.declared.Compared.{Compared}
use Rattle.driver_trace.specs.Told.{DriverAnswer, Unread, Judging, DriverTells, IsDriverAnswer}
use Rattle.driver_verify.specs.Rounds.{TellsLines, IsBehind}
use Rattle.driver_verify.proofs.Judged.{IsPast, line_at}

-- ---- a line comes

-- the rest of a text begins with a line, and these come behind it
abbrev pub BeginsWith : List ℕ → ℕ → Judging → List ℕ → List ℕ → ScriptLines → Type 0
BeginsWith text done judging rest line later = text_lines_from (length text) done judging.next rest ≡ onto_lines (line_at judging line) later

-- with its line feed
pub begins-whole : (by : Compared) (text : List ℕ) (done : ℕ) (judging : Judging) (line rest : List ℕ) → IsBehind by text done judging (line ++ 10 ∷ rest) → IsOpenLine 0 line
    → BeginsWith text done judging (line ++ 10 ∷ rest) line (text_lines_from (length text) (done + length line + 1) (judging.next + 1) rest)
begins-whole by text done judging line rest is opened =
    let size = is.size in
    let long = length-append line (10 ∷ rest) in
    let room : done + length line < length text = omega (arith, size, long) in
    text-whole (length text) done judging.next line rest opened room

-- or without one
pub begins-last : (by : Compared) (text : List ℕ) (done : ℕ) (judging : Judging) (line : List ℕ) → IsBehind by text done judging line → IsOpenLine 0 line → line ≢ []
    → BeginsWith text done judging line line (ends_at EndOfInput)
begins-last by text done judging line is opened some =
    let size = is.size in
    let room : done + length line ≤ length text = omega (arith, size) in
    text-last (length text) done judging.next line opened room some

-- what is told at it is told of the text
pub told-here : (by : Compared) (text : List ℕ) (done : ℕ) (judging : Judging) (rest line : List ℕ) (later : ScriptLines) (answer : DriverAnswer) → IsBehind by text done judging rest
    → BeginsWith text done judging rest line later → ((lines : List NumberedLine) (last : LinesEnd) → DriverTells by judging (line_at judging line ∷ lines) last answer) → IsDriverAnswer by text answer
told-here by text done judging rest line later answer is begins told =
    is.there answer (subst (λ l. TellsLines by judging l answer) (sym begins) (told later.lines later.last))

-- behind it
pub behind-whole : (by : Compared) (text : List ℕ) (done : ℕ) (judging later : Judging) (line rest : List ℕ) → IsBehind by text done judging (line ++ 10 ∷ rest) → IsOpenLine 0 line → IsPast by judging line later
    → IsBehind by text (done + length line + 1) later rest
behind-whole by text done judging later line rest is opened past =
    let begins = begins-whole by text done judging line rest is opened in
    let size = is.size in
    let long = length-append line (10 ∷ rest) in
    let here : ScriptLines = text_lines_from (length text) (done + length line + 1) (judging.next + 1) rest in
    let number = ap (λ n. text_lines_from (length text) (done + length line + 1) n rest) past.next in
    record {
      size = omega (arith, size, long);
      there = λ answer told.
          is.there answer (subst (λ l. TellsLines by judging l answer) (sym begins) (past.there here.lines here.last answer (subst (λ l. TellsLines by later l answer) number told)));
    }

pub behind-last : (by : Compared) (text : List ℕ) (done : ℕ) (judging later : Judging) (line : List ℕ) → IsBehind by text done judging line → IsOpenLine 0 line → line ≢ [] → IsPast by judging line later
    → IsBehind by text (done + length line) later []
behind-last by text done judging later line is opened some past =
    let begins = begins-last by text done judging line is opened some in
    let size = is.size in
    record {
      size = omega (arith, size);
      there = λ answer told. is.there answer (subst (λ l. TellsLines by judging l answer) (sym begins) (past.there [] EndOfInput answer told));
    }

-- ---- no line comes

pub told-at-end : (by : Compared) (text : List ℕ) (done : ℕ) (judging : Judging) (rest : List ℕ) (answer : DriverAnswer) → IsBehind by text done judging rest → rest ≡ [] → DriverTells by judging [] EndOfInput answer → IsDriverAnswer by text answer
told-at-end by text done judging rest answer is none told =
    is.there answer (subst (λ r. TellsLines by judging (text_lines_from (length text) done judging.next r) answer) (sym none) told)

-- a byte at fault
pub told-at-fault : (by : Compared) (text : List ℕ) (done : ℕ) (judging : Judging) (rest : List ℕ) (fault : LineFault) → IsBehind by text done judging rest → lines_of most_bytes rest ≡ ends_at (Faulty fault)
    → IsDriverAnswer by text (Unread (at_line judging.next fault))
told-at-fault by text done judging rest fault is faulty =
    let size = is.size in
    let room : done + length rest ≤ length text = omega (arith, size) in
    let here = text-fault (length text) done judging.next rest fault room faulty in
    is.there (Unread (at_line judging.next fault)) (subst (λ l. TellsLines by judging l (Unread (at_line judging.next fault))) (sym here.0) refl)
