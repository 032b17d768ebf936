-- The first line of the bytes to come.
use Rattle.std.proofs.Common.{◌≡◌, ◌≢◌, ◌<◌, ◌≤◌, ◌+◌, ℕ, Bool, true, false, ◌==◌, IsTrue, Option, Some, None, List, [], ◌∷◌, ◌++◌, length, refl, ap, sym, ◌∙◌, append_assoc, append-nil, arith, length-append}
use Rattle.std.specs.List.{AllByRecursion}
use Rattle.std.proofs.lemmas.Bool.Decides.{nat_tests}
use Rattle.script_lines.specs.declared.LineFault.{LineFault}
use Rattle.script_lines.specs.Lines.{Limits, limits, ScriptLines, EndOfInput, Faulty, line_feed, byte_fault, ends_at, onto_lines, last_line, lines_from}
use Rattle.script_lines.specs.Reader.{is_of_line, IsOpenLine}

no_fault : (bounds : Limits) (before number in_line byte : ℕ) → before < bounds.script → in_line < bounds.line → IsTrue (is_of_line byte) → byte_fault bounds before number in_line byte ≡ None
no_fault bounds before number in_line byte room fits of_line = grind (arith, nat_tests)

pub no_fault-feed : (bounds : Limits) (before number in_line : ℕ) → before < bounds.script → byte_fault bounds before number in_line 10 ≡ None
no_fault-feed bounds before number in_line room = grind (arith, nat_tests)

pub not_feed : (byte : ℕ) → IsTrue (is_of_line byte) → (byte == line_feed) ≡ false
not_feed byte of_line = grind (arith, nat_tests)

-- the cases of one byte, which `rw` doesn't find in the definition
abbrev pub picks : Option LineFault → Bool → ScriptLines → ScriptLines → ScriptLines
picks found feed here more = elim found [
  | Some fault ↦ ends_at (Faulty fault)
  | None ↦ elim feed [ true ↦ here | false ↦ more ]
]

lines-byte : (bounds : Limits) (before number : ℕ) (line : List ℕ) (byte : ℕ) (bytes : List ℕ) → byte_fault bounds before number (length line) byte ≡ None → (byte == line_feed) ≡ false
    → lines_from bounds before number line (byte ∷ bytes) ≡ lines_from bounds (before + 1) number (line ++ byte ∷ []) bytes
lines-byte bounds before number line byte bytes sound other =
    let here : ScriptLines = onto_lines (record { number = number; text = line }) (lines_from bounds (before + 1) (number + 1) [] bytes) in
    let more : ScriptLines = lines_from bounds (before + 1) number (line ++ byte ∷ []) bytes in
    ap (λ f. picks f (byte == line_feed) here more) sound ∙ ap (λ b. picks None b here more) other

pub lines-feed : (bounds : Limits) (before number : ℕ) (line bytes : List ℕ) → byte_fault bounds before number (length line) 10 ≡ None
    → lines_from bounds before number line (10 ∷ bytes) ≡ onto_lines (record { number = number; text = line }) (lines_from bounds (before + 1) (number + 1) [] bytes)
lines-feed bounds before number line bytes sound =
    let here : ScriptLines = onto_lines (record { number = number; text = line }) (lines_from bounds (before + 1) (number + 1) [] bytes) in
    let more : ScriptLines = lines_from bounds (before + 1) number (line ++ 10 ∷ []) bytes in
    ap (λ f. picks f true here more) sound

-- a part of one line is read
pub lines-open : (bounds : Limits) (before number : ℕ) (line text rest : List ℕ) → AllByRecursion (λ byte. IsTrue (is_of_line byte)) text
    → length line + length text ≤ bounds.line → before + length text ≤ bounds.script
    → lines_from bounds before number line (text ++ rest) ≡ lines_from bounds (before + length text) number (line ++ text) rest
lines-open bounds before number line [] rest plain fits within =
    let same : before + 0 ≡ before = omega arith in
    rw (same, append-nil line) refl
lines-open bounds before number line (byte ∷ text) rest plain fits within =
    let room : before < bounds.script = omega arith in
    let short : length line < bounds.line = omega arith in
    let fits2 : length (line ++ byte ∷ []) + length text ≤ bounds.line = rw length-append (omega arith) in
    let within2 : (before + 1) + length text ≤ bounds.script = omega arith in
    let more : (before + 1) + length text ≡ before + length (byte ∷ text) = omega arith in
    lines-byte bounds before number line byte (text ++ rest) (no_fault bounds before number (length line) byte room short plain.0) (not_feed byte plain.0)
    ∙ lines-open bounds (before + 1) number (line ++ byte ∷ []) text rest plain.1 fits2 within2
    ∙ ap (λ n. lines_from bounds n number ((line ++ byte ∷ []) ++ text) rest) more
    ∙ ap (λ l. lines_from bounds (before + length (byte ∷ text)) number l rest) (append_assoc line (byte ∷ []) text)

-- a line and its line feed
pub lines-whole : (before number : ℕ) (text rest : List ℕ) → IsOpenLine before text → before + length text < 268435456
    → lines_from limits before number [] (text ++ 10 ∷ rest)
    ≡ onto_lines (record { number = number; text = text }) (lines_from limits (before + length text + 1) (number + 1) [] rest)
lines-whole before number text rest is room =
    let fits : length text ≤ 512 = is.fits in
    let all : 0 + length text ≤ 512 = omega arith in
    lines-open limits before number [] text (10 ∷ rest) is.plain all is.within
    ∙ lines-feed limits (before + length text) number text rest (no_fault-feed limits (before + length text) number (length text) room)

pub last_line-last : (number : ℕ) (text : List ℕ) → (last_line number text).last ≡ EndOfInput
last_line-last number [] = refl
last_line-last number (byte ∷ text) = refl

pub last_line-some : (number : ℕ) (text : List ℕ) → text ≢ [] → last_line number text ≡ onto_lines (record { number = number; text = text }) (ends_at EndOfInput)
last_line-some number [] some = absurd (some refl)
last_line-some number (byte ∷ text) some = refl

lines-all : (before number : ℕ) (text : List ℕ) → IsOpenLine before text → lines_from limits before number [] text ≡ last_line number text
lines-all before number text is =
    let fits : length text ≤ 512 = is.fits in
    let all : 0 + length text ≤ 512 = omega arith in
    ap (lines_from limits before number []) (sym (append-nil text)) ∙ lines-open limits before number [] text [] is.plain all is.within

-- no line feed yet: no fault
pub lines-pending : (before number : ℕ) (text : List ℕ) → IsOpenLine before text → (lines_from limits before number [] text).last ≡ EndOfInput
lines-pending before number text is = ap (λ l. l.last) (lines-all before number text is) ∙ last_line-last number text

-- the last line without one
pub lines-last : (before number : ℕ) (text : List ℕ) → IsOpenLine before text → text ≢ []
    → lines_from limits before number [] text ≡ onto_lines (record { number = number; text = text }) (ends_at EndOfInput)
lines-last before number text is some = lines-all before number text is ∙ last_line-some number text some
