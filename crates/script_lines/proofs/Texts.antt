-- The lines of a text of any length, by those of a reader that begins anew behind each line.
use Rattle.std.proofs.Common.{◌≡◌, ◌≢◌, ◌<◌, ◌≤◌, ◌+◌, ℕ, Bool, true, false, not, ◌==◌, ◌&&◌, nat_le, cond, Option, Some, None, List, [], ◌∷◌, ◌++◌, length, refl, ap, sym, ◌∙◌, append-nil, arith, length-append, subst}
use Rattle.std.proofs.lemmas.Bool.{cond-false}
use Rattle.std.proofs.lemmas.Bool.Decides.{nat_tests}
use Rattle.script_lines.specs.declared.LineFault.{LineFault}
use Rattle.script_lines.specs.declared.LineFault.TheVariants.{Read, ScriptTooLong, TooLong, BadByte}
use Rattle.script_lines.specs.Lines.{Limits, limits, most_bytes, NumberedLine, ScriptLines, EndOfInput, Faulty, line_feed, is_allowed, byte_fault, ends_at, onto_lines, lines_from, text_lines_from, lines_of}
use Rattle.script_lines.specs.Reader.{IsOpenLine}
use Rattle.script_lines.proofs.FirstLines.{picks, no_fault-feed, lines-open, lines-feed, last_line-last, last_line-some}

abbrev bounds : ℕ → Limits
bounds size = record { script = size; line = 512 }

-- a line and its line feed
pub text-whole : (size before number : ℕ) (text rest : List ℕ) → IsOpenLine 0 text → before + length text < size
    → text_lines_from size before number (text ++ 10 ∷ rest) ≡ onto_lines (record { number = number; text = text }) (text_lines_from size (before + length text + 1) (number + 1) rest)
text-whole size before number text rest is room =
    let fits : length text ≤ 512 = is.fits in
    let all : 0 + length text ≤ 512 = omega arith in
    let within : before + length text ≤ size = omega arith in
    lines-open (bounds size) before number [] text (10 ∷ rest) is.plain all within
    ∙ lines-feed (bounds size) (before + length text) number text rest (no_fault-feed (bounds size) (before + length text) number (length text) room)

-- the last line without one
pub text-last : (size before number : ℕ) (text : List ℕ) → IsOpenLine 0 text → before + length text ≤ size → text ≢ []
    → text_lines_from size before number text ≡ onto_lines (record { number = number; text = text }) (ends_at EndOfInput)
text-last size before number text is within some =
    let fits : length text ≤ 512 = is.fits in
    let all : 0 + length text ≤ 512 = omega arith in
    ap (lines_from (bounds size) before number []) (sym (append-nil text))
    ∙ lines-open (bounds size) before number [] text [] is.plain all within ∙ last_line-some number text some

-- ---- a byte that is a fault

-- the fault of a byte in its line
abbrev line_fault : ℕ → ℕ → ℕ → Option LineFault
line_fault number in_line byte =
    cond (nat_le 512 in_line && not (byte == line_feed)) (Some (TooLong number)) (cond (not (is_allowed byte)) (Some (BadByte number)) None)

fault-within : (size before number in_line byte : ℕ) → before < size → byte_fault (bounds size) before number in_line byte ≡ line_fault number in_line byte
fault-within size before number in_line byte room =
    let far : nat_le size before ≡ false = grind (arith, nat_tests) in
    cond-false (nat_le size before) (Some (ScriptTooLong number)) (line_fault number in_line byte) far

-- the same fault in the line of another number
abbrev pub at_line : ℕ → LineFault → LineFault
at_line number Read = Read
at_line number (ScriptTooLong line) = ScriptTooLong number
at_line number (TooLong line) = TooLong number
at_line number (BadByte line) = BadByte number

-- a fault of a line and not of the whole text
abbrev pub IsOfLine : LineFault → Type 0
IsOfLine Read = ⊥
IsOfLine (ScriptTooLong line) = ⊥
IsOfLine (TooLong line) = Unit {0}
IsOfLine (BadByte line) = Unit {0}

fault-of : (a b : LineFault) → ends_at (Faulty a) ≡ ends_at (Faulty b) → a ≡ b
fault-of a b same = let last : Faulty a ≡ Faulty b = ap (λ (l : ScriptLines). l.last) same in cc

no-line : (line : NumberedLine) (rest : ScriptLines) (fault : LineFault) → onto_lines line rest ≡ ends_at (Faulty fault) → ⊥
no-line line rest fault same = let none : line ∷ rest.lines ≡ [] = ap (λ (l : ScriptLines). l.lines) same in absurd (cc)

fault-step : (long bad feed : Bool) (m n : ℕ) (line1 line2 : NumberedLine) (rest1 rest2 more1 more2 : ScriptLines) (fault : LineFault)
    → (long ≡ false → feed ≡ false → more1 ≡ ends_at (Faulty fault) → (more2 ≡ ends_at (Faulty (at_line n fault))) × IsOfLine fault)
    → picks (cond long (Some (TooLong m)) (cond bad (Some (BadByte m)) None)) feed (onto_lines line1 rest1) more1 ≡ ends_at (Faulty fault)
    → (picks (cond long (Some (TooLong n)) (cond bad (Some (BadByte n)) None)) feed (onto_lines line2 rest2) more2 ≡ ends_at (Faulty (at_line n fault))) × IsOfLine fault
fault-step true bad feed m n line1 line2 rest1 rest2 more1 more2 fault later same =
    subst (λ f. (ends_at (Faulty (TooLong n)) ≡ ends_at (Faulty (at_line n f))) × IsOfLine f) (fault-of (TooLong m) fault same) (refl, tt)
fault-step false true feed m n line1 line2 rest1 rest2 more1 more2 fault later same =
    subst (λ f. (ends_at (Faulty (BadByte n)) ≡ ends_at (Faulty (at_line n f))) × IsOfLine f) (fault-of (BadByte m) fault same) (refl, tt)
fault-step false false true m n line1 line2 rest1 rest2 more1 more2 fault later same = absurd (no-line line1 rest1 fault same)
fault-step false false false m n line1 line2 rest1 rest2 more1 more2 fault later same = later refl refl same

shorter : (in_line byte : ℕ) → (nat_le 512 in_line && not (byte == line_feed)) ≡ false → (byte == line_feed) ≡ false → in_line < 512
shorter in_line byte long other = grind (arith, nat_tests)

fault-from : (size before m n : ℕ) (line bytes : List ℕ) (fault : LineFault) → length line ≤ 512 → before + length bytes ≤ size
    → lines_from limits (length line) m line bytes ≡ ends_at (Faulty fault)
    → (lines_from (bounds size) before n line bytes ≡ ends_at (Faulty (at_line n fault))) × IsOfLine fault
fault-from size before m n line [] fault short room same =
    let bad : EndOfInput ≡ Faulty fault = sym (last_line-last m line) ∙ ap (λ (l : ScriptLines). l.last) same in absurd (cc)
fault-from size before m n line (byte ∷ bytes) fault short room same =
    let inside : length line < 268435456 = omega arith in
    let here : before < size = omega arith in
    let one : ScriptLines = onto_lines (record { number = m; text = line }) (lines_from limits (length line + 1) (m + 1) [] bytes) in
    let two : ScriptLines = onto_lines (record { number = n; text = line }) (lines_from (bounds size) (before + 1) (n + 1) [] bytes) in
    let first : ScriptLines = lines_from limits (length line + 1) m (line ++ byte ∷ []) bytes in
    let second : ScriptLines = lines_from (bounds size) (before + 1) n (line ++ byte ∷ []) bytes in
    let read : picks (line_fault m (length line) byte) (byte == line_feed) one first ≡ ends_at (Faulty fault) =
    ap (λ f. picks f (byte == line_feed) one first) (sym (fault-within 268435456 (length line) m (length line) byte inside)) ∙ same in
    let step = fault-step (nat_le 512 (length line) && not (byte == line_feed)) (not (is_allowed byte)) (byte == line_feed) m n
    (record { number = m; text = line }) (record { number = n; text = line }) (lines_from limits (length line + 1) (m + 1) [] bytes) (lines_from (bounds size) (before + 1) (n + 1) [] bytes) first second fault
    (λ long other later.
    let less : length line < 512 = shorter (length line) byte long other in
    let size_is : length (line ++ byte ∷ []) ≡ length line + 1 = length-append line (byte ∷ []) in
    let fits : length (line ++ byte ∷ []) ≤ 512 = omega arith in
    let within : (before + 1) + length bytes ≤ size = omega arith in
    fault-from size (before + 1) m n (line ++ byte ∷ []) bytes fault fits within
    (ap (λ b. lines_from limits b m (line ++ byte ∷ []) bytes) size_is ∙ later)) read in
    (ap (λ f. picks f (byte == line_feed) two second) (fault-within size before n (length line) byte here) ∙ step.0, step.1)

-- Where the first line of a script is at fault, the same line of a text is, by its own number; and it is no fault of the
-- whole text.
pub text-fault : (size before number : ℕ) (bytes : List ℕ) (fault : LineFault) → before + length bytes ≤ size → lines_of most_bytes bytes ≡ ends_at (Faulty fault)
    → (text_lines_from size before number bytes ≡ ends_at (Faulty (at_line number fault))) × IsOfLine fault
text-fault size before number bytes fault room same =
    let none : length {A = ℕ} [] ≤ 512 = omega arith in
    fault-from size before 1 number [] bytes fault none room same

-- a byte 0 behind a part of a line is a fault
pub text-bad : (size before number : ℕ) (text : List ℕ) → IsOpenLine 0 text → before + length text < size
    → (fault : LineFault) × (text_lines_from size before number (text ++ 0 ∷ []) ≡ ends_at (Faulty fault))
text-bad size before number text is room =
    let fits : length text ≤ 512 = is.fits in
    let all : 0 + length text ≤ 512 = omega arith in
    let within : before + length text ≤ size = omega arith in
    let here : ScriptLines = onto_lines (record { number = number; text = text }) (lines_from (bounds size) (before + length text + 1) (number + 1) [] []) in
    let more : ScriptLines = lines_from (bounds size) (before + length text + 1) number (text ++ 0 ∷ []) [] in
    let opened = lines-open (bounds size) before number [] text (0 ∷ []) is.plain all within in
    let read = ap (λ f. picks f false here more) (fault-within size (before + length text) number (length text) 0 room) in
    let bad = bad-zero (nat_le 512 (length text) && true) number here more in
    (bad.0, opened ∙ read ∙ bad.1)
  where
    bad-zero : (long : Bool) (number : ℕ) (here more : ScriptLines)
        → (fault : LineFault) × (picks (cond long (Some (TooLong number)) (Some (BadByte number))) false here more ≡ ends_at (Faulty fault))
    bad-zero true number here more = (TooLong number, refl)
    bad-zero false number here more = (BadByte number, refl)
