-- The bytes up to the last line feed, line by line.
use Rattle.std.proofs.Common.{◌≡◌, ℕ, true, false, ◌==◌, IsTrue, List, [], ◌∷◌, ◌++◌, refl, ap, sym, ◌∙◌, append_assoc, append-nil}
use Rattle.std.specs.List.{AllByRecursion}
use Rattle.script_lines.specs.Lines.{line_feed}
use Rattle.script_lines.specs.Reader.{is_of_line, IsOpenLine}
use Rattle.script_lines.proofs.FirstLines.{not_feed}
use Rattle.script_runs.specs.Script.{whole_lines_from, whole_lines}

whole-step : (line : List ℕ) (byte : ℕ) (bytes : List ℕ) → (byte == line_feed) ≡ false → whole_lines_from line (byte ∷ bytes) ≡ whole_lines_from (line ++ byte ∷ []) bytes
whole-step line byte bytes other =
    ap (λ b. elim b [ true ↦ line ++ byte ∷ whole_lines_from [] bytes | false ↦ whole_lines_from (line ++ byte ∷ []) bytes ]) other

whole-from : (line text rest : List ℕ) → AllByRecursion (λ byte. IsTrue (is_of_line byte)) text → whole_lines_from line (text ++ rest) ≡ whole_lines_from (line ++ text) rest
whole-from line [] rest plain = rw (append-nil line) refl
whole-from line (byte ∷ text) rest plain =
    whole-step line byte (text ++ rest) (not_feed byte plain.0) ∙ whole-from (line ++ byte ∷ []) text rest plain.1
    ∙ ap (λ l. whole_lines_from l rest) (append_assoc line (byte ∷ []) text)

-- a line and its line feed
pub whole-line : (before : ℕ) (text rest : List ℕ) → IsOpenLine before text → whole_lines (text ++ 10 ∷ rest) ≡ text ++ 10 ∷ whole_lines rest
whole-line before text rest is = whole-from [] text (10 ∷ rest) is.plain

-- a line without one
pub whole-none : (before : ℕ) (text : List ℕ) → IsOpenLine before text → whole_lines text ≡ []
whole-none before text is = ap whole_lines (sym (append-nil text)) ∙ whole-from [] text [] is.plain
