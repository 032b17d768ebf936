-- Bytes that are counted before a script's first change nothing but where it ends.
use Rattle.std.proofs.Common.{◌≡◌, ◌∙◌, ℕ, ◌+◌, ◌-◌, Bool, true, false, cond, not, ◌==◌, ◌&&◌, nat_le, Some, None, List, [], ◌∷◌, ◌++◌, length, refl, ap, arith}
use Rattle.std.proofs.lemmas.Bool.Decides.{nat_tests}
use Rattle.script_lines.specs.declared.LineFault.TheVariants.{ScriptTooLong, TooLong, BadByte}
use Rattle.script_lines.specs.Lines.{Limits, limits, most_bytes, is_allowed, NumberedLine, byte_fault, line_feed, onto_lines, lines_from, BytesAreTheScripts}
use Rattle.script_lines.proofs.FirstLines.{picks}

-- the limits of a script that may have so many bytes
abbrev own : ℕ → Limits
own most = record { script = most; line = 512 }

same-test : (most ahead before : ℕ) → ahead + most ≡ most_bytes → nat_le most_bytes (ahead + before) ≡ nat_le most before
same-test most ahead before all = go (nat_le most_bytes (ahead + before)) (nat_le most before) refl refl
  where
    go : (a b : Bool) → nat_le most_bytes (ahead + before) ≡ a → nat_le most before ≡ b → a ≡ b
    go true true one other = refl
    go false false one other = refl
    go true false one other = let bad : ⊥ = grind (arith, nat_tests) in absurd bad
    go false true one other = let bad : ⊥ = grind (arith, nat_tests) in absurd bad

same-fault : (most ahead before number in_line byte : ℕ) → ahead + most ≡ most_bytes
    → byte_fault limits (ahead + before) number in_line byte ≡ byte_fault (own most) before number in_line byte
same-fault most ahead before number in_line byte all =
    ap (λ over. cond over (Some (ScriptTooLong number)) (cond (nat_le 512 in_line && not (byte == line_feed)) (Some (TooLong number)) (cond (not (is_allowed byte)) (Some (BadByte number)) None)))
    (same-test most ahead before all)

shifted : (most ahead before number : ℕ) (line bytes : List ℕ) → ahead + most ≡ most_bytes
    → lines_from limits (ahead + before) number line bytes ≡ lines_from (own most) before number line bytes
shifted most ahead before number line [] all = refl
shifted most ahead before number line (byte ∷ bytes) all =
    let next : ahead + before + 1 ≡ ahead + (before + 1) = omega arith in
    let one : NumberedLine = record { number = number; text = line } in
    let feeds = ap (onto_lines one) (ap (λ b. lines_from limits b (number + 1) [] bytes) next ∙ shifted most ahead (before + 1) (number + 1) [] bytes all) in
    let goes = ap (λ b. lines_from limits b number (line ++ byte ∷ []) bytes) next ∙ shifted most ahead (before + 1) number (line ++ byte ∷ []) bytes all in
    ap (λ fault. picks fault (byte == line_feed) (onto_lines one (lines_from limits (ahead + before + 1) (number + 1) [] bytes)) (lines_from limits (ahead + before + 1) number (line ++ byte ∷ []) bytes))
    (same-fault most ahead before number (length line) byte all)
    ∙ ap (λ lines. picks (byte_fault (own most) before number (length line) byte) (byte == line_feed) lines (lines_from limits (ahead + before + 1) number (line ++ byte ∷ []) bytes)) feeds
    ∙ ap (λ lines. picks (byte_fault (own most) before number (length line) byte) (byte == line_feed) (onto_lines one (lines_from (own most) (before + 1) (number + 1) [] bytes)) lines) goes

pub are-the-scripts : BytesAreTheScripts
are-the-scripts most bytes fits =
    let all : (most_bytes - most) + most ≡ most_bytes = omega arith in
    let none : most_bytes - most ≡ (most_bytes - most) + 0 = omega arith in
    ap (λ b. lines_from limits b 1 [] bytes) none ∙ shifted most (most_bytes - most) 0 1 [] bytes all
