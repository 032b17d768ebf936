-- One answer is told of a text, and no other.
use Rattle.std.proofs.Common.{◌≡◌, ℕ, Bool, true, false, List, [], ◌∷◌, Option, Some, None, inl, inr, sym, ◌∙◌}
use Rattle.script_lines.specs.Lines.{NumberedLine, LinesEnd, EndOfInput, Faulty, text_lines}
use Rattle.trace_file.specs.declared.TraceLine.{TraceLine}
use Rattle.trace_file.specs.Lines.{trace_line}
use Rattle.trace_check.specs.declared.places.Place.{Place}
use Rattle.trace_check.specs.Places.{place_after}
use Rattle.trace_check.specs.Answers.{TraceAnswer, Checking, unchecked, is_blank_line, past, taken, TellsPlaced, TellsRead, TellsLine, Tells, AnswersAreOne}

module _ (lines : List NumberedLine) (last : LinesEnd) (a b : TraceAnswer) (later : (next : Checking) → Tells next lines last a → Tells next lines last b → a ≡ b) where
  one_placed : (check : Checking) (number : ℕ) (line : TraceLine) (place : Option Place)
      → TellsPlaced check number line (λ next. Tells next lines last a) a place → TellsPlaced check number line (λ next. Tells next lines last b) b place → a ≡ b
  one_placed check number line None x y = x ∙ sym y
  one_placed check number line (Some place) (inl x) (inl y) = later (taken check number line place) x.1 y.1
  one_placed check number line (Some place) (inl x) (inr y) = absurd (y.0 x.0)
  one_placed check number line (Some place) (inr x) (inl y) = absurd (x.0 y.0)
  one_placed check number line (Some place) (inr x) (inr y) = x.1 ∙ sym y.1

  one_read : (check : Checking) (number : ℕ) (read : Option TraceLine)
      → TellsRead check number (λ next. Tells next lines last a) a read → TellsRead check number (λ next. Tells next lines last b) b read → a ≡ b
  one_read check number None x y = x ∙ sym y
  one_read check number (Some line) x y = one_placed check number line (place_after check.now.slots check.place line) x y

  one_line : (check : Checking) (line : NumberedLine) (blank : Bool)
      → TellsLine check line (λ next. Tells next lines last a) a blank → TellsLine check line (λ next. Tells next lines last b) b blank → a ≡ b
  one_line check line true x y = later (past check line.number) x y
  one_line check line false x y = one_read check line.number (trace_line check.now.version line.text) x y

-- from where a check stands
pub one_told : (last : LinesEnd) (lines : List NumberedLine) (check : Checking) (a b : TraceAnswer) → Tells check lines last a → Tells check lines last b → a ≡ b
one_told EndOfInput [] check a b x y = x ∙ sym y
one_told (Faulty fault) [] check a b x y = x ∙ sym y
one_told last (line ∷ lines) check a b x y =
    one_line lines last a b (λ next. one_told last lines next a b) check line (is_blank_line line.text) x y

pub answers_are_one : AnswersAreOne
answers_are_one bytes a b x y = one_told (text_lines bytes).last (text_lines bytes).lines unchecked a b x y
