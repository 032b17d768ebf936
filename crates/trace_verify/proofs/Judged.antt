-- What a check tells of a line, by what a checker of it answers.
use Rattle.std.proofs.Common.{◌≡◌, ℕ, ◌+◌, true, false, List, [], ◌∷◌, IsUtf8, Option, Some, None, IsSome, inl, inr, refl, sym, ap, ◌∙◌, subst}
use Rattle.script_lines.specs.Lines.{NumberedLine, LinesEnd, EndOfInput}
use Rattle.trace_file.specs.declared.TraceLine.{TraceLine}
use Rattle.trace_file.specs.Lines.{IsLineOf, trace_line}
use Rattle.trace_check.specs.declared.CheckFault.TheVariants.{Misplaced, Unordered}
use Rattle.trace_check.specs.declared.places.Place.{Place}
use Rattle.trace_check.specs.declared.places.Place.TheVariants.{AtStart, Between, InBatch, InEvents, AtEnd}
use Rattle.trace_check.specs.Places.{place_after}
use Rattle.trace_check.specs.Orderly.{Tracing, traced_on, Keeps}
use Rattle.trace_check.specs.Checked.{Checked, Takes, RefusesLine, without_made}
use Rattle.trace_check.specs.Answers.{TraceAnswer, Yes, No, Bad, Checking, past, taken, is_blank_line, answer_at_end, TellsPlaced, TellsRead, TellsLine, Tells}
use Rattle.trace_check.proofs.Taken.{keeps_on, keeps_back, same_on}
use Rattle.trace_verify.specs.declared.Verified.TheVariants as verified
use Rattle.trace_verify.specs.Rounds.{IsKnown, PassesLine, EndsAtLine}

-- the line that a check comes to
abbrev pub line_at : Checking → List ℕ → NumberedLine
line_at check text = record { number = check.next; text = text }

-- Behind a line that is passed another check stands, and tells what this one does.
pub record IsPast (check : Checking) (text : List ℕ) (later : Checking) : Type 0 where
  pub next : later.next ≡ check.next + 1
  pub there : (lines : List NumberedLine) (last : LinesEnd) (answer : TraceAnswer) → Tells later lines last answer → Tells check (line_at check text ∷ lines) last answer
  pub back : (lines : List NumberedLine) (last : LinesEnd) (answer : TraceAnswer) → Tells check (line_at check text ∷ lines) last answer → Tells later lines last answer

-- a line of blanks
past-blank : (check : Checking) (text : List ℕ) → is_blank_line text ≡ true → IsPast check text (past check check.next)
past-blank check text blank = record {
  next = refl;
  there = λ lines last answer told. subst (TellsLine check (line_at check text) (λ next. Tells next lines last answer) answer) (sym blank) told;
  back = λ lines last answer told. subst (TellsLine check (line_at check text) (λ next. Tells next lines last answer) answer) blank told;
}

-- a line of a trace
past-taken : (check : Checking) (text : List ℕ) (line : TraceLine) (place : Place) → is_blank_line text ≡ false → trace_line check.now.version text ≡ Some line
    → place_after check.now.slots check.place line ≡ Some place → Keeps check.now line → IsPast check text (taken check check.next line place)
past-taken check text line place written read stands keeps = record {
  next = refl;
  there = λ lines last answer told.
      let More : Checking → Type 0 = λ next. Tells next lines last answer in
      let placed = subst (TellsPlaced check check.next line More answer) (sym stands) (inl (keeps, told)) in
      let found = subst (TellsRead check check.next More answer) (sym read) placed in
      subst (TellsLine check (line_at check text) More answer) (sym written) found;
  back = λ lines last answer told.
      let More : Checking → Type 0 = λ next. Tells next lines last answer in
      let found = subst (TellsLine check (line_at check text) More answer) written told in
      let placed = subst (TellsRead check check.next More answer) read found in
      kept lines last answer (subst (TellsPlaced check check.next line More answer) stands placed);
}
  where
    kept : (lines : List NumberedLine) (last : LinesEnd) (answer : TraceAnswer)
        → TellsPlaced check check.next line (λ next. Tells next lines last answer) answer (Some place) → Tells (taken check check.next line place) lines last answer
    kept lines last answer (inl told) = told.1
    kept lines last answer (inr broken) = absurd (broken.0 keeps)

-- where a line may stand by what a checker knows it may by what a check knows
stands-known : (check : Checking) (checked : Checked) (line : TraceLine) (place : Option Place) → IsKnown check checked
    → place_after checked.now.slots checked.place line ≡ place → place_after check.now.slots check.place line ≡ place
stands-known check checked line place known stands =
    subst (λ (p : Place). place_after check.now.slots p line ≡ place) known.place
    (subst (λ (t : Tracing). place_after t.slots checked.place line ≡ place) known.now stands)

-- what a line is by the version that a checker knows it is by the one that a check knows
read-known : (check : Checking) (checked : Checked) (text : List ℕ) (line : TraceLine) → IsKnown check checked
    → trace_line checked.now.version text ≡ Some line → trace_line check.now.version text ≡ Some line
read-known check checked text line known read = subst (λ (t : Tracing). trace_line t.version text ≡ Some line) known.now read

-- What a checker passes a check passes, and the checker knows what it does behind the line too.
pub passed : (check : Checking) (checked : Checked) (text : List ℕ) (next : Checked) → IsKnown check checked → PassesLine checked text next
    → (later : Checking) × IsPast check text later × IsKnown later next
passed check checked text next known (inl (blank, same)) =
    (past check check.next, past-blank check text blank, record { place = ap (λ (c : Checked). c.place) same ∙ known.place; now = ap (λ (c : Checked). c.now) same ∙ known.now })
passed check checked text next known (inr (written, (line, read, takes))) =
    let stands = stands-known check checked line (Some next.place) known takes.may_stand in
    let keeps : Keeps check.now line = keeps_on check.now line (subst (λ (t : Tracing). Keeps t line) known.now takes.keeps) in
    let knows : next.now ≡ without_made (traced_on check.now line) = takes.knows ∙ (ap (λ (t : Tracing). without_made (traced_on t line)) known.now ∙ same_on check.now line) in
    (taken check check.next line next.place, past-taken check text line next.place written (read-known check checked text line known read) stands keeps, record { place = refl; now = knows })

-- a line that is none of a trace, or that may not stand
pub bad-line : (check : Checking) (checked : Checked) (text : List ℕ) (lines : List NumberedLine) (last : LinesEnd) → IsKnown check checked → IsUtf8 text → is_blank_line text ≡ false
    → ((line : TraceLine) → IsLineOf checked.now.version text line → place_after checked.now.slots checked.place line ≡ None) → Tells check (line_at check text ∷ lines) last (Bad check.next)
bad-line check checked text lines last known utf8 written none =
    subst (TellsLine check (line_at check text) (λ next. Tells next lines last (Bad check.next)) (Bad check.next)) (sym written) (by-read (trace_line check.now.version text) refl)
  where
    by-read : (read : Option TraceLine) → trace_line check.now.version text ≡ read → TellsRead check check.next (λ next. Tells next lines last (Bad check.next)) (Bad check.next) read
    by-read None is = refl
    by-read (Some line) is = subst (TellsPlaced check check.next line (λ next. Tells next lines last (Bad check.next)) (Bad check.next)) (sym (stands-known check checked line None known (none line (utf8, subst (λ (t : Tracing). trace_line t.version text ≡ Some line) (sym known.now) is)))) refl

-- a line that breaks the order
pub no-line : (check : Checking) (checked : Checked) (text : List ℕ) (line : TraceLine) (lines : List NumberedLine) (last : LinesEnd) → IsKnown check checked → is_blank_line text ≡ false
    → trace_line checked.now.version text ≡ Some line → RefusesLine checked line Unordered → Tells check (line_at check text ∷ lines) last (No check.next)
no-line check checked text line lines last known written read refuses =
    subst (TellsLine check (line_at check text) (λ next. Tells next lines last (No check.next)) (No check.next)) (sym written)
    (subst (TellsRead check check.next (λ next. Tells next lines last (No check.next)) (No check.next)) (sym (read-known check checked text line known read))
    (placed (place_after checked.now.slots checked.place line) refl refuses.0))
  where
    broken : Keeps check.now line → ⊥
    broken keeps = refuses.1 (subst (λ (t : Tracing). Keeps t line) (sym known.now) (keeps_back check.now line keeps))

    placed : (place : Option Place) → place_after checked.now.slots checked.place line ≡ place → IsSome place
        → TellsPlaced check check.next line (λ next. Tells next lines last (No check.next)) (No check.next) (place_after check.now.slots check.place line)
    placed None is some = absurd (cc)
    placed (Some place) is some = subst (TellsPlaced check check.next line (λ next. Tells next lines last (No check.next)) (No check.next)) (sym (stands-known check checked line (Some place) known is)) (inr (broken, refl))

-- the end of the input behind a last line
pub yes-at-end : (check : Checking) (checked : Checked) (commits writes : ℕ) → IsKnown check checked → checked.place ≡ AtEnd → commits ≡ checked.now.accepted → writes ≡ checked.now.writes
    → Tells check [] EndOfInput (Yes commits writes)
yes-at-end check checked commits writes known last commits_are writes_are =
    let place : check.place ≡ AtEnd = sym known.place ∙ last in
    let c : commits ≡ check.now.accepted = commits_are ∙ ap (λ (t : Tracing). t.accepted) known.now in
    let w : writes ≡ check.now.writes = writes_are ∙ ap (λ (t : Tracing). t.writes) known.now in
    subst (λ p. Yes commits writes ≡ answer_at_end check p) (sym place) (let e : Yes commits writes ≡ Yes check.now.accepted check.now.writes = cc in e)

-- and where none came
pub bad-at-end : (check : Checking) (checked : Checked) → IsKnown check checked → (checked.place ≡ AtEnd → ⊥) → Tells check [] EndOfInput (Bad check.next)
bad-at-end check checked known other = at check.place (λ last. other (known.place ∙ last))
  where
    at : (place : Place) → (place ≡ AtEnd → ⊥) → Bad check.next ≡ answer_at_end check place
    at AtStart other = refl
    at (Between n) other = refl
    at (InBatch n k) other = refl
    at (InEvents n) other = refl
    at AtEnd other = absurd (other refl)

-- ---- what a line is judged as

-- it is none of a trace
pub judged-bad : (checked : Checked) (text : List ℕ) (number : ℕ) → is_blank_line text ≡ false → ((found : TraceLine) → IsLineOf checked.now.version text found → ⊥) → EndsAtLine checked text number (verified.Bad number)
judged-bad checked text number written none = (refl, written, λ found is. absurd (none found is))

-- it may not stand
pub judged-misplaced : (checked : Checked) (text : List ℕ) (number : ℕ) (line : TraceLine) → is_blank_line text ≡ false → IsLineOf checked.now.version text line → RefusesLine checked line Misplaced
    → EndsAtLine checked text number (verified.Bad number)
judged-misplaced checked text number line written read refused = (
  refl,
  written,
  λ found is.
      let same : line ≡ found = (let e : Some line ≡ Some found = sym read.1 ∙ is.1 in cc) in
      subst (λ l. place_after checked.now.slots checked.place l ≡ None) same refused,
)

-- it breaks the order
pub judged-unordered : (checked : Checked) (text : List ℕ) (number : ℕ) (line : TraceLine) → is_blank_line text ≡ false → IsLineOf checked.now.version text line → RefusesLine checked line Unordered
    → EndsAtLine checked text number (verified.No number)
judged-unordered checked text number line written read refused = (refl, written, (line, read.1, refused))

-- it is taken
pub judged-taken : (checked : Checked) (text : List ℕ) (line : TraceLine) (next : Checked) → is_blank_line text ≡ false → IsLineOf checked.now.version text line → Takes checked line next → PassesLine checked text next
judged-taken checked text line next written read takes = inr (written, (line, read.1, takes))
