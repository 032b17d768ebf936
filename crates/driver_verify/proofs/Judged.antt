-- What is told of a line, by what a judge of it answers.
use Rattle.std.proofs.Common.{◌≡◌, ◌≢◌, ℕ, ◌+◌, true, false, List, [], ◌∷◌, IsUtf8, Option, Some, None, inl, inr, refl, sym, ap, ◌∙◌, subst}
use Rattle.std.specs.Prelude.{IsSome}
use Rattle.script_lines.specs.Lines.{NumberedLine, LinesEnd, EndOfInput}
use Rattle.rule_model.specs.declared.IpVersion.{IpVersion}
use Rattle.trace_check.specs.declared.places.Place.{Place}
use Rattle.trace_check.specs.declared.places.Place.TheVariants.{AtStart, Between, InBatch, InEvents, AtEnd}
use Rattle.trace_check.specs.Answers.{is_blank_line}
use Rattle.driver_trace.specs.declared.Asked.TheVariants.{Nothing}
use Rattle.driver_trace.specs.declared.Compared.{Compared}
use Rattle.driver_trace.specs.declared.DriverLine.{DriverLine}
use Rattle.driver_trace.specs.declared.Leak.{Leak}
use Rattle.driver_trace.specs.DriverLines.{IsDriverLineOf, driver_line}
use Rattle.driver_trace.specs.Judged.{IsHitlessLine, IsLeakAt, asked_by}
use Rattle.driver_trace.specs.Known.{Known, driver_place, known_on}
use Rattle.driver_trace.specs.Told.{DriverAnswer, Hitless, Leaks, NotJudged, Bad, DriverTells, DriverTellsLine, DriverTellsPlaced, DriverTellsRead, Judging, driver_answer_at_end, driver_behind, driver_past}
use Rattle.line_judge.specs.declared.LineFault.TheVariants as fault
use Rattle.line_judge.specs.Followed.{Followed, RefusesLine, Takes}
use Rattle.driver_verify.specs.declared.DriverVerdict.TheVariants as verdict
use Rattle.driver_verify.specs.Rounds.{IsKnown, PassesLine, EndsAtLine}

-- the line that a judgement comes to
abbrev pub line_at : Judging → List ℕ → NumberedLine
line_at judging text = record { number = judging.next; text = text }

-- Behind a line that is passed another judgement stands, and what it tells this one does.
pub record IsPast (by : Compared) (judging : Judging) (text : List ℕ) (later : Judging) : Type 0 where
  pub next : later.next ≡ judging.next + 1
  pub there : (lines : List NumberedLine) (last : LinesEnd) (answer : DriverAnswer) → DriverTells by later lines last answer → DriverTells by judging (line_at judging text ∷ lines) last answer

-- a line of blanks
past-blank : (by : Compared) (judging : Judging) (text : List ℕ) → is_blank_line text ≡ true → IsPast by judging text (driver_past judging judging.next)
past-blank by judging text blank = record {
  next = refl;
  there = λ lines last answer told. subst (DriverTellsLine by judging (line_at judging text) (λ next. DriverTells by next lines last answer) answer) (sym blank) told;
}

-- What is told at a line that is one of a trace and may stand is told there.
module _ (by : Compared) (judging : Judging) (text : List ℕ) (line : DriverLine) (place : Place) (written : is_blank_line text ≡ false) (read : driver_line judging.now.version text ≡ Some line)
    (stands : driver_place judging.now judging.place line ≡ Some place) where
  at_line : (lines : List NumberedLine) (last : LinesEnd) (answer : DriverAnswer)
      → DriverTellsPlaced by judging judging.next line (λ next. DriverTells by next lines last answer) answer (Some place) → DriverTells by judging (line_at judging text ∷ lines) last answer
  at_line lines last answer told =
      let More : Judging → Type 0 = λ next. DriverTells by next lines last answer in
      let placed = subst (DriverTellsPlaced by judging judging.next line More answer) (sym stands) told in
      let found = subst (DriverTellsRead by judging judging.next More answer) (sym read) placed in
      subst (DriverTellsLine by judging (line_at judging text) More answer) (sym written) found

  past-taken : IsHitlessLine by judging.now line → IsPast by judging text (driver_behind judging judging.next line place)
  past-taken hitless = record {
    next = refl;
    there = λ lines last answer told. at_line lines last answer (inl (hitless, told));
  }

  pub at_leak : (leak : Leak) (lines : List NumberedLine) (last : LinesEnd) → IsLeakAt by judging.now line leak → DriverTells by judging (line_at judging text ∷ lines) last (Leaks judging.next leak)
  at_leak leak lines last leaks = at_line lines last (Leaks judging.next leak) (inr (inl (leak, leaks, refl)))

  pub at_unjudged : (lines : List NumberedLine) (last : LinesEnd) → asked_by line ≢ Nothing → DriverTells by judging (line_at judging text ∷ lines) last (NotJudged judging.next)
  at_unjudged lines last asks = at_line lines last (NotJudged judging.next) (inr (inr (asks, refl)))

-- what a judge knows a judgement knows
place-known : (judging : Judging) (judge : Followed) (line : DriverLine) (place : Option Place) → IsKnown judging judge → driver_place judge.now judge.place line ≡ place
    → driver_place judging.now judging.place line ≡ place
place-known judging judge line place known stands =
    subst (λ (p : Place). driver_place judging.now p line ≡ place) known.place (subst (λ (k : Known). driver_place k judge.place line ≡ place) known.now stands)

read-known : (judging : Judging) (judge : Followed) (text : List ℕ) (line : DriverLine) → IsKnown judging judge → driver_line judge.now.version text ≡ Some line → driver_line judging.now.version text ≡ Some line
read-known judging judge text line known read = subst (λ (k : Known). driver_line k.version text ≡ Some line) known.now read

-- What a judge passes a judgement passes, and the judge knows what it does behind the line too.
pub passed : (judging : Judging) (judge : Followed) (text : List ℕ) (next : Followed) → IsKnown judging judge → PassesLine judge text next
    → (later : Judging) × IsPast judge.by judging text later × IsKnown later next
passed judging judge text next known (inl (blank, same)) = (
  driver_past judging judging.next,
  past-blank judge.by judging text blank,
  record { place = ap (λ (j : Followed). j.place) same ∙ known.place; now = ap (λ (j : Followed). j.now) same ∙ known.now },
)
passed judging judge text next known (inr (written, (line, read, takes))) =
    let hitless : IsHitlessLine judge.by judging.now line = subst (λ (k : Known). IsHitlessLine judge.by k line) known.now takes.hitless in (
      driver_behind judging judging.next line next.place,
      past-taken judge.by judging text line next.place written (read-known judging judge text line known read) (place-known judging judge line (Some next.place) known takes.may_stand) hitless,
      record { place = refl; now = takes.knows ∙ ap (λ (k : Known). known_on k line) known.now },
    )

-- and keeps by what it compares
pub passed-by : (judge : Followed) (text : List ℕ) (next : Followed) → PassesLine judge text next → next.by ≡ judge.by
passed-by judge text next (inl (blank, same)) = ap (λ (j : Followed). j.by) same
passed-by judge text next (inr (written, (line, read, takes))) = takes.same

-- a line that is none of a trace, or that may not stand
pub bad-line : (by : Compared) (judging : Judging) (judge : Followed) (text : List ℕ) (lines : List NumberedLine) (last : LinesEnd) → IsKnown judging judge → IsUtf8 text → is_blank_line text ≡ false
    → ((line : DriverLine) → IsDriverLineOf judge.now.version text line → driver_place judge.now judge.place line ≡ None) → DriverTells by judging (line_at judging text ∷ lines) last (Bad judging.next)
bad-line by judging judge text lines last known utf8 written none =
    subst (DriverTellsLine by judging (line_at judging text) (λ next. DriverTells by next lines last (Bad judging.next)) (Bad judging.next)) (sym written) (by-read (driver_line judging.now.version text) refl)
  where
    by-read : (read : Option DriverLine) → driver_line judging.now.version text ≡ read → DriverTellsRead by judging judging.next (λ next. DriverTells by next lines last (Bad judging.next)) (Bad judging.next) read
    by-read None is = refl
    by-read (Some line) is =
        subst (DriverTellsPlaced by judging judging.next line (λ next. DriverTells by next lines last (Bad judging.next)) (Bad judging.next))
        (sym (place-known judging judge line None known (none line (utf8, subst (λ (k : Known). driver_line k.version text ≡ Some line) (sym known.now) is)))) refl

some_place : (found : Option Place) → IsSome found → (place : Place) × (found ≡ Some place)
some_place None some = absurd (let bad : false ≡ true = some in cc)
some_place (Some place) some = (place, refl)

-- a line behind which a packet gets a wrong answer
pub no-line : (judging : Judging) (judge : Followed) (text : List ℕ) (line : DriverLine) (leak : Leak) (lines : List NumberedLine) (last : LinesEnd) → IsKnown judging judge → is_blank_line text ≡ false
    → driver_line judge.now.version text ≡ Some line → IsSome (driver_place judge.now judge.place line) → IsLeakAt judge.by judge.now line leak
    → DriverTells judge.by judging (line_at judging text ∷ lines) last (Leaks judging.next leak)
no-line judging judge text line leak lines last known written read some leaks =
    let at = some_place (driver_place judge.now judge.place line) some in
    at_leak judge.by judging text line at.0 written (read-known judging judge text line known read) (place-known judging judge line (Some at.0) known at.1) leak lines last
    (subst (λ (k : Known). IsLeakAt judge.by k line leak) known.now leaks)

-- or that wasn't judged
pub unjudged-line : (judging : Judging) (judge : Followed) (text : List ℕ) (line : DriverLine) (lines : List NumberedLine) (last : LinesEnd) → IsKnown judging judge → is_blank_line text ≡ false
    → driver_line judge.now.version text ≡ Some line → IsSome (driver_place judge.now judge.place line) → asked_by line ≢ Nothing
    → DriverTells judge.by judging (line_at judging text ∷ lines) last (NotJudged judging.next)
unjudged-line judging judge text line lines last known written read some asks =
    let at = some_place (driver_place judge.now judge.place line) some in
    at_unjudged judge.by judging text line at.0 written (read-known judging judge text line known read) (place-known judging judge line (Some at.0) known at.1) lines last asks

-- the end of the input behind a last line
pub yes-at-end : (by : Compared) (judging : Judging) (judge : Followed) (commits writes : ℕ) → IsKnown judging judge → judge.place ≡ AtEnd → commits ≡ judge.now.commits → writes ≡ judge.now.writes
    → DriverTells by judging [] EndOfInput (Hitless commits writes)
yes-at-end by judging judge commits writes known last commits_are writes_are =
    let place : judging.place ≡ AtEnd = sym known.place ∙ last in
    let c : commits ≡ judging.now.commits = commits_are ∙ ap (λ (k : Known). k.commits) known.now in
    let w : writes ≡ judging.now.writes = writes_are ∙ ap (λ (k : Known). k.writes) known.now in
    subst (λ p. Hitless commits writes ≡ driver_answer_at_end judging p) (sym place) (let e : Hitless commits writes ≡ Hitless judging.now.commits judging.now.writes = cc in e)

-- and where none came
pub bad-at-end : (by : Compared) (judging : Judging) (judge : Followed) → IsKnown judging judge → (judge.place ≡ AtEnd → ⊥) → DriverTells by judging [] EndOfInput (Bad judging.next)
bad-at-end by judging judge known other = at judging.place (λ last. other (known.place ∙ last))
  where
    at : (place : Place) → (place ≡ AtEnd → ⊥) → Bad judging.next ≡ driver_answer_at_end judging place
    at AtStart other = refl
    at (Between n) other = refl
    at (InBatch n k) other = refl
    at (InEvents n) other = refl
    at AtEnd other = absurd (other refl)

-- ---- what a line is judged as

-- it is none of a trace
pub judged-bad : (judge : Followed) (text : List ℕ) (number : ℕ) → is_blank_line text ≡ false → ((found : DriverLine) → IsDriverLineOf judge.now.version text found → ⊥) → EndsAtLine judge text number (verdict.Bad number)
judged-bad judge text number written none = (refl, written, λ found is. absurd (none found is))

-- it may not stand
pub judged-misplaced : (judge : Followed) (text : List ℕ) (number : ℕ) (line : DriverLine) → is_blank_line text ≡ false → IsDriverLineOf judge.now.version text line → RefusesLine judge line fault.Misplaced
    → EndsAtLine judge text number (verdict.Bad number)
judged-misplaced judge text number line written read refused = (
  refl,
  written,
  λ found is.
      let same : line ≡ found = (let e : Some line ≡ Some found = sym read.1 ∙ is.1 in cc) in
      subst (λ l. driver_place judge.now judge.place l ≡ None) same refused,
)

-- a packet gets a wrong answer behind it
pub judged-leak : (judge : Followed) (text : List ℕ) (number : ℕ) (version : IpVersion) (line : DriverLine) (leak : Leak) → is_blank_line text ≡ false → IsDriverLineOf judge.now.version text line
    → RefusesLine judge line (fault.Leaks leak) → EndsAtLine judge text number (verdict.No number version leak)
judged-leak judge text number version line leak written read refused = (refl, written, (line, read.1, refused.0, refused.1))

-- it wasn't judged
pub judged-unsettled : (judge : Followed) (text : List ℕ) (number : ℕ) (line : DriverLine) → is_blank_line text ≡ false → IsDriverLineOf judge.now.version text line → RefusesLine judge line fault.NotJudged
    → EndsAtLine judge text number (verdict.NotJudged number)
judged-unsettled judge text number line written read refused = (refl, written, (line, read.1, refused.0, refused.1))

-- it is taken
pub judged-taken : (judge : Followed) (text : List ℕ) (line : DriverLine) (next : Followed) → is_blank_line text ≡ false → IsDriverLineOf judge.now.version text line → Takes judge line next → PassesLine judge text next
judged-taken judge text line next written read takes = inr (written, (line, read.1, takes))
