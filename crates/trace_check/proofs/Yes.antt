-- A text of which yes is told is an orderly trace.
use Rattle.std.proofs.Common.{◌≡◌, ℕ, ◌+◌, Bool, true, false, List, [], ◌∷◌, length, Option, Some, None, inl, inr, refl, ◌∙◌, subst, arith}
use Rattle.std.specs.List.{AllByRecursion}
use Rattle.script_lines.specs.Lines.{NumberedLine, LinesEnd, EndOfInput, Faulty, text_lines}
use Rattle.rule_model.specs.declared.IpVersion.{IpVersion}
use Rattle.trace_file.specs.declared.TraceLine.{TraceLine}
use Rattle.trace_file.specs.declared.TraceLine.TheVariants.{Head, Commit, Add, Set, Del, Put, Erase, Table, Drain, Done, Refused, End, Fault}
use Rattle.trace_file.specs.Forms.{IsTraceLine}
use Rattle.trace_file.specs.Lines.{trace_line}
use Rattle.trace_file.proofs.LineLimits.{trace_line-is}
use Rattle.trace_file.proofs.EitherVersion.{either_version}
use Rattle.trace_check.specs.declared.places.Place.{Place}
use Rattle.trace_check.specs.declared.places.Place.TheVariants.{AtStart, Between, InBatch, InEvents, AtEnd}
use Rattle.trace_check.specs.Places.{LineKind, Heads, Begins, Changes, Happens, Finishes, Refuses, Ends, kind_of, only_if, place_by, place_after}
use Rattle.trace_check.specs.Orderly.{Tracing, traced_on, Keeps, AllKeepOrder, Follow}
use Rattle.trace_check.specs.Hitless.{commits_in, trace_writes}
use Rattle.trace_check.specs.Answers.{Yes, Checking, unchecked, is_blank_line, past, taken, answer_at_end, TellsPlaced, TellsRead, TellsLine, Tells, version_after, trace_lines, YesIsOrderly}

-- what a yes says from where a check stands
record IsYes (check : Checking) (lines : List NumberedLine) (last : LinesEnd) (commits writes : ℕ) : Type 0 where
  found : List TraceLine
  whole : last ≡ EndOfInput
  read : trace_lines check.now.version lines ≡ Some found
  within : AllByRecursion IsTraceLine found
  follow : Follow check.now check.place found AtEnd
  keeps : AllKeepOrder check.now found
  commits_are : commits ≡ check.now.accepted + length (commits_in check.now found)
  writes_are : writes ≡ check.now.writes + length (trace_writes found)

at_end : (check : Checking) (place : Place) (commits writes : ℕ) → Yes commits writes ≡ answer_at_end check place
    → (place ≡ AtEnd) × (commits ≡ check.now.accepted) × (writes ≡ check.now.writes)
at_end check AtEnd commits writes same = (refl, cc, cc)
at_end check AtStart commits writes same = absurd (cc)
at_end check (Between n) commits writes same = absurd (cc)
at_end check (InBatch n k) commits writes same = absurd (cc)
at_end check (InEvents n) commits writes same = absurd (cc)

-- before the first line nothing was counted
abbrev pub IsCounted : Place → Tracing → Type 0
IsCounted AtStart now = (now.accepted ≡ 0) × (now.writes ≡ 0)
IsCounted (Between n) now = Unit {0}
IsCounted (InBatch n k) now = Unit {0}
IsCounted (InEvents n) now = Unit {0}
IsCounted AtEnd now = Unit {0}

no_test : (test : Bool) (place : Place) (now : Tracing) → IsCounted place now → (next : Place) → only_if test place ≡ Some next → IsCounted next now
no_test true place now is next same = subst (λ p. IsCounted p now) (let e : place ≡ next = cc in e) is
no_test false place now is next same = absurd (cc)

-- behind a line it is past the start
pub counted : (slots : ℕ) (kind : LineKind) (place next : Place) (now : Tracing) → place_by slots place kind ≡ Some next → IsCounted next now
counted slots Heads AtStart next now there = subst (λ p. IsCounted p now) (let e : Between 0 ≡ next = cc in e) tt
counted slots (Begins n) (Between m) next now there = no_test _ (InBatch n 0) now tt next there
counted slots (Refuses n) (Between m) next now there = no_test _ (Between n) now tt next there
counted slots Ends (Between m) next now there = subst (λ p. IsCounted p now) (let e : AtEnd ≡ next = cc in e) tt
counted slots Changes (InBatch n k) next now there = no_test _ (InBatch n (k + 1)) now tt next there
counted slots (Happens slot) (InBatch n k) next now there = no_test _ (InEvents n) now tt next there
counted slots (Finishes m) (InBatch n k) next now there = no_test _ (Between n) now tt next there
counted slots (Happens slot) (InEvents n) next now there = no_test _ (InEvents n) now tt next there
counted slots (Finishes m) (InEvents n) next now there = no_test _ (Between n) now tt next there
counted slots kind place next now there = absurd (cc)

-- a head stands at the start alone
head_place : (slots : ℕ) (place next : Place) → place_by slots place Heads ≡ Some next → place ≡ AtStart
head_place slots AtStart next there = refl
head_place slots (Between m) next there = absurd (cc)
head_place slots (InBatch n k) next there = absurd (cc)
head_place slots (InEvents n) next there = absurd (cc)
head_place slots AtEnd next there = absurd (cc)

-- the counts of commits and writes behind one line more
pub record AreMore (now : Tracing) (line : TraceLine) (lines : List TraceLine) : Type 0 where
  pub commits_more : length (commits_in now (line ∷ lines)) + now.accepted ≡ length (commits_in (traced_on now line) lines) + (traced_on now line).accepted
  pub writes_more : length (trace_writes (line ∷ lines)) + now.writes ≡ length (trace_writes lines) + (traced_on now line).writes

pub more_on : (now : Tracing) (line : TraceLine) (lines : List TraceLine) (place next : Place) → IsCounted place now → place_after now.slots place line ≡ Some next → AreMore now line lines
more_on now (Head version acl bits slots) lines place next is there =
    let zero_counts = subst (λ p. IsCounted p now) (head_place now.slots place next there) is in
    let none = zero_counts.0 in let none_written = zero_counts.1 in
    record { commits_more = omega arith; writes_more = omega arith }
more_on now (Commit n) lines place next is there = record { commits_more = refl; writes_more = refl }
more_on now (Add rule) lines place next is there = record { commits_more = refl; writes_more = refl }
more_on now (Set priority answer) lines place next is there = record { commits_more = refl; writes_more = refl }
more_on now (Del priority) lines place next is there = record { commits_more = refl; writes_more = refl }
more_on now (Put slot entry) lines place next is there = record { commits_more = refl; writes_more = omega arith }
more_on now (Erase slot) lines place next is there = record { commits_more = refl; writes_more = omega arith }
more_on now (Table field port word) lines place next is there = record { commits_more = refl; writes_more = omega arith }
more_on now Drain lines place next is there = record { commits_more = refl; writes_more = refl }
more_on now (Done n) lines place next is there = record { commits_more = omega arith; writes_more = refl }
more_on now (Refused n) lines place next is there = record { commits_more = refl; writes_more = refl }
more_on now (End writes) lines place next is there = record { commits_more = refl; writes_more = refl }
more_on now (Fault line) lines place next is there = record { commits_more = refl; writes_more = refl }

-- the version is the one that a line leaves
pub version_on : (now : Tracing) (line : TraceLine) → (traced_on now line).version ≡ version_after now.version line
version_on now (Head version acl bits slots) = refl
version_on now (Commit n) = refl
version_on now (Add rule) = refl
version_on now (Set priority answer) = refl
version_on now (Del priority) = refl
version_on now (Put slot entry) = refl
version_on now (Erase slot) = refl
version_on now (Table field port word) = refl
version_on now Drain = refl
version_on now (Done n) = refl
version_on now (Refused n) = refl
version_on now (End writes) = refl
version_on now (Fault line) = refl

one_read : (version : IpVersion) (line : NumberedLine) (lines : List NumberedLine) (found : TraceLine) (rest : List TraceLine) → is_blank_line line.text ≡ false
    → trace_line version line.text ≡ Some found → trace_lines (version_after version found) lines ≡ Some rest → trace_lines version (line ∷ lines) ≡ Some (found ∷ rest)
one_read version line lines found rest is first later = rw (is, first, later) refl

module _ (last : LinesEnd) (commits writes : ℕ) where
  abbrev More : List NumberedLine → Checking → Type 0
  More lines next = Tells next lines last (Yes commits writes)

  placed : (check : Checking) (number : ℕ) (line : TraceLine) (lines : List NumberedLine) (place : Option Place) → place_after check.now.slots check.place line ≡ place
      → TellsPlaced check number line (More lines) (Yes commits writes) place
      → (next : Place) × (place_after check.now.slots check.place line ≡ Some next) × Keeps check.now line × More lines (taken check number line next)
  placed check number line lines None there told = absurd (cc)
  placed check number line lines (Some next) there (inl told) = (next, there, told.0, told.1)
  placed check number line lines (Some next) there (inr told) = absurd (let e = told.1 in cc)

  found_in : (check : Checking) (number : ℕ) (lines : List NumberedLine) (read : Option TraceLine) → TellsRead check number (More lines) (Yes commits writes) read
      → (line : TraceLine) × (read ≡ Some line) × TellsPlaced check number line (More lines) (Yes commits writes) (place_after check.now.slots check.place line)
  found_in check number lines None told = absurd (cc)
  found_in check number lines (Some line) told = (line, refl, told)

  yes_line : (check : Checking) (line : NumberedLine) (lines : List NumberedLine) (blank : Bool) → IsCounted check.place check.now
      → ((next : Checking) → IsCounted next.place next.now → More lines next → IsYes next lines last commits writes)
      → is_blank_line line.text ≡ blank → TellsLine check line (More lines) (Yes commits writes) blank → IsYes check (line ∷ lines) last commits writes
  yes_line check line lines true start rest is told =
      let y = rest (past check line.number) start told in
      record { found = y.found; whole = y.whole; read = rw is y.read; within = y.within; follow = y.follow; keeps = y.keeps; commits_are = y.commits_are; writes_are = y.writes_are }
  yes_line check line lines false start rest is told =
      let f = found_in check line.number lines (trace_line check.now.version line.text) told in
      let p = placed check line.number f.0 lines (place_after check.now.slots check.place f.0) refl f.2 in
      let y = rest (taken check line.number f.0 p.0) (counted check.now.slots (kind_of f.0) check.place p.0 (traced_on check.now f.0) p.1) p.3 in
      let more = more_on check.now f.0 y.found check.place p.0 start p.1 in
      let commits_more = more.commits_more in
      let writes_more = more.writes_more in
      let c = y.commits_are in
      let w = y.writes_are in
      record {
        found = f.0 ∷ y.found;
        whole = y.whole;
        read = one_read check.now.version line lines f.0 y.found is f.1 (subst (λ v. trace_lines v lines ≡ Some y.found) (version_on check.now f.0) y.read);
        within = (either_version check.now.version f.0 (trace_line-is check.now.version line.text f.0 f.1), y.within);
        follow = (p.0, p.1, y.follow);
        keeps = (p.2, y.keeps);
        commits_are = omega arith;
        writes_are = omega arith;
      }

yes_from : (last : LinesEnd) (commits writes : ℕ) (lines : List NumberedLine) (check : Checking) → IsCounted check.place check.now → Tells check lines last (Yes commits writes) → IsYes check lines last commits writes
yes_from EndOfInput commits writes [] check start told =
    let e = at_end check check.place commits writes told in
    let c = e.1 in let w = e.2 in
    record { found = []; whole = refl; read = refl; within = tt; follow = e.0; keeps = tt; commits_are = omega arith; writes_are = omega arith }
yes_from (Faulty fault) commits writes [] check start told = absurd (cc)
yes_from last commits writes (line ∷ lines) check start told =
    yes_line last commits writes check line lines (is_blank_line line.text) start (yes_from last commits writes lines) refl told

pub yes_is_orderly : YesIsOrderly
yes_is_orderly bytes commits writes told =
    let y = yes_from (text_lines bytes).last commits writes (text_lines bytes).lines unchecked (refl, refl) told in
    record {
      lines = y.found;
      whole = y.whole;
      read = y.read;
      within = y.within;
      trace = y.follow;
      orderly = y.keeps;
      commits_are = y.commits_are ∙ (let e : 0 + length (commits_in unchecked.now y.found) ≡ length (commits_in unchecked.now y.found) = omega arith in e);
      writes_are = y.writes_are ∙ (let e : 0 + length (trace_writes y.found) ≡ length (trace_writes y.found) = omega arith in e);
    }
