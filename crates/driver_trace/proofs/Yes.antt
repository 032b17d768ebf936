-- A text of which it is told that every write is hitless has no other.
use Rattle.std.proofs.Common.{◌≡◌, ℕ, Bool, true, false, List, [], ◌∷◌, Option, Some, None, inl, inr, refl, subst}
use Rattle.script_lines.specs.Lines.{NumberedLine, LinesEnd, EndOfInput, Faulty, text_lines}
use Rattle.rule_model.specs.declared.IpVersion.{IpVersion}
use Rattle.trace_file.specs.declared.TraceLine.TheVariants.{Head, Commit, Add, Set, Del, Put, Erase, Table, Drain, Done, Refused, End, Fault}
use Rattle.trace_check.specs.declared.places.Place.{Place}
use Rattle.trace_check.specs.declared.places.Place.TheVariants.{AtStart, Between, InBatch, InEvents, AtEnd}
use Rattle.trace_check.specs.Answers.{is_blank_line}
use Rattle.driver_trace.specs.declared.DriverLine.{DriverLine}
use Rattle.driver_trace.specs.declared.DriverLine.TheVariants.{Common, Move, Back}
use Rattle.driver_trace.specs.declared.Compared.{Compared}
use Rattle.driver_trace.specs.DriverLines.{driver_line}
use Rattle.driver_trace.specs.Known.{Known, known_on, driver_place}
use Rattle.driver_trace.specs.Judged.{IsHitlessLine, AreHitlessLines}
use Rattle.driver_trace.specs.Told.{Hitless, Judging, unjudged, driver_past, driver_behind, driver_answer_at_end, DriverTells, DriverTellsPlaced, DriverTellsRead, DriverTellsLine, driver_version_after, driver_lines, FollowOn, known_past, YesIsHitlessByLines}

-- what is said from where a judgement stands
record IsYes (by : Compared) (judging : Judging) (texts : List NumberedLine) (last : LinesEnd) (commits writes : ℕ) : Type 0 where
  found : List DriverLine
  whole : last ≡ EndOfInput
  read : driver_lines judging.now.version texts ≡ Some found
  follow : FollowOn judging.now judging.place found AtEnd
  hitless : AreHitlessLines by judging.now found
  commits_are : commits ≡ (known_past judging.now found).commits
  writes_are : writes ≡ (known_past judging.now found).writes

at_end : (judging : Judging) (place : Place) (commits writes : ℕ) → Hitless commits writes ≡ driver_answer_at_end judging place
    → (place ≡ AtEnd) × (commits ≡ judging.now.commits) × (writes ≡ judging.now.writes)
at_end judging AtEnd commits writes same = (refl, cc, cc)
at_end judging AtStart commits writes same = absurd (cc)
at_end judging (Between n) commits writes same = absurd (cc)
at_end judging (InBatch n k) commits writes same = absurd (cc)
at_end judging (InEvents n) commits writes same = absurd (cc)

-- the version is the one that a line leaves
pub version_on : (now : Known) (line : DriverLine) → (known_on now line).version ≡ driver_version_after now.version line
version_on now (Common (Head version acl bits slots)) = refl
version_on now (Common (Commit n)) = refl
version_on now (Common (Add rule)) = refl
version_on now (Common (Set priority answer)) = refl
version_on now (Common (Del priority)) = refl
version_on now (Common (Put slot entry)) = refl
version_on now (Common (Erase slot)) = refl
version_on now (Common (Table field port word)) = refl
version_on now (Common Drain) = refl
version_on now (Common (Done n)) = refl
version_on now (Common (Refused n)) = refl
version_on now (Common (End writes)) = refl
version_on now (Common (Fault line)) = refl
version_on now (Move from to count) = refl
version_on now (Back n) = refl

pub one_read : (version : IpVersion) (text : NumberedLine) (texts : List NumberedLine) (found : DriverLine) (rest : List DriverLine) → is_blank_line text.text ≡ false
    → driver_line version text.text ≡ Some found → driver_lines (driver_version_after version found) texts ≡ Some rest → driver_lines version (text ∷ texts) ≡ Some (found ∷ rest)
one_read version text texts found rest is first later = rw (is, first, later) refl

module _ (by : Compared) (last : LinesEnd) (commits writes : ℕ) where
  abbrev More : List NumberedLine → Judging → Type 0
  More texts next = DriverTells by next texts last (Hitless commits writes)

  placed : (judging : Judging) (number : ℕ) (line : DriverLine) (texts : List NumberedLine) (place : Option Place) → driver_place judging.now judging.place line ≡ place
      → DriverTellsPlaced by judging number line (More texts) (Hitless commits writes) place
      → (next : Place) × (driver_place judging.now judging.place line ≡ Some next) × IsHitlessLine by judging.now line × More texts (driver_behind judging number line next)
  placed judging number line texts None there told = absurd (cc)
  placed judging number line texts (Some next) there (inl told) = (next, there, told.0, told.1)
  placed judging number line texts (Some next) there (inr (inl told)) = absurd (let e = told.2 in cc)
  placed judging number line texts (Some next) there (inr (inr told)) = absurd (let e = told.1 in cc)

  found_in : (judging : Judging) (number : ℕ) (texts : List NumberedLine) (read : Option DriverLine) → DriverTellsRead by judging number (More texts) (Hitless commits writes) read
      → (line : DriverLine) × (read ≡ Some line) × DriverTellsPlaced by judging number line (More texts) (Hitless commits writes) (driver_place judging.now judging.place line)
  found_in judging number texts None told = absurd (cc)
  found_in judging number texts (Some line) told = (line, refl, told)

  yes_line : (judging : Judging) (text : NumberedLine) (texts : List NumberedLine) (blank : Bool)
      → ((next : Judging) → More texts next → IsYes by next texts last commits writes)
      → is_blank_line text.text ≡ blank → DriverTellsLine by judging text (More texts) (Hitless commits writes) blank → IsYes by judging (text ∷ texts) last commits writes
  yes_line judging text texts true rest is told =
      let y = rest (driver_past judging text.number) told in
      record { found = y.found; whole = y.whole; read = rw is y.read; follow = y.follow; hitless = y.hitless; commits_are = y.commits_are; writes_are = y.writes_are }
  yes_line judging text texts false rest is told =
      let f = found_in judging text.number texts (driver_line judging.now.version text.text) told in
      let p = placed judging text.number f.0 texts (driver_place judging.now judging.place f.0) refl f.2 in
      let y = rest (driver_behind judging text.number f.0 p.0) p.3 in
      record {
        found = f.0 ∷ y.found;
        whole = y.whole;
        read = one_read judging.now.version text texts f.0 y.found is f.1 (subst (λ v. driver_lines v texts ≡ Some y.found) (version_on judging.now f.0) y.read);
        follow = (p.0, p.1, y.follow);
        hitless = (p.2, y.hitless);
        commits_are = y.commits_are;
        writes_are = y.writes_are;
      }

yes_from : (by : Compared) (last : LinesEnd) (commits writes : ℕ) (texts : List NumberedLine) (judging : Judging) → DriverTells by judging texts last (Hitless commits writes)
    → IsYes by judging texts last commits writes
yes_from by EndOfInput commits writes [] judging told =
    let e = at_end judging judging.place commits writes told in
    record { found = []; whole = refl; read = refl; follow = e.0; hitless = tt; commits_are = e.1; writes_are = e.2 }
yes_from by (Faulty fault) commits writes [] judging told = absurd (cc)
yes_from by last commits writes (text ∷ texts) judging told =
    yes_line by last commits writes judging text texts (is_blank_line text.text) (yes_from by last commits writes texts) refl told

pub yes_is_hitless : YesIsHitlessByLines
yes_is_hitless by bytes commits writes told =
    let y = yes_from by (text_lines bytes).last commits writes (text_lines bytes).lines unjudged told in
    record { lines = y.found; whole = y.whole; read = y.read; trace = y.follow; hitless = y.hitless; commits_are = y.commits_are; writes_are = y.writes_are }
