-- Where a leak is told at a line, there is one, and none before it.
use Rattle.std.proofs.Common.{◌≡◌, ℕ, Bool, true, false, List, [], ◌∷◌, ◌++◌, Option, Some, None, inl, inr, refl, subst, ap}
use Rattle.script_lines.specs.Lines.{NumberedLine, LinesEnd, EndOfInput, Faulty, text_lines}
use Rattle.trace_check.specs.declared.places.Place.{Place}
use Rattle.trace_check.specs.declared.places.Place.TheVariants.{AtStart, Between, InBatch, InEvents, AtEnd}
use Rattle.trace_check.specs.Answers.{is_blank_line}
use Rattle.driver_trace.specs.declared.DriverLine.{DriverLine}
use Rattle.driver_trace.specs.declared.Compared.{Compared}
use Rattle.driver_trace.specs.declared.Leak.{Leak}
use Rattle.driver_trace.specs.DriverLines.{driver_line}
use Rattle.driver_trace.specs.Known.{driver_place}
use Rattle.driver_trace.specs.Judged.{IsHitlessLine, AreHitlessLines, IsLeakAt}
use Rattle.driver_trace.specs.Told.{Leaks, Judging, unjudged, driver_past, driver_behind, driver_answer_at_end, DriverTells, DriverTellsPlaced, DriverTellsRead, DriverTellsLine, driver_lines, FollowOn, known_past, NoIsALeak}
use Rattle.driver_trace.proofs.Yes.{version_on, one_read}

-- what is said from where a judgement stands
record IsNoFrom (by : Compared) (judging : Judging) (texts : List NumberedLine) (number : ℕ) (leak : Leak) : Type 0 where
  front : List NumberedLine
  text : NumberedLine
  later : List NumberedLine
  found : List DriverLine
  line : DriverLine
  place : Place
  texts_are : texts ≡ front ++ text ∷ later
  number_is : text.number ≡ number
  read : driver_lines judging.now.version front ≡ Some found
  follow : FollowOn judging.now judging.place found place
  hitless : AreHitlessLines by judging.now found
  line_is : driver_line (known_past judging.now found).version text.text ≡ Some line
  stands : (next : Place) × (driver_place (known_past judging.now found) place line ≡ Some next)
  leaks : IsLeakAt by (known_past judging.now found) line leak

no_end : (judging : Judging) (place : Place) (number : ℕ) (leak : Leak) → Leaks number leak ≡ driver_answer_at_end judging place → ⊥
no_end judging AtEnd number leak same = cc
no_end judging AtStart number leak same = cc
no_end judging (Between n) number leak same = cc
no_end judging (InBatch n k) number leak same = cc
no_end judging (InEvents n) number leak same = cc

module _ (by : Compared) (last : LinesEnd) (number : ℕ) (leak : Leak) where
  abbrev More : List NumberedLine → Judging → Type 0
  More texts next = DriverTells by next texts last (Leaks number leak)

  here : (judging : Judging) (text : NumberedLine) (texts : List NumberedLine) (line : DriverLine) (next : Place) → driver_line judging.now.version text.text ≡ Some line
      → driver_place judging.now judging.place line ≡ Some next → (leak' : Leak) → IsLeakAt by judging.now line leak' → Leaks number leak ≡ Leaks text.number leak'
      → IsNoFrom by judging (text ∷ texts) number leak
  here judging text texts line next read there leak' is same =
      let one : leak' ≡ leak = cc in
      record {
        front = [];
        text = text;
        later = texts;
        found = [];
        line = line;
        place = judging.place;
        texts_are = refl;
        number_is = cc;
        read = refl;
        follow = refl;
        hitless = tt;
        line_is = read;
        stands = (next, there);
        leaks = subst (IsLeakAt by judging.now line) one is;
      }

  on : (judging : Judging) (text : NumberedLine) (texts : List NumberedLine) (line : DriverLine) (next : Place) → is_blank_line text.text ≡ false
      → driver_line judging.now.version text.text ≡ Some line → driver_place judging.now judging.place line ≡ Some next → IsHitlessLine by judging.now line
      → IsNoFrom by (driver_behind judging text.number line next) texts number leak → IsNoFrom by judging (text ∷ texts) number leak
  on judging text texts line next is read there hitless n =
      record {
        front = text ∷ n.front;
        text = n.text;
        later = n.later;
        found = line ∷ n.found;
        line = n.line;
        place = n.place;
        texts_are = ap (λ (rest : List NumberedLine). text ∷ rest) n.texts_are;
        number_is = n.number_is;
        read = one_read judging.now.version text n.front line n.found is read (subst (λ v. driver_lines v n.front ≡ Some n.found) (version_on judging.now line) n.read);
        follow = (next, there, n.follow);
        hitless = (hitless, n.hitless);
        line_is = n.line_is;
        stands = n.stands;
        leaks = n.leaks;
      }

  placed : (judging : Judging) (text : NumberedLine) (texts : List NumberedLine) (line : DriverLine) (place : Option Place)
      → ((next : Judging) → More texts next → IsNoFrom by next texts number leak) → is_blank_line text.text ≡ false
      → driver_line judging.now.version text.text ≡ Some line → driver_place judging.now judging.place line ≡ place
      → DriverTellsPlaced by judging text.number line (More texts) (Leaks number leak) place → IsNoFrom by judging (text ∷ texts) number leak
  placed judging text texts line None rest is read there told = absurd (cc)
  placed judging text texts line (Some next) rest is read there (inl told) =
      on judging text texts line next is read there told.0 (rest (driver_behind judging text.number line next) told.1)
  placed judging text texts line (Some next) rest is read there (inr (inl told)) = here judging text texts line next read there told.0 told.1 told.2
  placed judging text texts line (Some next) rest is read there (inr (inr told)) = absurd (let e = told.1 in cc)

  read_on : (judging : Judging) (text : NumberedLine) (texts : List NumberedLine) (read : Option DriverLine)
      → ((next : Judging) → More texts next → IsNoFrom by next texts number leak) → is_blank_line text.text ≡ false → driver_line judging.now.version text.text ≡ read
      → DriverTellsRead by judging text.number (More texts) (Leaks number leak) read → IsNoFrom by judging (text ∷ texts) number leak
  read_on judging text texts None rest is same told = absurd (cc)
  read_on judging text texts (Some line) rest is same told =
      placed judging text texts line (driver_place judging.now judging.place line) rest is same refl told

  no_line : (judging : Judging) (text : NumberedLine) (texts : List NumberedLine) (blank : Bool)
      → ((next : Judging) → More texts next → IsNoFrom by next texts number leak)
      → is_blank_line text.text ≡ blank → DriverTellsLine by judging text (More texts) (Leaks number leak) blank → IsNoFrom by judging (text ∷ texts) number leak
  no_line judging text texts true rest is told =
      let n = rest (driver_past judging text.number) told in
      record {
        front = text ∷ n.front;
        text = n.text;
        later = n.later;
        found = n.found;
        line = n.line;
        place = n.place;
        texts_are = ap (λ (others : List NumberedLine). text ∷ others) n.texts_are;
        number_is = n.number_is;
        read = rw is n.read;
        follow = n.follow;
        hitless = n.hitless;
        line_is = n.line_is;
        stands = n.stands;
        leaks = n.leaks;
      }
  no_line judging text texts false rest is told = read_on judging text texts (driver_line judging.now.version text.text) rest is refl told

no_from : (by : Compared) (last : LinesEnd) (number : ℕ) (leak : Leak) (texts : List NumberedLine) (judging : Judging) → DriverTells by judging texts last (Leaks number leak)
    → IsNoFrom by judging texts number leak
no_from by EndOfInput number leak [] judging told = absurd (no_end judging judging.place number leak told)
no_from by (Faulty fault) number leak [] judging told = absurd (cc)
no_from by last number leak (text ∷ texts) judging told =
    no_line by last number leak judging text texts (is_blank_line text.text) (no_from by last number leak texts) refl told

pub no_is_leak : NoIsALeak
no_is_leak by bytes number leak told =
    let n = no_from by (text_lines bytes).last number leak (text_lines bytes).lines unjudged told in
    record {
      front = n.front;
      text = n.text;
      later = n.later;
      lines = n.found;
      line = n.line;
      place = n.place;
      texts_are = n.texts_are;
      number_is = n.number_is;
      read = n.read;
      trace = n.follow;
      hitless = n.hitless;
      line_is = n.line_is;
      stands = n.stands;
      leaks = n.leaks;
    }
