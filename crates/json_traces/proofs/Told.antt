-- The text of an orderly report gets yes.
use Rattle.std.proofs.Common.{◌≡◌, ℕ, ◌+◌, ◌<◌, ◌≤◌, false, List, [], ◌∷◌, ◌++◌, length, Some, refl, sym, ap, ◌∙◌, subst, arith, append_assoc, length-append}
use Rattle.std.specs.List.{AllByRecursion}
use Rattle.script_lines.specs.Lines.{NumberedLine, ScriptLines, EndOfInput, onto_lines, text_lines_from, text_lines}
use Rattle.script_lines.proofs.Texts.{text-whole}
use Rattle.tcam_device.specs.declared.Write.{Write}
use Rattle.serde_json.specs.Written.{compact_text}
use Rattle.rule_model.specs.declared.IpVersion.{IpVersion}
use Rattle.rule_model.specs.declared.IpVersion.TheVariants.{V4}
use Rattle.trace_file.specs.declared.TraceLine.{TraceLine}
use Rattle.trace_file.specs.declared.TraceLine.TheVariants.{Head, Commit, Add, Set, Del, Put, Erase, Table, Drain, Done, Refused, End, Fault}
use Rattle.trace_file.specs.Lines.{trace_line}
use Rattle.trace_file.specs.Forms.{form_of, IsTraceLineOf}
use Rattle.trace_file.proofs.TraceText.{line_written}
use Rattle.json_text.proofs.JsonForms.{lines_are}
use Rattle.json_text.proofs.PlainTexts.{plain_texts}
use Rattle.trace_check.specs.Answers.{Yes, Tells, unchecked, is_blank_line, trace_lines, version_after, whole_lines}
use Rattle.trace_check.specs.Hitless.{trace_writes}
use Rattle.trace_check.specs.declared.places.Place.{Place}
use Rattle.trace_check.specs.declared.places.Place.TheVariants.{AtStart, Between, InBatch, InEvents, AtEnd}
use Rattle.trace_check.specs.Places.{LineKind, Heads, kind_of, place_by}
use Rattle.trace_check.specs.Orderly.{Tracing, untraced, traced_on, Follow, IsTrace}
use Rattle.trace_check.proofs.Whole.{past_start}
use Rattle.trace_check.proofs.GetsYes.{orderly_gets_yes}
use Rattle.json_traces.specs.Traces.{trace_text, trace_version}
use Rattle.json_traces.specs.Reported.{IsPlainFault, OrderlyReportsGetYes}
use Rattle.json_traces.proofs.Fitting.{line_fits}

-- no line is blank
not_blank : (version : IpVersion) (fault : List ℕ) (l : TraceLine) → is_blank_line (compact_text (form_of version fault l)) ≡ false
not_blank version fault (Head family acl bits slots) = refl
not_blank version fault (Commit n) = refl
not_blank version fault (Add rule) = refl
not_blank version fault (Set priority answer) = refl
not_blank version fault (Del priority) = refl
not_blank version fault (Put slot entry) = refl
not_blank version fault (Erase slot) = refl
not_blank version fault (Table field port word) = refl
not_blank version fault Drain = refl
not_blank version fault (Done n) = refl
not_blank version fault (Refused n) = refl
not_blank version fault (End writes) = refl
not_blank version fault (Fault n) = refl

one_read : (version : IpVersion) (text : List ℕ) (found : TraceLine) (number : ℕ) (lines : List NumberedLine) (rest : List TraceLine) → is_blank_line text ≡ false
    → trace_line version text ≡ Some found → trace_lines (version_after version found) lines ≡ Some rest → trace_lines version (record { number = number; text = text } ∷ lines) ≡ Some (found ∷ rest)
one_read version text found number lines rest written first later = rw (written, first, later) refl

-- ---- the version

-- behind a line the version is the same
abbrev KeepsVersion : IpVersion → TraceLine → Type 0
KeepsVersion version one = version_after version one ≡ version

-- which it is behind all but a head
keeps_version : (version : IpVersion) (one : TraceLine) → (kind_of one ≡ Heads → ⊥) → KeepsVersion version one
keeps_version version (Head family acl bits slots) other = absurd (other refl)
keeps_version version (Commit n) other = refl
keeps_version version (Add rule) other = refl
keeps_version version (Set priority answer) other = refl
keeps_version version (Del priority) other = refl
keeps_version version (Put slot entry) other = refl
keeps_version version (Erase slot) other = refl
keeps_version version (Table field port word) other = refl
keeps_version version Drain other = refl
keeps_version version (Done n) other = refl
keeps_version version (Refused n) other = refl
keeps_version version (End writes) other = refl
keeps_version version (Fault n) other = refl

-- and past the start there is no head
no_head : (slots : ℕ) (place next : Place) (kind : LineKind) → (place ≡ AtStart → ⊥) → place_by slots place kind ≡ Some next → kind ≡ Heads → ⊥
no_head slots place next kind some there same = at place some (subst (λ k. place_by slots place k ≡ Some next) same there)
  where
    at : (p : Place) → (p ≡ AtStart → ⊥) → place_by slots p Heads ≡ Some next → ⊥
    at AtStart some there = some refl
    at (Between n) some there = (cc)
    at (InBatch n k) some there = (cc)
    at (InEvents n) some there = (cc)
    at AtEnd some there = (cc)

all_keep : (version : IpVersion) (lines : List TraceLine) (now : Tracing) (place end : Place) → (place ≡ AtStart → ⊥) → Follow now place lines end → AllByRecursion (KeepsVersion version) lines
all_keep version [] now place end some follow = tt
all_keep version (one ∷ lines) now place end some follow = (
  keeps_version version one (no_head now.slots place follow.0 (kind_of one) some follow.1),
  all_keep version lines (traced_on now one) follow.0 end (past_start now.slots place follow.0 (kind_of one) follow.1) follow.2,
)

module _ (version : IpVersion) (fault : List ℕ) (plain : IsPlainFault fault) where
  -- the text of a line without its line feed
  abbrev text_of : TraceLine → List ℕ
  text_of one = compact_text (form_of version fault one)

  -- the lines of a text, by their numbers
  abbrev numbered_from : ℕ → List TraceLine → List NumberedLine
  numbered_from number [] = []
  numbered_from number (one ∷ lines) = record { number = number; text = text_of one } ∷ numbered_from (number + 1) lines

  -- they are read back
  read_back : (lines : List TraceLine) (number : ℕ) → AllByRecursion (IsTraceLineOf version) lines → AllByRecursion (KeepsVersion version) lines
      → trace_lines version (numbered_from number lines) ≡ Some lines
  read_back [] number within keep = refl
  read_back (one ∷ lines) number within keep =
      one_read version (text_of one) one number (numbered_from (number + 1) lines) lines (not_blank version fault one) (line_written version fault one within.0)
      (subst (λ v. trace_lines v (numbered_from (number + 1) lines) ≡ Some lines) (sym keep.0) (read_back lines (number + 1) within.1 keep.1))

  -- a line and its line feed, in front of the others
  first_text : (one : TraceLine) (lines : List TraceLine) → trace_text version fault (one ∷ lines) ≡ text_of one ++ 10 ∷ trace_text version fault lines
  first_text one lines = ap (λ text. text ++ trace_text version fault lines) (sym (lines_are version fault one (plain_texts fault plain.plain))) ∙ append_assoc (text_of one) (10 ∷ []) (trace_text version fault lines)

  split : (size : ℕ) (lines : List TraceLine) (before number : ℕ) → AllByRecursion (IsTraceLineOf version) lines → before + length (trace_text version fault lines) ≤ size
      → text_lines_from size before number (trace_text version fault lines) ≡ record { lines = numbered_from number lines; last = EndOfInput }
  split size [] before number within room = refl
  split size (one ∷ lines) before number within room =
      let text = text_of one in
      let rest = trace_text version fault lines in
      let is = line_fits version fault one plain within.0 in
      let short = is.short in
      let all : length (trace_text version fault (one ∷ lines)) ≡ length text + length (10 ∷ rest) = ap (λ (t : List ℕ). length t) (first_text one lines) ∙ length-append text (10 ∷ rest) in
      let inside : before + length text < size = omega arith in
      let later : (before + length text + 1) + length rest ≤ size = omega arith in
      ap (text_lines_from size before number) (first_text one lines)
      ∙ text-whole size before number text rest (record { plain = is.plain; fits = short; within = omega arith }) inside
      ∙ ap (onto_lines (record { number = number; text = text })) (split size lines (before + length text + 1) (number + 1) within.1 later)

-- a whole trace, whose head either version reads
whole_back : (fault : List ℕ) (plain : IsPlainFault fault) (lines : List TraceLine) → AllByRecursion (IsTraceLineOf (trace_version lines)) lines → IsTrace lines
    → whole_lines (numbered_from (trace_version lines) fault plain 1 lines) ≡ Some lines
whole_back fault plain [] within trace = refl
whole_back fault plain (Head version acl bits slots ∷ lines) within trace =
    let first : trace.0 ≡ Between 0 = (let e : Some (Between 0) ≡ Some trace.0 = trace.1 in cc) in
    let follow = subst (λ p. Follow (traced_on untraced (Head version acl bits slots)) p lines AtEnd) first trace.2 in
    let keep = all_keep version lines (traced_on untraced (Head version acl bits slots)) (Between 0) AtEnd (λ e. cc) follow in
    one_read V4 (text_of version fault plain (Head version acl bits slots)) (Head version acl bits slots) 1 (numbered_from version fault plain 2 lines) lines
    (not_blank version fault (Head version acl bits slots)) (line_written V4 fault (Head version acl bits slots) within.0) (read_back version fault plain lines 2 within.1 keep)
whole_back fault plain (Commit n ∷ lines) within trace = absurd (let there = trace.1 in cc)
whole_back fault plain (Add rule ∷ lines) within trace = absurd (let there = trace.1 in cc)
whole_back fault plain (Set priority answer ∷ lines) within trace = absurd (let there = trace.1 in cc)
whole_back fault plain (Del priority ∷ lines) within trace = absurd (let there = trace.1 in cc)
whole_back fault plain (Put slot entry ∷ lines) within trace = absurd (let there = trace.1 in cc)
whole_back fault plain (Erase slot ∷ lines) within trace = absurd (let there = trace.1 in cc)
whole_back fault plain (Table field port word ∷ lines) within trace = absurd (let there = trace.1 in cc)
whole_back fault plain (Drain ∷ lines) within trace = absurd (let there = trace.1 in cc)
whole_back fault plain (Done n ∷ lines) within trace = absurd (let there = trace.1 in cc)
whole_back fault plain (Refused n ∷ lines) within trace = absurd (let there = trace.1 in cc)
whole_back fault plain (End writes ∷ lines) within trace = absurd (let there = trace.1 in cc)
whole_back fault plain (Fault n ∷ lines) within trace = absurd (let there = trace.1 in cc)

pub reports_get_yes : OrderlyReportsGetYes
reports_get_yes fault report commits made is plain =
    let version = trace_version is.lines in
    let numbered : List NumberedLine = numbered_from version fault plain 1 is.lines in
    let whole : 0 + length (trace_text version fault is.lines) ≤ length report = (let same = ap (λ (t : List ℕ). length t) is.text_is in omega arith) in
    let lines : text_lines report ≡ record { lines = numbered; last = EndOfInput } =
    ap (text_lines_from (length report) 0 1) is.text_is ∙ split version fault plain (length report) is.lines 0 1 is.within whole in
    subst (λ (script : ScriptLines). Tells unchecked script.lines script.last (Yes commits (length made))) (sym lines)
    (subst (λ (writes : List Write). Tells unchecked numbered EndOfInput (Yes commits (length writes))) is.writes_are
    (subst (λ n. Tells unchecked numbered EndOfInput (Yes n (length (trace_writes is.lines)))) is.commits_are
    (orderly_gets_yes numbered is.lines (whole_back fault plain is.lines is.within is.trace) is.trace is.orderly)))
