-- The acts of what came of a script are the first of its acts.
use Rattle.std.proofs.Common.{◌≡◌, ℕ, ◌+◌, ◌-◌, ◌<◌, Bool, true, false, ◌==◌, IsTrue, Result, Ok, Err, Option, Some, None, List, [], ◌∷◌, ◌++◌, length, refl, ap, sym, ◌∙◌, subst, arith, length-append}
use Rattle.std.specs.List.{AllByRecursion}
use Rattle.std.proofs.lemmas.Bool.Decides.{nat_tests}
use Rattle.script_lines.specs.declared.LineFault.{LineFault}
use Rattle.script_lines.specs.declared.LineFault.TheVariants.{Read, ScriptTooLong, TooLong, BadByte}
use Rattle.script_lines.specs.Lines.{limits, most_bytes, NumberedLine, ScriptLines, LinesEnd, Faulty, line_feed, byte_fault, onto_lines, lines_from, lines_of}
use Rattle.script_lines.specs.Reader.{is_of_line, IsOpenLine}
use Rattle.script_lines.proofs.FirstLines.{picks, lines-whole}
use Rattle.script_runs.specs.Script.{Script, ScriptKind, Whole, stops_at, onto_acts, byte_end, acts_of, acts_from, script_of, whole_lines_from, whole_lines, script_so_far}

-- ---- the lines of the bytes that came are the first lines

abbrev AreFirstLines : List NumberedLine → List NumberedLine → Type 0
AreFirstLines lines all = (behind : List NumberedLine) × (all ≡ lines ++ behind)

no_read : (before number in_line byte : ℕ) → byte_fault limits before number in_line byte ≡ Some Read → ⊥
no_read before number in_line byte is = grind (arith, nat_tests)

no_whole : (before number in_line byte : ℕ) (fault : LineFault) → byte_fault limits before number in_line byte ≡ Some fault → byte_end (Faulty fault) ≡ Whole → ⊥
no_whole before number in_line byte Read is whole = no_read before number in_line byte is
no_whole before number in_line byte (ScriptTooLong line) is whole = cc
no_whole before number in_line byte (TooLong line) is whole = cc
no_whole before number in_line byte (BadByte line) is whole = cc

room-before : (before number in_line byte : ℕ) → byte_fault limits before number in_line byte ≡ None → before < 268435456
room-before before number in_line byte sound = grind (arith, nat_tests)

room-in_line : (before number in_line byte : ℕ) → byte_fault limits before number in_line byte ≡ None → (byte == line_feed) ≡ false → in_line < 512
room-in_line before number in_line byte sound other = grind (arith, nat_tests)

plain-byte : (before number in_line byte : ℕ) → byte_fault limits before number in_line byte ≡ None → (byte == line_feed) ≡ false → IsTrue (is_of_line byte)
plain-byte before number in_line byte sound other = grind (arith, nat_tests)

is-feed : (byte : ℕ) → (byte == line_feed) ≡ true → byte ≡ 10
is-feed byte is = grind (arith, nat_tests)

plain-more : (text : List ℕ) (byte : ℕ) → AllByRecursion (λ byte. IsTrue (is_of_line byte)) text → IsTrue (is_of_line byte) → AllByRecursion (λ byte. IsTrue (is_of_line byte)) (text ++ byte ∷ [])
plain-more [] byte all is = (is, tt)
plain-more (first ∷ text) byte all is = (all.0, plain-more text byte all.1 is)

open-more : (before number : ℕ) (line : List ℕ) (byte : ℕ) → IsOpenLine before line → byte_fault limits (before + length line) number (length line) byte ≡ None → (byte == line_feed) ≡ false → IsOpenLine before (line ++ byte ∷ [])
open-more before number line byte is sound other =
    let room = room-before (before + length line) number (length line) byte sound in
    let fits = room-in_line (before + length line) number (length line) byte sound other in
    record {
      plain = plain-more line byte is.plain (plain-byte (before + length line) number (length line) byte sound other);
      fits = rw length-append (omega (arith, fits));
      within = rw length-append (omega (arith, room));
    }

module _ (start before number : ℕ) (line : List ℕ) (byte : ℕ) (bytes rest : List ℕ) where
  abbrev one : NumberedLine
  one = record { number = number; text = line }

  abbrev next : List ℕ → ScriptLines
  next left = lines_from limits (before + 1) (number + 1) [] left

  abbrev same_line : List ℕ → ScriptLines
  same_line left = lines_from limits (before + 1) number (line ++ byte ∷ []) left

  first-byte : (found : Option LineFault) (feed : Bool) → byte_fault limits before number (length line) byte ≡ found → (byte == line_feed) ≡ feed
      → before ≡ start + length line → IsOpenLine start line
      → byte_end (picks found feed (onto_lines one (next bytes)) (same_line bytes)).last ≡ Whole
      → (IsOpenLine (before + 1) [] → byte_end (next bytes).last ≡ Whole → AreFirstLines (next (whole_lines bytes)).lines (next (bytes ++ rest)).lines)
      → (before + 1 ≡ start + length (line ++ byte ∷ []) → IsOpenLine start (line ++ byte ∷ []) → byte_end (same_line bytes).last ≡ Whole
      → AreFirstLines (lines_from limits start number [] (whole_lines_from (line ++ byte ∷ []) bytes)).lines (same_line (bytes ++ rest)).lines)
      → AreFirstLines (lines_from limits start number [] (elim feed [ true ↦ line ++ byte ∷ whole_lines_from [] bytes | false ↦ whole_lines_from (line ++ byte ∷ []) bytes ])).lines
      (picks found feed (onto_lines one (next (bytes ++ rest))) (same_line (bytes ++ rest))).lines
  first-byte (Some fault) feed found_is feed_is same is whole at_next at_same = absurd (no_whole before number (length line) byte fault found_is whole)
  first-byte None true found_is feed_is same is whole at_next at_same =
      let room = room-before before number (length line) byte found_is in
      let left : List ℕ = whole_lines bytes in
      let more = at_next (record { plain = tt; fits = omega arith; within = omega (arith, room) }) whole in
      let lines : lines_from limits start number [] (line ++ byte ∷ left) ≡ onto_lines one (next left) =
      ap (λ b. lines_from limits start number [] (line ++ b ∷ left)) (is-feed byte feed_is)
      ∙ lines-whole start number line left is (omega (arith, room, same))
      ∙ ap (λ n. onto_lines one (lines_from limits (n + 1) (number + 1) [] left)) (sym same) in
      (more.0, ap (λ behind. one ∷ behind) more.1 ∙ ap (λ (all : ScriptLines). all.lines ++ more.0) (sym lines))
  first-byte None false found_is feed_is same is whole at_next at_same =
      let sound : byte_fault limits (start + length line) number (length line) byte ≡ None = ap (λ n. byte_fault limits n number (length line) byte) (sym same) ∙ found_is in
      at_same (rw length-append (omega (arith, same))) (open-more start number line byte is sound feed_is) whole

first-lines : (start before number : ℕ) (line bytes rest : List ℕ) → before ≡ start + length line → IsOpenLine start line → byte_end (lines_from limits before number line bytes).last ≡ Whole
    → AreFirstLines (lines_from limits start number [] (whole_lines_from line bytes)).lines (lines_from limits before number line (bytes ++ rest)).lines
first-lines start before number line [] rest same is whole = ((lines_from limits before number line rest).lines, refl)
first-lines start before number line (byte ∷ bytes) rest same is whole =
    first-byte start before number line byte bytes rest (byte_fault limits before number (length line) byte) (byte == line_feed) refl refl same is whole
    (λ empty whole_next. let none : before + 1 ≡ before + 1 + 0 = omega arith in first-lines (before + 1) (before + 1) (number + 1) [] bytes rest none empty whole_next)
    (λ same_next more whole_next. first-lines start (before + 1) number (line ++ byte ∷ []) bytes rest same_next more whole_next)

plus-none : (n : ℕ) → n ≡ n + 0
plus-none n = omega arith

-- before its first byte a script has no byte of a line
none-open : (most : ℕ) → IsOpenLine (most_bytes - most) []
none-open most = record { plain = tt; fits = omega arith; within = omega arith }

-- ---- and so are their acts

abbrev pub AreFirstActs : {A : Type 0} → List A → List A → Type 0
AreFirstActs {A} acts all = (later : List A) × (all ≡ acts ++ later)

module _ {A C : Type 0} (kind : ScriptKind A C) where
  -- what one line does to the acts behind it
  abbrev read_act : C → ℕ → Result (Option A) (List ℕ) → (C → Script A) → Script A
  read_act counted number read behind =
      elim read [
        | Err text ↦ stops_at number text
        | Ok found ↦ elim found [
          | None ↦ behind counted
          | Some act ↦ elim (kind.limit_fault act counted) [
            | Some text ↦ stops_at number text
            | None ↦ onto_acts number act (behind (kind.counted_after act counted))
          ]
        ]
      ]

  abbrev limit_act : ℕ → A → Option (List ℕ) → Script A → Script A
  limit_act number act full behind = elim full [ Some text ↦ stops_at number text | None ↦ onto_acts number act behind ]

  first-limit : (number : ℕ) (act : A) (full : Option (List ℕ)) (some all : Script A) → AreFirstActs (acts_of some) (acts_of all) → AreFirstActs (acts_of (limit_act number act full some)) (acts_of (limit_act number act full all))
  first-limit number act (Some text) some all first = ([], refl)
  first-limit number act None some all first = (first.0, ap (λ acts. act ∷ acts) first.1)

  first-read : (counted : C) (number : ℕ) (read : Result (Option A) (List ℕ)) (some all : C → Script A) → ((c : C) → AreFirstActs (acts_of (some c)) (acts_of (all c)))
      → AreFirstActs (acts_of (read_act counted number read some)) (acts_of (read_act counted number read all))
  first-read counted number (Err text) some all first = ([], refl)
  first-read counted number (Ok None) some all first = first counted
  first-read counted number (Ok (Some act)) some all first =
      first-limit number act (kind.limit_fault act counted) (some (kind.counted_after act counted)) (all (kind.counted_after act counted)) (first (kind.counted_after act counted))

  first-of : (counted : C) (lines behind : List NumberedLine) (last end : LinesEnd) → AreFirstActs (acts_of (acts_from kind counted lines last)) (acts_of (acts_from kind counted (lines ++ behind) end))
  first-of counted [] behind last end = (acts_of (acts_from kind counted behind end), refl)
  first-of counted (line ∷ lines) behind last end =
      first-read counted line.number (kind.reading line.text) (λ c. acts_from kind c lines last) (λ c. acts_from kind c (lines ++ behind) end) (λ c. first-of c lines behind last end)

  -- lines without a fault end as their bytes do
  whole-limit : (number : ℕ) (act : A) (full : Option (List ℕ)) (behind : Script A) (last : LinesEnd) → (behind.last ≡ Whole → byte_end last ≡ Whole) → (limit_act number act full behind).last ≡ Whole → byte_end last ≡ Whole
  whole-limit number act (Some text) behind last more is = absurd (cc)
  whole-limit number act None behind last more is = more is

  whole-read : (counted : C) (number : ℕ) (read : Result (Option A) (List ℕ)) (behind : C → Script A) (last : LinesEnd) → ((c : C) → (behind c).last ≡ Whole → byte_end last ≡ Whole)
      → (read_act counted number read behind).last ≡ Whole → byte_end last ≡ Whole
  whole-read counted number (Err text) behind last more is = absurd (cc)
  whole-read counted number (Ok None) behind last more is = more counted is
  whole-read counted number (Ok (Some act)) behind last more is =
      whole-limit number act (kind.limit_fault act counted) (behind (kind.counted_after act counted)) last (more (kind.counted_after act counted)) is

  whole-end : (counted : C) (lines : List NumberedLine) (last : LinesEnd) → (acts_from kind counted lines last).last ≡ Whole → byte_end last ≡ Whole
  whole-end counted [] last is = is
  whole-end counted (line ∷ lines) last is =
      whole-read counted line.number (kind.reading line.text) (λ c. acts_from kind c lines last) last (λ c. whole-end c lines last) is

  pub first-acts : (bytes rest : List ℕ) → (script_so_far kind bytes).last ≡ Whole → AreFirstActs (acts_of (script_so_far kind bytes)) (acts_of (script_of kind (bytes ++ rest)))
  first-acts bytes rest sound =
      let came : List NumberedLine = (lines_of kind.bytes (whole_lines bytes)).lines in
      let end : LinesEnd = (lines_of kind.bytes (bytes ++ rest)).last in
      let first = first-lines (most_bytes - kind.bytes) (most_bytes - kind.bytes) 1 [] bytes rest (plus-none (most_bytes - kind.bytes)) (none-open kind.bytes) (whole-end kind.none_counted came (lines_of kind.bytes bytes).last sound) in
      subst (λ lines. AreFirstActs (acts_of (script_so_far kind bytes)) (acts_of (acts_from kind kind.none_counted lines end))) (sym first.1)
      (first-of kind.none_counted came first.0 (lines_of kind.bytes bytes).last end)
