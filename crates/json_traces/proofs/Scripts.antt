-- The acts of a script whose report is in JSON are those of a trace, its numbers are small, and its fault has a plain text.
use Rattle.std.proofs.Common.{◌≡◌, ℕ, ◌+◌, ◌-◌, ◌^◌, ◌<◌, ◌≤◌, ◌==◌, ◌&&◌, cond, nat_le, Bool, true, false, Option, Some, None, Result, Ok, Err, List, [], ◌∷◌, ◌++◌, length, codes, refl, ◌∙◌, subst, arith}
use Rattle.std.specs.Prelude.{not}
use Rattle.std.specs.List.{AllByRecursion}
use Rattle.std.proofs.lemmas.Bool.Decides.{nat_tests}
use Rattle.rule_store.specs.Batch.{most_pending}
use Rattle.script_lines.specs.Lines.{NumberedLine, LinesEnd, EndOfInput, Faulty, ScriptLines, limits, line_feed, is_allowed, byte_fault, ends_at, onto_lines, last_line, lines_from, lines_of, most_bytes, usual_bytes}
use Rattle.script_lines.specs.declared.LineFault.{LineFault}
use Rattle.script_lines.specs.declared.LineFault.TheVariants.{Read, ScriptTooLong, TooLong, BadByte}
use Rattle.script_lines.proofs.FirstLines.{picks}
use Rattle.replay.specs.declared.Act.{Act}
use Rattle.replay.specs.declared.Act.TheVariants.{Command, Ask, All, Probe, Packet, Commit, Trial, Crash}
use Rattle.script_runs.specs.Script.{ScriptEnd, Whole, FaultAt, stops_at, onto_acts, byte_end, acts_of}
use Rattle.report_lines.specs.Sizes.{usual_sizes}
use Rattle.replay.specs.Script.{Script, Reading, most_probes, pending_after, probes_after, full_fault, limit_fault, acts_from}
use Rattle.rule_model.specs.declared.IpVersion.{IpVersion}
use Rattle.json_traces.specs.Traces.{AreTraceActs}
use Rattle.json_traces.specs.Reported.{IsPlainFault}
use Rattle.json_traces.proofs.ScriptLines.{IsTraceAct}

-- ---- the acts

-- each act that is read is one of a trace
abbrev pub ReadsTraces : IpVersion → Reading → Type 0
ReadsTraces version reading = (line : List ℕ) (one : Act) → reading line ≡ Ok (Some one) → IsTraceAct version one

-- the acts of a first line and of those behind it, by what the line is read as and by whether there is room
abbrev limited : ℕ → Act → Script → Option (List ℕ) → Script
limited number act rest full = elim full [ Some text ↦ stops_at number text | None ↦ onto_acts number act rest ]

abbrev read_as : Reading → ℕ → ℕ → ℕ → List NumberedLine → LinesEnd → Result (Option Act) (List ℕ) → Script
read_as reading pending probes number lines last r =
    elim r [
      | Err text ↦ stops_at number text
      | Ok found ↦ elim found [
        | None ↦ acts_from usual_sizes reading pending probes lines last
        | Some act ↦ elim (limit_fault most_pending act pending probes) [
          | Some text ↦ stops_at number text
          | None ↦ onto_acts number act (acts_from usual_sizes reading (pending_after act pending) (probes_after act probes) lines last)
        ]
      ]
    ]

-- there is room for one change more
room : (pending : ℕ) → pending ≤ most_pending → (full : Bool) → nat_le most_pending pending ≡ full → full ≡ false → pending < most_pending
room pending within full tells none = let other : nat_le most_pending pending ≡ false = tells ∙ none in grind (arith, nat_tests)

full_text : (full : Bool) (text : List ℕ) → ◌≡◌ {A = Option (List ℕ)} (elim full [ true ↦ Some text | false ↦ None ]) None → full ≡ false
full_text true text none = absurd (cc)
full_text false text none = refl

onto_told : (version : IpVersion) (pending probes : ℕ) (act : Act) (acts : List Act) → pending ≤ most_pending → IsTraceAct version act → limit_fault most_pending act pending probes ≡ None
    → ((most : pending_after act pending ≤ most_pending) → AreTraceActs version (pending_after act pending) acts) → AreTraceActs version pending (act ∷ acts)
onto_told version pending probes (Command change) acts within is free more =
    let less = room pending within (nat_le most_pending pending) refl (full_text (nat_le most_pending pending) (codes "batch full") free) in
    (is, less, more (omega arith))
onto_told version pending probes (Ask request) acts within is free more =
    let less = room pending within (nat_le most_pending pending) refl (full_text (nat_le most_pending pending) (codes "batch full") free) in
    (is, less, more (omega arith))
onto_told version pending probes All acts within is free more = more (omega arith)
onto_told version pending probes (Probe key) acts within is free more = more within
onto_told version pending probes (Packet key) acts within is free more = more within
onto_told version pending probes Commit acts within is free more = more (omega arith)
onto_told version pending probes (Trial most) acts within is free more = absurd is
onto_told version pending probes (Crash after) acts within is free more = absurd is

module _ (version : IpVersion) (reading : Reading) (reads : ReadsTraces version reading) (last : LinesEnd) where
  -- the acts of the lines behind are those of a trace, whatever is pending
  abbrev Later : List NumberedLine → Type 0
  Later lines = (pending probes : ℕ) → pending ≤ most_pending → AreTraceActs version pending (acts_of (acts_from usual_sizes reading pending probes lines last))

  by_room : (line : NumberedLine) (lines : List NumberedLine) (pending probes : ℕ) (act : Act) (full : Option (List ℕ)) → limit_fault most_pending act pending probes ≡ full → pending ≤ most_pending → IsTraceAct version act → Later lines
      → AreTraceActs version pending (acts_of (limited line.number act (acts_from usual_sizes reading (pending_after act pending) (probes_after act probes) lines last) full))
  by_room line lines pending probes act (Some text) tells within is later = tt
  by_room line lines pending probes act None tells within is later =
      onto_told version pending probes act (acts_of (acts_from usual_sizes reading (pending_after act pending) (probes_after act probes) lines last)) within is tells (λ most. later (pending_after act pending) (probes_after act probes) most)

  by_reading : (line : NumberedLine) (lines : List NumberedLine) (pending probes : ℕ) (r : Result (Option Act) (List ℕ)) → reading line.text ≡ r → pending ≤ most_pending → Later lines
      → AreTraceActs version pending (acts_of (read_as reading pending probes line.number lines last r))
  by_reading line lines pending probes (Err text) tells within later = tt
  by_reading line lines pending probes (Ok None) tells within later = later pending probes within
  by_reading line lines pending probes (Ok (Some act)) tells within later = by_room line lines pending probes act (limit_fault most_pending act pending probes) refl within (reads line.text act tells) later

  pub acts_told : (lines : List NumberedLine) → Later lines
  acts_told [] pending probes within = tt
  acts_told (line ∷ lines) pending probes within = by_reading line lines pending probes (reading line.text) refl within (acts_told lines)

-- ---- the fault

-- the end of a script has a small number and a plain text
abbrev pub EndsPlainly : ScriptEnd → Type 0
EndsPlainly Whole = Unit {0}
EndsPlainly (FaultAt number text) = (number < 2 ^ 32) × IsPlainFault text

-- each text of a fault is plain
abbrev pub ReadsPlainly : Reading → Type 0
ReadsPlainly reading = (line text : List ℕ) → reading line ≡ Err text → IsPlainFault text

full_plain : (pending : ℕ) (text : List ℕ) → IsPlainFault (codes "batch full") → full_fault most_pending pending ≡ Some text → IsPlainFault text
full_plain pending text batch is = go (nat_le most_pending pending) is
  where
    go : (full : Bool) → ◌≡◌ {A = Option (List ℕ)} (elim full [ true ↦ Some (codes "batch full") | false ↦ None ]) (Some text) → IsPlainFault text
    go true some = subst IsPlainFault (let e : codes "batch full" ≡ text = cc in e) batch
    go false none = absurd (cc)

limit_plain : (act : Act) (pending probes : ℕ) (text : List ℕ) → IsPlainFault (codes "batch full") → IsPlainFault (codes "changes pending") → IsPlainFault (codes "too many probes") → limit_fault most_pending act pending probes ≡ Some text → IsPlainFault text
limit_plain (Command change) pending probes text batch whole many is = full_plain pending text batch is
limit_plain (Ask request) pending probes text batch whole many is = full_plain pending text batch is
limit_plain All pending probes text batch whole many is = go (pending == 0) is
  where
    go : (none : Bool) → ◌≡◌ {A = Option (List ℕ)} (elim none [ true ↦ None | false ↦ Some (codes "changes pending") ]) (Some text) → IsPlainFault text
    go true none = absurd (cc)
    go false some = subst IsPlainFault (let e : codes "changes pending" ≡ text = cc in e) whole
limit_plain (Probe key) pending probes text batch whole many is = go (probes == most_probes) is
  where
    go : (full : Bool) → ◌≡◌ {A = Option (List ℕ)} (elim full [ true ↦ Some (codes "too many probes") | false ↦ None ]) (Some text) → IsPlainFault text
    go true some = subst IsPlainFault (let e : codes "too many probes" ≡ text = cc in e) many
    go false none = absurd (cc)
limit_plain (Packet key) pending probes text batch whole many is = absurd (cc)
limit_plain Commit pending probes text batch whole many is = absurd (cc)
limit_plain (Trial most) pending probes text batch whole many is = absurd (cc)
limit_plain (Crash after) pending probes text batch whole many is = absurd (cc)

-- numbers of lines are small
abbrev pub AreNumbered : List NumberedLine → Type 0
AreNumbered lines = AllByRecursion (λ (line : NumberedLine). line.number < 2 ^ 32) lines

module _ (reading : Reading) (plain : ReadsPlainly reading) (batch : IsPlainFault (codes "batch full")) (whole : IsPlainFault (codes "changes pending")) (many : IsPlainFault (codes "too many probes")) (last : LinesEnd) (ends : EndsPlainly (byte_end last)) where
  abbrev Ends : List NumberedLine → Type 0
  Ends lines = (pending probes : ℕ) → EndsPlainly (acts_from usual_sizes reading pending probes lines last).last

  end_by_room : (line : NumberedLine) (lines : List NumberedLine) (pending probes : ℕ) (act : Act) (full : Option (List ℕ)) → limit_fault most_pending act pending probes ≡ full → line.number < 2 ^ 32 → Ends lines
      → EndsPlainly (limited line.number act (acts_from usual_sizes reading (pending_after act pending) (probes_after act probes) lines last) full).last
  end_by_room line lines pending probes act (Some text) tells small later = (small, limit_plain act pending probes text batch whole many tells)
  end_by_room line lines pending probes act None tells small later = later (pending_after act pending) (probes_after act probes)

  end_by_reading : (line : NumberedLine) (lines : List NumberedLine) (pending probes : ℕ) (r : Result (Option Act) (List ℕ)) → reading line.text ≡ r → line.number < 2 ^ 32 → Ends lines
      → EndsPlainly (read_as reading pending probes line.number lines last r).last
  end_by_reading line lines pending probes (Err text) tells small later = (small, plain line.text text tells)
  end_by_reading line lines pending probes (Ok None) tells small later = later pending probes
  end_by_reading line lines pending probes (Ok (Some act)) tells small later = end_by_room line lines pending probes act (limit_fault most_pending act pending probes) refl small later

  pub ends_plainly : (lines : List NumberedLine) → AreNumbered lines → Ends lines
  ends_plainly [] small pending probes = ends
  ends_plainly (line ∷ lines) small pending probes = end_by_reading line lines pending probes (reading line.text) refl small.0 (ends_plainly lines small.1)

-- ---- how many acts there are

count_by_room : (number : ℕ) (act : Act) (rest : Script) (most : ℕ) (full : Option (List ℕ)) → length (acts_of rest) ≤ most → length (acts_of (limited number act rest full)) ≤ most + 1
count_by_room number act rest most (Some text) within = omega arith
count_by_room number act rest most None within = omega arith

count_by_reading : (reading : Reading) (pending probes number : ℕ) (lines : List NumberedLine) (last : LinesEnd) (r : Result (Option Act) (List ℕ))
    → ((p q : ℕ) → length (acts_of (acts_from usual_sizes reading p q lines last)) ≤ length lines) → length (acts_of (read_as reading pending probes number lines last r)) ≤ length lines + 1
count_by_reading reading pending probes number lines last (Err text) later = omega arith
count_by_reading reading pending probes number lines last (Ok None) later = let within = later pending probes in omega arith
count_by_reading reading pending probes number lines last (Ok (Some act)) later =
    count_by_room number act (acts_from usual_sizes reading (pending_after act pending) (probes_after act probes) lines last) (length lines) (limit_fault most_pending act pending probes) (later (pending_after act pending) (probes_after act probes))

pub act_count : (reading : Reading) (lines : List NumberedLine) (last : LinesEnd) (pending probes : ℕ) → length (acts_of (acts_from usual_sizes reading pending probes lines last)) ≤ length lines
act_count reading [] last pending probes = omega arith
act_count reading (line ∷ lines) last pending probes =
    let within = count_by_reading reading pending probes line.number lines last (reading line.text) (λ p q. act_count reading lines last p q) in omega arith

-- ---- the lines of a script

-- the number of a byte's line
abbrev pub IsSmallFault : LineFault → Type 0
IsSmallFault Read = Unit {0}
IsSmallFault (ScriptTooLong number) = number < 2 ^ 32
IsSmallFault (TooLong number) = number < 2 ^ 32
IsSmallFault (BadByte number) = number < 2 ^ 32

abbrev pub IsSmallEnd : LinesEnd → Type 0
IsSmallEnd EndOfInput = Unit {0}
IsSmallEnd (Faulty fault) = IsSmallFault fault

-- few lines, whose numbers are small, and so is that of a byte at fault
pub record AreFew (number : ℕ) (script : ScriptLines) : Type 0 where
  pub count : number + length script.lines ≤ 268435458
  pub numbered : AreNumbered script.lines
  pub last : IsSmallEnd script.last

few_last : (number : ℕ) (text : List ℕ) → number ≤ 268435457 → AreFew number (last_line number text)
few_last number [] small = record { count = omega arith; numbered = tt; last = tt }
few_last number (byte ∷ text) small = record { count = omega arith; numbered = (omega arith, tt); last = tt }

few_fault : (number : ℕ) (fault : LineFault) → number ≤ 268435457 → IsSmallFault fault → AreFew number (ends_at (Faulty fault))
few_fault number fault small is = record { count = omega arith; numbered = tt; last = is }

few_more : (number : ℕ) (text : List ℕ) (rest : ScriptLines) → number ≤ 268435457 → AreFew (number + 1) rest → AreFew number (onto_lines (record { number = number; text = text }) rest)
few_more number text rest small is = record { count = (let more = is.count in omega arith); numbered = (omega arith, is.numbered); last = is.last }

-- a byte is at fault in its line, and none where the script goes on past its length
byte_small : (before number in_line byte : ℕ) (fault : LineFault) → number < 2 ^ 32 → byte_fault limits before number in_line byte ≡ Some fault → IsSmallFault fault
byte_small before number in_line byte fault small is = go (nat_le 268435456 before) (nat_le 512 in_line && not (byte == line_feed)) (not (is_allowed byte)) is
  where
    go : (over long bad : Bool) → cond over (Some (ScriptTooLong number)) (cond long (Some (TooLong number)) (cond bad (Some (BadByte number)) None)) ≡ Some fault → IsSmallFault fault
    go true long bad some = subst IsSmallFault (let e : ScriptTooLong number ≡ fault = cc in e) small
    go false true bad some = subst IsSmallFault (let e : TooLong number ≡ fault = cc in e) small
    go false false true some = subst IsSmallFault (let e : BadByte number ≡ fault = cc in e) small
    go false false false none = absurd (cc)

byte_room : (before number in_line byte : ℕ) → byte_fault limits before number in_line byte ≡ None → before < 268435456
byte_room before number in_line byte is = go (nat_le 268435456 before) (cond (nat_le 512 in_line && not (byte == line_feed)) (Some (TooLong number)) (cond (not (is_allowed byte)) (Some (BadByte number)) None)) refl is
  where
    go : (over : Bool) (others : Option LineFault) → nat_le 268435456 before ≡ over → cond over (Some (ScriptTooLong number)) others ≡ None → before < 268435456
    go true others tells none = absurd (cc)
    go false others tells none = grind (arith, nat_tests)

few_picks : (number : ℕ) (found : Option LineFault) (feed : Bool) (here more : ScriptLines) → number ≤ 268435457 → ((fault : LineFault) → found ≡ Some fault → IsSmallFault fault)
    → (found ≡ None → AreFew number here) → (found ≡ None → AreFew number more) → AreFew number (picks found feed here more)
few_picks number (Some fault) feed here more small each first second = few_fault number fault small (each fault refl)
few_picks number None true here more small each first second = first refl
few_picks number None false here more small each first second = second refl

few_from : (bytes : List ℕ) (before number : ℕ) (line : List ℕ) → number ≤ before + 1 → before ≤ 268435456 → AreFew number (lines_from limits before number line bytes)
few_from [] before number line low within = few_last number line (omega arith)
few_from (byte ∷ bytes) before number line low within =
    few_picks number (byte_fault limits before number (length line) byte) (byte == line_feed)
    (onto_lines (record { number = number; text = line }) (lines_from limits (before + 1) (number + 1) [] bytes)) (lines_from limits (before + 1) number (line ++ byte ∷ []) bytes)
    (omega arith) (λ fault is. byte_small before number (length line) byte fault (omega arith) is)
    (λ none. let less = byte_room before number (length line) byte none in few_more number line (lines_from limits (before + 1) (number + 1) [] bytes) (omega arith) (few_from bytes (before + 1) (number + 1) [] (omega arith) (omega arith)))
    (λ none. let less = byte_room before number (length line) byte none in few_from bytes (before + 1) number (line ++ byte ∷ []) (omega arith) (omega arith))

-- so are those of each script
pub few_lines : (bytes : List ℕ) → AreFew 1 (lines_of usual_bytes bytes)
few_lines bytes = few_from bytes (most_bytes - usual_bytes) 1 [] (omega arith) (omega arith)
