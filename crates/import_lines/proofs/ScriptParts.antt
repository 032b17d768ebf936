-- What the lines of a text have in its script: a line, the end, and a byte at fault.
use Rattle.std.proofs.Common.{◌≡◌, ◌≢◌, ◌⊎◌, ◌<◌, ◌≤◌, ◌+◌, ℕ, Bool, true, false, inl, inr, Option, List, [], ◌∷◌, ◌++◌, length, take, drop, refl, sym, ap, ◌∙◌, subst, append-nil, append_assoc, arith, length-append}
use Rattle.std.specs.Prelude.{IsTrue}
use Rattle.std.specs.List.{AllByRecursion}
use Rattle.std.specs.Io.KnownBytes.{Appends}
use Rattle.std.proofs.lemmas.List.{take-append-drop}
use Rattle.script_lines.specs.declared.LineFault.{LineFault}
use Rattle.script_lines.specs.declared.Over.TheVariants as over
use Rattle.script_lines.specs.Lines.{NumberedLine, ScriptLines, EndOfInput, Faulty, ends_at, onto_lines, lines_of, most_bytes, text_lines_from}
use Rattle.script_lines.specs.Reader.{HeldBytes, IsOpenLine, is_of_line, HandsWhole, HandsLast}
use Rattle.script_lines.proofs.Texts.{text-whole, text-last, text-fault, at_line, IsOfLine}
use Rattle.script_runs.specs.declared.Status.{Status}
use Rattle.script_runs.specs.declared.Status.TheVariants as status
use Rattle.import_lines.specs.Import.{Telling, LineTold, SaidBy, UnsaidBy, ImportedScript, IsSaid, IsLeftOut, stop_line, left_out_line, line_script, script_from}
use Rattle.import_lines.specs.Imported.{IsFront, EndsBy, EndsLine}
use Rattle.import_lines.specs.Rounds.{Standing, RoundBegins, GoesOn}
use Rattle.import_lines.specs.Writes.{LastBy, PassesAs, HasText, EndsAs}

-- an open line is one from wherever it begins
pub open-anew : (before : ℕ) (text : List ℕ) → before ≡ 0 → IsOpenLine before text → IsOpenLine 0 text
open-anew before text none is = subst (λ b. IsOpenLine b text) none is

-- ---- a line comes

-- how long a text is, by what was told of it and the rest
pub begins-size : (text : List ℕ) (held : HeldBytes) (left : List ℕ) (number : ℕ) (lines : ScriptLines) (s : RoundBegins text held left number lines)
    → length text ≡ length s.told + length (held.pending ++ left)
begins-size text held left number lines s = ap length s.text_is ∙ length-append s.told (held.pending ++ left)

-- a line, and those behind it
pub record LineComes (text line : List ℕ) (held : HeldBytes) (now : List ℕ) (number : ℕ) (lines : ScriptLines) : Type 0 where
  pub later : ScriptLines
  pub lines_are : lines ≡ onto_lines (record { number = number; text = line }) later
  pub told : List ℕ
  pub text_is : text ≡ told ++ (held.pending ++ now)
  pub later_is : later ≡ text_lines_from (length text) (length told) (number + 1) (held.pending ++ now)
  pub last : held.over ≡ over.Ended → held.pending ++ now ≡ []

-- with its line feed
comes-whole : (text : List ℕ) (old held : HeldBytes) (left now : List ℕ) (number : ℕ) (lines : ScriptLines) (line : NumberedLine) → old.before ≡ 0
    → RoundBegins text old left number lines → HandsWhole old left line held now → LineComes text line.text held now number lines
comes-whole text old held left now number lines line before s whole =
    let opened : IsOpenLine 0 line.text = open-anew old.before line.text before whole.one_line in
    let rest : List ℕ = held.pending ++ now in
    let size : length text ≡ length s.told + length (line.text ++ 10 ∷ rest) = subst (λ bytes. length text ≡ length s.told + length bytes) whole.bytes (begins-size text old left number lines s) in
    let long = length-append line.text (10 ∷ rest) in
    let room : length s.told + length line.text < length text = omega (arith, size, long) in
    let outer = length-append s.told (line.text ++ 10 ∷ []) in
    let inner = length-append line.text (10 ∷ []) in
    let behind : length s.told + length line.text + 1 ≡ length (s.told ++ (line.text ++ 10 ∷ [])) = omega (arith, outer, inner) in
    record {
      later = text_lines_from (length text) (length s.told + length line.text + 1) (number + 1) rest;
      lines_are = s.lines_are ∙ ap (λ bytes. text_lines_from (length text) (length s.told) number bytes) whole.bytes
          ∙ text-whole (length text) (length s.told) number line.text rest opened room;
      told = s.told ++ (line.text ++ 10 ∷ []);
      text_is = s.text_is ∙ ap (λ bytes. s.told ++ bytes) (whole.bytes ∙ sym (append_assoc line.text (10 ∷ []) rest)) ∙ sym (append_assoc s.told (line.text ++ 10 ∷ []) rest);
      later_is = ap (λ n. text_lines_from (length text) n (number + 1) rest) behind;
      last = λ ended. absurd (let bad : over.Going ≡ over.Ended = sym whole.going ∙ ended in cc);
    }

-- or without one
comes-last : (text : List ℕ) (old held : HeldBytes) (left now : List ℕ) (number : ℕ) (lines : ScriptLines) (line : NumberedLine) → old.before ≡ 0
    → RoundBegins text old left number lines → HandsLast old left line held now → LineComes text line.text held now number lines
comes-last text old held left now number lines line before s last =
    let opened : IsOpenLine 0 line.text = open-anew old.before line.text before last.one_line in
    let size : length text ≡ length s.told + length line.text = subst (λ rest. length text ≡ length s.told + length rest) last.bytes (begins-size text old left number lines s) in
    let room : length s.told + length line.text ≤ length text = omega (arith, size) in
    let none : held.pending ++ now ≡ [] = ap (λ l. l ++ now) last.pending_new ∙ last.none in
    record {
      later = ends_at EndOfInput;
      lines_are = s.lines_are ∙ ap (λ rest. text_lines_from (length text) (length s.told) number rest) last.bytes
          ∙ text-last (length text) (length s.told) number line.text opened room last.some;
      told = s.told ++ line.text;
      text_is = s.text_is ∙ ap (λ bytes. s.told ++ bytes) last.bytes ∙ sym (append-nil (s.told ++ line.text)) ∙ ap (λ bytes. (s.told ++ line.text) ++ bytes) (sym none);
      later_is = subst (λ rest. ends_at EndOfInput ≡ text_lines_from (length text) (length (s.told ++ line.text)) (number + 1) rest) (sym none) refl;
      last = λ ended. none;
    }

pub line-comes : (text : List ℕ) (old held : HeldBytes) (left now : List ℕ) (number : ℕ) (lines : ScriptLines) (line : NumberedLine) → old.before ≡ 0
    → RoundBegins text old left number lines → HandsWhole old left line held now ⊎ HandsLast old left line held now → LineComes text line.text held now number lines
line-comes text old held left now number lines line before s (inl whole) = comes-whole text old held left now number lines line before s whole
line-comes text old held left now number lines line before s (inr last) = comes-last text old held left now number lines line before s last

-- ---- it is told

-- what is written of a line behind which the import goes on
abbrev pub written_of : ℕ → LineTold → List ℕ
written_of number (SaidBy bytes) = bytes
written_of number (UnsaidBy why) = left_out_line number why

pub passes-appends : {Known : Type 0} → (telling : Telling Known) (at at_new : Standing Known) (line : List ℕ) (number : ℕ) (told : LineTold) (o n : Option (List ℕ)) → PassesAs telling at line number told at_new o n → Appends o n (written_of number told)
passes-appends telling at at_new line number (SaidBy bytes) o n (at_is, appends) = appends
passes-appends telling at at_new line number (UnsaidBy why) o n (leaves, at_is, appends) = appends

-- the next round begins behind it
next-round : (text line : List ℕ) (held new : HeldBytes) (now : List ℕ) (number : ℕ) (lines : ScriptLines) (c : LineComes text line held now number lines)
    → new.pending ≡ held.pending → new.over ≡ held.over → RoundBegins text new now (number + 1) c.later
next-round text line held new now number lines c pending_is over_is = record {
  told = c.told;
  text_is = c.text_is ∙ ap (λ p. c.told ++ (p ++ now)) (sym pending_is);
  lines_are = c.later_is ∙ ap (λ p. text_lines_from (length text) (length c.told) (number + 1) (p ++ now)) (sym pending_is);
  last = λ ended. ap (λ p. p ++ now) pending_is ∙ c.last (sym over_is ∙ ended);
}

pub line-goes : {Known : Type 0} → (telling : Telling Known) (text line : List ℕ) (held new : HeldBytes) (now : List ℕ) (number : ℕ) (at at_new : Standing Known) (lines : ScriptLines) (told : LineTold) (o n : Option (List ℕ))
    → telling.told at.known line ≡ told → PassesAs telling at line number told at_new o n → LineComes text line held now number lines
    → new.pending ≡ held.pending → new.over ≡ held.over → GoesOn telling text new now (number + 1) at at_new lines (written_of number told)
line-goes telling text line held new now number at at_new lines (SaidBy bytes) o n same (at_is, appends) c pending_is over_is = record {
  fate = IsSaid (record { number = number; text = line }) bytes;
  rest = c.later;
  is_fate = same;
  lines_are = c.lines_are;
  written_is = refl;
  at_is = at_is;
  begins = next-round text line held new now number lines c pending_is over_is;
}
line-goes telling text line held new now number at at_new lines (UnsaidBy why) o n same (leaves, at_is, appends) c pending_is over_is = record {
  fate = IsLeftOut (record { number = number; text = line }) why;
  rest = c.later;
  is_fate = (leaves, same);
  lines_are = c.lines_are;
  written_is = refl;
  at_is = at_is;
  begins = next-round text line held new now number lines c pending_is over_is;
}

-- ---- or the import ends at it

-- a part of a text that a script begins with
pub front-part : (n : ℕ) (text rest bytes : List ℕ) → bytes ≡ text ++ rest → IsFront (take n text) bytes
front-part n text rest bytes is =
    (drop n text ++ rest, is ∙ ap (λ t. t ++ rest) (sym (take-append-drop n text)) ∙ append_assoc (take n text) (drop n text) rest)

-- what a line has in the script stands at its front
has-told : (leave_out : Bool) (line : NumberedLine) (told : LineTold) (said passed : ImportedScript) (bytes : List ℕ)
    → HasText leave_out line.number told bytes → (rest : List ℕ) × ((line_script leave_out line told said passed).text ≡ bytes ++ rest)
has-told leave_out line (SaidBy said_bytes) said passed bytes has = (said.text, ap (λ b. b ++ said.text) (sym has))
has-told true line (UnsaidBy why) said passed bytes has = (passed.text, ap (λ b. b ++ passed.text) (sym has))
has-told false line (UnsaidBy why) said passed bytes has = ([], sym has ∙ sym (append-nil bytes))

has-front : {Known : Type 0} → (telling : Telling Known) (text line : List ℕ) (held : HeldBytes) (now : List ℕ) (number : ℕ) (at : Standing Known) (lines : ScriptLines) (told : LineTold) (bytes : List ℕ)
    → telling.told at.known line ≡ told → HasText at.leave_out number told bytes → LineComes text line held now number lines
    → (rest : List ℕ) × ((script_from telling at.leave_out at.known at.left_out lines.lines lines.last).text ≡ bytes ++ rest)
has-front telling text line held now number at lines told bytes same has c =
    let said : ImportedScript = script_from telling at.leave_out (telling.behind at.known line) at.left_out c.later.lines c.later.last in
    let passed : ImportedScript = script_from telling at.leave_out at.known (at.left_out + 1) c.later.lines c.later.last in
    let front = has-told at.leave_out (record { number = number; text = line }) told said passed bytes has in (
      front.0,
      ap (λ (l : ScriptLines). (script_from telling at.leave_out at.known at.left_out l.lines l.last).text) c.lines_are
          ∙ ap (λ t. (line_script at.leave_out (record { number = number; text = line }) t said passed).text) same ∙ front.1,
    )

-- what is written of a line at which the import ends
pub record LineEnds {Known : Type 0} (telling : Telling Known) (line : List ℕ) (number : ℕ) (at : Standing Known) (result : Status) (o n : Option (List ℕ)) : Type 0 where
  pub written : List ℕ
  pub appends : Appends o n written
  pub right : (text now : List ℕ) (held : HeldBytes) (lines : ScriptLines) → LineComes text line held now number lines → EndsBy Known telling at.leave_out at.known at.left_out lines.lines lines.last result written

pub line-ends : (Known : Type 0) → (telling : Telling Known) (line : List ℕ) (number : ℕ) (at : Standing Known) (told : LineTold) (result : Status) (o n : Option (List ℕ))
    → telling.told at.known line ≡ told → EndsAs at number told result o n → LineEnds telling line number at result o n
line-ends Known telling line number at told status.Memory o n same appends =
    record { written = []; appends = appends; right = λ text now held lines c. refl }
line-ends Known telling line number at told status.WriteFault o n same (bytes, has, (k, within, appends)) =
    record {
      written = take k bytes;
      appends = appends;
      right = λ text now held lines c.
          let front = has-front telling text line held now number at lines told bytes same has c in
          front-part k bytes front.0 (script_from telling at.leave_out at.known at.left_out lines.lines lines.last).text front.1;
    }
line-ends Known telling line number at told status.Script o n same (leaves, (why, told_is, appends)) =
    record {
      written = stop_line number why;
      appends = appends;
      right = λ text now held lines c.
          subst (λ (l : ScriptLines). EndsBy Known telling at.leave_out at.known at.left_out l.lines l.last status.Script (stop_line number why)) (sym c.lines_are)
          (leaves, (why, same ∙ told_is, refl));
    }
line-ends Known telling line number at told status.Done o n same ends = absurd ends
line-ends Known telling line number at told status.Refused o n same ends = absurd ends
line-ends Known telling line number at told status.ReadFault o n same ends = absurd ends
line-ends Known telling line number at told status.DeviceFault o n same ends = absurd ends
line-ends Known telling line number at told status.Usage o n same ends = absurd ends

-- no read failed there
pub line-other : {Known : Type 0} → (at : Standing Known) (number : ℕ) (told : LineTold) (result : Status) (o n : Option (List ℕ)) → EndsAs at number told result o n → result ≢ status.ReadFault
line-other at number told status.ReadFault o n ends same = ends
line-other at number told status.Done o n ends same = ends
line-other at number told status.Refused o n ends same = ends
line-other at number told status.Script o n ends same = absurd (cc)
line-other at number told status.WriteFault o n ends same = absurd (cc)
line-other at number told status.DeviceFault o n ends same = ends
line-other at number told status.Memory o n ends same = absurd (cc)
line-other at number told status.Usage o n ends same = ends

-- ---- the last text of a script

-- what is written of it
pub record LastEnds (Known : Type 0) (telling : Telling Known) (at : Standing Known) (text : List ℕ) (last result : Status) (o n : Option (List ℕ)) : Type 0 where
  pub written : List ℕ
  pub appends : Appends o n written
  pub right : (lines : ScriptLines) → (script_from telling at.leave_out at.known at.left_out lines.lines lines.last).text ≡ text
      → EndsBy Known telling at.leave_out at.known at.left_out lines.lines lines.last last text → EndsBy Known telling at.leave_out at.known at.left_out lines.lines lines.last result written
  pub other : last ≢ status.ReadFault → result ≢ status.ReadFault

pub last-ends : (Known : Type 0) → (telling : Telling Known) (at : Standing Known) (text : List ℕ) (last result : Status) (o n : Option (List ℕ)) → LastBy text last result o n → LastEnds Known telling at text last result o n
last-ends Known telling at text last result o n (inl (inl (is, appends))) =
    record {
      written = text;
      appends = appends;
      right = λ lines same ends. subst (λ r. EndsBy Known telling at.leave_out at.known at.left_out lines.lines lines.last r text) (sym is) ends;
      other = λ never same. never (sym is ∙ same);
    }
last-ends Known telling at text last result o n (inl (inr (is, (k, within, appends)))) =
    record {
      written = take k text;
      appends = appends;
      right = λ lines same ends.
          subst (λ r. EndsBy Known telling at.leave_out at.known at.left_out lines.lines lines.last r (take k text)) (sym is)
          (front-part k text [] (script_from telling at.leave_out at.known at.left_out lines.lines lines.last).text (same ∙ sym (append-nil text)));
      other = λ never same. let bad : status.WriteFault ≡ status.ReadFault = sym is ∙ same in absurd (cc);
    }
last-ends Known telling at text last result o n (inr (is, appends)) =
    record {
      written = [];
      appends = appends;
      right = λ lines same ends. subst (λ r. EndsBy Known telling at.leave_out at.known at.left_out lines.lines lines.last r []) (sym is) refl;
      other = λ never same. let bad : status.Memory ≡ status.ReadFault = sym is ∙ same in absurd (cc);
    }

-- the end of the input
pub at-end : (text : List ℕ) (old : HeldBytes) (left : List ℕ) (number : ℕ) (lines : ScriptLines)
    → RoundBegins text old left number lines → old.pending ++ left ≡ [] → lines ≡ ends_at EndOfInput
at-end text old left number lines s none = s.lines_are ∙ ap (λ rest. text_lines_from (length text) (length s.told) number rest) none

-- a byte at fault
pub at-fault : (text : List ℕ) (old : HeldBytes) (left : List ℕ) (number : ℕ) (lines : ScriptLines) (f : LineFault)
    → RoundBegins text old left number lines → lines_of most_bytes (old.pending ++ left) ≡ ends_at (Faulty f) → lines ≡ ends_at (Faulty (at_line number f))
at-fault text old left number lines f s faulty =
    let size = begins-size text old left number lines s in
    let room : length s.told + length (old.pending ++ left) ≤ length text = omega (arith, size) in
    s.lines_are ∙ (text-fault (length text) (length s.told) number (old.pending ++ left) f room faulty).0

-- no text is too long for a script
pub fault-of-line : (bytes : List ℕ) (f : LineFault) → lines_of most_bytes bytes ≡ ends_at (Faulty f) → IsOfLine f
fault-of-line bytes f same =
    let room : 0 + length bytes ≤ length bytes = omega arith in
    (text-fault (length bytes) 0 1 bytes f room same).1

-- an open line is one line, or none where it is empty
pub record FewLines (lines : ScriptLines) : Type 0 where
  pub few : length lines.lines ≤ 1
  pub last : lines.last ≡ EndOfInput

pub open-few : (size done number : ℕ) (text : List ℕ) → IsOpenLine 0 text → done + length text ≤ size → FewLines (text_lines_from size done number text)
open-few size done number [] opened room = record { few = omega arith; last = refl }
open-few size done number (byte ∷ bytes) opened room =
    let one : text_lines_from size done number (byte ∷ bytes) ≡ onto_lines (record { number = number; text = byte ∷ bytes }) (ends_at EndOfInput)
    = text-last size done number (byte ∷ bytes) opened room (λ e. absurd (cc)) in
    record { few = subst (λ (l : ScriptLines). length l.lines ≤ 1) (sym one) (omega arith); last = ap (λ (l : ScriptLines). l.last) one }

-- it has no line feed
plain-end : (front : List ℕ) → AllByRecursion (λ byte. IsTrue (is_of_line byte)) (front ++ 10 ∷ []) → ⊥
plain-end [] all = let bad : false ≡ true = all.0 in absurd (cc)
plain-end (byte ∷ front) all = plain-end front all.1

feed-behind : (told : List ℕ) (byte : ℕ) (bytes front : List ℕ) → AllByRecursion (λ b. IsTrue (is_of_line b)) (byte ∷ bytes) → told ++ byte ∷ bytes ≡ front ++ 10 ∷ [] → ⊥
feed-behind [] byte bytes front all is = plain-end front (subst (λ l. AllByRecursion (λ b. IsTrue (is_of_line b)) l) is all)
feed-behind (first ∷ told) byte bytes [] all is =
    let long = length-append told (byte ∷ bytes) in
    let same : length (first ∷ (told ++ byte ∷ bytes)) ≡ 1 = ap length is in
    omega (arith, long, same)
feed-behind (first ∷ told) byte bytes (b ∷ front) all is = feed-behind told byte bytes front all (ap (λ l. drop 1 l) is)

-- so it is empty where a text ends with one that it stands at the end of
pub open-none : (told tail : List ℕ) → IsOpenLine 0 tail → EndsLine (told ++ tail) → tail ≡ []
open-none told [] opened ends = refl
open-none told (byte ∷ bytes) opened ends = absurd (feed-behind told byte bytes ends.0 opened.plain ends.1)

-- and has no lines then
pub none-left : (size done number : ℕ) (text : List ℕ) → text ≡ [] → (text_lines_from size done number text).lines ≡ []
none-left size done number text none = ap (λ t. (text_lines_from size done number t).lines) none
