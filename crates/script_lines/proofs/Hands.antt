-- What is handed out, by what was gathered.
use Rattle.std.proofs.Common.{◌≡◌, ◌≢◌, ◌<◌, ◌≤◌, ◌+◌, ℕ, Some, Option, Result, Err, List, [], ◌∷◌, ◌++◌, ◌==◌, length, take, drop, refl, ap, sym, ◌∙◌, append_assoc, append-nil, arith, length-take, drop-drop, subst}
use Rattle.std.proofs.lemmas.List.{take-append-drop}
use Rattle.std.proofs.lemmas.Bool.Decides.{nat_tests}
use Rattle.std.proofs.Math.Seq.{take-length}
use Rattle.std.specs.Io.KnownBytes.{IsAtEnd}
use Rattle.script_lines.specs.declared.Line.{Line}
use Rattle.script_lines.specs.declared.LineFault.{LineFault}
use Rattle.script_lines.specs.declared.LineFault.TheVariants.{Read, ScriptTooLong, TooLong, BadByte}
use Rattle.script_lines.specs.declared.Over.TheVariants as over
use Rattle.script_lines.specs.declared.scan.Found.TheVariants as found
use Rattle.script_lines.specs.Lines.{limits, NumberedLine, EndOfInput, Faulty, line_feed, byte_fault, ends_at, onto_lines, lines_from, ScriptLines}
use Rattle.script_lines.specs.Reader.{HeldBytes, IsOpenLine, HandsByGiven, HandsWhole, HandsLast, Hands, Follows, lines_held}
use Rattle.script_lines.specs.Scan.{IsScanned, StopsAt, Gathers}
use Rattle.script_lines.specs.Given.{HasEnd, MayGive, GivesPieces}
use Rattle.script_lines.proofs.FirstLines.{picks, lines-open, lines-whole, lines-last}

-- a reader held some bytes and read more, of which so many are scanned, and these are left
pub record IsGathered (old : HeldBytes) (left after buffer : List ℕ) (scanned : ℕ) : Type 0 where
  pub got : List ℕ
  pub grown : buffer ≡ old.pending ++ got
  pub taken : left ≡ got ++ after
  pub scan : IsScanned buffer scanned old.before

-- the bytes that were held and left are the line's, those after it, and those left now
gathered : (old : HeldBytes) (left after buffer : List ℕ) (n : ℕ) → IsGathered old left after buffer n → old.pending ++ left ≡ take n buffer ++ (drop n buffer ++ after)
gathered old left after buffer n is =
    ap (λ l. old.pending ++ l) is.taken ∙ sym (append_assoc old.pending is.got after) ∙ ap (λ b. b ++ after) (sym is.grown ∙ sym (take-append-drop n buffer))
    ∙ append_assoc (take n buffer) (drop n buffer) after

-- ---- a byte that is a fault

faults-at : (before number : ℕ) (text : List ℕ) (byte : ℕ) (after : List ℕ) (fault : LineFault) → IsOpenLine before text → byte_fault limits (before + length text) number (length text) byte ≡ Some fault
    → lines_from limits before number [] (text ++ byte ∷ after) ≡ ends_at (Faulty fault)
faults-at before number text byte after fault is e =
    let fits : length text ≤ 512 = is.fits in
    let all : 0 + length text ≤ 512 = omega arith in
    let here : ScriptLines = onto_lines (record { number = number; text = text }) (lines_from limits (before + length text + 1) (number + 1) [] after) in
    let more : ScriptLines = lines_from limits (before + length text + 1) number (text ++ byte ∷ []) after in
    lines-open limits before number [] text (byte ∷ after) is.plain all is.within ∙ ap (λ o. picks o (byte == line_feed) here more) e

no_read-fault : (at number in_line byte : ℕ) → byte_fault limits at number in_line byte ≢ Some Read
no_read-fault at number in_line byte e = grind (arith, nat_tests)

faulty : (old : HeldBytes) (left after buffer : List ℕ) (n : ℕ) (fault : LineFault) → IsGathered old left after buffer n
    → StopsAt (found.Fault fault) old.before old.number (take n buffer) (drop n buffer) → (lines_held old left ≡ ends_at (Faulty fault)) × (fault ≢ Read)
faulty old left after buffer n fault is (byte, rest, stands, why) =
    let text = take n buffer in
    let bytes : old.pending ++ left ≡ text ++ byte ∷ (rest ++ after) = gathered old left after buffer n is ∙ ap (λ r. text ++ (r ++ after)) stands in (
      ap (lines_from limits old.before old.number []) bytes ∙ faults-at old.before old.number text byte (rest ++ after) fault is.scan.one_line why,
      λ read. no_read-fault (old.before + length text) old.number (length text) byte (why ∙ ap Some read),
    )

hands-by : (old new : HeldBytes) (left after : List ℕ) (fault : LineFault) → lines_held old left ≡ ends_at (Faulty fault) → fault ≢ Read → Hands old left (Err fault) new after
hands-by old new left after Read e other = absurd (other refl)
hands-by old new left after (ScriptTooLong line) e other = e
hands-by old new left after (TooLong line) e other = e
hands-by old new left after (BadByte line) e other = e

follows-by : (old new : HeldBytes) (left after : List ℕ) (fault : LineFault) → lines_held old left ≡ ends_at (Faulty fault) → fault ≢ Read → Follows old left (Err fault) new after
follows-by old new left after Read e other = absurd (other refl)
follows-by old new left after (ScriptTooLong line) e other = e
follows-by old new left after (TooLong line) e other = e
follows-by old new left after (BadByte line) e other = e

hands-fault-at : (old new : HeldBytes) (left after buffer : List ℕ) (n : ℕ) (fault : LineFault) → IsGathered old left after buffer n
    → StopsAt (found.Fault fault) old.before old.number (take n buffer) (drop n buffer) → Hands old left (Err fault) new after
hands-fault-at old new left after buffer n fault is stops = let e = faulty old left after buffer n fault is stops in hands-by old new left after fault e.0 e.1

follows-fault-at : (old new : HeldBytes) (left after buffer : List ℕ) (n : ℕ) (fault : LineFault) → IsGathered old left after buffer n
    → StopsAt (found.Fault fault) old.before old.number (take n buffer) (drop n buffer) → Follows old left (Err fault) new after
follows-fault-at old new left after buffer n fault is stops = let e = faulty old left after buffer n fault is stops in follows-by old new left after fault e.0 e.1

-- ---- a line that its line feed ends

-- the reader after it
pub record IsPast (old new : HeldBytes) (buffer : List ℕ) (n : ℕ) (line : NumberedLine) : Type 0 where
  pub text : line.text ≡ take n buffer
  pub number : line.number ≡ old.number
  pub pending : new.pending ≡ drop (n + 1) buffer
  pub before : new.before ≡ old.before + (n + 1)
  pub number_new : new.number ≡ old.number + 1
  pub going : new.over ≡ over.Going

hands-whole-at : (old new : HeldBytes) (left after buffer : List ℕ) (n : ℕ) (line : NumberedLine) → IsGathered old left after buffer n
    → StopsAt found.LineFeed old.before old.number (take n buffer) (drop n buffer) → IsPast old new buffer n line → HandsWhole old left line new after
hands-whole-at old new left after buffer n line is (rest, stands, room) past =
    let front = take n buffer in
    let next : rest ≡ new.pending = sym (past.pending ∙ sym (drop-drop 1 n buffer) ∙ ap (drop 1) stands) in
    let there : n ≤ length buffer = is.scan.there in
    let long : length line.text ≡ n = ap length past.text ∙ simp length-take (omega arith) in
    record {
      bytes = gathered old left after buffer n is ∙ ap (λ r. front ++ (r ++ after)) stands
          ∙ ap (λ r. front ++ 10 ∷ (r ++ after)) next ∙ ap (λ t. t ++ 10 ∷ (new.pending ++ after)) (sym past.text);
      one_line = subst (λ t. IsOpenLine old.before t) (sym past.text) is.scan.one_line;
      room = subst (λ t. old.before + length t < 268435456) (sym past.text) room;
      number = past.number;
      before_new = omega arith;
      number_new = past.number_new;
      going = past.going;
    }

pub follows-whole : (old new : HeldBytes) (left after : List ℕ) (line : NumberedLine) → HandsWhole old left line new after → lines_held old left ≡ onto_lines line (lines_held new after)
follows-whole old new left after line whole =
    let rest = new.pending ++ after in
    ap (lines_from limits old.before old.number []) whole.bytes
    ∙ lines-whole old.before old.number line.text rest whole.one_line whole.room
    ∙ ap (λ b. onto_lines (record { number = old.number; text = line.text }) (lines_from limits b (old.number + 1) [] rest)) (sym whole.before_new)
    ∙ ap (λ n. onto_lines (record { number = old.number; text = line.text }) (lines_from limits new.before n [] rest)) (sym whole.number_new)
    ∙ ap (λ n. onto_lines (record { number = n; text = line.text }) (lines_held new after)) (sym whole.number)

-- ---- the last line, without one

-- a reader that holds nothing more
ends-empty : (before number : ℕ) (pending after : List ℕ) → pending ≡ [] → after ≡ [] → lines_from limits before number [] (pending ++ after) ≡ ends_at EndOfInput
ends-empty before number pending after used none = ap (λ p. lines_from limits before number [] (p ++ after)) used ∙ ap (lines_from limits before number []) none

follows-last-at : (old : HeldBytes) (left after buffer : List ℕ) (n : ℕ) (line : NumberedLine) (before number : ℕ) (pending : List ℕ) → IsGathered old left after buffer n → drop n buffer ≡ [] → after ≡ [] → n ≢ 0
    → line.text ≡ take n buffer → line.number ≡ old.number → pending ≡ [] → lines_held old left ≡ onto_lines line (lines_from limits before number [] (pending ++ after))
follows-last-at old left after buffer n line before number pending is used none some text same_number empty =
    let there : n ≤ length buffer = is.scan.there in
    let long : length (take n buffer) ≡ n = simp length-take (omega arith) in
    let full : take n buffer ≢ [] = λ e. some (sym long ∙ ap length e) in
    let bytes : old.pending ++ left ≡ take n buffer = gathered old left after buffer n is ∙ ap (λ r. take n buffer ++ (r ++ after)) used ∙ ap (λ r. take n buffer ++ r) none ∙ append-nil (take n buffer) in
    ap (lines_from limits old.before old.number []) bytes ∙ lines-last old.before old.number (take n buffer) is.scan.one_line full
    ∙ ap (λ t. onto_lines (record { number = old.number; text = t }) (ends_at EndOfInput)) (sym text)
    ∙ ap (λ k. onto_lines (record { number = k; text = line.text }) (ends_at EndOfInput)) (sym same_number)
    ∙ ap (onto_lines line) (sym (ends-empty before number pending after empty none))

-- ---- the same, where the reader's fields were seen

pub hands-fault : (seen old new : HeldBytes) (left after buffer : List ℕ) (n : ℕ) (fault : LineFault) → seen ≡ old → IsGathered seen left after buffer n
    → StopsAt (found.Fault fault) seen.before seen.number (take n buffer) (drop n buffer) → Hands old left (Err fault) new after
hands-fault seen old new left after buffer n fault same is stops = subst (λ h. Hands h left (Err fault) new after) same (hands-fault-at seen new left after buffer n fault is stops)

pub follows-fault : (seen old new : HeldBytes) (left after buffer : List ℕ) (n : ℕ) (fault : LineFault) → seen ≡ old → IsGathered seen left after buffer n
    → StopsAt (found.Fault fault) seen.before seen.number (take n buffer) (drop n buffer) → Follows old left (Err fault) new after
follows-fault seen old new left after buffer n fault same is stops = subst (λ h. Follows h left (Err fault) new after) same (follows-fault-at seen new left after buffer n fault is stops)

pub hands-whole : (seen old new : HeldBytes) (left after buffer : List ℕ) (n : ℕ) (line : NumberedLine) → seen ≡ old → IsGathered seen left after buffer n
    → StopsAt found.LineFeed seen.before seen.number (take n buffer) (drop n buffer) → IsPast seen new buffer n line → HandsWhole old left line new after
hands-whole seen old new left after buffer n line same is stops past = subst (λ h. HandsWhole h left line new after) same (hands-whole-at seen new left after buffer n line is stops past)

pub follows-last : (seen old : HeldBytes) (left after buffer : List ℕ) (n : ℕ) (line : NumberedLine) (before number : ℕ) (pending : List ℕ) → seen ≡ old → IsGathered seen left after buffer n → drop n buffer ≡ []
    → after ≡ [] → n ≢ 0 → line.text ≡ take n buffer → line.number ≡ seen.number → pending ≡ [] → lines_held old left ≡ onto_lines line (lines_from limits before number [] (pending ++ after))
follows-last seen old left after buffer n line before number pending same is used none some text same_number empty =
    subst (λ h. lines_held h left ≡ onto_lines line (lines_from limits before number [] (pending ++ after))) same
    (follows-last-at seen left after buffer n line before number pending is used none some text same_number empty)

-- ---- by the pieces that were given

pub gives-pieces : (before : ℕ) (old new : List ℕ) (a b : Option (List ℕ)) (given0 given1 pieces : List (List ℕ)) → Gathers before old new a b given0 given1 pieces → (HasEnd pieces → IsAtEnd b)
    → GivesPieces given0 given1 a b pieces
gives-pieces before old new a b given0 given1 pieces is end = record { given = is.given; taken = is.taken; end = end }

hands-last-at : (old new : HeldBytes) (left after buffer : List ℕ) (n : ℕ) (line : NumberedLine) → IsGathered old left after buffer n → drop n buffer ≡ [] → after ≡ [] → n ≢ 0
    → line.text ≡ take n buffer → line.number ≡ old.number → new.pending ≡ [] → new.over ≡ over.Ended → HandsLast old left line new after
hands-last-at old new left after buffer n line is used none some text number empty ended =
    let there : n ≤ length buffer = is.scan.there in
    let long : length (take n buffer) ≡ n = simp length-take (omega arith) in
    record {
      bytes = gathered old left after buffer n is ∙ ap (λ r. take n buffer ++ (r ++ after)) used ∙ ap (λ r. take n buffer ++ r) none ∙ append-nil (take n buffer) ∙ sym text;
      some = λ e. some (sym long ∙ ap length (sym text ∙ e));
      one_line = subst (λ t. IsOpenLine old.before t) (sym text) is.scan.one_line;
      number = number;
      pending_new = empty;
      none = none;
      ended = ended;
    }

pub hands-last : (seen old new : HeldBytes) (left after buffer : List ℕ) (n : ℕ) (line : NumberedLine) → seen ≡ old → IsGathered seen left after buffer n → drop n buffer ≡ [] → after ≡ [] → n ≢ 0
    → line.text ≡ take n buffer → line.number ≡ seen.number → new.pending ≡ [] → new.over ≡ over.Ended → HandsLast old left line new after
hands-last seen old new left after buffer n line same is used none some text number empty ended =
    subst (λ h. HandsLast h left line new after) same (hands-last-at seen new left after buffer n line is used none some text number empty ended)

hands-read-at : (old new : HeldBytes) (left after buffer : List ℕ) (n : ℕ) → IsGathered old left after buffer n → n ≡ length buffer → new.pending ≡ buffer → new.over ≡ over.Going → Hands old left (Err Read) new after
hands-read-at old new left after buffer n is all same going =
    let whole : take n buffer ≡ new.pending = ap (λ k. take k buffer) all ∙ take-length buffer ∙ sym same in
    let bytes : old.pending ++ left ≡ new.pending ++ after =
    ap (λ l. old.pending ++ l) is.taken ∙ sym (append_assoc old.pending is.got after) ∙ ap (λ b. b ++ after) (sym is.grown ∙ sym same) in
    (record { bytes = bytes; one_line = subst (λ t. IsOpenLine old.before t) whole is.scan.one_line }, going)

pub hands-read : (seen old new : HeldBytes) (left after buffer : List ℕ) (n : ℕ) → seen ≡ old → IsGathered seen left after buffer n → n ≡ length buffer → new.pending ≡ buffer → new.over ≡ over.Going
    → Hands old left (Err Read) new after
hands-read seen old new left after buffer n same is all pending going = subst (λ h. Hands h left (Err Read) new after) same (hands-read-at seen new left after buffer n is all pending going)

-- the rest of it, where it goes on
pub by-given : (seen old new : HeldBytes) (result : Result (Option Line) LineFault) (buffer : List ℕ) (a b : Option (List ℕ)) (given0 given1 pieces : List (List ℕ))
    → seen ≡ old → Gathers seen.before seen.pending buffer a b given0 given1 pieces → old.over ≡ over.Going
    → ((left after : List ℕ) → MayGive left pieces after → Hands old left result new after) → (HasEnd pieces → new.over ≡ over.Ended) → HandsByGiven old pieces result new
by-given seen old new result buffer a b given0 given1 pieces same is going hands ended =
    let P : HeldBytes → Type 0 = λ h. Gathers h.before h.pending buffer a b given0 given1 pieces in
    let here = subst P same is in
    record { hands = λ _. hands; ended = ended; rests = λ other. absurd (other going); last = here.last }
