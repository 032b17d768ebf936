-- A part of a line leaves open what is told of a text.
use Rattle.std.proofs.Common.{◌≡◌, ◌<◌, ◌+◌, ℕ, Bool, true, false, Option, Some, None, inl, inr, List, [], ◌∷◌, ◌++◌, length, sym, ap, ◌∙◌, subst, arith, length-append, append_assoc, append-nil}
use Rattle.std.specs.List.{concat}
use Rattle.script_lines.specs.Given.{HasEnd, MayGive}
use Rattle.script_lines.specs.declared.LineFault.{LineFault}
use Rattle.script_lines.specs.Lines.{NumberedLine, EndOfInput}
use Rattle.script_lines.specs.Reader.{HeldBytes, IsOpenLine, LastAtOpenLine}
use Rattle.script_lines.proofs.Pieces.{concat-append, end-either}
use Rattle.script_lines.proofs.Texts.{text-bad}
use Rattle.trace_file.specs.declared.TraceLine.{TraceLine}
use Rattle.trace_file.specs.Lines.{trace_line}
use Rattle.trace_check.specs.declared.places.Place.{Place}
use Rattle.trace_check.specs.declared.places.Place.TheVariants.{AtStart, Between, InBatch, InEvents, AtEnd}
use Rattle.trace_check.specs.Places.{place_after}
use Rattle.trace_check.specs.Checked.{Checked}
use Rattle.trace_check.specs.Answers.{No, Unread, Checking, past, taken, is_blank_line, answer_at_end, TellsPlaced, TellsRead, TellsLine, Tells}
use Rattle.trace_verify.specs.Verify.{IsOpenText, LeavesOpen, IsNeeded}
use Rattle.trace_verify.specs.Rounds.{TellsLines, IsBehind, RoundBegins}
use Rattle.trace_verify.proofs.Judged.{line_at}
use Rattle.trace_verify.proofs.Lines.{begins-whole}

-- behind a whole line the end of the input is no fault of a byte
no-fault-at-end : (check : Checking) (place : Place) (fault : LineFault) → Unread fault ≡ answer_at_end check place → ⊥
no-fault-at-end check AtStart fault same = absurd (cc)
no-fault-at-end check (Between n) fault same = absurd (cc)
no-fault-at-end check (InBatch n k) fault same = absurd (cc)
no-fault-at-end check (InEvents n) fault same = absurd (cc)
no-fault-at-end check AtEnd fault same = absurd (cc)

module _ (fault : LineFault) where
  abbrev More : Checking → Type 0
  More next = Tells next [] EndOfInput (Unread fault)

  no-fault-placed : (check : Checking) (number : ℕ) (line : TraceLine) (place : Option Place) → TellsPlaced check number line More (Unread fault) place → ⊥
  no-fault-placed check number line None told = absurd (cc)
  no-fault-placed check number line (Some place) (inl told) = no-fault-at-end (taken check number line place) place fault told.1
  no-fault-placed check number line (Some place) (inr told) = let same : Unread fault ≡ No number = told.1 in absurd (cc)

  no-fault-read : (check : Checking) (number : ℕ) (read : Option TraceLine) → TellsRead check number More (Unread fault) read → ⊥
  no-fault-read check number None told = absurd (cc)
  no-fault-read check number (Some line) told = no-fault-placed check number line (place_after check.now.slots check.place line) told

  no-fault-line : (check : Checking) (line : NumberedLine) (blank : Bool) → TellsLine check line More (Unread fault) blank → ⊥
  no-fault-line check line true told = no-fault-at-end (past check line.number) check.place fault told
  no-fault-line check line false told = no-fault-read check line.number (trace_line check.now.version line.text) told

pub no-fault : (check : Checking) (line : NumberedLine) (fault : LineFault) → Tells check (line ∷ []) EndOfInput (Unread fault) → ⊥
no-fault check line fault told = no-fault-line fault check line (is_blank_line line.text) told

-- where a check stands before a part of a line, whatever comes behind it
pub record IsBefore (bytes part more : List ℕ) : Type 0 where
  pub done : ℕ
  pub check : Checking
  pub behind : IsBehind (bytes ++ more) done check (part ++ more)

-- A byte 0 behind it is a fault, and a line feed isn't, so no answer is right of both.
pub open-text : (bytes part : List ℕ) → IsOpenLine 0 part → ((more : List ℕ) → IsBefore bytes part more) → IsOpenText bytes
open-text bytes part opened before answer all =
    let zero = before (0 ∷ []) in
    let size = zero.behind.size in
    let long = length-append part (0 ∷ []) in
    let room : zero.done + length part < length (bytes ++ 0 ∷ []) = omega (arith, size, long) in
    let bad = text-bad (length (bytes ++ 0 ∷ [])) zero.done zero.check.next part opened room in
    let fault_is : answer ≡ Unread bad.0 = subst (λ l. TellsLines zero.check l answer) bad.1 (zero.behind.back answer (all (0 ∷ []))) in
    let feed = before (10 ∷ []) in
    let begins = begins-whole (bytes ++ 10 ∷ []) feed.done feed.check part [] feed.behind opened in
    let told = subst (λ l. TellsLines feed.check l answer) begins (feed.behind.back answer (all (10 ∷ []))) in
    no-fault feed.check (line_at feed.check part) bad.0 (subst (λ a. Tells feed.check (line_at feed.check part ∷ []) EndOfInput a) fault_is told)

-- ---- at a read

-- the pieces before a round, and those of it that are a part of one line, leave the answer open
pub unsettled : (pieces front : List (List ℕ)) (held : HeldBytes) (number : ℕ) (checked : Checked) → (HasEnd pieces → ⊥) → (HasEnd front → ⊥) → IsOpenLine 0 (held.pending ++ concat front)
    → ((text now : List ℕ) → MayGive text pieces now → RoundBegins text held now number checked) → LeavesOpen (pieces ++ front)
unsettled pieces front held number checked none none_front opened stands = record {
  goes_on = λ e. elim (end-either pieces front e) [ inl l ↦ none l | inr r ↦ none_front r ];
  undecided = open-text (concat (pieces ++ front)) (held.pending ++ concat front) opened before;
}
  where
    before : (more : List ℕ) → IsBefore (concat (pieces ++ front)) (held.pending ++ concat front) more
    before more =
        let text_is : concat (pieces ++ front) ++ more ≡ concat pieces ++ (concat front ++ more) = ap (λ l. l ++ more) (concat-append pieces front) ∙ append_assoc (concat pieces) (concat front) more in
        let s = stands (concat (pieces ++ front) ++ more) (concat front ++ more) (record { bytes = text_is; end = λ e. absurd (none e) }) in
        record { done = s.done; check = s.check; behind = subst (λ rest. IsBehind (concat (pieces ++ front) ++ more) s.done s.check rest) (sym (append_assoc held.pending (concat front) more)) s.behind }

no-push : (front : List (List ℕ)) (last : List ℕ) → front ++ last ∷ [] ≡ [] → ⊥
no-push [] last e = absurd (let bad : last ∷ [] ≡ [] = e in cc)
no-push (piece ∷ front) last e = absurd (let bad : piece ∷ (front ++ last ∷ []) ≡ [] = e in cc)

-- so that the last read of the round was needed, if it had one
pub needed-on : (pieces round : List (List ℕ)) (held : HeldBytes) (number : ℕ) (checked : Checked) → (HasEnd pieces → round ≡ []) → LastAtOpenLine 0 held.pending round
    → ((text now : List ℕ) → MayGive text pieces now → RoundBegins text held now number checked) → IsNeeded pieces → IsNeeded (pieces ++ round)
needed-on pieces round held number checked stays (inl empty) stands needed = subst IsNeeded (sym (ap (λ r. pieces ++ r) empty ∙ append-nil pieces)) needed
needed-on pieces round held number checked stays (inr (front, last, round_is, opened, none_front)) stands needed =
    let none : HasEnd pieces → ⊥ = λ e. no-push front last (sym round_is ∙ stays e) in
    inr (pieces ++ front, last, ap (λ r. pieces ++ r) round_is ∙ sym (append_assoc pieces front (last ∷ [])), unsettled pieces front held number checked none none_front opened stands)
