-- What a round comes to, by what its callees answer.
use Rattle.std.proofs.Common.{◌≡◌, ◌≢◌, ◌⊎◌, ◌+◌, ℕ, inl, inr, Option, Some, None, Result, Ok, Err, IfOk, IfErr, List, [], ◌∷◌, ◌++◌, length, refl, sym, ap, ◌∙◌, subst, append-nil}
use Rattle.std.specs.List.{concat}
use Rattle.call_history.specs.Cause.{IsCounted}
use Rattle.script_lines.specs.declared.Line.{Line}
use Rattle.script_lines.specs.declared.LineFault.{LineFault}
use Rattle.script_lines.specs.declared.LineFault.TheVariants as fault
use Rattle.script_lines.specs.declared.Over.{Over}
use Rattle.script_lines.specs.declared.Over.TheVariants as over
use Rattle.script_lines.specs.Given.{MayGive}
use Rattle.script_lines.specs.Lines.{NumberedLine, LinesEnd, EndOfInput, Faulty, limits, ends_at, lines_from, lines_of, most_bytes, numbered, text_lines_from}
use Rattle.script_lines.specs.Reader.{HeldBytes, IsOpenLine, lines_held, HandsWhole, HandsLast, Hands, HandsByGiven, Again, Stays, LastAtOpenLine}
use Rattle.script_lines.proofs.Turns.{may-all}
use Rattle.trace_check.specs.Checked.{Checked}
use Rattle.trace_check.specs.Answers.{TraceAnswer, Yes, No, Bad, Unread, Tells, IsTraceAnswer}
use Rattle.trace_verify.specs.declared.Verified.{Verified}
use Rattle.trace_verify.specs.declared.Verified.TheVariants as verified
use Rattle.trace_verify.specs.Verify.{IsRightOf}
use Rattle.trace_verify.specs.Rounds.{IsBehind, RoundBegins, IsAnew, MayGoOn, PassesLine, EndsAtLine, EndsAtEnd, RoundsBy}
use Rattle.trace_verify.proofs.Hitless.{yes-hitless}
use Rattle.trace_verify.proofs.Judged.{line_at, passed, bad-line, no-line, yes-at-end, bad-at-end}
use Rattle.trace_verify.proofs.Lines.{plain-utf8, open-anew, begins-whole, begins-last, told-here, behind-whole, behind-last, told-at-end, told-at-fault, fault-of-line}

-- ---- a reader that may go on

-- where something else than the end came, it went on
still-going : (o : Over) (r : Result (Option Line) LineFault) → MayGoOn o → r ≢ Ok None → Again o r → o ≡ over.Going
still-going over.Going r may other again = refl
still-going over.Ended r may other again = absurd (other again)
still-going (over.Stopped stopped) r may other again = absurd may

pub going-fault : (o : Over) (f : LineFault) → MayGoOn o → Again o (Err f) → o ≡ over.Going
going-fault o f may again = still-going o (Err f) may (λ e. cc) again

going-line : (o : Over) (line : Line) → MayGoOn o → Again o (Ok (Some line)) → o ≡ over.Going
going-line o line may again = still-going o (Ok (Some line)) may (λ e. cc) again

-- it reads what is held and left as a script
held-anew : (old : HeldBytes) (left : List ℕ) → IsAnew old → lines_held old left ≡ lines_of most_bytes (old.pending ++ left)
held-anew old left anew =
    ap (λ b. lines_from limits b old.number [] (old.pending ++ left)) anew.before ∙ ap (λ n. lines_from limits 0 n [] (old.pending ++ left)) anew.number

-- a script within the length of one
pub no-script-end : (old new : HeldBytes) (pieces : List (List ℕ)) (line : ℕ) → IsAnew old → HandsByGiven old pieces (Err (fault.ScriptTooLong line)) new → Again old.over (Err (fault.ScriptTooLong line)) → ⊥
no-script-end old new pieces line anew by again =
    let going = going-fault old.over (fault.ScriptTooLong line) anew.goes_on again in
    fault-of-line (old.pending ++ concat pieces) (fault.ScriptTooLong line) (sym (held-anew old (concat pieces) anew) ∙ by.hands going (concat pieces) [] (may-all pieces))

-- and begins anew behind a line
pub line-anew : (held new : HeldBytes) (line : Line) (result : Result Checked Verified) → new ≡ record held { before = 0; number = 1 } → Stays (Ok (Some line)) held.over → IfOk result (λ _. IsAnew new)
line-anew held new line (Err answer) new_is stays = tt
line-anew held new line (Ok next) new_is stays =
    record { before = ap (λ (h : HeldBytes). h.before) new_is; number = ap (λ (h : HeldBytes). h.number) new_is; goes_on = subst MayGoOn (sym (ap (λ (h : HeldBytes). h.over) new_is)) (may held.over stays) }
  where
    may : (o : Over) → (o ≡ over.Going) ⊎ (o ≡ over.Ended) → MayGoOn o
    may o (inl going) = subst MayGoOn (sym going) tt
    may o (inr ended) = subst MayGoOn (sym ended) tt

-- ---- an answer that is no failure of the source

end-other : (number : ℕ) (checked : Checked) (answer : Verified) → EndsAtEnd checked number answer → answer ≢ verified.Read
end-other number checked (verified.Yes commits writes) ends same = absurd (cc)
end-other number checked (verified.Bad line) ends same = absurd (cc)
end-other number checked (verified.No line) ends same = ends
end-other number checked (verified.TooLong line) ends same = ends
end-other number checked (verified.BadByte line) ends same = ends
end-other number checked verified.Read ends same = ends
end-other number checked verified.Memory ends same = ends

line-other : (number : ℕ) (checked : Checked) (answer : Verified) (text : List ℕ) → EndsAtLine checked text number answer → answer ≢ verified.Read
line-other number checked (verified.Bad n) text ends same = absurd (cc)
line-other number checked (verified.No n) text ends same = absurd (cc)
line-other number checked verified.Memory text ends same = absurd (cc)
line-other number checked (verified.Yes commits writes) text ends same = ends
line-other number checked (verified.TooLong n) text ends same = ends
line-other number checked (verified.BadByte n) text ends same = ends
line-other number checked verified.Read text ends same = ends

other-counted : (A B : Type 0) (old new : ℕ) → (A → ⊥) → (B → ⊥) → IsCounted B old new → IsCounted A old new
other-counted A B old new never other is = record { later = is.later; once = is.once; failed = λ a. absurd (never a); stayed = λ _. is.stayed other }

-- no read failed where the input was at its end
pub end-counted : (number : ℕ) (checked : Checked) (answer : Verified) (r : Option Line) (old new : ℕ) → EndsAtEnd checked number answer
    → IsCounted (◌≡◌ {A = Result (Option Line) LineFault} (Ok r) (Err fault.Read)) old new → IsCounted (◌≡◌ {A = Result Checked Verified} (Err answer) (Err verified.Read)) old new
end-counted number checked answer r old new ends is =
    other-counted _ _ old new (λ same. end-other number checked answer ends (let e : ◌≡◌ {A = Result Checked Verified} (Err answer) (Err verified.Read) = same in cc)) (λ e. cc) is

-- or a line came
pub line-counted : (number : ℕ) (checked : Checked) (text : List ℕ) (result : Result Checked Verified) (r : Option Line) (old new : ℕ) → IfErr result (λ answer. EndsAtLine checked text number answer)
    → IsCounted (◌≡◌ {A = Result (Option Line) LineFault} (Ok r) (Err fault.Read)) old new → IsCounted (result ≡ Err verified.Read) old new
line-counted number checked text (Ok next) r old new ends is = other-counted _ _ old new (λ e. cc) (λ e. cc) is
line-counted number checked text (Err answer) r old new ends is =
    other-counted _ _ old new (λ same. line-other number checked answer text ends (let e : ◌≡◌ {A = Result Checked Verified} (Err answer) (Err verified.Read) = same in cc)) (λ e. cc) is

-- ---- a round that ends the check

module _ (old new : HeldBytes) (number : ℕ) (checked : Checked) (pieces : List (List ℕ)) (anew : IsAnew old) where
  abbrev Ends : Verified → Type 0
  Ends answer = (text left now : List ℕ) → MayGive left pieces now → RoundBegins text old left number checked → IsRightOf text now answer

  ends-by : (r : Result (Option Line) LineFault) (held : HeldBytes) (answer : Verified) → HandsByGiven old pieces r held → answer ≢ verified.Read → Ends answer
      → RoundsBy old number checked pieces (Err answer) new
  ends-by r held answer by other ends = record {
    goes = tt;
    ends = ends;
    went = tt;
    ended = λ e. tt;
    rests = by.rests;
    last = subst (λ b. LastAtOpenLine b old.pending pieces) anew.before by.last;
    failed = λ same. absurd (other (let e : ◌≡◌ {A = Result Checked Verified} (Err answer) (Err verified.Read) = same in cc));
  }

  -- a failed read
  pub rounds-read : (held : HeldBytes) → HandsByGiven old pieces (Err fault.Read) held → Again old.over (Err fault.Read) → RoundsBy old number checked pieces (Err verified.Read) new
  rounds-read held by again =
      let going = going-fault old.over fault.Read anew.goes_on again in
      let keeps = by.hands going (concat pieces) [] (may-all pieces) in
      let opened : IsOpenLine old.before (old.pending ++ concat pieces) = subst (λ l. IsOpenLine old.before l) (sym (keeps.0.bytes ∙ append-nil held.pending)) keeps.0.one_line in
      record {
        goes = tt;
        ends = λ text left now may s. record { told = tt; yes = tt };
        went = tt;
        ended = λ e. tt;
        rests = by.rests;
        last = subst (λ b. LastAtOpenLine b old.pending pieces) anew.before by.last;
        failed = λ same. (going, λ e. let bad : over.Ended ≡ over.Going = sym (by.ended e) ∙ keeps.1 in absurd (cc), open-anew old.before (old.pending ++ concat pieces) anew.before opened);
      }

  -- a byte at fault
  faulty : (f : LineFault) (held : HeldBytes) (left now : List ℕ) → HandsByGiven old pieces (Err f) held → Again old.over (Err f) → MayGive left pieces now
      → (Hands old left (Err f) held now → lines_held old left ≡ ends_at (Faulty f)) → lines_of most_bytes (old.pending ++ left) ≡ ends_at (Faulty f)
  faulty f held left now by again may read = sym (held-anew old left anew) ∙ read (by.hands (going-fault old.over f anew.goes_on again) left now may)

  pub rounds-too-long : (held : HeldBytes) (line : ℕ) → HandsByGiven old pieces (Err (fault.TooLong line)) held → Again old.over (Err (fault.TooLong line))
      → RoundsBy old number checked pieces (Err (verified.TooLong number)) new
  rounds-too-long held line by again =
      ends-by (Err (fault.TooLong line)) held (verified.TooLong number) by (λ e. cc) (λ text left now may s.
      let told = told-at-fault text s.done s.check (old.pending ++ left) (fault.TooLong line) s.behind (faulty (fault.TooLong line) held left now by again may (λ h. h)) in
      record { told = subst (λ n. IsTraceAnswer text (Unread (fault.TooLong n))) s.next told; yes = tt })

  pub rounds-bad-byte : (held : HeldBytes) (line : ℕ) → HandsByGiven old pieces (Err (fault.BadByte line)) held → Again old.over (Err (fault.BadByte line))
      → RoundsBy old number checked pieces (Err (verified.BadByte number)) new
  rounds-bad-byte held line by again =
      ends-by (Err (fault.BadByte line)) held (verified.BadByte number) by (λ e. cc) (λ text left now may s.
      let told = told-at-fault text s.done s.check (old.pending ++ left) (fault.BadByte line) s.behind (faulty (fault.BadByte line) held left now by again may (λ h. h)) in
      record { told = subst (λ n. IsTraceAnswer text (Unread (fault.BadByte n))) s.next told; yes = tt })

  -- the end of the input
  nothing-left : (a b : List ℕ) → a ++ b ≡ [] → b ≡ []
  nothing-left [] b none = none
  nothing-left (x ∷ a) b none = absurd (let bad : x ∷ (a ++ b) ≡ [] = none in cc)

  at-end : (o : Over) (held : HeldBytes) (text left now : List ℕ) → old.over ≡ o → MayGoOn o → HandsByGiven old pieces (Ok None) held → MayGive left pieces now → RoundBegins text old left number checked
      → (old.pending ++ left ≡ []) × (now ≡ [])
  at-end over.Going held text left now is may_go by may s = let h = by.hands is left now may in (h.0, h.1)
  at-end over.Ended held text left now is may_go by may s =
      let none = s.last is in
      let other : old.over ≢ over.Going = λ going. (let bad : over.Ended ≡ over.Going = sym is ∙ going in absurd (cc)) in
      let same : left ≡ now = may.bytes ∙ ap (λ p. concat p ++ now) (by.rests other) in
      (none, sym same ∙ nothing-left old.pending left none)
  at-end (over.Stopped stopped) held text left now is may_go by may s = absurd may_go

  end-right : (answer : Verified) (held : HeldBytes) (text left now : List ℕ) → EndsAtEnd checked number answer → HandsByGiven old pieces (Ok None) held → MayGive left pieces now
      → RoundBegins text old left number checked → IsRightOf text now answer
  end-right (verified.Yes commits writes) held text left now ends by may s =
      let none = at-end old.over held text left now refl anew.goes_on by may s in
      let told = told-at-end text s.done s.check (old.pending ++ left) (Yes commits writes) s.behind none.0 (yes-at-end s.check checked commits writes s.known ends.0 ends.1 ends.2) in
      record { told = told; yes = (none.1, yes-hitless text commits writes told) }
  end-right (verified.Bad line) held text left now ends by may s =
      let none = at-end old.over held text left now refl anew.goes_on by may s in
      let told = told-at-end text s.done s.check (old.pending ++ left) (Bad s.check.next) s.behind none.0 (bad-at-end s.check checked s.known ends.1) in
      record { told = subst (λ n. IsTraceAnswer text (Bad n)) (s.next ∙ sym ends.0) told; yes = tt }
  end-right (verified.No line) held text left now ends by may s = absurd ends
  end-right (verified.TooLong line) held text left now ends by may s = absurd ends
  end-right (verified.BadByte line) held text left now ends by may s = absurd ends
  end-right verified.Read held text left now ends by may s = absurd ends
  end-right verified.Memory held text left now ends by may s = absurd ends

  pub rounds-end : (answer : Verified) (held : HeldBytes) → HandsByGiven old pieces (Ok None) held → EndsAtEnd checked number answer → RoundsBy old number checked pieces (Err answer) new
  rounds-end answer held by ends =
      ends-by (Ok None) held answer by (end-other number checked answer ends) (λ text left now may s. end-right answer held text left now ends by may s)

  -- ---- a line

  -- what is told at the line is told of the text
  line-told : (line : NumberedLine) (held : HeldBytes) (text left now : List ℕ) (answer : TraceAnswer) (s : RoundBegins text old left number checked)
      → HandsWhole old left line held now ⊎ HandsLast old left line held now
      → (IsOpenLine 0 line.text → (lines : List NumberedLine) (last : LinesEnd) → Tells s.check (line_at s.check line.text ∷ lines) last answer) → IsTraceAnswer text answer
  line-told line held text left now answer s (inl whole) told =
      let opened = open-anew old.before line.text anew.before whole.one_line in
      let behind = subst (λ rest. IsBehind text s.done s.check rest) whole.bytes s.behind in
      told-here text s.done s.check (line.text ++ 10 ∷ (held.pending ++ now)) line.text (text_lines_from (length text) (s.done + length line.text + 1) (s.check.next + 1) (held.pending ++ now)) answer behind (begins-whole text s.done s.check line.text (held.pending ++ now) behind opened) (told opened)
  line-told line held text left now answer s (inr last) told =
      let opened = open-anew old.before line.text anew.before last.one_line in
      let behind = subst (λ rest. IsBehind text s.done s.check rest) last.bytes s.behind in
      told-here text s.done s.check line.text line.text (ends_at EndOfInput) answer behind (begins-last text s.done s.check line.text behind opened last.some) (told opened)

  line-right : (answer : Verified) (line : NumberedLine) (held : HeldBytes) (text left now : List ℕ) → EndsAtLine checked line.text number answer
      → RoundBegins text old left number checked → HandsWhole old left line held now ⊎ HandsLast old left line held now → IsRightOf text now answer
  line-right (verified.Bad n) line held text left now ends s hands =
      let told = line-told line held text left now (Bad s.check.next) s hands (λ opened lines last.
      bad-line s.check checked line.text lines last s.known (plain-utf8 0 line.text opened) ends.1 ends.2) in
      record { told = subst (λ n. IsTraceAnswer text (Bad n)) (s.next ∙ sym ends.0) told; yes = tt }
  line-right (verified.No n) line held text left now (n_is, written, (found, read, refuses)) s hands =
      let told = line-told line held text left now (No s.check.next) s hands (λ opened lines last. no-line s.check checked line.text found lines last s.known written read refuses) in
      record { told = subst (λ n. IsTraceAnswer text (No n)) (s.next ∙ sym n_is) told; yes = tt }
  line-right verified.Memory line held text left now ends s hands = record { told = tt; yes = tt }
  line-right (verified.Yes commits writes) line held text left now ends s hands = absurd ends
  line-right (verified.TooLong n) line held text left now ends s hands = absurd ends
  line-right (verified.BadByte n) line held text left now ends s hands = absurd ends
  line-right verified.Read line held text left now ends s hands = absurd ends

  -- ---- a round after which the check goes on

  line-on : (line : NumberedLine) (held : HeldBytes) (next : Checked) (text left now : List ℕ) → new.pending ≡ held.pending → new.over ≡ held.over → PassesLine checked line.text next
      → RoundBegins text old left number checked → HandsWhole old left line held now ⊎ HandsLast old left line held now → RoundBegins text new now (number + 1) next
  line-on line held next text left now pending_is over_is passes s (inl whole) =
      let opened = open-anew old.before line.text anew.before whole.one_line in
      let behind = subst (λ rest. IsBehind text s.done s.check rest) whole.bytes s.behind in
      let p = passed s.check checked line.text next s.known passes in
      let on = behind-whole text s.done s.check p.0 line.text (held.pending ++ now) behind opened p.1 in
      record {
        done = s.done + length line.text + 1;
        check = p.0;
        behind = subst (λ l. IsBehind text (s.done + length line.text + 1) p.0 (l ++ now)) (sym pending_is) on;
        known = p.2;
        next = p.1.next ∙ ap (λ n. n + 1) s.next;
        last = λ ended. absurd (let bad : over.Going ≡ over.Ended = sym whole.going ∙ (sym over_is ∙ ended) in cc);
      }
  line-on line held next text left now pending_is over_is passes s (inr last) =
      let opened = open-anew old.before line.text anew.before last.one_line in
      let behind = subst (λ rest. IsBehind text s.done s.check rest) last.bytes s.behind in
      let p = passed s.check checked line.text next s.known passes in
      let on = behind-last text s.done s.check p.0 line.text behind opened last.some p.1 in
      let none : new.pending ++ now ≡ [] = ap (λ l. l ++ now) (pending_is ∙ last.pending_new) ∙ last.none in
      record {
        done = s.done + length line.text;
        check = p.0;
        behind = subst (λ rest. IsBehind text (s.done + length line.text) p.0 rest) (sym none) on;
        known = p.2;
        next = p.1.next ∙ ap (λ n. n + 1) s.next;
        last = λ ended. none;
      }

  -- what the line comes to, by how it is judged
  pub rounds-line : (line : Line) (held : HeldBytes) (result : Result Checked Verified) → new ≡ record held { before = 0; number = 1 }
      → HandsByGiven old pieces (Ok (Some line)) held → Again old.over (Ok (Some line))
      → IfOk result (λ next. PassesLine checked (numbered line).text next) → IfErr result (λ answer. EndsAtLine checked (numbered line).text number answer)
      → RoundsBy old number checked pieces result new
  rounds-line line held (Ok next) new_is by again passes ends =
      let going = going-line old.over line anew.goes_on again in
      record {
        goes = λ text left now may s.
            line-on (numbered line) held next text left now (ap (λ (h : HeldBytes). h.pending) new_is) (ap (λ (h : HeldBytes). h.over) new_is) passes s (by.hands going left now may);
        ends = tt;
        went = going;
        ended = λ e. ap (λ (h : HeldBytes). h.over) new_is ∙ by.ended e;
        rests = by.rests;
        last = subst (λ b. LastAtOpenLine b old.pending pieces) anew.before by.last;
        failed = λ same. absurd (cc);
      }
  rounds-line line held (Err answer) new_is by again passes ends =
      let going = going-line old.over line anew.goes_on again in
      ends-by (Ok (Some line)) held answer by (line-other number checked answer (numbered line).text ends)
      (λ text left now may s. line-right answer (numbered line) held text left now ends s (by.hands going left now may))
