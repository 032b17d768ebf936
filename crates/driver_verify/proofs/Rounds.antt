-- What a round comes to, by what its callees answer.
use Rattle.std.proofs.Common.{◌≡◌, ◌≢◌, ◌⊎◌, ◌+◌, ℕ, inl, inr, Option, Some, None, Result, Ok, Err, IfOk, IfErr, List, [], ◌∷◌, ◌++◌, length, refl, sym, ap, ◌∙◌, subst}
use Rattle.std.specs.List.{concat}
use Rattle.call_history.specs.Cause.{IsCounted}
use Rattle.script_lines.specs.declared.Line.{Line}
use Rattle.script_lines.specs.declared.LineFault.{LineFault}
use Rattle.script_lines.specs.declared.LineFault.TheVariants as fault
use Rattle.script_lines.specs.declared.Over.{Over}
use Rattle.script_lines.specs.declared.Over.TheVariants as over
use Rattle.script_lines.specs.Given.{MayGive}
use Rattle.script_lines.specs.Lines.{NumberedLine, LinesEnd, EndOfInput, Faulty, limits, ends_at, lines_from, lines_of, most_bytes, numbered, text_lines_from}
use Rattle.script_lines.specs.Reader.{HeldBytes, IsOpenLine, lines_held, HandsWhole, HandsLast, Hands, HandsByGiven, Again, Stays}
use Rattle.trace_verify.specs.Rounds.{IsAnew, MayGoOn}
use Rattle.trace_verify.proofs.Lines.{plain-utf8, open-anew}
use Rattle.trace_verify.proofs.Rounds.{going-fault}
use Rattle.driver_trace.specs.declared.Compared.{Compared}
use Rattle.driver_trace.specs.Told.{DriverAnswer, Hitless, Leaks, NotJudged, Bad, Unread, DriverTells, IsDriverAnswer}
use Rattle.driver_trace.proofs.No.{no_is_leak}
use Rattle.driver_trace.proofs.Yes.{yes_is_hitless}
use Rattle.line_judge.specs.Followed.{Followed}
use Rattle.driver_verify.specs.declared.DriverVerdict.{DriverVerdict}
use Rattle.driver_verify.specs.declared.DriverVerdict.TheVariants as verdict
use Rattle.driver_verify.specs.Verify.{IsRightOf}
use Rattle.driver_verify.specs.Rounds.{IsBehind, RoundBegins, PassesLine, EndsAtLine, EndsAtEnd, RoundsBy}
use Rattle.driver_verify.proofs.Judged.{line_at, passed, passed-by, bad-line, no-line, unjudged-line, yes-at-end, bad-at-end}
use Rattle.driver_verify.proofs.Lines.{begins-whole, begins-last, told-here, behind-whole, behind-last, told-at-end, told-at-fault}

-- ---- a reader that may go on

-- where a line came, it went on
going-line : (o : Over) (line : Line) → MayGoOn o → Again o (Ok (Some line)) → o ≡ over.Going
going-line over.Going line may again = refl
going-line over.Ended line may again = absurd (let e : ◌≡◌ {A = Result (Option Line) LineFault} (Ok (Some line)) (Ok None) = again in cc)
going-line (over.Stopped stopped) line may again = absurd may

-- it reads what is held and left as a script
held-anew : (old : HeldBytes) (left : List ℕ) → IsAnew old → lines_held old left ≡ lines_of most_bytes (old.pending ++ left)
held-anew old left anew =
    ap (λ b. lines_from limits b old.number [] (old.pending ++ left)) anew.before ∙ ap (λ n. lines_from limits 0 n [] (old.pending ++ left)) anew.number

-- and begins anew behind a line
pub line-anew : (held new : HeldBytes) (line : Line) (result : Result Followed DriverVerdict) → new ≡ record held { before = 0; number = 1 } → Stays (Ok (Some line)) held.over → IfOk result (λ _. IsAnew new)
line-anew held new line (Err answer) new_is stays = tt
line-anew held new line (Ok next) new_is stays =
    record { before = ap (λ (h : HeldBytes). h.before) new_is; number = ap (λ (h : HeldBytes). h.number) new_is; goes_on = subst MayGoOn (sym (ap (λ (h : HeldBytes). h.over) new_is)) (may held.over stays) }
  where
    may : (o : Over) → (o ≡ over.Going) ⊎ (o ≡ over.Ended) → MayGoOn o
    may o (inl going) = subst MayGoOn (sym going) tt
    may o (inr ended) = subst MayGoOn (sym ended) tt

-- ---- an answer that is no failure of the source

end-other : (number : ℕ) (judge : Followed) (answer : DriverVerdict) → EndsAtEnd judge number answer → answer ≢ verdict.Read
end-other number judge (verdict.Yes commits writes) ends same = absurd (cc)
end-other number judge (verdict.Bad line) ends same = absurd (cc)
end-other number judge (verdict.No line version leak) ends same = ends
end-other number judge (verdict.NotJudged line) ends same = ends
end-other number judge (verdict.TooLong line) ends same = ends
end-other number judge (verdict.BadByte line) ends same = ends
end-other number judge verdict.Read ends same = ends
end-other number judge verdict.Memory ends same = ends

line-other : (number : ℕ) (judge : Followed) (answer : DriverVerdict) (text : List ℕ) → EndsAtLine judge text number answer → answer ≢ verdict.Read
line-other number judge (verdict.Bad n) text ends same = absurd (cc)
line-other number judge (verdict.No n version leak) text ends same = absurd (cc)
line-other number judge (verdict.NotJudged n) text ends same = absurd (cc)
line-other number judge verdict.Memory text ends same = absurd (cc)
line-other number judge (verdict.Yes commits writes) text ends same = ends
line-other number judge (verdict.TooLong n) text ends same = ends
line-other number judge (verdict.BadByte n) text ends same = ends
line-other number judge verdict.Read text ends same = ends

other-counted : (A B : Type 0) (old new : ℕ) → (A → ⊥) → (B → ⊥) → IsCounted B old new → IsCounted A old new
other-counted A B old new never other is = record { later = is.later; once = is.once; failed = λ a. absurd (never a); stayed = λ _. is.stayed other }

-- no read failed where the input was at its end
pub end-counted : (number : ℕ) (judge : Followed) (answer : DriverVerdict) (r : Option Line) (old new : ℕ) → EndsAtEnd judge number answer
    → IsCounted (◌≡◌ {A = Result (Option Line) LineFault} (Ok r) (Err fault.Read)) old new → IsCounted (◌≡◌ {A = Result Followed DriverVerdict} (Err answer) (Err verdict.Read)) old new
end-counted number judge answer r old new ends is =
    other-counted (◌≡◌ {A = Result Followed DriverVerdict} (Err answer) (Err verdict.Read)) (◌≡◌ {A = Result (Option Line) LineFault} (Ok r) (Err fault.Read)) old new
    (λ same. end-other number judge answer ends (let e : ◌≡◌ {A = Result Followed DriverVerdict} (Err answer) (Err verdict.Read) = same in cc)) (λ e. cc) is

-- or a line came
pub line-counted : (number : ℕ) (judge : Followed) (text : List ℕ) (result : Result Followed DriverVerdict) (r : Option Line) (old new : ℕ) → IfErr result (λ answer. EndsAtLine judge text number answer)
    → IsCounted (◌≡◌ {A = Result (Option Line) LineFault} (Ok r) (Err fault.Read)) old new → IsCounted (result ≡ Err verdict.Read) old new
line-counted number judge text (Ok next) r old new ends is = other-counted _ _ old new (λ e. cc) (λ e. cc) is
line-counted number judge text (Err answer) r old new ends is =
    other-counted _ _ old new (λ same. line-other number judge answer text ends (let e : ◌≡◌ {A = Result Followed DriverVerdict} (Err answer) (Err verdict.Read) = same in cc)) (λ e. cc) is

-- ---- a round that ends the judgement

module _ (old new : HeldBytes) (number : ℕ) (judge : Followed) (pieces : List (List ℕ)) (anew : IsAnew old) where
  abbrev Ends : DriverVerdict → Type 0
  Ends answer = (text left now : List ℕ) → MayGive left pieces now → RoundBegins text old left number judge → IsRightOf judge.by text now answer

  ends-by : (r : Result (Option Line) LineFault) (held : HeldBytes) (answer : DriverVerdict) → HandsByGiven old pieces r held → Ends answer → RoundsBy old number judge pieces (Err answer) new
  ends-by r held answer by ends = record { goes = tt; ends = ends; same = tt; went = tt; ended = λ e. tt; rests = by.rests }

  -- a failed read
  pub rounds-read : (held : HeldBytes) → HandsByGiven old pieces (Err fault.Read) held → RoundsBy old number judge pieces (Err verdict.Read) new
  rounds-read held by = ends-by (Err fault.Read) held verdict.Read by (λ text left now may s. record { told = tt; yes = tt; no = tt })

  -- a byte at fault
  faulty : (f : LineFault) (held : HeldBytes) (left now : List ℕ) → HandsByGiven old pieces (Err f) held → Again old.over (Err f) → MayGive left pieces now
      → (Hands old left (Err f) held now → lines_held old left ≡ ends_at (Faulty f)) → lines_of most_bytes (old.pending ++ left) ≡ ends_at (Faulty f)
  faulty f held left now by again may read = sym (held-anew old left anew) ∙ read (by.hands (going-fault old.over f anew.goes_on again) left now may)

  pub rounds-too-long : (held : HeldBytes) (line : ℕ) → HandsByGiven old pieces (Err (fault.TooLong line)) held → Again old.over (Err (fault.TooLong line))
      → RoundsBy old number judge pieces (Err (verdict.TooLong number)) new
  rounds-too-long held line by again =
      ends-by (Err (fault.TooLong line)) held (verdict.TooLong number) by (λ text left now may s.
      let told = told-at-fault judge.by text s.done s.judging (old.pending ++ left) (fault.TooLong line) s.behind (faulty (fault.TooLong line) held left now by again may (λ h. h)) in
      record { told = subst (λ n. IsDriverAnswer judge.by text (Unread (fault.TooLong n))) s.next told; yes = tt; no = tt })

  pub rounds-bad-byte : (held : HeldBytes) (line : ℕ) → HandsByGiven old pieces (Err (fault.BadByte line)) held → Again old.over (Err (fault.BadByte line))
      → RoundsBy old number judge pieces (Err (verdict.BadByte number)) new
  rounds-bad-byte held line by again =
      ends-by (Err (fault.BadByte line)) held (verdict.BadByte number) by (λ text left now may s.
      let told = told-at-fault judge.by text s.done s.judging (old.pending ++ left) (fault.BadByte line) s.behind (faulty (fault.BadByte line) held left now by again may (λ h. h)) in
      record { told = subst (λ n. IsDriverAnswer judge.by text (Unread (fault.BadByte n))) s.next told; yes = tt; no = tt })

  -- the end of the input
  nothing-left : (a b : List ℕ) → a ++ b ≡ [] → b ≡ []
  nothing-left [] b none = none
  nothing-left (x ∷ a) b none = absurd (let bad : x ∷ (a ++ b) ≡ [] = none in cc)

  at-end : (o : Over) (held : HeldBytes) (text left now : List ℕ) → old.over ≡ o → MayGoOn o → HandsByGiven old pieces (Ok None) held → MayGive left pieces now → RoundBegins text old left number judge
      → (old.pending ++ left ≡ []) × (now ≡ [])
  at-end over.Going held text left now is may_go by may s = let h = by.hands is left now may in (h.0, h.1)
  at-end over.Ended held text left now is may_go by may s =
      let none = s.last is in
      let other : old.over ≢ over.Going = λ going. (let bad : over.Ended ≡ over.Going = sym is ∙ going in absurd (cc)) in
      let same : left ≡ now = may.bytes ∙ ap (λ p. concat p ++ now) (by.rests other) in
      (none, sym same ∙ nothing-left old.pending left none)
  at-end (over.Stopped stopped) held text left now is may_go by may s = absurd may_go

  end-right : (answer : DriverVerdict) (held : HeldBytes) (text left now : List ℕ) → EndsAtEnd judge number answer → HandsByGiven old pieces (Ok None) held → MayGive left pieces now
      → RoundBegins text old left number judge → IsRightOf judge.by text now answer
  end-right (verdict.Yes commits writes) held text left now ends by may s =
      let none = at-end old.over held text left now refl anew.goes_on by may s in
      let told = told-at-end judge.by text s.done s.judging (old.pending ++ left) (Hitless commits writes) s.behind none.0 (yes-at-end judge.by s.judging judge commits writes s.known ends.0 ends.1 ends.2) in
      record { told = told; yes = (none.1, yes_is_hitless judge.by text commits writes told); no = tt }
  end-right (verdict.Bad line) held text left now ends by may s =
      let none = at-end old.over held text left now refl anew.goes_on by may s in
      let told = told-at-end judge.by text s.done s.judging (old.pending ++ left) (Bad s.judging.next) s.behind none.0 (bad-at-end judge.by s.judging judge s.known ends.1) in
      record { told = subst (λ n. IsDriverAnswer judge.by text (Bad n)) (s.next ∙ sym ends.0) told; yes = tt; no = tt }
  end-right (verdict.No line version leak) held text left now ends by may s = absurd ends
  end-right (verdict.NotJudged line) held text left now ends by may s = absurd ends
  end-right (verdict.TooLong line) held text left now ends by may s = absurd ends
  end-right (verdict.BadByte line) held text left now ends by may s = absurd ends
  end-right verdict.Read held text left now ends by may s = absurd ends
  end-right verdict.Memory held text left now ends by may s = absurd ends

  pub rounds-end : (answer : DriverVerdict) (held : HeldBytes) → HandsByGiven old pieces (Ok None) held → EndsAtEnd judge number answer → RoundsBy old number judge pieces (Err answer) new
  rounds-end answer held by ends = ends-by (Ok None) held answer by (λ text left now may s. end-right answer held text left now ends by may s)

  -- ---- a line

  -- what is told at the line is told of the text
  line-told : (line : NumberedLine) (held : HeldBytes) (text left now : List ℕ) (answer : DriverAnswer) (s : RoundBegins text old left number judge)
      → HandsWhole old left line held now ⊎ HandsLast old left line held now
      → (IsOpenLine 0 line.text → (lines : List NumberedLine) (last : LinesEnd) → DriverTells judge.by s.judging (line_at s.judging line.text ∷ lines) last answer) → IsDriverAnswer judge.by text answer
  line-told line held text left now answer s (inl whole) told =
      let opened = open-anew old.before line.text anew.before whole.one_line in
      let behind = subst (λ rest. IsBehind judge.by text s.done s.judging rest) whole.bytes s.behind in
      told-here judge.by text s.done s.judging (line.text ++ 10 ∷ (held.pending ++ now)) line.text (text_lines_from (length text) (s.done + length line.text + 1) (s.judging.next + 1) (held.pending ++ now)) answer behind
      (begins-whole judge.by text s.done s.judging line.text (held.pending ++ now) behind opened) (told opened)
  line-told line held text left now answer s (inr last) told =
      let opened = open-anew old.before line.text anew.before last.one_line in
      let behind = subst (λ rest. IsBehind judge.by text s.done s.judging rest) last.bytes s.behind in
      told-here judge.by text s.done s.judging line.text line.text (ends_at EndOfInput) answer behind (begins-last judge.by text s.done s.judging line.text behind opened last.some) (told opened)

  line-right : (answer : DriverVerdict) (line : NumberedLine) (held : HeldBytes) (text left now : List ℕ) → EndsAtLine judge line.text number answer
      → RoundBegins text old left number judge → HandsWhole old left line held now ⊎ HandsLast old left line held now → IsRightOf judge.by text now answer
  line-right (verdict.Bad n) line held text left now ends s hands =
      let told = line-told line held text left now (Bad s.judging.next) s hands (λ opened lines last.
      bad-line judge.by s.judging judge line.text lines last s.known (plain-utf8 0 line.text opened) ends.1 ends.2) in
      record { told = subst (λ n. IsDriverAnswer judge.by text (Bad n)) (s.next ∙ sym ends.0) told; yes = tt; no = tt }
  line-right (verdict.No n version leak) line held text left now (n_is, written, (found, read, some, leaks)) s hands =
      let told = line-told line held text left now (Leaks s.judging.next leak) s hands (λ opened lines last. no-line s.judging judge line.text found leak lines last s.known written read some leaks) in
      let here : IsDriverAnswer judge.by text (Leaks n leak) = subst (λ n. IsDriverAnswer judge.by text (Leaks n leak)) (s.next ∙ sym n_is) told in
      record { told = here; yes = tt; no = no_is_leak judge.by text n leak here }
  line-right (verdict.NotJudged n) line held text left now (n_is, written, (found, read, some, asks)) s hands =
      let told = line-told line held text left now (NotJudged s.judging.next) s hands (λ opened lines last. unjudged-line s.judging judge line.text found lines last s.known written read some asks) in
      record { told = subst (λ n. IsDriverAnswer judge.by text (NotJudged n)) (s.next ∙ sym n_is) told; yes = tt; no = tt }
  line-right verdict.Memory line held text left now ends s hands = record { told = tt; yes = tt; no = tt }
  line-right (verdict.Yes commits writes) line held text left now ends s hands = absurd ends
  line-right (verdict.TooLong n) line held text left now ends s hands = absurd ends
  line-right (verdict.BadByte n) line held text left now ends s hands = absurd ends
  line-right verdict.Read line held text left now ends s hands = absurd ends

  -- ---- a round after which the judgement goes on

  line-on : (line : NumberedLine) (held : HeldBytes) (next : Followed) (text left now : List ℕ) → new.pending ≡ held.pending → new.over ≡ held.over → PassesLine judge line.text next
      → RoundBegins text old left number judge → HandsWhole old left line held now ⊎ HandsLast old left line held now → RoundBegins text new now (number + 1) next
  line-on line held next text left now pending_is over_is passes s (inl whole) =
      let opened = open-anew old.before line.text anew.before whole.one_line in
      let behind = subst (λ rest. IsBehind judge.by text s.done s.judging rest) whole.bytes s.behind in
      let p = passed s.judging judge line.text next s.known passes in
      let on = behind-whole judge.by text s.done s.judging p.0 line.text (held.pending ++ now) behind opened p.1 in
      record {
        done = s.done + length line.text + 1;
        judging = p.0;
        behind = subst (λ (by : Compared). IsBehind by text (s.done + length line.text + 1) p.0 (new.pending ++ now)) (sym (passed-by judge line.text next passes))
            (subst (λ l. IsBehind judge.by text (s.done + length line.text + 1) p.0 (l ++ now)) (sym pending_is) on);
        known = p.2;
        next = p.1.next ∙ ap (λ n. n + 1) s.next;
        last = λ ended. absurd (let bad : over.Going ≡ over.Ended = sym whole.going ∙ (sym over_is ∙ ended) in cc);
      }
  line-on line held next text left now pending_is over_is passes s (inr last) =
      let opened = open-anew old.before line.text anew.before last.one_line in
      let behind = subst (λ rest. IsBehind judge.by text s.done s.judging rest) last.bytes s.behind in
      let p = passed s.judging judge line.text next s.known passes in
      let on = behind-last judge.by text s.done s.judging p.0 line.text behind opened last.some p.1 in
      let none : new.pending ++ now ≡ [] = ap (λ l. l ++ now) (pending_is ∙ last.pending_new) ∙ last.none in
      record {
        done = s.done + length line.text;
        judging = p.0;
        behind = subst (λ (by : Compared). IsBehind by text (s.done + length line.text) p.0 (new.pending ++ now)) (sym (passed-by judge line.text next passes))
            (subst (λ rest. IsBehind judge.by text (s.done + length line.text) p.0 rest) (sym none) on);
        known = p.2;
        next = p.1.next ∙ ap (λ n. n + 1) s.next;
        last = λ ended. none;
      }

  -- what the line comes to, by how it is judged
  pub rounds-line : (line : Line) (held : HeldBytes) (result : Result Followed DriverVerdict) → new ≡ record held { before = 0; number = 1 }
      → HandsByGiven old pieces (Ok (Some line)) held → Again old.over (Ok (Some line))
      → IfOk result (λ next. PassesLine judge (numbered line).text next) → IfErr result (λ answer. EndsAtLine judge (numbered line).text number answer)
      → RoundsBy old number judge pieces result new
  rounds-line line held (Ok next) new_is by again passes ends =
      let going = going-line old.over line anew.goes_on again in
      record {
        goes = λ text left now may s.
            line-on (numbered line) held next text left now (ap (λ (h : HeldBytes). h.pending) new_is) (ap (λ (h : HeldBytes). h.over) new_is) passes s (by.hands going left now may);
        ends = tt;
        same = passed-by judge (numbered line).text next passes;
        went = going;
        ended = λ e. ap (λ (h : HeldBytes). h.over) new_is ∙ by.ended e;
        rests = by.rests;
      }
  rounds-line line held (Err answer) new_is by again passes ends =
      let going = going-line old.over line anew.goes_on again in
      ends-by (Ok (Some line)) held answer by (λ text left now may s. line-right answer (numbered line) held text left now ends s (by.hands going left now may))
