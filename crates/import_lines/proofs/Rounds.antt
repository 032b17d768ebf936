-- What a round comes to, by what its callees answer.
use Rattle.std.proofs.Common.{◌≡◌, ◌≢◌, ◌⊎◌, ◌++◌, ℕ, inl, inr, Option, Some, None, Result, Ok, Err, OnOk, List, [], refl, sym, ap, ◌∙◌, subst, append-nil}
use Rattle.std.specs.Prelude.{codes}
use Rattle.std.specs.List.{concat}
use Rattle.std.specs.Io.KnownBytes.{Appends}
use Rattle.call_history.specs.Cause.{IsCounted}
use Rattle.script_lines.specs.declared.Line.{Line}
use Rattle.script_lines.specs.declared.LineFault.{LineFault}
use Rattle.script_lines.specs.declared.LineFault.TheVariants as fault
use Rattle.script_lines.specs.declared.Over.{Over}
use Rattle.script_lines.specs.declared.Over.TheVariants as over
use Rattle.script_lines.specs.Given.{MayGive}
use Rattle.script_lines.specs.Lines.{ScriptLines, EndOfInput, Faulty, limits, ends_at, lines_from, lines_of, most_bytes, numbered}
use Rattle.script_lines.specs.Reader.{HeldBytes, IsOpenLine, lines_held, Hands, HandsByGiven, Again, Stays}
use Rattle.script_lines.proofs.Turns.{may-all}
use Rattle.script_runs.specs.declared.Status.{Status}
use Rattle.script_runs.specs.declared.Status.TheVariants as status
use Rattle.import_lines.specs.Import.{Telling, LineTold, SaidBy, UnsaidBy, end_line, end_script, left_out_count, script_from, stop_line}
use Rattle.import_lines.specs.Imported.{EndsBy}
use Rattle.import_lines.specs.Rounds.{Standing, MayGoOn, IsAnew, RoundBegins, RoundsBy}
use Rattle.import_lines.specs.Writes.{ClosesAs, LastBy, TellsLine}
use Rattle.import_lines.proofs.ScriptParts.{open-anew, line-comes, line-goes, line-ends, line-other, written_of, passes-appends, last-ends, at-end, at-fault, fault-of-line}

-- ---- a reader that may go on

-- where something else than the end came, it went on
still-going : (o : Over) (r : Result (Option Line) LineFault) → MayGoOn o → r ≢ Ok None → Again o r → o ≡ over.Going
still-going over.Going r may other again = refl
still-going over.Ended r may other again = absurd (other again)
still-going (over.Stopped stopped) r may other again = absurd may

going-fault : (o : Over) (f : LineFault) → MayGoOn o → Again o (Err f) → o ≡ over.Going
going-fault o f may again = still-going o (Err f) may (λ e. cc) again

going-line : (o : Over) (line : Line) → MayGoOn o → Again o (Ok (Some line)) → o ≡ over.Going
going-line o line may again = still-going o (Ok (Some line)) may (λ e. cc) again

-- it reads what is held and left as a script
held-anew : (old : HeldBytes) (left : List ℕ) → IsAnew old → lines_held old left ≡ lines_of most_bytes (old.pending ++ left)
held-anew old left anew =
    ap (λ b. lines_from limits b old.number [] (old.pending ++ left)) anew.before ∙ ap (λ n. lines_from limits 0 n [] (old.pending ++ left)) anew.number

-- a script within the length of one
pub no-script-end : (old new : HeldBytes) (pieces : List (List ℕ)) (line : ℕ) → IsAnew old → HandsByGiven old pieces (Err (fault.ScriptTooLong line)) new → Again old.over (Err (fault.ScriptTooLong line)) → ⊥
no-script-end old new pieces line anew by again =
    let going = going-fault old.over (fault.ScriptTooLong line) anew.goes_on again in
    fault-of-line (old.pending ++ concat pieces) (fault.ScriptTooLong line) (sym (held-anew old (concat pieces) anew) ∙ by.hands going (concat pieces) [] (may-all pieces))

-- and begins anew behind a line
pub line-anew : (held new : HeldBytes) (line : Line) (result : Result (Unit {0}) Status) → new ≡ record held { before = 0; number = 1 } → Stays (Ok (Some line)) held.over → OnOk result (IsAnew new)
line-anew held new line (Err answer) new_is stays = tt
line-anew held new line (Ok next) new_is stays =
    record { before = ap (λ (h : HeldBytes). h.before) new_is; number = ap (λ (h : HeldBytes). h.number) new_is; goes_on = subst MayGoOn (sym (ap (λ (h : HeldBytes). h.over) new_is)) (may held.over stays) }
  where
    may : (o : Over) → (o ≡ over.Going) ⊎ (o ≡ over.Ended) → MayGoOn o
    may o (inl going) = subst MayGoOn (sym going) tt
    may o (inr ended) = subst MayGoOn (sym ended) tt

-- ---- a round that ends the import

-- what it wrote, and that this is right of each text
abbrev pub RoundOf : (Known : Type 0) → Telling Known → HeldBytes → Standing Known → ℕ → List (List ℕ) → Result (Unit {0}) Status → HeldBytes → Standing Known → Option (List ℕ) → Option (List ℕ) → Type 0
RoundOf Known telling old at number pieces result new at_new o n =
    (written : List ℕ) × Appends o n written × RoundsBy telling old at number pieces written result new at_new

-- an answer that is no failed read
pub err-other : (answer : Status) → answer ≢ status.ReadFault → ◌≡◌ {A = Result (Unit {0}) Status} (Err answer) (Err status.ReadFault) → ⊥
err-other answer other same = other (let e : ◌≡◌ {A = Result (Unit {0}) Status} (Err answer) (Err status.ReadFault) = same in cc)

-- the read didn't fail, and neither is that what is answered
pub counted-other : (result : Result (Unit {0}) Status) (r : Result (Option Line) LineFault) (old new : ℕ) → (result ≡ Err status.ReadFault → ⊥) → (r ≡ Err fault.Read → ⊥) → IsCounted (r ≡ Err fault.Read) old new
    → IsCounted (result ≡ Err status.ReadFault) old new
counted-other result r old new never other is = record { later = is.later; once = is.once; failed = λ same. absurd (never same); stayed = λ _. is.stayed other }

module _ (Known : Type 0) (telling : Telling Known) (old new : HeldBytes) (number : ℕ) (at at_new : Standing Known) (pieces : List (List ℕ)) (anew : IsAnew old) (o n : Option (List ℕ)) where
  ends-by : (r : Result (Option Line) LineFault) (held : HeldBytes) (answer : Status) (written : List ℕ) → HandsByGiven old pieces r held → Appends o n written
      → ((text left now : List ℕ) (lines : ScriptLines) → MayGive left pieces now → RoundBegins text old left number lines → EndsBy Known telling at.leave_out at.known at.left_out lines.lines lines.last answer written)
      → (◌≡◌ {A = Result (Unit {0}) Status} (Err answer) (Err status.ReadFault) → IsOpenLine 0 (old.pending ++ concat pieces))
      → RoundOf Known telling old at number pieces (Err answer) new at_new o n
  ends-by r held answer written by appends ends opened =
      (written, appends, record { goes = tt; ends = ends; opened = opened; went = tt; ended = λ e. tt; rests = by.rests })

  -- a failed read: the bytes that came are a part of a line
  pub round-read : (held : HeldBytes) → HandsByGiven old pieces (Err fault.Read) held → Again old.over (Err fault.Read) → Appends o n []
      → RoundOf Known telling old at number pieces (Err status.ReadFault) new at_new o n
  round-read held by again appends =
      let keeps = by.hands (going-fault old.over fault.Read anew.goes_on again) (concat pieces) [] (may-all pieces) in
      let opened : IsOpenLine old.before (old.pending ++ concat pieces) = subst (λ l. IsOpenLine old.before l) (sym (keeps.0.bytes ∙ append-nil held.pending)) keeps.0.one_line in
      ends-by (Err fault.Read) held status.ReadFault [] by appends (λ text left now lines may s. refl) (λ same. open-anew old.before (old.pending ++ concat pieces) anew.before opened)

  -- a byte at fault
  faulty : (f : LineFault) (held : HeldBytes) (left now : List ℕ) → HandsByGiven old pieces (Err f) held → Again old.over (Err f) → MayGive left pieces now
      → (Hands old left (Err f) held now → lines_held old left ≡ ends_at (Faulty f)) → lines_of most_bytes (old.pending ++ left) ≡ ends_at (Faulty f)
  faulty f held left now by again may read = sym (held-anew old left anew) ∙ read (by.hands (going-fault old.over f anew.goes_on again) left now may)

  pub round-too-long : (held : HeldBytes) (line : ℕ) (result : Status) → HandsByGiven old pieces (Err (fault.TooLong line)) held → Again old.over (Err (fault.TooLong line))
      → LastBy (stop_line number (codes "line too long")) status.Script result o n → RoundOf Known telling old at number pieces (Err result) new at_new o n
  round-too-long held line result by again last =
      let l = last-ends Known telling at (stop_line number (codes "line too long")) status.Script result o n last in
      ends-by (Err (fault.TooLong line)) held result l.written by l.appends (λ text left now lines may s.
      let is : lines ≡ ends_at (Faulty (fault.TooLong number)) = at-fault text old left number lines (fault.TooLong line) s (faulty (fault.TooLong line) held left now by again may (λ h. h)) in
      l.right lines (ap (λ (l : ScriptLines). (script_from telling at.leave_out at.known at.left_out l.lines l.last).text) is)
      (subst (λ (l : ScriptLines). EndsBy Known telling at.leave_out at.known at.left_out l.lines l.last status.Script (stop_line number (codes "line too long"))) (sym is) refl))
      (λ same. absurd (err-other result (l.other (λ e. cc)) same))

  pub round-bad-byte : (held : HeldBytes) (line : ℕ) (result : Status) → HandsByGiven old pieces (Err (fault.BadByte line)) held → Again old.over (Err (fault.BadByte line))
      → LastBy (stop_line number (codes "bad byte")) status.Script result o n → RoundOf Known telling old at number pieces (Err result) new at_new o n
  round-bad-byte held line result by again last =
      let l = last-ends Known telling at (stop_line number (codes "bad byte")) status.Script result o n last in
      ends-by (Err (fault.BadByte line)) held result l.written by l.appends (λ text left now lines may s.
      let is : lines ≡ ends_at (Faulty (fault.BadByte number)) = at-fault text old left number lines (fault.BadByte line) s (faulty (fault.BadByte line) held left now by again may (λ h. h)) in
      l.right lines (ap (λ (l : ScriptLines). (script_from telling at.leave_out at.known at.left_out l.lines l.last).text) is)
      (subst (λ (l : ScriptLines). EndsBy Known telling at.leave_out at.known at.left_out l.lines l.last status.Script (stop_line number (codes "bad byte"))) (sym is) refl))
      (λ same. absurd (err-other result (l.other (λ e. cc)) same))

  -- the end of the input
  none-left : (p : Over) (held : HeldBytes) (text left now : List ℕ) (lines : ScriptLines) → old.over ≡ p → MayGoOn p → HandsByGiven old pieces (Ok None) held → MayGive left pieces now → RoundBegins text old left number lines
      → old.pending ++ left ≡ []
  none-left over.Going held text left now lines is may_go by may s = let h = by.hands is left now may in h.0
  none-left over.Ended held text left now lines is may_go by may s = s.last is
  none-left (over.Stopped stopped) held text left now lines is may_go by may s = absurd may_go

  -- the script ends there with these bytes, by this status
  ends-there : (held : HeldBytes) (bytes : List ℕ) (last result : Status) → HandsByGiven old pieces (Ok None) held → last ≢ status.ReadFault
      → (script_from telling at.leave_out at.known at.left_out [] EndOfInput).text ≡ bytes → EndsBy Known telling at.leave_out at.known at.left_out [] EndOfInput last bytes
      → LastBy bytes last result o n → RoundOf Known telling old at number pieces (Err result) new at_new o n
  ends-there held bytes last result by other text_is ends_so last_by =
      let l = last-ends Known telling at bytes last result o n last_by in
      ends-by (Ok None) held result l.written by l.appends (λ text left now lines may s.
      let is : lines ≡ ends_at EndOfInput = at-end text old left number lines s (none-left old.over held text left now lines refl anew.goes_on by may s) in
      l.right lines (ap (λ (l : ScriptLines). (script_from telling at.leave_out at.known at.left_out l.lines l.last).text) is ∙ text_is)
      (subst (λ (l : ScriptLines). EndsBy Known telling at.leave_out at.known at.left_out l.lines l.last last bytes) (sym is) ends_so))
      (λ same. absurd (err-other result (l.other other) same))

  ends-told : (held : HeldBytes) (result : Status) → HandsByGiven old pieces (Ok None) held → (told : LineTold) → telling.closing at.known ≡ told → ClosesAs at.left_out told result o n
      → RoundOf Known telling old at number pieces (Err result) new at_new o n
  ends-told held result by (SaidBy bytes) same last =
      ends-there held (left_out_count at.left_out ++ bytes) status.Done result by (λ e. cc) (ap (λ t. (end_script at.left_out t).text) same) (refl, refl, (bytes, same, refl)) last
  ends-told held result by (UnsaidBy why) same last =
      ends-there held (end_line why) status.Script result by (λ e. cc) (ap (λ t. (end_script at.left_out t).text) same) (why, same, refl) last

  pub round-end : (held : HeldBytes) (result : Status) → HandsByGiven old pieces (Ok None) held → ClosesAs at.left_out (telling.closing at.known) result o n
      → RoundOf Known telling old at number pieces (Err result) new at_new o n
  round-end held result by closes = ends-told held result by (telling.closing at.known) refl closes

  -- ---- or tells a line
  pub round-line : (line : Line) (held : HeldBytes) (result : Result (Unit {0}) Status) → new ≡ record held { before = 0; number = 1 }
      → HandsByGiven old pieces (Ok (Some line)) held → Again old.over (Ok (Some line)) → TellsLine telling at (numbered line).text number result at_new o n
      → RoundOf Known telling old at number pieces result new at_new o n
  round-line line held (Ok done) new_is by again tells =
      let going = going-line old.over line anew.goes_on again in (
        written_of number (telling.told at.known (numbered line).text),
        passes-appends telling at at_new (numbered line).text number (telling.told at.known (numbered line).text) o n tells,
        record {
          goes = λ text left now lines may s.
              line-goes telling text (numbered line).text held new now number at at_new lines (telling.told at.known (numbered line).text) o n refl tells
              (line-comes text old held left now number lines (numbered line) anew.before s (by.hands going left now may))
              (ap (λ (h : HeldBytes). h.pending) new_is) (ap (λ (h : HeldBytes). h.over) new_is);
          ends = tt;
          opened = λ same. absurd (cc);
          went = going;
          ended = λ e. ap (λ (h : HeldBytes). h.over) new_is ∙ by.ended e;
          rests = by.rests;
        },
      )
  round-line line held (Err answer) new_is by again tells =
      let going = going-line old.over line anew.goes_on again in
      let l = line-ends Known telling (numbered line).text number at (telling.told at.known (numbered line).text) answer o n refl tells in
      ends-by (Ok (Some line)) held answer l.written by l.appends (λ text left now lines may s.
      l.right text now held lines (line-comes text old held left now number lines (numbered line) anew.before s (by.hands going left now may)))
      (λ same. absurd (err-other answer (line-other at number (telling.told at.known (numbered line).text) answer o n tells) same))
