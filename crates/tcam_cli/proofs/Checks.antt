-- The check of a trace: what is told of it, and the line that was printed.
use Rattle.std.proofs.Common.{◌≡◌, ◌≢◌, ◌⊎◌, inl, inr, ℕ, Bool, true, Option, Some, None, IsSome, List, [], ◌++◌, refl, sym, ap, ◌∙◌, subst}
use Rattle.std.specs.List.{concat}
use Rattle.std.specs.Io.KnownBytes.{Appends}
use Rattle.std.proofs.KnownBytes.{Appends-nil}
use Rattle.std.proofs.lemmas.List.{append_cancel_left}
use Rattle.call_history.specs.Cause.{IsCounted}
use Rattle.script_lines.specs.Given.{MayGive, GivesPieces, counted}
use Rattle.script_lines.specs.declared.LineFault.TheVariants as line_fault
use Rattle.script_lines.proofs.Turns.{may-told, may-all}
use Rattle.tcam_device.specs.declared.Action.{Action}
use Rattle.replay.proofs.between.Leaving.{uncounted}
use Rattle.trace_check.specs.Answers.{TraceAnswer, Yes, No, Bad, Unread, IsTraceAnswer}
use Rattle.trace_verify.specs.declared.Verified.{Verified}
use Rattle.trace_verify.specs.declared.Verified.TheVariants as verified
use Rattle.trace_verify.specs.Verify.{IsHitlessText, VerifiesBy}
use Rattle.trace_verify.proofs.Hitless.{yes-hitless}
use Rattle.script_runs.specs.declared.Status.{Status}
use Rattle.script_runs.specs.declared.Status.TheVariants.{Done, Refused, Script as ScriptFault, ReadFault, WriteFault, DeviceFault, Memory, Usage}
use Rattle.script_runs.specs.Outcomes.{IsPrinted}
use Rattle.tcam_cli.specs.Headline.{Verifies, IsToldOf, IsCarriedOut, MayEnd, told_line, told_status}
use Rattle.tcam_cli.specs.Given.{ReadsInTime}
use Rattle.script_runs.specs.Rounds.{Closes}
use Rattle.tcam_cli.specs.Rounds.{ClosesReport, Reports}

-- ---- what the status says

not-done : (line : List ℕ) (last status : Status) (report : List ℕ) → last ≢ Done → IsPrinted line last status report → status ≡ Done → ⊥
not-done line last status report other (inl printed) done = other (sym printed.0 ∙ done)
not-done line last status report other (inr (inl printed)) done = let bad : WriteFault ≡ Done = sym printed.0 ∙ done in absurd (cc)
not-done line last status report other (inr (inr printed)) done = let bad : Memory ≡ Done = sym printed.0 ∙ done in absurd (cc)

-- what a yes says
pub told-hitless : (text : List ℕ) (status : Status) (report : List ℕ) → IsToldOf text status report → status ≡ Done → (commits : ℕ) × (writes : ℕ) × IsHitlessText text commits writes
told-hitless text status report (inl (Yes commits writes, is, printed)) done = (commits, writes, yes-hitless text commits writes is)
told-hitless text status report (inl (No line, is, printed)) done = absurd (not-done (told_line (No line)) Refused status report (λ e. absurd (cc)) printed done)
told-hitless text status report (inl (Bad line, is, printed)) done = absurd (not-done (told_line (Bad line)) ScriptFault status report (λ e. absurd (cc)) printed done)
told-hitless text status report (inl (Unread fault, is, printed)) done = absurd (not-done (told_line (Unread fault)) ScriptFault status report (λ e. absurd (cc)) printed done)
told-hitless text status report (inr (inl failed, none)) done = let bad : ReadFault ≡ Done = sym failed ∙ done in absurd (cc)
told-hitless text status report (inr (inr wanting, none)) done = let bad : Memory ≡ Done = sym wanting ∙ done in absurd (cc)

-- no trace is told of by these
no-device : (answer : TraceAnswer) → DeviceFault ≡ told_status answer → ⊥
no-device (Yes commits writes) e = absurd (cc)
no-device (No line) e = absurd (cc)
no-device (Bad line) e = absurd (cc)
no-device (Unread fault) e = absurd (cc)

no-usage : (answer : TraceAnswer) → Usage ≡ told_status answer → ⊥
no-usage (Yes commits writes) e = absurd (cc)
no-usage (No line) e = absurd (cc)
no-usage (Bad line) e = absurd (cc)
no-usage (Unread fault) e = absurd (cc)

-- where neither sink nor source failed and memory wasn't wanting, what is told decides the status
by-answer : (text : List ℕ) (status : Status) (report : List ℕ) → IsToldOf text status report → status ≢ WriteFault → status ≢ ReadFault → status ≢ Memory
    → (answer : TraceAnswer) × IsTraceAnswer text answer × (status ≡ told_status answer)
by-answer text status report (inl (answer, is, inl printed)) sink source memory = (answer, is, printed.0)
by-answer text status report (inl (answer, is, inr (inl printed))) sink source memory = absurd (sink printed.0)
by-answer text status report (inl (answer, is, inr (inr printed))) sink source memory = absurd (memory printed.0)
by-answer text status report (inr (inl failed, none)) sink source memory = absurd (source failed)
by-answer text status report (inr (inr wanting, none)) sink source memory = absurd (memory wanting)

pub told-ends : (text : List ℕ) (status : Status) (report : List ℕ) → IsToldOf text status report → MayEnd status Verifies (Some text)
told-ends text Done report told = let b = by-answer text Done report told (λ e. cc) (λ e. cc) (λ e. cc) in (b.0, b.1, sym b.2)
told-ends text Refused report told = let b = by-answer text Refused report told (λ e. cc) (λ e. cc) (λ e. cc) in (b.0, b.1, sym b.2)
told-ends text ScriptFault report told = let b = by-answer text ScriptFault report told (λ e. cc) (λ e. cc) (λ e. cc) in (tt, (b.0, b.1, sym b.2))
told-ends text DeviceFault report told = let b = by-answer text DeviceFault report told (λ e. cc) (λ e. cc) (λ e. cc) in no-device b.0 b.2
told-ends text Usage report told = let b = by-answer text Usage report told (λ e. cc) (λ e. cc) (λ e. cc) in absurd (no-usage b.0 b.2)
told-ends text ReadFault report told = tt
told-ends text WriteFault report told = tt
told-ends text Memory report told = tt

-- the same where the source tells nothing
untold-ends : (text : List ℕ) (status : Status) → MayEnd status Verifies (Some text) → MayEnd status Verifies None
untold-ends text Done ends = tt
untold-ends text Refused ends = tt
untold-ends text ScriptFault ends = (tt, tt)
untold-ends text ReadFault ends = tt
untold-ends text WriteFault ends = tt
untold-ends text DeviceFault ends = ends
untold-ends text Memory ends = tt
untold-ends text Usage ends = ends

-- ---- what was printed

-- what is told of a text, and its report
pub record Shown (text after : List ℕ) (status : Status) (before now : Option (List ℕ)) : Type 0 where
  pub report : List ℕ
  pub told : IsToldOf text status report
  pub grown : Appends before now report
  pub all : status ≡ Done → after ≡ []

shown-line : (text after : List ℕ) (status : Status) (before now : Option (List ℕ)) (answer : TraceAnswer) → IsTraceAnswer text answer
    → Closes (told_line answer) (told_status answer) status before now → (told_status answer ≡ Done → after ≡ []) → Shown text after status before now
shown-line text after status before now answer is (inl (same, whole)) all =
    record { report = told_line answer; told = inl (answer, is, inl (same, refl)); grown = whole; all = λ done. all (sym same ∙ done) }
shown-line text after status before now answer is (inr (same, (partial, rest, part, grown))) all = record {
  report = partial;
  told = inl (answer, is, inr (inl (same, (rest, part))));
  grown = grown;
  all = λ done. let bad : WriteFault ≡ Done = sym same ∙ done in absurd (cc);
}

shown-none : (text after : List ℕ) (status : Status) (before now : Option (List ℕ)) → (status ≡ ReadFault) ⊎ (status ≡ Memory) → before ≡ now → Shown text after status before now
shown-none text after status before now why same = record {
  report = [];
  told = inr (why, refl);
  grown = subst (λ n. Appends before n []) same (Appends-nil before);
  all = λ done. elim why [
    | inl failed ↦ (let bad : ReadFault ≡ Done = sym failed ∙ done in absurd (cc))
    | inr wanting ↦ (let bad : Memory ≡ Done = sym wanting ∙ done in absurd (cc))
  ];
}

module _ {S : Type 0} (taken : S → Option (List ℕ)) (accepted : S → List ℕ) (faults : S → ℕ) (old new : S) (status : Status) where
  abbrev pub Told : TraceAnswer → Type 0
  Told answer = (told : TraceAnswer) × (Some answer ≡ Some told) × ClosesReport taken accepted faults old new (told_line told) (told_status told) status

  closes-of : (answer : TraceAnswer) → Told answer → ClosesReport taken accepted faults old new (told_line answer) (told_status answer) status
  closes-of answer (told, is, closes) =
      let same : told ≡ answer = cc in
      subst (λ a. ClosesReport taken accepted faults old new (told_line a) (told_status a) status) same closes

  pub shown : (pieces : List (List ℕ)) (answer : Verified) → VerifiesBy pieces answer → Reports taken accepted faults old new answer status
      → (which : Bool) (text after : List ℕ) → MayGive text pieces after → Shown text after status (counted which (taken old) (accepted old)) (counted which (taken new) (accepted new))
  shown pieces (verified.Yes commits writes) by reports which text after may =
      let right = by.right text after may in
      shown-line text after status _ _ (Yes commits writes) right.told ((closes-of (Yes commits writes) reports).closes which) (λ done. right.yes.0)
  shown pieces (verified.No line) by reports which text after may =
      shown-line text after status _ _ (No line) (by.right text after may).told ((closes-of (No line) reports).closes which) (λ done. absurd (let bad : Refused ≡ Done = done in cc))
  shown pieces (verified.Bad line) by reports which text after may =
      shown-line text after status _ _ (Bad line) (by.right text after may).told ((closes-of (Bad line) reports).closes which) (λ done. absurd (let bad : ScriptFault ≡ Done = done in cc))
  shown pieces (verified.TooLong line) by reports which text after may =
      let answer = Unread (line_fault.TooLong line) in
      shown-line text after status _ _ answer (by.right text after may).told ((closes-of answer reports).closes which) (λ done. absurd (let bad : ScriptFault ≡ Done = done in cc))
  shown pieces (verified.BadByte line) by reports which text after may =
      let answer = Unread (line_fault.BadByte line) in
      shown-line text after status _ _ answer (by.right text after may).told ((closes-of answer reports).closes which) (λ done. absurd (let bad : ScriptFault ≡ Done = done in cc))
  shown pieces verified.Read by reports which text after may =
      shown-none text after status _ _ (inl reports.0) (ap (λ (s : S). counted which (taken s) (accepted s)) (sym reports.1))
  shown pieces verified.Memory by reports which text after may =
      shown-none text after status _ _ (inr reports.0) (ap (λ (s : S). counted which (taken s) (accepted s)) (sym reports.1))

  -- ---- the read that failed, and the sink's failures

  no-read : (line : List ℕ) (last : Status) → last ≢ ReadFault → ClosesReport taken accepted faults old new line last status → status ≡ ReadFault → ⊥
  no-read line last other closes failed = elim (closes.closes true) [
    | inl whole ↦ other (sym whole.0 ∙ failed)
    | inr part ↦ (let bad : WriteFault ≡ ReadFault = sym part.0 ∙ failed in absurd (cc))
  ]

  pub only-read : (answer : Verified) → Reports taken accepted faults old new answer status → status ≡ ReadFault → answer ≡ verified.Read
  only-read (verified.Yes commits writes) reports failed = absurd (no-read _ _ (λ e. absurd (let bad : Done ≡ ReadFault = e in cc)) (closes-of (Yes commits writes) reports) failed)
  only-read (verified.No line) reports failed = absurd (no-read _ _ (λ e. absurd (let bad : Refused ≡ ReadFault = e in cc)) (closes-of (No line) reports) failed)
  only-read (verified.Bad line) reports failed = absurd (no-read _ _ (λ e. absurd (let bad : ScriptFault ≡ ReadFault = e in cc)) (closes-of (Bad line) reports) failed)
  only-read (verified.TooLong line) reports failed = absurd (no-read _ _ (λ e. absurd (let bad : ScriptFault ≡ ReadFault = e in cc)) (closes-of (Unread (line_fault.TooLong line)) reports) failed)
  only-read (verified.BadByte line) reports failed = absurd (no-read _ _ (λ e. absurd (let bad : ScriptFault ≡ ReadFault = e in cc)) (closes-of (Unread (line_fault.BadByte line)) reports) failed)
  only-read verified.Read reports failed = refl
  only-read verified.Memory reports failed = absurd (let bad : Memory ≡ ReadFault = sym reports.0 ∙ failed in cc)

  pub read-status : (answer : Verified) → answer ≡ verified.Read → Reports taken accepted faults old new answer status → status ≡ ReadFault
  read-status answer same reports = (subst (λ a. Reports taken accepted faults old new a status) same reports).0

  pub sink-counted : (answer : Verified) → Reports taken accepted faults old new answer status → IsCounted (status ≡ WriteFault) (faults old) (faults new)
  sink-counted (verified.Yes commits writes) reports = (closes-of (Yes commits writes) reports).cause
  sink-counted (verified.No line) reports = (closes-of (No line) reports).cause
  sink-counted (verified.Bad line) reports = (closes-of (Bad line) reports).cause
  sink-counted (verified.TooLong line) reports = (closes-of (Unread (line_fault.TooLong line)) reports).cause
  sink-counted (verified.BadByte line) reports = (closes-of (Unread (line_fault.BadByte line)) reports).cause
  sink-counted verified.Read reports = uncounted _ (faults old) (faults new) (λ e. absurd (let bad : ReadFault ≡ WriteFault = sym reports.0 ∙ e in cc)) (ap faults reports.1)
  sink-counted verified.Memory reports = uncounted _ (faults old) (faults new) (λ e. absurd (let bad : Memory ≡ WriteFault = sym reports.0 ∙ e in cc)) (ap faults reports.1)

  -- what a sink told it tells still
  pub told-sink : (answer : Verified) → Reports taken accepted faults old new answer status → IsSome (taken old) → IsSome (taken new)
  told-sink (verified.Yes commits writes) reports some = (closes-of (Yes commits writes) reports).told some
  told-sink (verified.No line) reports some = (closes-of (No line) reports).told some
  told-sink (verified.Bad line) reports some = (closes-of (Bad line) reports).told some
  told-sink (verified.TooLong line) reports some = (closes-of (Unread (line_fault.TooLong line)) reports).told some
  told-sink (verified.BadByte line) reports some = (closes-of (Unread (line_fault.BadByte line)) reports).told some
  told-sink verified.Read reports some = subst (λ (s : S). IsSome (taken s)) (sym reports.1) some
  told-sink verified.Memory reports some = subst (λ (s : S). IsSome (taken s)) (sym reports.1) some

  -- and no device failed
  closes-device : (answer : TraceAnswer) → Told answer → status ≡ DeviceFault → ⊥
  closes-device answer told failed = elim ((closes-of answer told).closes true) [
    | inl whole ↦ no-device answer (sym failed ∙ whole.0)
    | inr part ↦ (let bad : WriteFault ≡ DeviceFault = sym part.0 ∙ failed in absurd (cc))
  ]

  pub no-device-fault : (answer : Verified) → Reports taken accepted faults old new answer status → status ≡ DeviceFault → ⊥
  no-device-fault (verified.Yes commits writes) reports = closes-device (Yes commits writes) reports
  no-device-fault (verified.No line) reports = closes-device (No line) reports
  no-device-fault (verified.Bad line) reports = closes-device (Bad line) reports
  no-device-fault (verified.TooLong line) reports = closes-device (Unread (line_fault.TooLong line)) reports
  no-device-fault (verified.BadByte line) reports = closes-device (Unread (line_fault.BadByte line)) reports
  no-device-fault verified.Read reports = λ e. let bad : ReadFault ≡ DeviceFault = sym reports.0 ∙ e in absurd (cc)
  no-device-fault verified.Memory reports = λ e. let bad : Memory ≡ DeviceFault = sym reports.0 ∙ e in absurd (cc)

-- ---- the clauses of a run

abbrev pub ShownAlways : Status → List (List ℕ) → Option (List ℕ) → Option (List ℕ) → Type 0
ShownAlways status pieces before now = (text after : List ℕ) → MayGive text pieces after → Shown text after status before now

pub checked-carried : (slots : ℕ) (status : Status) (given0 given1 : List (List ℕ)) (a b : Option (List ℕ)) (pieces : List (List ℕ)) (before now : Option (List ℕ)) (events : List Action) → events ≡ []
    → GivesPieces given0 given1 a b pieces → ShownAlways status pieces before now → IsCarriedOut Verifies slots status a b before now events
checked-carried slots status given0 given1 None b pieces before now events blank is shows = (blank, tt)
checked-carried slots status given0 given1 (Some old) None pieces before now events blank is shows = (blank, tt)
checked-carried slots status given0 given1 (Some old) (Some new) pieces before now events blank is shows =
    let may = may-told given0 given1 (Some old) (Some new) pieces old new is refl refl in
    let s = shows old new may in
    (blank, record { taken = concat pieces; parts = may.bytes; all = s.all; report = s.report; told = s.told; report_is = s.grown })

pub checked-ends : (status : Status) (given0 given1 : List (List ℕ)) (a b : Option (List ℕ)) (pieces : List (List ℕ)) (before now : Option (List ℕ))
    → GivesPieces given0 given1 a b pieces → ShownAlways status pieces before now → MayEnd status Verifies a
checked-ends status given0 given1 None b pieces before now is shows =
    let s = shows (concat pieces) [] (may-all pieces) in
    untold-ends (concat pieces) status (told-ends (concat pieces) status s.report s.told)
checked-ends status given0 given1 (Some old) None pieces before now is shows = absurd is.taken
checked-ends status given0 given1 (Some old) (Some new) pieces before now is shows =
    let s = shows old new (may-told given0 given1 (Some old) (Some new) pieces old new is refl refl) in
    told-ends old status s.report s.told

pub checked-in-time : (slots : ℕ) (status : Status) (given0 given1 pieces : List (List ℕ)) (events : List Action) (accepted_old accepted_new : List ℕ) (answer : Verified) → given1 ≡ given0 ++ pieces
    → VerifiesBy pieces answer → (status ≡ ReadFault → answer ≡ verified.Read) → ReadsInTime Verifies slots status given0 given1 events accepted_old accepted_new
checked-in-time slots status given0 given1 pieces events accepted_old accepted_new answer given by only =
    λ some is.
    let same : pieces ≡ some = append_cancel_left given0 pieces some (sym given ∙ is) in
    let whole : VerifiesBy some answer = subst (λ p. VerifiesBy p answer) same by in
    (whole.needed, λ failed. whole.failed (only failed))
