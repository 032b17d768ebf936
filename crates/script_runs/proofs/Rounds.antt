-- A run by what its source gave, round by round.
use Rattle.std.proofs.Common.{◌≡◌, ◌≢◌, ℕ, ◌-◌, ◌≤◌, Option, Some, None, IsSome, Result, List, [], ◌++◌, length, take, refl, ap, sym, ◌∙◌, subst, arith, length-append}
use Rattle.std.specs.List.{concat}
use Rattle.std.specs.Io.KnownBytes.{Consumes}
use Rattle.std.proofs.KnownBytes.{Appends-nil}
use Rattle.std.proofs.lemmas.List.{take-append-le}
use Rattle.std.proofs.Math.Seq.{take-length}
use Rattle.call_history.specs.Cause.{IsCounted}
use Rattle.script_lines.specs.declared.Line.{Line}
use Rattle.script_lines.specs.declared.LineFault.{LineFault}
use Rattle.script_lines.specs.declared.Over.TheVariants as over
use Rattle.script_lines.specs.Given.{MayGive, GivesPieces}
use Rattle.script_lines.specs.Lines.{most_bytes}
use Rattle.script_lines.specs.Reader.{HeldBytes, HandsByGiven}
use Rattle.script_lines.proofs.Turns.{may-told}
use Rattle.script_runs.specs.declared.Status.{Status}
use Rattle.script_runs.specs.declared.Status.TheVariants.{Memory}
use Rattle.script_runs.specs.Script.{script_of, script_so_far}
use Rattle.script_runs.specs.Outcomes.{RunKind, IsOutcome, MatchesOutcome}
use Rattle.script_runs.specs.Rounds.{IsGoing, SoFar, EndsRun, RoundsBy, RunsOn, WantsNext, Grows, outputs}

-- ---- before the first

abbrev pub fresh : ℕ → HeldBytes
fresh most = record { pending = []; before = most_bytes - most; number = 1; over = over.Going }

-- nothing is read, and nothing done
pub starts : {A C P E W V : Type 0} (kind : RunKind A C P E W V) (bytes : List ℕ) (held : HeldBytes) (left : List ℕ) (progress : P) (events : V) (taken : Option (List ℕ))
    → kind.printed [] ≡ [] → kind.counted kind.start ≡ kind.scripts.none_counted
    → held ≡ fresh kind.scripts.bytes → Some bytes ≡ Some left → progress ≡ kind.start → events ≡ kind.events_in [] → SoFar kind bytes held left progress events taken taken
starts kind bytes held left progress events taken quiet none new all begun blank =
    let same : bytes ≡ left = cc in
    let read : IsGoing kind.scripts bytes (fresh kind.scripts.bytes) left [] kind.scripts.none_counted = record {
      done = [];
      parts = same;
      script = λ rest. refl;
      last = λ rest. refl;
      whole = λ rest. refl;
    } in
    let at : SoFar kind bytes (fresh kind.scripts.bytes) left kind.start events taken taken = record {
      acts = [];
      effects = [];
      run = (refl, refl);
      events_is = blank;
      report = rw quiet (Appends-nil taken);
      read = rw none read;
    } in
    let whole : SoFar kind bytes (fresh kind.scripts.bytes) left progress events taken taken =
    subst (λ p. SoFar kind bytes (fresh kind.scripts.bytes) left p events taken taken) (sym begun) at in
    subst (λ h. SoFar kind bytes h left progress events taken taken) (sym new) whole

-- ---- a round

-- one that ends the run
pub rounds-some : {A C P E W V : Type 0} (kind : RunKind A C P E W V) (old : HeldBytes) (before : P) (pieces : List (List ℕ)) (answer : Result (Option Line) LineFault) (held : HeldBytes) (status : Status) (new : HeldBytes) (after : P) (events_old events_new : V) (taken_old taken_new : Option (List ℕ))
    → HandsByGiven old pieces answer held
    → ((bytes left now : List ℕ) (start : Option (List ℕ)) → MayGive left pieces now → SoFar kind bytes old left before events_old start taken_old → Grows kind.joined events_old events_new taken_old taken_new)
    → ((bytes taken left now : List ℕ) (start : Option (List ℕ)) → MayGive left pieces now → bytes ≡ taken ++ now → SoFar kind bytes old left before events_old start taken_old → EndsRun kind bytes taken now status events_new start taken_new)
    → (Some status ≡ Some Memory → (bytes left now : List ℕ) (start : Option (List ℕ)) → MayGive left pieces now → (s : SoFar kind bytes old left before events_old start taken_old) → WantsNext kind s.acts bytes before events_old events_new taken_old taken_new)
    → RoundsBy kind old before pieces (Some status) new after (outputs events_old taken_old) (outputs events_new taken_new)
rounds-some kind old before pieces answer held status new after events_old events_new taken_old taken_new by grows ends wants =
    record { goes = tt; ends = ends; wants = wants; ended = λ _. tt; rests = by.rests; last = by.last; grows = grows }

-- one that ends it for another reason than want of memory
pub rounds-other : {A C P E W V : Type 0} (kind : RunKind A C P E W V) (old : HeldBytes) (before : P) (pieces : List (List ℕ)) (answer : Result (Option Line) LineFault) (held : HeldBytes) (status : Status) (new : HeldBytes) (after : P) (events_old events_new : V) (taken_old taken_new : Option (List ℕ))
    → HandsByGiven old pieces answer held → status ≢ Memory
    → ((bytes left now : List ℕ) (start : Option (List ℕ)) → MayGive left pieces now → SoFar kind bytes old left before events_old start taken_old → Grows kind.joined events_old events_new taken_old taken_new)
    → ((bytes taken left now : List ℕ) (start : Option (List ℕ)) → MayGive left pieces now → bytes ≡ taken ++ now → SoFar kind bytes old left before events_old start taken_old → EndsRun kind bytes taken now status events_new start taken_new)
    → RoundsBy kind old before pieces (Some status) new after (outputs events_old taken_old) (outputs events_new taken_new)
rounds-other kind old before pieces answer held status new after events_old events_new taken_old taken_new by other grows ends =
    rounds-some kind old before pieces answer held status new after events_old events_new taken_old taken_new by grows ends (λ e. absurd (other (cc)))

-- one after which it goes on
pub rounds-none : {A C P E W V : Type 0} (kind : RunKind A C P E W V) (old : HeldBytes) (before : P) (pieces : List (List ℕ)) (answer : Result (Option Line) LineFault) (new : HeldBytes) (after : P) (events_old events_new : V) (taken_old taken_new : Option (List ℕ))
    → HandsByGiven old pieces answer new
    → ((bytes left now : List ℕ) (start : Option (List ℕ)) → MayGive left pieces now → SoFar kind bytes old left before events_old start taken_old → Grows kind.joined events_old events_new taken_old taken_new)
    → ((bytes left now : List ℕ) (start : Option (List ℕ)) → MayGive left pieces now → (s : SoFar kind bytes old left before events_old start taken_old) → RunsOn kind s.acts bytes new now after events_new start taken_new)
    → RoundsBy kind old before pieces None new after (outputs events_old taken_old) (outputs events_new taken_new)
rounds-none kind old before pieces answer new after events_old events_new taken_old taken_new by grows goes =
    record { goes = goes; ends = tt; wants = λ e. absurd (cc); ended = by.ended; rests = by.rests; last = by.last; grows = grows }

-- a reader that was over leaves all as it was
pub rests-same : (old : HeldBytes) (pieces : List (List ℕ)) (answer : Result (Option Line) LineFault) (new : HeldBytes) (left now : List ℕ) → HandsByGiven old pieces answer new → MayGive left pieces now → old.over ≢ over.Going → left ≡ now
rests-same old pieces answer new left now by may other = may.bytes ∙ ap (λ p. concat p ++ now) (by.rests other)

-- ---- at the end

abbrev pub TakesSome : Option (List ℕ) → Option (List ℕ) → Type 0
TakesSome old new = (bytes : List ℕ) × Consumes old new bytes

-- what was told stays told
pub told-source : (a b : Option (List ℕ)) → TakesSome a b → IsSome a → IsSome b
told-source None b takes some = absurd (cc)
told-source (Some x) None takes some = absurd takes.1
told-source (Some x) (Some y) takes some = refl

-- a count that stayed before the last round
pub counted-last : (old mid new : ℕ) (status fault : Status) → mid ≡ old → IsCounted (Some status ≡ Some fault) mid new → IsCounted (status ≡ fault) old new
counted-last old mid new status fault same is =
    let last : IsCounted (Some status ≡ Some fault) old new = subst (λ (count : ℕ). IsCounted (Some status ≡ Some fault) count new) same is in
    record { later = last.later; once = last.once; failed = λ e. last.failed (ap Some e); stayed = λ other. last.stayed (λ e. other (cc)) }

taken-of : (old taken new : List ℕ) → old ≡ taken ++ new → taken ≡ take (length old - length new) old
taken-of old taken new e =
    let long = simp length-append at (ap length e) in
    let n : length old - length new ≡ length taken = omega (arith, long) in
    let le : length taken ≤ length taken = omega arith in
    sym (ap (λ k. take k old) n ∙ ap (take (length taken)) e ∙ take-append-le (length taken) taken new le ∙ take-length taken)

-- how a run over a told script ends
abbrev pub EndsTold : {A C P E W V : Type 0} → RunKind A C P E W V → Status → Option (List ℕ) → Option (List ℕ) → V → Option (List ℕ) → Option (List ℕ) → Type 0
EndsTold kind status left_old left_new events taken_old taken_new =
    (left taken now : List ℕ) → left_old ≡ Some left → left_new ≡ Some now → left ≡ taken ++ now → EndsRun kind left taken now status events taken_old taken_new

pub matches : {A C P E W V : Type 0} (kind : RunKind A C P E W V) (status : Status) (old taken new : List ℕ) (events : V) (taken_old taken_new : Option (List ℕ)) → old ≡ taken ++ new
    → EndsRun kind old taken new status events taken_old taken_new
    → MatchesOutcome kind (script_of kind.scripts old) (script_so_far kind.scripts (take (length old - length new) old)) status events taken_old taken_new
matches kind status old taken new events taken_old taken_new parts ends =
    let By : List ℕ → Type 0 = λ t. IsOutcome kind (script_of kind.scripts old) (script_so_far kind.scripts t) status ends.effects ends.partial in
    record {
      effects = ends.effects;
      partial = ends.partial;
      outcome = subst By (taken-of old taken new parts) ends.outcome;
      events_is = ends.events_is;
      report_is = ends.report;
    }

abbrev pub EndsGiven : {A C P E W V : Type 0} → RunKind A C P E W V → Status → List (List ℕ) → V → Option (List ℕ) → Option (List ℕ) → Type 0
EndsGiven kind status pieces events taken_old taken_new =
    (left taken now : List ℕ) → MayGive left pieces now → left ≡ taken ++ now → EndsRun kind left taken now status events taken_old taken_new

pub ends-told : {A C P E W V : Type 0} (kind : RunKind A C P E W V) (status : Status) (given0 given1 : List (List ℕ)) (a b : Option (List ℕ)) (pieces : List (List ℕ)) (events : V) (taken_old taken_new : Option (List ℕ))
    → GivesPieces given0 given1 a b pieces → EndsGiven kind status pieces events taken_old taken_new → EndsTold kind status a b events taken_old taken_new
ends-told kind status given0 given1 a b pieces events taken_old taken_new is ends = λ left taken now ea eb parts. ends left taken now (may-told given0 given1 a b pieces left now is ea eb) parts
