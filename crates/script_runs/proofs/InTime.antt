-- Lines are carried out and told before the next read.
use Rattle.std.proofs.Common.{◌≡◌, ◌≢◌, inl, inr, ℕ, Option, Some, None, List, [], ◌∷◌, ◌++◌, refl, ap, sym, ◌∙◌, subst, append_assoc, append-nil}
use Rattle.std.specs.List.{concat}
use Rattle.std.proofs.lemmas.List.{append_cancel_left, same_from_push}
use Rattle.script_lines.specs.declared.Over.{Over}
use Rattle.script_lines.specs.declared.Over.TheVariants as over
use Rattle.script_lines.specs.Given.{HasEnd, MayGive}
use Rattle.script_lines.specs.Reader.{HeldBytes, IsOpenLine, KeepsAll, LastAtOpenLine}
use Rattle.script_lines.proofs.Pieces.{concat-append, concat-one, end-either}
use Rattle.script_lines.proofs.Turns.{may-second}
use Rattle.script_runs.specs.declared.Status.{Status}
use Rattle.script_runs.specs.declared.Status.TheVariants.{Memory}
use Rattle.script_runs.specs.Script.{Script, ScriptKind, NumberedAct, Whole, acts_of}
use Rattle.script_runs.specs.Outcomes.{RunKind, Runs}
use Rattle.script_runs.specs.InTime.{given_so_far, IsInTime, WantsInTime, ReadsLinesInTime}
use Rattle.script_runs.specs.Rounds.{IsGoing, IsReadSoFar, acts_only, SoFar, Grows, RoundsBy, outputs}
use Rattle.script_runs.proofs.Joined.{AreJoined, does-events, does-report}
use Rattle.script_runs.proofs.NextLines.{so-far}

-- ---- at the last of some reads

-- the lines that were whole before the last read are carried out and told
abbrev pub InTime : {A C P E W V : Type 0} → RunKind A C P E W V → List (List ℕ) → V → List ℕ → List ℕ → Type 0
InTime kind pieces events accepted_old accepted_new =
    (front : List (List ℕ)) (last : List ℕ) → pieces ≡ front ++ last ∷ [] → IsInTime kind front events accepted_old accepted_new

no-push : (front : List (List ℕ)) (last : List ℕ) → [] ≢ front ++ last ∷ []
no-push [] last e = absurd (cc)
no-push (piece ∷ front) last e = absurd (cc)

pub in-time-none : {A C P E W V : Type 0} (kind : RunKind A C P E W V) (events : V) (accepted_old accepted_new : List ℕ) → InTime kind [] events accepted_old accepted_new
in-time-none kind events accepted_old accepted_new = λ front last e. absurd (no-push front last e)

-- in time, and in time still
still-in-time : {A C P E W V : Type 0} (kind : RunKind A C P E W V) (joins : AreJoined kind.line kind.printed kind.events_in kind.joined) (before : List (List ℕ)) (events more : V) (old mid new bytes : List ℕ) → new ≡ mid ++ bytes
    → IsInTime kind before events old mid → IsInTime kind before (kind.joined events more) old new
still-in-time kind joins before events more old mid new bytes grown is = record {
  open_end = is.open_end;
  sound = is.sound;
  effects = is.effects;
  progress = is.progress;
  run = is.run;
  events_rest = kind.joined is.events_rest more;
  events_is = ap (λ l. kind.joined l more) is.events_is ∙ joins.assoc (kind.events_in is.effects) is.events_rest more;
  report_rest = is.report_rest ++ bytes;
  report_is = grown ∙ ap (λ l. l ++ bytes) is.report_is ∙ append_assoc (old ++ kind.printed is.effects) is.report_rest bytes;
}

still-going : {A C : Type 0} (o : Over) (scripts : ScriptKind A C) (bytes : List ℕ) (old : HeldBytes) (left : List ℕ) (acts : List (NumberedAct A)) (c : C)
    → (o ≢ over.Going → ⊥) → IsReadSoFar o scripts bytes old left acts c → IsGoing scripts bytes old left acts c
still-going over.Going scripts bytes old left acts c other read = read
still-going over.Ended scripts bytes old left acts c other read = absurd (other (λ e. let bad : over.Ended ≡ over.Going = e in cc))
still-going (over.Stopped stopped) scripts bytes old left acts c other read = absurd read

-- a read comes while a part of one line is held: the acts of what was given are those that are carried out
known-before : {A C P E W V : Type 0} (kind : RunKind A C P E W V) (p front : List (List ℕ)) (bytes left rest : List ℕ) (old : HeldBytes) (before : P) (writes : V) (start taken : Option (List ℕ))
    → (s : SoFar kind bytes old left before writes start taken)
    → bytes ≡ concat p ++ left → left ≡ concat front ++ rest → (old.over ≢ over.Going → ⊥) → IsOpenLine old.before (old.pending ++ concat front)
    → given_so_far kind.scripts (p ++ front) ≡ record { acts = s.acts; last = Whole }
known-before kind p front bytes left rest old before writes start taken s given come going plain =
    let kept : KeepsAll old left (record old { pending = old.pending ++ concat front }) rest = record {
      bytes = ap (λ l. old.pending ++ l) come ∙ sym (append_assoc old.pending (concat front) rest);
      one_line = plain;
    } in
    let read = still-going old.over kind.scripts bytes old left s.acts _ going s.read in
    let parts : bytes ≡ concat (p ++ front) ++ rest =
    given ∙ ap (λ l. concat p ++ l) come ∙ sym (append_assoc (concat p) (concat front) rest) ∙ ap (λ l. l ++ rest) (sym (concat-append p front)) in
    so-far kind.scripts bytes (concat (p ++ front)) old left (record old { pending = old.pending ++ concat front }) rest s.acts _ read kept parts

-- so all lines before it are carried out and told
module _ {A C P E W V : Type 0} (kind : RunKind A C P E W V) (joins : AreJoined kind.line kind.printed kind.events_in kind.joined) (p front : List (List ℕ)) (last : List ℕ) (old : HeldBytes) (before : P) (writes : V) (accepted_old accepted_new : List ℕ)
    (so_far : (left now : List ℕ) → MayGive left p now → SoFar kind left old now before writes (Some accepted_old) (Some accepted_new))
    (open_end : HasEnd p → ⊥) (going : old.over ≢ over.Going → ⊥) where
  abbrev all : List ℕ
  all = concat front ++ last

  s : SoFar kind (concat p ++ all) old all before writes (Some accepted_old) (Some accepted_new)
  s = so_far (concat p ++ all) all (record { bytes = refl; end = λ e. absurd (open_end e) })

  pub read-in-time : IsOpenLine old.before (old.pending ++ concat front) → (HasEnd front → ⊥) → IsInTime kind (p ++ front) writes accepted_old accepted_new
  read-in-time plain open_front =
      let here = known-before kind p front (concat p ++ all) all last old before writes (Some accepted_old) (Some accepted_new) s refl refl going plain in
      let At : Script A → Type 0 = λ script. Runs kind (acts_of script) s.effects before in
      record {
        open_end = λ e. elim (end-either p front e) [ inl l ↦ open_end l | inr r ↦ open_front r ];
        sound = ap (λ script. script.last) here;
        effects = s.effects;
        progress = before;
        run = subst At (sym here) s.run;
        events_rest = kind.events_in [];
        events_is = s.events_is ∙ sym (joins.none (kind.events_in s.effects));
        report_rest = [];
        report_is = s.report ∙ sym (append-nil (accepted_old ++ kind.printed s.effects));
      }

-- one round more
pub round-in-time : {A C P E W V : Type 0} (kind : RunKind A C P E W V) (joins : AreJoined kind.line kind.printed kind.events_in kind.joined) (p q : List (List ℕ)) (old : HeldBytes) (before : P) (events_old events_new : V) (accepted_old accepted_mid accepted_new : List ℕ)
    → ((left now : List ℕ) → MayGive left p now → SoFar kind left old now before events_old (Some accepted_old) (Some accepted_mid))
    → (HasEnd p → q ≡ []) → (old.over ≢ over.Going → q ≡ []) → LastAtOpenLine old.before old.pending q → Grows kind.joined events_old events_new (Some accepted_mid) (Some accepted_new)
    → InTime kind p events_old accepted_old accepted_mid → InTime kind (p ++ q) events_new accepted_old accepted_new
round-in-time kind joins p q old before writes events_new accepted_old accepted_mid accepted_new so_far ends rests (inl none) grows is =
    rw grows.events (λ front piece e.
    still-in-time kind joins front writes grows.more accepted_old accepted_mid accepted_new grows.bytes grows.report
    (is front piece (sym (append-nil p) ∙ ap (λ l. p ++ l) (sym none) ∙ e)))
round-in-time kind joins p q old before writes events_new accepted_old accepted_mid accepted_new so_far ends rests (inr (first, last, parts, plain, open_first)) grows is =
    rw grows.events (λ front piece e.
    let some : q ≢ [] = λ none. no-push first last (sym none ∙ parts) in
    let same = same_from_push (p ++ first) front last piece (append_assoc p first (last ∷ []) ∙ ap (λ l. p ++ l) (sym parts) ∙ e) in
    let here = read-in-time kind joins p first last old before writes accepted_old accepted_mid so_far (λ end. some (ends end)) (λ other. some (rests other)) plain open_first in
    still-in-time kind joins front writes grows.more accepted_old accepted_mid accepted_new grows.bytes grows.report
    (subst (λ f. IsInTime kind f writes accepted_old accepted_mid) same.0 here))

-- ---- the acts that are carried out begin with those that were known before the last read

abbrev Begins : {A C : Type 0} → ScriptKind A C → List (List ℕ) → List (NumberedAct A) → Type 0
Begins {A} scripts pieces acts =
    (front : List (List ℕ)) (last : List ℕ) → pieces ≡ front ++ last ∷ [] → (more : List A) × (acts_only acts ≡ acts_of (given_so_far scripts front) ++ more)

pub record StandsAt {A C P E W V : Type 0} (kind : RunKind A C P E W V) (pieces : List (List ℕ)) (bytes : List ℕ) (held : HeldBytes) (left : List ℕ) (progress : P) (events : V) (taken_old taken_new : Option (List ℕ)) : Type 0 where
  pub so_far : SoFar kind bytes held left progress events taken_old taken_new
  pub begins : Begins kind.scripts pieces so_far.acts

-- before any read
pub stands-first : {A C P E W V : Type 0} (kind : RunKind A C P E W V) (bytes : List ℕ) (held : HeldBytes) (left : List ℕ) (progress : P) (events : V) (taken_old taken_new : Option (List ℕ))
    → SoFar kind bytes held left progress events taken_old taken_new → StandsAt kind [] bytes held left progress events taken_old taken_new
stands-first kind bytes held left progress events taken_old taken_new s = record { so_far = s; begins = λ front last e. absurd (no-push front last e) }

-- with the reads of one round more
begins-read : {A C P E W V : Type 0} (kind : RunKind A C P E W V) (p q : List (List ℕ)) (old : HeldBytes) (before : P) (writes : V) (start taken : Option (List ℕ)) (left now : List ℕ)
    → (s : SoFar kind left old (concat q ++ now) before writes start taken)
    → (old.over ≢ over.Going → q ≡ []) → LastAtOpenLine old.before old.pending q → MayGive left (p ++ q) now → Begins kind.scripts p s.acts → Begins kind.scripts (p ++ q) s.acts
begins-read kind p q old before writes start taken left now s rests (inl none) may is =
    λ front last e. is front last (sym (append-nil p) ∙ ap (λ l. p ++ l) (sym none) ∙ e)
begins-read kind p q old before writes start taken left now s rests (inr (first, piece, parts, plain, open_first)) may is =
    λ front last e.
    let some : q ≢ [] = λ none. no-push first piece (sym none ∙ parts) in
    let same = same_from_push (p ++ first) front piece last (append_assoc p first (piece ∷ []) ∙ ap (λ l. p ++ l) (sym parts) ∙ e) in
    let given : left ≡ concat p ++ (concat q ++ now) = may.bytes ∙ ap (λ l. l ++ now) (concat-append p q) ∙ append_assoc (concat p) (concat q) now in
    let come : concat q ++ now ≡ concat first ++ (piece ++ now) = ap (λ l. concat l ++ now) parts ∙ ap (λ l. l ++ now) (concat-one first piece) ∙ append_assoc (concat first) piece now in
    let here = known-before kind p first left (concat q ++ now) (piece ++ now) old before writes start taken s given come (λ other. some (rests other)) plain in
    ([], sym (ap acts_of here) ∙ ap (λ f. acts_of (given_so_far kind.scripts f)) same.0 ∙ sym (append-nil (acts_of (given_so_far kind.scripts front))))

-- and with its act
begins-more : {A C : Type 0} (scripts : ScriptKind A C) (pieces : List (List ℕ)) (old new : List (NumberedAct A)) (more : List A) → acts_only new ≡ acts_only old ++ more → Begins scripts pieces old → Begins scripts pieces new
begins-more scripts pieces old new more grown is =
    λ front last e. let (some, first) = is front last e in
    (some ++ more, grown ∙ ap (λ l. l ++ more) first ∙ append_assoc (acts_of (given_so_far scripts front)) some more)

pub stands-next : {A C P E W V : Type 0} (kind : RunKind A C P E W V) (p q : List (List ℕ)) (old : HeldBytes) (before : P) (new : HeldBytes) (after : P) (events_old events_new : V) (start mid end : Option (List ℕ)) (left now : List ℕ)
    → RoundsBy kind old before q None new after (outputs events_old mid) (outputs events_new end) → MayGive left (p ++ q) now
    → StandsAt kind p left old (concat q ++ now) before events_old start mid → StandsAt kind (p ++ q) left new now after events_new start end
stands-next kind p q old before new after events_old events_new start mid end left now round may s =
    let on = round.goes left (concat q ++ now) now start (may-second left now p q may) s.so_far in
    record {
      so_far = on.so_far;
      begins = begins-more kind.scripts (p ++ q) s.so_far.acts on.so_far.acts on.more on.acts_are
          (begins-read kind p q old before events_old start mid left now s.so_far round.rests round.last may s.begins);
    }

-- memory was wanting at an act that was not known before the last read
abbrev WantsAll : {A C P E W V : Type 0} → RunKind A C P E W V → List (List ℕ) → V → List ℕ → List ℕ → Type 0
WantsAll kind pieces events accepted_old accepted_new =
    (front : List (List ℕ)) (last : List ℕ) → pieces ≡ front ++ last ∷ [] → (left after : List ℕ) → MayGive left pieces after → WantsInTime kind front left events accepted_old accepted_new

pub wants-in-time : {A C P E W V : Type 0} (kind : RunKind A C P E W V) (joins : AreJoined kind.line kind.printed kind.events_in kind.joined) (p q : List (List ℕ)) (old : HeldBytes) (before : P) (status : Status) (new : HeldBytes) (after : P) (events_old events_new : V) (accepted_old accepted_mid accepted_new left now front_last : List ℕ) (front : List (List ℕ))
    → RoundsBy kind old before q (Some status) new after (outputs events_old (Some accepted_mid)) (outputs events_new (Some accepted_new)) → status ≡ Memory → MayGive left (p ++ q) now
    → StandsAt kind p left old (concat q ++ now) before events_old (Some accepted_old) (Some accepted_mid) → p ++ q ≡ front ++ front_last ∷ []
    → WantsInTime kind front left events_new accepted_old accepted_new
wants-in-time kind joins p q old before status new after events_old events_new accepted_old accepted_mid accepted_new left now last front round memory may s is =
    let next = round.wants (ap Some memory) left (concat q ++ now) now (Some accepted_old) (may-second left now p q may) s.so_far in
    let (more, begins) = begins-read kind p q old before events_old (Some accepted_old) (Some accepted_mid) left now s.so_far round.rests round.last may s.begins front last is in
    record {
      effects = s.so_far.effects ++ next.effects;
      wants = record { done = acts_only s.so_far.acts; act = next.act; later = next.later; acts = next.acts_are; body = s.so_far.effects; before = before; run = s.so_far.run; front = next.effects; needs = next.needs; effects_are = refl };
      more = more;
      done_is = begins;
      events_is = does-events kind joins s.so_far.effects next.effects [] events_old events_new (Some accepted_mid) (Some accepted_new) next.does s.so_far.events_is;
      report_is = does-report kind joins s.so_far.effects next.effects [] events_old events_new (Some accepted_old) (Some accepted_mid) (Some accepted_new) next.does s.so_far.report
          ∙ ap (λ text. accepted_old ++ text) (append-nil (kind.printed (s.so_far.effects ++ next.effects)));
    }

-- ---- by what the source gave

pub reads-in-time : {A C P E W V : Type 0} (kind : RunKind A C P E W V) (status : Status) (given_old given_new pieces : List (List ℕ)) (events : V) (accepted_old accepted_new : List ℕ) → given_new ≡ given_old ++ pieces
    → InTime kind pieces events accepted_old accepted_new → (status ≡ Memory → WantsAll kind pieces events accepted_old accepted_new)
    → ReadsLinesInTime kind status given_old given_new events accepted_old accepted_new
reads-in-time kind status given_old given_new pieces events accepted_old accepted_new given is wants =
    λ front last e.
    let same : pieces ≡ front ++ last ∷ [] = append_cancel_left given_old pieces (front ++ last ∷ []) (sym given ∙ e ∙ append_assoc given_old front (last ∷ [])) in
    (is front last same, λ memory left after may. wants memory front last same left after (subst (λ l. MayGive left l after) (sym same) may))

-- nothing is read
pub nothing-in-time : {A C P E W V : Type 0} (kind : RunKind A C P E W V) (status : Status) (given : List (List ℕ)) (events : V) (accepted : List ℕ) → ReadsLinesInTime kind status given given events accepted accepted
nothing-in-time kind status given events accepted =
    reads-in-time kind status given given [] events accepted accepted (sym (append-nil given)) (in-time-none kind events accepted accepted) (λ memory front last e. absurd (no-push front last e))
