-- What some effects print and what devices tell of them, one after the other; and one act more.
use Rattle.std.proofs.Common.{◌≡◌, ℕ, inl, inr, Option, List, [], ◌∷◌, ◌++◌, refl, ap, sym, ◌∙◌, subst, append_assoc, append-nil}
use Rattle.std.specs.Io.KnownBytes.{Appends}
use Rattle.std.proofs.KnownBytes.{Appends-nil, Appends-trans}
use Rattle.script_runs.specs.declared.Status.{Status}
use Rattle.script_runs.specs.Runs.{Run}
use Rattle.script_runs.specs.Outcomes.{RunKind}
use Rattle.script_runs.specs.Rounds.{Closes, Does, Grows}

-- events join to longer ones, and effects in turn have those of each; a line is printed, and no device tells of it
pub record AreJoined {E V : Type 0} (line : List ℕ → E) (printed : List E → List ℕ) (events_in : List E → V) (joined : V → V → V) : Type 0 where
  pub assoc : (first second third : V) → joined (joined first second) third ≡ joined first (joined second third)
  pub none : (events : V) → joined events (events_in []) ≡ events
  pub events_append : (front back : List E) → events_in (front ++ back) ≡ joined (events_in front) (events_in back)
  pub events_line : (text : List ℕ) → events_in (line text ∷ []) ≡ events_in []
  pub printed_append : (front back : List E) → printed (front ++ back) ≡ printed front ++ printed back
  pub printed_line : (text : List ℕ) → printed (line text ∷ []) ≡ text

-- one act more
pub run-more : {A P E : Type 0} (Step : P → A → List E → P → Type 0) (old : P) (acts : List A) (effects : List E) (mid : P) (act : A) (front : List E) (new : P)
    → Run Step old acts effects mid → Step mid act front new → Run Step old (acts ++ act ∷ []) (effects ++ front) new
run-more {P = P} Step old [] effects mid act front new run step =
    let At : P → Type 0 = λ p. Step p act front new in
    (front, new, [], subst At run.1 step, (refl, refl), ap (λ e. e ++ front) run.0 ∙ sym (append-nil front))
run-more Step old (first ∷ acts) effects mid act front new (e, p, back, s, rest, whole) step =
    (e, p, back ++ front, s, run-more Step p acts back mid act front new rest step, ap (λ x. x ++ front) whole ∙ append_assoc e back front)

module _ {A C P E W V : Type 0} (kind : RunKind A C P E W V) (joins : AreJoined kind.line kind.printed kind.events_in kind.joined) where
  pub does-events : (effects more : List E) (partial : List ℕ) (events_old events_new : V) (taken_old taken_new : Option (List ℕ))
      → Does kind more partial events_old events_new taken_old taken_new → events_old ≡ kind.events_in effects → events_new ≡ kind.events_in (effects ++ more)
  does-events effects more partial events_old events_new taken_old taken_new does was =
      does.events ∙ ap (λ events. kind.joined events (kind.events_in more)) was ∙ sym (joins.events_append effects more)

  pub does-report : (effects more : List E) (partial : List ℕ) (events_old events_new : V) (start taken_old taken_new : Option (List ℕ))
      → Does kind more partial events_old events_new taken_old taken_new → Appends start taken_old (kind.printed effects)
      → Appends start taken_new (kind.printed (effects ++ more) ++ partial)
  does-report effects more partial events_old events_new start taken_old taken_new does was =
      let same : kind.printed effects ++ (kind.printed more ++ partial) ≡ kind.printed (effects ++ more) ++ partial =
      sym (append_assoc (kind.printed effects) (kind.printed more) partial) ∙ ap (λ p. p ++ partial) (sym (joins.printed_append effects more)) in
      subst (Appends start taken_new) same (Appends-trans start taken_old taken_new (kind.printed effects) (kind.printed more ++ partial) was does.report)

  pub written-line : (effects : List E) (text : List ℕ) → kind.events_in effects ≡ kind.events_in (effects ++ kind.line text ∷ [])
  written-line effects text =
      sym (joins.none (kind.events_in effects)) ∙ ap (kind.joined (kind.events_in effects)) (sym (joins.events_line text))
      ∙ sym (joins.events_append effects (kind.line text ∷ []))

  pub printed-line : (effects : List E) (text : List ℕ) → kind.printed effects ++ text ≡ kind.printed (effects ++ kind.line text ∷ []) ++ []
  printed-line effects text =
      ap (λ l. kind.printed effects ++ l) (sym (joins.printed_line text)) ∙ sym (joins.printed_append effects (kind.line text ∷ []))
      ∙ sym (append-nil (kind.printed (effects ++ kind.line text ∷ [])))

  -- ---- events and report only grow

  pub does-grows : (effects : List E) (partial : List ℕ) (events_old events_new : V) (taken_old taken_new : Option (List ℕ))
      → Does kind effects partial events_old events_new taken_old taken_new → Grows kind.joined events_old events_new taken_old taken_new
  does-grows effects partial events_old events_new taken_old taken_new does =
      record { more = kind.events_in effects; events = does.events; bytes = kind.printed effects ++ partial; report = does.report }

module _ {E V : Type 0} {line : List ℕ → E} {printed : List E → List ℕ} {events_in : List E → V} {joined : V → V → V} (joins : AreJoined line printed events_in joined) where
  appends-grows : (events : V) (taken_old taken_new : Option (List ℕ)) (bytes : List ℕ) → Appends taken_old taken_new bytes → Grows joined events events taken_old taken_new
  appends-grows events taken_old taken_new bytes grown = record { more = events_in []; events = sym (joins.none events); bytes = bytes; report = grown }

  pub same-grows : (events : V) (taken : Option (List ℕ)) → Grows joined events events taken taken
  same-grows events taken = appends-grows events taken taken [] (Appends-nil taken)

  pub closes-grows : (events : V) (text : List ℕ) (last status : Status) (taken_old taken_new : Option (List ℕ)) → Closes text last status taken_old taken_new
      → Grows joined events events taken_old taken_new
  closes-grows events text last status taken_old taken_new (inl c) = appends-grows events taken_old taken_new text c.1
  closes-grows events text last status taken_old taken_new (inr (is, (partial, rest, part, grown))) = appends-grows events taken_old taken_new partial grown
