-- How a run ends, by the acts that were carried out before.
use Rattle.std.proofs.Common.{◌≡◌, inl, inr, ℕ, ◌∷◌, ◌++◌, Bool, true, false, Option, List, [], refl, sym, ◌∙◌, subst}
use Rattle.std.specs.Io.KnownBytes.{Appends}
use Rattle.std.proofs.KnownBytes.{Appends-trans}
use Rattle.script_runs.specs.declared.Status.{Status}
use Rattle.script_runs.specs.declared.Status.TheVariants.{WriteFault, DeviceFault, Memory}
use Rattle.script_runs.specs.Script.{Script, ScriptEnd, Whole, FaultAt, acts_of}
use Rattle.script_runs.specs.Outcomes.{RunKind, Runs, IsAtAct, IsComplete, IsOutcome, MatchesOutcome, status_at}
use Rattle.script_runs.specs.Rounds.{Closes, Does}
use Rattle.script_runs.proofs.Joined.{AreJoined, does-events, does-report, printed-line, written-line}

-- to the end of the acts, by where the script ends
pub outcome-complete : {A C P E W V : Type 0} (kind : RunKind A C P E W V) (script came : Script A) (refused : Bool) (end : ScriptEnd) (status : Status) (effects : List E) → status ≡ status_at refused end
    → IsComplete kind script status effects → IsOutcome kind script came status effects []
outcome-complete kind script came true Whole status effects e whole =
    subst (λ s. IsOutcome kind script came s effects []) (sym e) (subst (λ s. IsComplete kind script s effects) e whole, refl)
outcome-complete kind script came false Whole status effects e whole =
    subst (λ s. IsOutcome kind script came s effects []) (sym e) (subst (λ s. IsComplete kind script s effects) e whole, refl)
outcome-complete kind script came refused (FaultAt line text) status effects e whole =
    subst (λ s. IsOutcome kind script came s effects []) (sym e) (subst (λ s. IsComplete kind script s effects) e whole, refl)

-- these acts were carried out, with these effects
module _ {A C P E W V : Type 0} (kind : RunKind A C P E W V) (joins : AreJoined kind.line kind.printed kind.events_in kind.joined)
    (script came : Script A) (done : List A) (effects : List E) (last : P) (events : V) (start before : Option (List ℕ))
    (run : Runs kind done effects last) (events_is : events ≡ kind.events_in effects) (report : Appends start before (kind.printed effects)) where
  -- the last line is written, or a part of it
  pub closed-outcome : (after : Option (List ℕ)) (result : Status) → acts_of script ≡ done
      → Closes (kind.closing_line last script.last) (status_at (kind.refused last) script.last) result before after
      → MatchesOutcome kind script came result events start after
  closed-outcome after result is (inl (e, line)) =
      let text = kind.closing_line last script.last in
      let more : List E = effects ++ kind.line text ∷ [] in
      let whole : IsComplete kind script result more = record {
        body = effects;
        last = last;
        run = subst (λ acts. Runs kind acts effects last) (sym is) run;
        status_is = e;
        effects_are = refl;
      } in
      record {
        effects = more;
        partial = [];
        outcome = outcome-complete kind script came (kind.refused last) script.last result more e whole;
        events_is = events_is ∙ written-line kind joins effects text;
        report_is = subst (Appends start after) (printed-line kind joins effects text) (Appends-trans start before after (kind.printed effects) text report line);
      }
  closed-outcome after result is (inr (e, (partial, rest, part, line))) = record {
    effects = effects;
    partial = partial;
    outcome = subst (λ status. IsOutcome kind script came status effects partial) (sym e) (record {
      line = kind.closing_line last script.last;
      rest = rest;
      due = inr (record { last = last; run = subst (λ acts. Runs kind acts effects last) (sym is) run; due_is = refl });
      part = part;
    });
    events_is = events_is;
    report_is = Appends-trans start before after (kind.printed effects) partial report line;
  }

  -- the next act is cut, and did this before
  module _ (act : A) (later : List A) (acts : acts_of script ≡ done ++ act ∷ later) (events_new : V) (after : Option (List ℕ)) (front : List E) (partial : List ℕ)
      (does : Does kind front partial events events_new before after) where
    cut-at : (due : E) → kind.IsCutStep last act front due → IsAtAct kind script (effects ++ front) due
    cut-at due cut =
        record { done = done; act = act; later = later; acts = acts; body = effects; before = last; run = run; front = front; cut = cut; effects_are = refl }

    stops-as : (status : Status) → IsOutcome kind script came status (effects ++ front) partial → MatchesOutcome kind script came status events_new start after
    stops-as status outcome = record {
      effects = effects ++ front;
      partial = partial;
      outcome = outcome;
      events_is = does-events kind joins effects front partial events events_new before after does events_is;
      report_is = does-report kind joins effects front partial events events_new start before after does report;
    }

    -- at a line that the sink didn't take whole
    pub line-outcome : (rest : List ℕ) → kind.IsCutStep last act front (kind.line (partial ++ rest)) → MatchesOutcome kind script came WriteFault events_new start after
    line-outcome rest cut = stops-as WriteFault (record { line = partial ++ rest; rest = rest; due = inl (cut-at (kind.line (partial ++ rest)) cut); part = refl })

    -- at a write that the device didn't take
    pub write-outcome : (write : W) → partial ≡ [] → kind.IsCutStep last act front (kind.write write) → MatchesOutcome kind script came DeviceFault events_new start after
    write-outcome write none cut = stops-as DeviceFault (record { write = write; due = inl (cut-at (kind.write write) cut) }, none)

    -- for want of memory
    pub memory-outcome : partial ≡ [] → kind.TakesMemory last act front → MatchesOutcome kind script came Memory events_new start after
    memory-outcome none needs =
        stops-as Memory (inr (record { done = done; act = act; later = later; acts = acts; body = effects; before = last; run = run; front = front; needs = needs; effects_are = refl }), none)
