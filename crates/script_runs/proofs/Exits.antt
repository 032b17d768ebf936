-- What a round comes to, by what its callees answer.
use Rattle.std.proofs.Common.{◌≡◌, ◌≢◌, ◌⊎◌, inl, inr, ℕ, ◌∷◌, ◌++◌, Option, Some, None, Result, Ok, Err, List, [], refl, ap, sym, ◌∙◌, subst, append-nil}
use Rattle.std.specs.Io.KnownBytes.{Appends}
use Rattle.script_lines.specs.declared.Line.{Line}
use Rattle.script_lines.specs.declared.LineFault.{LineFault}
use Rattle.script_lines.specs.declared.LineFault.TheVariants as fault
use Rattle.script_lines.specs.Lines.{Faulty, ends_at, numbered}
use Rattle.script_lines.specs.declared.Over.{Over}
use Rattle.script_lines.specs.declared.Over.TheVariants as over
use Rattle.script_lines.specs.Reader.{HeldBytes, lines_held, Hands, Again}
use Rattle.script_runs.specs.declared.Status.{Status}
use Rattle.script_runs.specs.declared.Status.TheVariants.{Done, Refused, Script as ScriptFault, ReadFault, WriteFault}
use Rattle.script_runs.specs.Script.{ScriptKind, ScriptEnd, Whole, FaultAt, NumberedAct, acts_of, byte_end, script_of, script_so_far}
use Rattle.script_runs.specs.Outcomes.{RunKind, Runs, MatchesOutcome, status_at}
use Rattle.script_runs.specs.Rounds.{onto_all, acts_next, IsGoing, IsAllRead, IsReadSoFar, acts_only, Does, SoFar, EndsRun, Closes, RunsOn, WantsNext}
use Rattle.script_runs.proofs.Joined.{AreJoined, run-more, does-events, does-report}
use Rattle.script_runs.proofs.Endings.{closed-outcome}
use Rattle.script_runs.proofs.NextLines.{HandsOne, line-none, line-fault, line-full, line-act, next-line, line-here, bytes-fault, bytes-end, so-far, onto-nil, onto-more, only-more, act-here}

abbrev not-end : Result (Option Line) LineFault → Type 0
not-end r = r ≢ Ok None

-- where something else than the end came, the lines went on
still-going : {A C : Type 0} (o : Over) (kind : ScriptKind A C) (bytes : List ℕ) (old : HeldBytes) (left : List ℕ) (acts : List (NumberedAct A)) (c : C) (r : Result (Option Line) LineFault)
    → r ≢ Ok None → Again o r → IsReadSoFar o kind bytes old left acts c → (o ≡ over.Going) × IsGoing kind bytes old left acts c
still-going over.Going kind bytes old left acts c r other again read = (refl, read)
still-going over.Ended kind bytes old left acts c r other again read = absurd (other again)
still-going (over.Stopped stopped) kind bytes old left acts c r other again read = absurd read

closes-script : (line : List ℕ) (result : Status) (before after : Option (List ℕ)) (now : List ℕ) → Closes line ScriptFault result before after → (result ≡ Done) ⊎ (result ≡ Refused) → now ≡ []
closes-script line result before after now (inl c) (inl d) = let e : ScriptFault ≡ Done = sym c.0 ∙ d in absurd (cc)
closes-script line result before after now (inl c) (inr d) = let e : ScriptFault ≡ Refused = sym c.0 ∙ d in absurd (cc)
closes-script line result before after now (inr c) (inl d) = let e : WriteFault ≡ Done = sym c.0 ∙ d in absurd (cc)
closes-script line result before after now (inr c) (inr d) = let e : WriteFault ≡ Refused = sym c.0 ∙ d in absurd (cc)

module _ {A C P E W V : Type 0} (kind : RunKind A C P E W V) (joins : AreJoined kind.line kind.printed kind.events_in kind.joined)
    (bytes : List ℕ) (old : HeldBytes) (left : List ℕ) (last : P) (events : V) (start before : Option (List ℕ)) (s : SoFar kind bytes old left last events start before) where
  abbrev scripts : ScriptKind A C
  scripts = kind.scripts

  abbrev counted : C
  counted = kind.counted last

  pub ends-by : (taken now : List ℕ) (result : Status) (events_new : V) (after : Option (List ℕ))
      → MatchesOutcome kind (script_of scripts bytes) (script_so_far scripts taken) result events_new start after
      → ((result ≡ Done) ⊎ (result ≡ Refused) → now ≡ []) → EndsRun kind bytes taken now result events_new start after
  ends-by taken now result events_new after is all =
      record { effects = is.effects; partial = is.partial; outcome = is.outcome; events_is = is.events_is; report = is.report_is; all = all }

  -- the last line is written, or a part of it
  closed : (taken now : List ℕ) (end : ScriptEnd) (after : Option (List ℕ)) (result : Status) → script_of scripts bytes ≡ record { acts = s.acts; last = end }
      → Closes (kind.closing_line last end) (status_at (kind.refused last) end) result before after → ((result ≡ Done) ⊎ (result ≡ Refused) → now ≡ [])
      → EndsRun kind bytes taken now result events start after
  closed taken now end after result is closes all =
      let script = script_of scripts bytes in
      ends-by taken now result events after
      (closed-outcome kind joins script (script_so_far scripts taken) (acts_only s.acts) s.effects last events start before s.run s.events_is s.report after result (ap acts_of is)
      (subst (λ end. Closes (kind.closing_line last end) (status_at (kind.refused last) end) result before after) (sym (ap (λ script. script.last) is)) closes)) all

  -- a fault of a byte
  pub exit-bytes : (taken now : List ℕ) (after : Option (List ℕ)) (result : Status) (found : LineFault) (number : ℕ) (text : List ℕ) → byte_end (Faulty found) ≡ FaultAt number text
      → Again old.over (Err found) → (old.over ≡ over.Going → lines_held old left ≡ ends_at (Faulty found)) → Closes (kind.closing_line last (FaultAt number text)) ScriptFault result before after
      → EndsRun kind bytes taken now result events start after
  exit-bytes taken now after result found number text end again hands closes =
      let other : not-end (Err found) = λ e. cc in
      let (going, is) = still-going old.over scripts bytes old left s.acts counted (Err found) other again s.read in
      let whole = bytes-fault scripts bytes old left s.acts counted found is (hands going) in
      closed taken now (FaultAt number text) after result (whole ∙ ap (λ e. record { acts = s.acts; last = e }) end) closes (closes-script (kind.closing_line last (FaultAt number text)) result before after now closes)

  -- the end of the input
  pub exit-end : (new : HeldBytes) (taken now : List ℕ) (after : Option (List ℕ)) (result : Status)
      → (old.over ≡ over.Going → Hands old left (Ok None) new now) → (old.over ≢ over.Going → left ≡ now) → Closes (kind.closing_line last Whole) (status_at (kind.refused last) Whole) result before after
      → EndsRun kind bytes taken now result events start after
  exit-end new taken now after result hands rests closes =
      let whole = all-read old.over scripts s.acts counted s.read hands rests in
      closed taken now Whole after result whole.0 closes (λ _. whole.1)
    where
      all-read : (o : Over) (scripts : ScriptKind A C) (acts : List (NumberedAct A)) (c : C) → IsReadSoFar o scripts bytes old left acts c
          → (o ≡ over.Going → Hands old left (Ok None) new now) → (o ≢ over.Going → left ≡ now) → IsAllRead scripts bytes now acts
      all-read over.Going scripts acts c read hands rests = let h = hands refl in (bytes-end scripts bytes old left acts c read h.0, h.1)
      all-read over.Ended scripts acts c read hands rests =
          let other : over.Ended ≢ over.Going = λ e. cc in
          (read.0, sym (rests other) ∙ read.1)
      all-read (over.Stopped stopped) scripts acts c read hands rests = absurd read

  -- a failed read
  pub exit-read : (new : HeldBytes) (taken now : List ℕ) → Again old.over (Err fault.Read) → (old.over ≡ over.Going → Hands old left (Err fault.Read) new now) → bytes ≡ taken ++ now
      → EndsRun kind bytes taken now ReadFault events start before
  exit-read new taken now again hands parts =
      let other : not-end (Err fault.Read) = λ e. cc in
      let (going, is) = still-going old.over scripts bytes old left s.acts counted (Err fault.Read) other again s.read in
      let same = so-far scripts bytes taken old left new now s.acts counted is (hands going).0 parts in
      record {
        effects = s.effects;
        partial = [];
        outcome = (record { sound = ap (λ script. script.last) same; last = last; run = subst (λ script. Runs kind (acts_of script) s.effects last) (sym same) s.run }, refl);
        events_is = s.events_is;
        report = subst (Appends start before) (sym (append-nil (kind.printed s.effects))) s.report;
        all = λ e. elim e [ inl d ↦ absurd (cc) | inr r ↦ absurd (cc) ];
      }

  -- a line came
  module _ (line : Line) (new : HeldBytes) (now : List ℕ) (again : Again old.over (Ok (Some line))) (hands : old.over ≡ over.Going → HandsOne old left (numbered line) new now) where
    going : (old.over ≡ over.Going) × IsGoing scripts bytes old left s.acts counted
    going =
        let other : not-end (Ok (Some line)) = λ e. cc in
        still-going old.over scripts bytes old left s.acts counted (Ok (Some line)) other again s.read

    -- it is skipped
    pub goes-none : scripts.reading (numbered line).text ≡ Ok None → RunsOn kind s.acts bytes new now last events start before
    goes-none is =
        record {
          so_far = record {
            acts = s.acts;
            effects = s.effects;
            run = s.run;
            events_is = s.events_is;
            report = s.report;
            read = next-line scripts bytes old left (numbered line) new now s.acts s.acts counted counted going.1 (hands going.0) (λ rest. ap (onto_all s.acts) (line-none scripts counted (numbered line) rest is));
          };
          more = [];
          acts_are = sym (append-nil (acts_only s.acts));
        }

    -- it has no sense
    pub exit-word : (taken : List ℕ) (after : Option (List ℕ)) (result : Status) (text : List ℕ) → scripts.reading (numbered line).text ≡ Err text → Closes (kind.closing_line last (FaultAt line.number text)) ScriptFault result before after
        → EndsRun kind bytes taken now result events start after
    exit-word taken after result text is closes =
        let (rest, e) = line-here scripts bytes old left (numbered line) new now s.acts counted going.1 (hands going.0) in
        closed taken now (FaultAt line.number text) after result (e ∙ ap (onto_all s.acts) (line-fault scripts counted (numbered line) rest text is) ∙ onto-nil s.acts (FaultAt line.number text)) closes
        (closes-script (kind.closing_line last (FaultAt line.number text)) result before after now closes)

    -- there is no room for its act
    pub exit-full : (taken : List ℕ) (after : Option (List ℕ)) (result : Status) (act : A) (text : List ℕ) → scripts.reading (numbered line).text ≡ Ok (Some act)
        → scripts.limit_fault act counted ≡ Some text → Closes (kind.closing_line last (FaultAt line.number text)) ScriptFault result before after
        → EndsRun kind bytes taken now result events start after
    exit-full taken after result act text is full closes =
        let (rest, e) = line-here scripts bytes old left (numbered line) new now s.acts counted going.1 (hands going.0) in
        closed taken now (FaultAt line.number text) after result (e ∙ ap (onto_all s.acts) (line-full scripts counted (numbered line) rest act text is full) ∙ onto-nil s.acts (FaultAt line.number text)) closes
        (closes-script (kind.closing_line last (FaultAt line.number text)) result before after now closes)

    -- its act is carried out, or cut
    module _ (act : A) (is : scripts.reading (numbered line).text ≡ Ok (Some act)) (room : scripts.limit_fault act counted ≡ None) (events_new : V) (after : Option (List ℕ)) where
      pub goes-on : (next : P) (effects : List E) → kind.Step last act effects next → kind.counted next ≡ scripts.counted_after act counted → Does kind effects [] events events_new before after
          → RunsOn kind s.acts bytes new now next events_new start after
      goes-on next effects step count does =
          let acts : List (NumberedAct A) = s.acts ++ record { line = line.number; act = act } ∷ [] in
          record {
            so_far = record {
              acts = acts;
              effects = s.effects ++ effects;
              run = subst (λ a. Runs kind a (s.effects ++ effects) next) (only-more s.acts line.number act) (run-more kind.Step kind.start (acts_only s.acts) s.effects last act effects next s.run step);
              events_is = does-events kind joins s.effects effects [] events events_new before after does s.events_is;
              report = subst (Appends start after) (append-nil (kind.printed (s.effects ++ effects))) (does-report kind joins s.effects effects [] events events_new start before after does s.report);
              read = next-line scripts bytes old left (numbered line) new now s.acts acts counted (kind.counted next) going.1 (hands going.0) (λ rest.
                  ap (onto_all s.acts) (line-act scripts counted (numbered line) rest act is room)
                  ∙ onto-more s.acts line.number act (acts_next scripts (scripts.counted_after act counted) rest)
                  ∙ ap (λ c. onto_all acts (acts_next scripts c rest)) (sym count));
            };
            more = act ∷ [];
            acts_are = sym (only-more s.acts line.number act);
          }

      -- its act is the next one of the script
      pub next-act : (later : List A) × (acts_of (script_of scripts bytes) ≡ acts_only s.acts ++ act ∷ later)
      next-act = act-here scripts bytes old left (numbered line) new now act s.acts counted going.1 (hands going.0) is room

      -- it stops the run
      pub exit-stopped : (taken : List ℕ) (result : Status)
          → ((later : List A) → acts_of (script_of scripts bytes) ≡ acts_only s.acts ++ act ∷ later → MatchesOutcome kind (script_of scripts bytes) (script_so_far scripts taken) result events_new start after)
          → ((result ≡ Done) ⊎ (result ≡ Refused) → now ≡ []) → EndsRun kind bytes taken now result events_new start after
      exit-stopped taken result is all = ends-by taken now result events_new after (is next-act.0 next-act.1) all

      pub wants-next : (effects : List E) → kind.TakesMemory last act effects → Does kind effects [] events events_new before after → WantsNext kind s.acts bytes last events events_new before after
      wants-next effects needs does = record { act = act; later = next-act.0; acts_are = next-act.1; effects = effects; needs = needs; does = does }
