-- A run over made commands.
use Rattle.std.proofs.Common.{◌≡◌, ◌≢◌, ℕ, ◌<◌, ◌≤◌, nat_le, Bool, true, false, Option, Some, None, Result, List, [], ◌∷◌, ◌++◌, map, refl, ap, sym, ◌∙◌, subst, append_assoc, append-nil, arith}
use Rattle.std.specs.Prelude.{codes}
use Rattle.std.specs.Io.KnownBytes.{Appends}
use Rattle.std.proofs.KnownBytes.{Appends-nil}
use Rattle.std.proofs.lemmas.Bool.{false_from_ne_true, leb-true}
use Rattle.tcam_device.specs.declared.Action.{Action}
use Rattle.rule_gen.specs.declared.Made.{Made}
use Rattle.rule_gen.specs.declared.Made.TheVariants as made
use Rattle.rule_gen.specs.Batches.{AreBatches}
use Rattle.rule_gen.specs.Made.{made_commands}
use Rattle.replay.specs.declared.Act.{Act}
use Rattle.replay.specs.declared.ActFault.{ActFault}
use Rattle.replay.specs.declared.RunFault.{RunFault}
use Rattle.replay.specs.declared.RunFault.TheVariants as run_fault
use Rattle.rule_store.specs.Batch.{most_pending}
use Rattle.script_runs.specs.Script.{Whole, acts_of}
use Rattle.report_lines.specs.Sizes.{sizes_by}
use Rattle.replay.specs.Script.{limit_fault, pending_after}
use Rattle.replay.specs.Effects.{Setting, Effect, events_in, printed}
use Rattle.replay.specs.Run.{Progress, ending, start}
use Rattle.replay.specs.Carried.{Carries, IsAt}
use Rattle.tcam_cli.proofs.TwoParts.{in-one-part, steps-one}
use Rattle.replay.specs.Fates.{IsCrash}
use Rattle.replay.specs.Running.{limit_text}
use Rattle.script_runs.specs.declared.Status.{Status}
use Rattle.script_runs.specs.declared.Status.TheVariants.{Done, Refused, Script as ScriptFault, ReadFault, WriteFault, DeviceFault, Memory, Usage}
use Rattle.tcam_cli.specs.InTwo.{CarriesBy, RunsBy}
use Rattle.tcam_cli.specs.Headline.{IsCarriedOut, Makes, MayEnd, run_kind, status_of}
use Rattle.tcam_cli.specs.MadeScript.{made_act, made_numbered, made_script}
use Rattle.script_runs.specs.Rounds.{Closes}
use Rattle.tcam_cli.specs.Rounds.{status_of_fault}
use Rattle.tcam_cli.proofs.Decided.{complete-decided}
use Rattle.script_runs.proofs.Joined.{does-events, does-report}
use Rattle.script_runs.proofs.Endings.{closed-outcome}
use Rattle.tcam_cli.proofs.Kind.{joins, does-of}
use Rattle.tcam_cli.proofs.OneMore.{run-at, run-more}
use Rattle.tcam_cli.proofs.Outcomes.{Stops, stopped-outcome}

map_append : (done left : List Made) → map made_act (done ++ left) ≡ map made_act done ++ map made_act left
map_append [] left = refl
map_append (command ∷ done) left = ap (λ acts. made_act command ∷ acts) (map_append done left)

-- the acts of the script
acts-made : (commands : List Made) → map (λ numbered. numbered.act) (map made_numbered commands) ≡ map made_act commands
acts-made [] = refl
acts-made (command ∷ commands) = ap (λ acts. made_act command ∷ acts) (acts-made commands)

-- none of them crashes
pub never-crash : (command : Made) → IsCrash (made_act command) → ⊥
never-crash (made.Change change) crash = crash
never-crash made.Commit crash = crash

-- ---- there is room

room : (come : ℕ) → come < most_pending → nat_le most_pending come ≡ false
room come few = false_from_ne_true _ (λ over. let least = leb-true most_pending come over in omega (arith, least, few))

pub made-room : (most : ℕ) (command : Made) (left : List Made) (come probes : ℕ) → AreBatches most come (command ∷ left) → most ≤ most_pending
    → limit_fault most_pending (made_act command) come probes ≡ None
made-room most (made.Change change) left come probes are few =
    let one = are.0 in
    ap (λ full. elim full [ true ↦ Some (codes "batch full") | false ↦ None ]) (room come (omega (arith, one, few)))
made-room most made.Commit left come probes are few = refl

pub made-pending : (most : ℕ) (command : Made) (left : List Made) (come : ℕ) → AreBatches most come (command ∷ left) → AreBatches most (pending_after (made_act command) come) left
made-pending most (made.Change change) left come are = are.1
made-pending most made.Commit left come are = are

-- so an act is carried out, or fails for another cause
pub made-fits : (most : ℕ) (maker left : List Made) (command : Made) (act : Act) (come probes : ℕ) (answer : Result (Unit {0}) ActFault) (large : Bool) → maker ≡ command ∷ left → act ≡ made_act command
    → AreBatches most come maker → most ≤ most_pending → large ≡ false → limit_text answer ≡ limit_fault (sizes_by large).commands act come probes → limit_text answer ≡ None
made-fits most maker left command act come probes answer large next is are few usual limit =
    limit ∙ ap (λ b. limit_fault (sizes_by b).commands act come probes) usual ∙ ap (λ act. limit_fault most_pending act come probes) is ∙ made-room most command left come probes (subst (AreBatches most come) next are) few

-- ---- the commands so far are carried out

pub record MadeSoFar (setting : Setting) (slots : ℕ) (all left : List Made) (progress : Progress) (events : List Action) (taken_old taken_new : Option (List ℕ)) : Type 0 where
  pub done : List Made
  pub parts : all ≡ done ++ left
  pub effects : List Effect
  pub run : RunsBy setting slots (map made_act done) effects progress
  pub events_is : events ≡ events_in effects
  pub report : Appends taken_old taken_new (printed effects)

pub made-first : (setting : Setting) (slots : ℕ) (all left : List Made) (progress : Progress) (events : List Action) (taken : Option (List ℕ))
    → left ≡ all → progress ≡ start slots → events ≡ [] → MadeSoFar setting slots all left progress events taken taken
made-first setting slots all left progress events taken whole begun blank = record {
  done = [];
  parts = sym whole;
  effects = [];
  run = (refl, begun);
  events_is = blank;
  report = Appends-nil taken;
}

pub made-at : (setting : Setting) (slots : ℕ) (all left : List Made) (progress : Progress) (events : List Action) (taken_old taken_new : Option (List ℕ))
    → MadeSoFar setting slots all left progress events taken_old taken_new → IsAt slots events progress
made-at setting slots all left progress events taken_old taken_new s = run-at setting slots (map made_act s.done) s.effects progress events s.run s.events_is

-- where no commit is made in two parts an act is carried out as it is
pub made-carries : (setting : Setting) (progress : Progress) (act : Act) (next : Progress) (events events_new : List Action) (taken after : Option (List ℕ)) → setting.parts ≡ false
    → Carries setting progress act next events events_new taken after → CarriesBy setting progress act next events events_new taken after
made-carries setting progress act next events events_new taken after in_one carries =
    record { effects = carries.effects; step = steps-one setting progress act carries.effects next (in-one-part setting progress act in_one) carries.step; does = carries.does }

pub made-more : (setting : Setting) (slots : ℕ) (all left : List Made) (command : Made) (progress next : Progress) (events events_new : List Action) (start taken after : Option (List ℕ))
    → MadeSoFar setting slots all (command ∷ left) progress events start taken → CarriesBy setting progress (made_act command) next events events_new taken after
    → MadeSoFar setting slots all left next events_new start after
made-more setting slots all left command progress next events events_new start taken after s carried =
    let does = does-of setting slots carried.effects [] events events_new taken after carried.does in record {
      done = s.done ++ command ∷ [];
      parts = s.parts ∙ sym (append_assoc s.done (command ∷ []) left);
      effects = s.effects ++ carried.effects;
      run = subst (λ acts. RunsBy setting slots acts (s.effects ++ carried.effects) next) (sym (map_append s.done (command ∷ [])))
          (run-more setting slots (map made_act s.done) s.effects progress (made_act command) carried.effects next s.run carried.step);
      events_is = does-events (run_kind setting slots) joins s.effects carried.effects [] events events_new taken after does s.events_is;
      report = subst (Appends start after) (append-nil (printed (s.effects ++ carried.effects)))
          (does-report (run_kind setting slots) joins s.effects carried.effects [] events events_new start taken after does s.report);
    }

-- ---- the ends

pub made-ended : (setting own : Setting) (slots seed rules batches : ℕ) (left : List Made) (last : Progress) (events : List Action) (start before after : Option (List ℕ)) (result : Status)
    → MadeSoFar setting slots (made_commands seed rules batches) left last events start before → left ≡ [] → result ≢ ReadFault
    → own ≡ setting → Closes (ending own last) (status_of last Whole) result before after → (source : Option (List ℕ))
    → IsCarriedOut (Makes setting seed rules batches) slots result source source start after events
made-ended setting own slots seed rules batches left last events start before after result s none other same closes source =
    let script = made_script seed rules batches in
    let whole : acts_of script ≡ map made_act s.done =
    acts-made (made_commands seed rules batches) ∙ ap (map made_act) (s.parts ∙ ap (λ behind. s.done ++ behind) none ∙ append-nil s.done) in (
      refl,
      (
        other,
        closed-outcome (run_kind setting slots) joins script script (map made_act s.done) s.effects last events start before s.run s.events_is s.report after result whole
            (subst (λ own. Closes (ending own last) (status_of last Whole) result before after) same closes),
      ),
    )

no-read : (why : RunFault) → status_of_fault why ≢ ReadFault
no-read run_fault.Sink e = absurd (cc)
no-read run_fault.Device e = absurd (cc)
no-read run_fault.Memory e = absurd (cc)

pub made-stopped : (setting : Setting) (slots seed rules batches : ℕ) (left : List Made) (command : Made) (last : Progress) (events events_new : List Action) (start before after : Option (List ℕ)) (why : RunFault)
    → MadeSoFar setting slots (made_commands seed rules batches) (command ∷ left) last events start before
    → Stops slots setting last (made_act command) why events events_new before after → (source : Option (List ℕ))
    → IsCarriedOut (Makes setting seed rules batches) slots (status_of_fault why) source source start after events_new
made-stopped setting slots seed rules batches left command last events events_new start before after why s is source =
    let script = made_script seed rules batches in
    let acts : acts_of script ≡ map made_act s.done ++ made_act command ∷ map made_act left =
    acts-made (made_commands seed rules batches) ∙ ap (map made_act) s.parts ∙ map_append s.done (command ∷ left) in (
      refl,
      (
        no-read why,
        stopped-outcome setting slots script script (map made_act s.done) s.effects last events start before s.run s.events_is s.report
            (made_act command) (map made_act left) acts events_new after why is,
      ),
    )

-- how such a job may end, by what it did
pub made-ends : (setting : Setting) (slots seed rules batches : ℕ) (status : Status) (source taken_old taken_new : Option (List ℕ)) (events : List Action)
    → IsCarriedOut (Makes setting seed rules batches) slots status source source taken_old taken_new events → MayEnd status (Makes setting seed rules batches) source
made-ends setting slots seed rules batches Done source taken_old taken_new events is = complete-decided setting slots (made_script seed rules batches) Done is.1.1.effects is.1.1.outcome.0
made-ends setting slots seed rules batches Refused source taken_old taken_new events is = complete-decided setting slots (made_script seed rules batches) Refused is.1.1.effects is.1.1.outcome.0
made-ends setting slots seed rules batches ScriptFault source taken_old taken_new events is =
    absurd (no-fault is.1.1.outcome.0.last.refused is.1.1.outcome.0.status_is)
  where
    no-fault : (refused : Bool) → ScriptFault ≡ elim refused [ true ↦ Refused | false ↦ Done ] → ⊥
    no-fault true e = cc
    no-fault false e = cc
made-ends setting slots seed rules batches ReadFault source taken_old taken_new events is = absurd (is.1.0 refl)
made-ends setting slots seed rules batches WriteFault source taken_old taken_new events is = tt
made-ends setting slots seed rules batches DeviceFault source taken_old taken_new events is = tt
made-ends setting slots seed rules batches Memory source taken_old taken_new events is = tt
made-ends setting slots seed rules batches Usage source taken_old taken_new events is = absurd is.1.1.outcome
