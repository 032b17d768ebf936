-- A commit that was taken, told of before its first write.
use Rattle.std.proofs.Common.{Bool, true, false, ◌≡◌, ℕ, ◌≤◌, List, [], ◌∷◌, ◌++◌, Option, IfSome, Result, Ok, Err, refl, sym, ap, ◌∙◌, subst, append_assoc, append-nil}
use Rattle.std.specs.Io.KnownBytes.{Appends}
use Rattle.std.proofs.KnownBytes.{Appends-trans}
use Rattle.tcam_device.specs.declared.Action.{Action}
use Rattle.tcam_device.specs.Flight.{Flight}
use Rattle.replay.specs.declared.Act.{Act}
use Rattle.replay.specs.declared.RunFault.{RunFault}
use Rattle.replay.specs.declared.RunFault.TheVariants as fault
use Rattle.replay.specs.declared.fate.Fate.{Fate}
use Rattle.replay.specs.declared.fate.Fate.TheVariants.{Finishes}
use Rattle.replay.specs.Effects.{Effect, Prints, events_in, printed}
use Rattle.replay.specs.Reports.{opened}
use Rattle.replay.specs.Run.{Progress}
use Rattle.replay.specs.Outside.{CutsLines, outside}
use Rattle.replay.specs.Carried.{Does}
use Rattle.replay.specs.Crashing.{HasMoreThan}
use Rattle.replay.specs.Fates.{commit_act, turn_of}
use Rattle.replay.specs.Running.{Running, IsRun, setting_of}
use Rattle.replay.specs.Unfinished.{BreaksOff, IsUnfinished, ResumesTo}
use Rattle.replay.proofs.lines.Effects.{events-append, events-front, printed-append}
use Rattle.replay.proofs.lines.Opened.{events-opened}
use Rattle.replay.proofs.course.Course.{later, told-then}
use Rattle.replay.proofs.course.Rest.{HasNoTurn, Rest}
use Rattle.replay.proofs.course.RestOf.{rest-of}

-- lines, and what is done behind them
does-behind : (lines more : List Effect) (partial : List ℕ) (events_old events_new : List Action) (old mid new : Option (List ℕ)) → events_in lines ≡ [] → Appends old mid (printed lines)
    → Does more partial events_old events_new mid new → Does (lines ++ more) partial events_old events_new old new
does-behind lines more partial events_old events_new old mid new none told does = record {
  events = does.events ∙ ap (λ made. events_old ++ made) (sym (events-append lines more ∙ ap (λ made. made ++ events_in more) none));
  report = subst (Appends old new)
      (sym (ap (λ text. text ++ partial) (printed-append lines more) ∙ append_assoc (printed lines) (printed more) partial))
      (Appends-trans old mid new (printed lines) (printed more ++ partial) told does.report);
}

-- what comes of a commit behind the lines that were told of it comes of it with them
pub resumes-behind : (result : Result (Unit {0}) RunFault) (slots : ℕ) (before : Progress) (act : Act) (lines : List Effect) (new : Running) (events_old events_new : List Action) (flight : Flight) (old mid taken : Option (List ℕ))
    → events_in lines ≡ [] → Appends old mid (printed lines) → ResumesTo slots before act lines new result (outside events_old mid) (outside events_new taken) flight
    → ResumesTo slots before act [] new result (outside events_old old) (outside events_new taken) flight
resumes-behind (Ok done) slots before act lines new events_old events_new flight old mid taken none told ends = record {
  rest = lines ++ ends.rest;
  step = ends.step;
  does = does-behind lines ends.rest [] events_old events_new old mid taken none told ends.does;
  stands = ends.stands;
}
resumes-behind (Err fault.Device) slots before act lines new events_old events_new flight old mid taken none told stays = record {
  more = lines ++ stays.more;
  due = stays.due;
  unfinished = stays.unfinished;
  act_is = stays.act_is;
  next = stays.next;
  cut = stays.cut;
  does = does-behind lines stays.more [] events_old events_new old mid taken none told stays.does;
  stands = stays.stands;
  current = stays.current;
}
resumes-behind (Err fault.Sink) slots before act lines new events_old events_new flight old mid taken none told breaks = record {
  more = lines ++ breaks.more;
  partial = breaks.partial;
  rest = breaks.rest;
  cut = breaks.cut;
  does = does-behind lines breaks.more breaks.partial events_old events_new old mid taken none told breaks.does;
}
resumes-behind (Err fault.Memory) slots before act lines new events_old events_new flight old mid taken none told runs = record {
  more = lines ++ runs.more;
  needs = runs.needs;
  does = does-behind lines runs.more [] events_old events_new old mid taken none told runs.does;
}

-- nothing is no line
no-line : (front : List Effect) (text : List ℕ) (back : List Effect) → [] ≡ front ++ Prints text ∷ back → ⊥
no-line [] text back is = absurd (cc)
no-line (first ∷ front) text back is = absurd (cc)

-- in words nothing is told then
told-in_json : (json : Bool) (lines : List Effect) (old taken : Option (List ℕ)) → CutsLines (elim json [ true ↦ lines | false ↦ [] ]) old taken → json ≡ true
told-in_json true lines old taken cuts = refl
told-in_json false lines old taken cuts = absurd (no-line cuts.front (cuts.partial ++ cuts.rest) cuts.back cuts.cut)

-- one of the lines that are told of it is cut
module _ (slots : ℕ) (before : Progress) (run : Running) (unfinished : IsUnfinished slots before (opened (setting_of run) run.commits run.pending) run) (is : IsRun run) (inside : run.manager.slots ≤ slots)
    (straight : run.json ≡ true → run.fate ≡ Finishes) (events : List Action) (old taken : Option (List ℕ)) (cuts : CutsLines (opened (setting_of run) run.commits run.pending) old taken) where
  abbrev lines : List Effect
  lines = opened (setting_of run) run.commits run.pending

  no_crash : HasNoTurn run
  no_crash =
      let plain : run.fate ≡ Finishes = straight (told-in_json run.json _ old taken cuts) in
      subst (λ (fate : Fate). IfSome (turn_of fate) (λ after. ¬ (HasMoreThan after run))) (sym plain) tt

  rest : Rest slots before lines run
  rest = rest-of slots before lines run unfinished is inside no_crash

  pub opening-breaks : BreaksOff slots before (commit_act run.fate) [] run (outside events old) (outside events taken)
  opening-breaks =
      let course = rest.course in
      let behind = later slots before lines run course course.left in
      let line = Prints (cuts.partial ++ cuts.rest) in record {
        more = cuts.front;
        partial = cuts.partial;
        rest = cuts.rest;
        cut = course.cuts cuts.front (cuts.back ++ behind) line
            (told-then slots before lines run course course.left ∙ ap (λ effects. effects ++ behind) cuts.cut ∙ append_assoc cuts.front (line ∷ cuts.back) behind);
        does = record {
          events = sym (ap (λ made. events ++ made) (events-front cuts.front (cuts.partial ++ cuts.rest) cuts.back (sym (ap events_in cuts.cut) ∙ events-opened (setting_of run) run.commits run.pending)) ∙ append-nil events);
          report = cuts.grown;
        };
      }
