-- What a commit comes to over its turn: one part, and then the other.
use Rattle.std.proofs.Common.{◌≡◌, inl, inr, ℕ, List, [], ◌++◌, Option, Result, Ok, Err, OnErr, sym, ap, ◌∙◌, subst, append_assoc, append-nil}
use Rattle.std.specs.Io.KnownBytes.{Appends}
use Rattle.std.proofs.KnownBytes.{Appends-trans}
use Rattle.tcam_device.specs.declared.Action.{Action}
use Rattle.tcam_device.specs.declared.Action.TheVariants.{Written}
use Rattle.tcam_device.specs.Flight.{Flight}
use Rattle.replay.specs.declared.Act.{Act}
use Rattle.replay.specs.declared.RunFault.{RunFault}
use Rattle.replay.specs.declared.RunFault.TheVariants as fault
use Rattle.replay.specs.Effects.{Effect, Acts, Prints, events_in, printed}
use Rattle.replay.specs.Run.{Progress, HasEffects, IsCutStep}
use Rattle.replay.specs.Carried.{Does}
use Rattle.replay.specs.declared.fate.Fate.TheVariants as fates
use Rattle.replay.specs.declared.fate.Then.{Then}
use Rattle.replay.specs.declared.fate.Then.TheVariants as thens
use Rattle.replay.specs.Crashing.{Continues, IsAtTurn, IsLost, IsTurned}
use Rattle.replay.specs.Fates.{IsRestart, IsToCrash, commit_act}
use Rattle.replay.specs.Running.{Running, progress_of, setting_of}
use Rattle.replay.specs.Unfinished.{IsUnfinished, ResumesTo, TakesAtCrash}
use Rattle.replay.specs.Outside.{outside}
use Rattle.replay.proofs.lines.Effects.{events-append, printed-append}

-- some effects, and then others
pub does-then : (first more : List Effect) (partial : List ℕ) (events mid now : List Action) (taken taken_mid taken_now : Option (List ℕ)) → Does first [] events mid taken taken_mid → Does more partial mid now taken_mid taken_now
    → Does (first ++ more) partial events now taken taken_now
does-then first more partial events mid now taken taken_mid taken_now did does = record {
  events = does.events ∙ ap (λ actions. actions ++ events_in more) did.events ∙ append_assoc events (events_in first) (events_in more)
      ∙ ap (λ actions. events ++ actions) (sym (events-append first more));
  report = subst (Appends taken taken_now) (sym (ap (λ text. text ++ partial) (printed-append first more) ∙ append_assoc (printed first) (printed more) partial))
      (Appends-trans taken taken_mid taken_now (printed first) (printed more ++ partial) (subst (Appends taken taken_mid) (append-nil (printed first)) did.report) does.report);
}

pub resumes-then : (result : Result (Unit {0}) RunFault) (slots : ℕ) (before : Progress) (act : Act) (front : List Effect) (mid new : Running) (events events_mid events_new : List Action) (flight flight_new : Flight) (taken taken_mid taken_new : Option (List ℕ))
    → (goes : Continues slots before front mid (outside events taken) (outside events_mid taken_mid) flight) → ResumesTo slots before act (front ++ goes.more) new result (outside events_mid taken_mid) (outside events_new taken_new) flight_new
    → ResumesTo slots before act front new result (outside events taken) (outside events_new taken_new) flight_new
resumes-then (Ok done) slots before act front mid new events events_mid events_new flight flight_new taken taken_mid taken_new goes ends = record {
  rest = goes.more ++ ends.rest;
  step = subst (λ effects. HasEffects (setting_of new) before act effects (progress_of slots new)) (append_assoc front goes.more ends.rest) ends.step;
  does = does-then goes.more ends.rest [] events events_mid events_new taken taken_mid taken_new goes.does ends.does;
  stands = ends.stands;
}
resumes-then (Err fault.Device) slots before act front mid new events events_mid events_new flight flight_new taken taken_mid taken_new goes ends = record {
  more = goes.more ++ ends.more;
  due = ends.due;
  unfinished = subst (λ effects. IsUnfinished slots before effects new) (append_assoc front goes.more ends.more) ends.unfinished;
  act_is = ends.act_is;
  next = ends.next;
  cut = subst (λ effects. IsCutStep (setting_of new) before act effects (Acts (Written ends.due))) (append_assoc front goes.more ends.more) ends.cut;
  does = does-then goes.more ends.more [] events events_mid events_new taken taken_mid taken_new goes.does ends.does;
  stands = ends.stands;
  current = ends.current;
}
resumes-then (Err fault.Sink) slots before act front mid new events events_mid events_new flight flight_new taken taken_mid taken_new goes ends = record {
  more = goes.more ++ ends.more;
  partial = ends.partial;
  rest = ends.rest;
  cut = subst (λ effects. IsCutStep (setting_of new) before act effects (Prints (ends.partial ++ ends.rest))) (append_assoc front goes.more ends.more) ends.cut;
  does = does-then goes.more ends.more ends.partial events events_mid events_new taken taken_mid taken_new goes.does ends.does;
}
resumes-then (Err fault.Memory) slots before act front mid new events events_mid events_new flight flight_new taken taken_mid taken_new goes ends = record {
  more = goes.more ++ ends.more;
  needs = subst (TakesAtCrash (setting_of new) before act) (append_assoc front goes.more ends.more) ends.needs;
  does = does-then goes.more ends.more [] events events_mid events_new taken taken_mid taken_new goes.does ends.does;
}

-- over its turn
pub carried-over : (result : Result (Unit {0}) RunFault) (slots after : ℕ) (then : Then) (before : Progress) (front : List Effect) (old mid over new : Running) (events events_mid events_new : List Action) (flight flight_new : Flight) (taken taken_mid taken_new : Option (List ℕ))
    → old.fate ≡ fates.Turns after then → IsTurned after then mid over → (goes : Continues slots before front mid (outside events taken) (outside events_mid taken_mid) flight)
    → ResumesTo slots before (commit_act over.fate) (front ++ goes.more) new result (outside events_mid taken_mid) (outside events_new taken_new) flight_new → ResumesTo slots before (commit_act old.fate) front new result (outside events taken) (outside events_new taken_new) flight_new
carried-over result slots after then before front old mid over new events events_mid events_new flight flight_new taken taken_mid taken_new fate_is gone goes ends =
    let now : over.fate ≡ fates.Turned after then = ap (λ (run : Running). run.fate) gone.2 in
    let same : commit_act over.fate ≡ commit_act old.fate = ap commit_act now ∙ sym (ap commit_act fate_is) in
    resumes-then result slots before (commit_act old.fate) front mid new events events_mid events_new flight flight_new taken taken_mid taken_new goes
    (subst (λ act. ResumesTo slots before act (front ++ goes.more) new result (outside events_mid taken_mid) (outside events_new taken_new) flight_new) same ends)

-- and where there is no memory for the second one: nothing more comes about
pub runs-out : (slots : ℕ) (before : Progress) (act : Act) (front : List Effect) (mid new : Running) (events events_mid : List Action) (flight flight_new : Flight) (taken taken_mid : Option (List ℕ)) → setting_of new ≡ setting_of mid
    → (goes : Continues slots before front mid (outside events taken) (outside events_mid taken_mid) flight) → TakesAtCrash (setting_of mid) before act (front ++ goes.more) → ResumesTo slots before act front new (Err fault.Memory) (outside events taken) (outside events_mid taken_mid) flight_new
runs-out slots before act front mid new events events_mid flight flight_new taken taken_mid same goes wants = record {
  more = goes.more;
  needs = subst (λ setting. TakesAtCrash setting before act (front ++ goes.more)) (sym same) wants;
  does = goes.does;
}

pub setting-lost : (old new : Running) → IsLost old new → setting_of new ≡ setting_of old
setting-lost old new (inl is) = ap setting_of is
setting-lost old new (inr is) = ap setting_of is

-- only a crash takes memory
pub to-crash-at : (after : ℕ) (then : Then) (run : Running) → IsAtTurn after then run → then ≡ thens.Restart → IsToCrash run.fate
to-crash-at after then run at is = subst IsToCrash (sym at.fate_is) (subst IsRestart (sym is) tt)

pub where-err : {E A : Type 0} (result : Result (Unit {0}) E) → A → OnErr result A
where-err (Ok done) holds = tt
where-err (Err why) holds = holds
