-- Where a call may follow, the device is where the run stands, and the words in flight are current.
use Rattle.std.proofs.Common.{◌≡◌, ◌≢◌, ◌⊎◌, inl, inr, ℕ, ◌+◌, Bool, true, false, List, [], Option, Result, Ok, Err, IfErr, OnOk, OnErr, refl, sym, ap, ◌∙◌, subst}
use Rattle.std.specs.Prelude.{◌||◌}
use Rattle.tcam_device.specs.declared.Action.{Action}
use Rattle.tcam_device.specs.Flight.{Flight, writes_in}
use Rattle.tcam_device.specs.State.{on_device, replay}
use Rattle.commit_writes.specs.InFlight.{AreCurrent}
use Rattle.commit_writes.specs.declared.Done.{Done}
use Rattle.batch_order.specs.Managed.{Holds, Managed, live_now}
use Rattle.replay.specs.declared.Act.{Act}
use Rattle.replay.specs.declared.ActFault.{ActFault}
use Rattle.replay.specs.declared.ActFault.TheVariants.{BatchFull, ChangesPending, ProbesFull, Held, Stopped}
use Rattle.replay.specs.declared.RunFault.{RunFault}
use Rattle.replay.specs.declared.watch.Count.{Count}
use Rattle.replay.specs.declared.RunFault.TheVariants as fault
use Rattle.replay.specs.declared.fate.Fate.{Fate}
use Rattle.replay.specs.declared.fate.Fate.TheVariants as fates
use Rattle.replay.specs.declared.fate.Then.TheVariants as thens
use Rattle.replay.specs.Effects.{Effect}
use Rattle.replay.specs.Run.{Progress}
use Rattle.replay.specs.Carried.{IsAt}
use Rattle.replay.specs.Crashing.{memory_wanted}
use Rattle.replay.specs.Fates.{AnswersBroken, AnswersLost, IsCrash, IsToCrash, commit_act}
use Rattle.replay.specs.InFlight.{IsSeen}
use Rattle.replay.specs.Running.{ComesTo, IsRun, Running, act_outcome_of, sink_failed, progress_of}
use Rattle.replay.specs.Unfinished.{StaysInStep, StaysUnfinished}
use Rattle.replay.specs.Outside.{outside}

or-none : (a b : Bool) → (a || b) ≡ false → (a ≡ false) × (b ≡ false)
or-none false b none = (refl, none)
or-none true b none = absurd (cc)

-- where nothing is done to the device and to the manager
pub in-step-kept : (slots : ℕ) (old new : Running) (events : List Action) (flight : Flight) → new.manager ≡ old.manager → StaysInStep slots old new events events flight flight
in-step-kept slots old new events flight same = λ whole at current. (
  subst (λ (manager : Managed). on_device slots manager.state ≡ replay slots (writes_in events)) (sym same) at,
  subst (λ (manager : Managed). AreCurrent (live_now manager) flight) (sym same) current,
)

-- a manager that stays where an act comes to something, and where it doesn't
pub kept-manager : (result : Result (Unit {0}) ActFault) (old after new : Running) → after.manager ≡ old.manager → OnOk result (new ≡ after) → OnErr result (new ≡ old) → new.manager ≡ old.manager
kept-manager (Ok done) old after new same did stayed = ap (λ (run : Running). run.manager) did ∙ same
kept-manager (Err why) old after new same did stayed = ap (λ (run : Running). run.manager) stayed

-- where a commit is taken, with no word in flight
pub in-step-taken : (slots : ℕ) (old : Running) → IsRun old → (prepared : Managed) (fate : Fate) (new : Running) (counts : Done) (events events_new : List Action) (flight_old flight flight_new : Flight) → Holds old.manager old.pending counts prepared → flight ≡ []
    → StaysInStep slots (record old { manager = prepared; fate = fate }) new events events_new flight flight_new → StaysInStep slots old new events events_new flight_old flight_new
in-step-taken slots old is prepared fate new counts events events_new flight_old flight flight_new holds none steps = λ whole at current.
    steps whole
    (subst (λ (manager : Managed). on_device slots manager.state ≡ replay slots (writes_in events)) (sym holds.new_is) at)
    (subst (AreCurrent (live_now prepared)) (sym none) tt)

-- where the loop that makes the writes keeps the device the manager's and the words current
pub in-step-cut : (slots : ℕ) (inside run : Running) → IsRun inside → inside ≡ run → (now : Managed) (count : Count) (events_old events_new : List Action) (flight_old flight_new : Flight)
    → (IsSeen slots events_old flight_old inside.manager → IsSeen slots events_new flight_new now) → StaysInStep slots run (record inside { manager = now; told = count.told; waiting = count.waiting }) events_old events_new flight_old flight_new
in-step-cut slots inside run is same now count events_old events_new flight_old flight_new stays = λ whole at current.
    let seen = stays (record {
      on = subst (λ (r : Running). on_device slots r.manager.state ≡ replay slots (writes_in events_old)) (sym same) at;
      current = subst (λ (r : Running). AreCurrent (live_now r.manager) flight_old) (sym same) current;
    }) in
    (seen.on, seen.current)

-- and where all of them are made no word is in flight
pub in-step-done : (slots : ℕ) (inside run : Running) → IsRun inside → inside ≡ run → (now : Managed) (counted : Running) (told : ℕ) → counted ≡ record inside { manager = now; told = 0; waiting = 0; fate = fates.Finishes; pending = []; commits = inside.commits + 1 } → (events_old events_mid events_new : List Action) (flight_old flight_mid flight_new : Flight)
    → (IsSeen slots events_old flight_old inside.manager → IsSeen slots events_mid flight_mid now) → events_new ≡ events_mid → flight_new ≡ [] → StaysInStep slots run (record counted { writes = counted.writes + told }) events_old events_new flight_old flight_new
in-step-done slots inside run is same now counted told counted_is events_old events_mid events_new flight_old flight_mid flight_new stays kept none = λ whole at current.
    let seen = stays (record {
      on = subst (λ (r : Running). on_device slots r.manager.state ≡ replay slots (writes_in events_old)) (sym same) at;
      current = subst (λ (r : Running). AreCurrent (live_now r.manager) flight_old) (sym same) current;
    }) in (
      ap (λ (r : Running). on_device slots r.manager.state) counted_is ∙ seen.on ∙ ap (λ events. replay slots (writes_in events)) (sym kept),
      subst (AreCurrent (live_now counted.manager)) (sym none) tt,
    )

-- where another manager goes on from where the run stands
pub in-step-gone : (slots : ℕ) (old new : Running) (events_old events_new : List Action) (flight_old flight_new : Flight) → progress_of slots new ≡ progress_of slots old → (AreCurrent (live_now old.manager) flight_old → AreCurrent (live_now new.manager) flight_new)
    → events_new ≡ events_old → StaysInStep slots old new events_old events_new flight_old flight_new
in-step-gone slots old new events_old events_new flight_old flight_new stood words kept = λ whole at current. (
  ap (λ (progress : Progress). progress.state) stood ∙ at ∙ ap (λ events. replay slots (writes_in events)) (sym kept),
  words current,
)

-- over two parts
pub in-step-then : (slots : ℕ) (old mid new : Running) (events_old events_mid events_new : List Action) (flight_old flight_mid flight_new : Flight) → StaysInStep slots old mid events_old events_mid flight_old flight_mid → mid.broken ≡ false
    → StaysInStep slots mid new events_mid events_new flight_mid flight_new → StaysInStep slots old new events_old events_new flight_old flight_new
in-step-then slots old mid new events_old events_mid events_new flight_old flight_mid flight_new first whole_mid then = λ whole at current.
    let there = first whole_mid at current in
    then whole there.0 there.1

-- where it is marked whether the sink failed
pub in-step-marked : (slots : ℕ) (old mid new : Running) (result : Result (Unit {0}) ActFault) (events_old events_new : List Action) (flight_old flight_new : Flight) → new ≡ record mid { broken = mid.broken || sink_failed result }
    → (result ≢ Err (Stopped fault.Sink) → StaysInStep slots old mid events_old events_new flight_old flight_new) → StaysInStep slots old new events_old events_new flight_old flight_new
in-step-marked slots old mid new result events_old events_new flight_old flight_new marked steps = λ whole at current.
    let none = or-none mid.broken (sink_failed result) (sym (ap (λ (run : Running). run.broken) marked) ∙ whole) in
    subst (λ (run : Running). IsAt slots events_new (progress_of slots run) × AreCurrent (live_now run.manager) flight_new) (sym marked)
    (steps (not-sink none.1) none.0 at current)
  where
    not-sink : sink_failed result ≡ false → result ≢ Err (Stopped fault.Sink)
    not-sink none = λ sink. let bad : true ≡ false = sym (ap sink_failed sink) ∙ none in absurd (cc)

-- ---- whether a call may follow

-- a mark of a lost manager comes of what carries out a commit that is to crash
pub memory_wanted-so : (fate : Fate) (result : Result (Unit {0}) RunFault) (broken : Bool) → broken ≡ memory_wanted result
    → IfErr result (λ why. (why ≡ fault.Sink) ⊎ ((why ≡ fault.Device) ⊎ ((why ≡ fault.Memory) × IsToCrash fate))) → AnswersLost (commit_act fate) (act_outcome_of result) broken
memory_wanted-so fate (Ok done) broken is kind = λ lost. absurd (let bad : true ≡ false = sym lost ∙ is in cc)
memory_wanted-so fate (Err why) broken is (inl sink) = λ lost. absurd (let bad : true ≡ false = sym lost ∙ is ∙ ap (λ one. memory_wanted (Err one)) sink in cc)
memory_wanted-so fate (Err why) broken is (inr (inl device)) = λ lost. absurd (let bad : true ≡ false = sym lost ∙ is ∙ ap (λ one. memory_wanted (Err one)) device in cc)
memory_wanted-so fate (Err why) broken is (inr (inr (memory, crashes))) = λ lost. (ap (λ one. Err (Stopped one)) memory, crash fate crashes)
  where
    crash : (fate : Fate) → IsToCrash fate → IsCrash (commit_act fate)
    crash fates.Finishes crashes = absurd crashes
    crash (fates.Turns after thens.Back) crashes = absurd crashes
    crash (fates.Turns after thens.Restart) crashes = tt
    crash (fates.Turned after then) crashes = absurd crashes

-- with the sink's failure marked, too
pub sink_failed-marked : (act : Act) (result : Result (Unit {0}) ActFault) (mid now : Bool) → now ≡ (mid || sink_failed result) → AnswersLost act result mid → AnswersBroken act result now
sink_failed-marked act (Ok done) false now is lost = is
sink_failed-marked act (Ok done) true now is lost = absurd (let bad = (lost refl).0 in cc)
sink_failed-marked act (Err (Stopped fault.Sink)) false now is lost = is
sink_failed-marked act (Err (Stopped fault.Sink)) true now is lost = is
sink_failed-marked act (Err (Stopped fault.Device)) false now is lost = is
sink_failed-marked act (Err (Stopped fault.Device)) true now is lost = absurd (let bad = (lost refl).0 in cc)
sink_failed-marked act (Err (Stopped fault.Memory)) false now is lost = λ broken. absurd (let bad : true ≡ false = sym broken ∙ is in cc)
sink_failed-marked act (Err (Stopped fault.Memory)) true now is lost = λ broken. (lost refl).1
sink_failed-marked act (Err BatchFull) false now is lost = is
sink_failed-marked act (Err BatchFull) true now is lost = absurd (let bad = (lost refl).0 in cc)
sink_failed-marked act (Err ChangesPending) false now is lost = is
sink_failed-marked act (Err ChangesPending) true now is lost = absurd (let bad = (lost refl).0 in cc)
sink_failed-marked act (Err ProbesFull) false now is lost = is
sink_failed-marked act (Err ProbesFull) true now is lost = absurd (let bad = (lost refl).0 in cc)
sink_failed-marked act (Err (Held left)) false now is lost = is
sink_failed-marked act (Err (Held left)) true now is lost = absurd (let bad = (lost refl).0 in cc)

-- ---- what else the mark leaves

or-false : (b : Bool) → (b || false) ≡ b
or-false true = refl
or-false false = refl

-- where the sink didn't fail it marks nothing
pub marked-kept : (result : Result (Unit {0}) ActFault) (mid new : Running) → new ≡ record mid { broken = mid.broken || sink_failed result } → sink_failed result ≡ false → new ≡ mid
marked-kept result mid new is none =
    is ∙ ap (λ mark. record mid { broken = mid.broken || mark }) none ∙ ap (λ mark. record mid { broken = mark }) (or-false mid.broken)

pub comes-marked : (result : Result (Unit {0}) ActFault) (slots : ℕ) (old : Running) (act : Act) (mid new : Running) (events_old events_new : List Action) (taken_old taken_new : Option (List ℕ))
    → new ≡ record mid { broken = mid.broken || sink_failed result } → ComesTo slots old act mid result events_old events_new taken_old taken_new → ComesTo slots old act new result events_old events_new taken_old taken_new
comes-marked (Ok done) slots old act mid new events_old events_new taken_old taken_new is comes =
    subst (λ (run : Running). ComesTo slots old act run (Ok done) events_old events_new taken_old taken_new) (sym (marked-kept (Ok done) mid new is refl)) comes
comes-marked (Err (Stopped fault.Sink)) slots old act mid new events_old events_new taken_old taken_new is comes = comes
comes-marked (Err (Stopped fault.Device)) slots old act mid new events_old events_new taken_old taken_new is comes = comes
comes-marked (Err (Stopped fault.Memory)) slots old act mid new events_old events_new taken_old taken_new is comes =
    subst (λ (run : Running). ComesTo slots old act run (Err (Stopped fault.Memory)) events_old events_new taken_old taken_new) (sym (marked-kept (Err (Stopped fault.Memory)) mid new is refl)) comes
comes-marked (Err BatchFull) slots old act mid new events_old events_new taken_old taken_new is comes =
    subst (λ (run : Running). ComesTo slots old act run (Err BatchFull) events_old events_new taken_old taken_new) (sym (marked-kept (Err BatchFull) mid new is refl)) comes
comes-marked (Err ChangesPending) slots old act mid new events_old events_new taken_old taken_new is comes =
    subst (λ (run : Running). ComesTo slots old act run (Err ChangesPending) events_old events_new taken_old taken_new) (sym (marked-kept (Err ChangesPending) mid new is refl)) comes
comes-marked (Err ProbesFull) slots old act mid new events_old events_new taken_old taken_new is comes =
    subst (λ (run : Running). ComesTo slots old act run (Err ProbesFull) events_old events_new taken_old taken_new) (sym (marked-kept (Err ProbesFull) mid new is refl)) comes
comes-marked (Err (Held left)) slots old act mid new events_old events_new taken_old taken_new is comes =
    subst (λ (run : Running). ComesTo slots old act run (Err (Held left)) events_old events_new taken_old taken_new) (sym (marked-kept (Err (Held left)) mid new is refl)) comes

pub stays-marked : (result : Result (Unit {0}) ActFault) (slots : ℕ) (before : Progress) (act : Act) (front : List Effect) (mid new : Running) (events_old events_new : List Action) (flight : Flight) (taken_old taken_new : Option (List ℕ))
    → new ≡ record mid { broken = mid.broken || sink_failed result } → result ≡ Err (Stopped fault.Device) → StaysUnfinished slots before act front mid (outside events_old taken_old) (outside events_new taken_new) flight
    → StaysUnfinished slots before act front new (outside events_old taken_old) (outside events_new taken_new) flight
stays-marked result slots before act front mid new events_old events_new flight taken_old taken_new is cut stays =
    subst (λ (run : Running). StaysUnfinished slots before act front run (outside events_old taken_old) (outside events_new taken_new) flight) (sym (marked-kept result mid new is (ap sink_failed cut))) stays
