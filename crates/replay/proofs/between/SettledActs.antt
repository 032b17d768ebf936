-- What a commit comes to whose changes are settled first, by what one of the settled batch comes to.
use Rattle.std.proofs.Common.{◌≡◌, ℕ, Bool, true, false, Option, Some, None, List, [], Result, Ok, Err, refl, sym, ap, ◌∙◌, subst}
use Rattle.std.specs.Prelude.{codes}
use Rattle.rule_store.specs.declared.Command.{Command as Change}
use Rattle.rule_store.specs.Batch.{IsSound}
use Rattle.tcam_device.specs.declared.Action.{Action}
use Rattle.tcam_device.specs.Flight.{Flight}
use Rattle.replay.specs.declared.ActFault.{ActFault}
use Rattle.replay.specs.declared.ActFault.TheVariants.{BatchFull, ChangesPending, ProbesFull, Held, Stopped}
use Rattle.replay.specs.declared.RunFault.TheVariants as fault
use Rattle.settled_changes.specs.declared.requested.Requested.{Requested}
use Rattle.settled_changes.specs.declared.requested.Requested.TheVariants.{Nothing}
use Rattle.replay.specs.declared.fate.Fate.{Fate}
use Rattle.settled_changes.specs.Requested.{IsAsked, TakesAsked, settled_batch}
use Rattle.replay.specs.Carried.{IsAt}
use Rattle.replay.specs.Fates.{commit_act}
use Rattle.replay.specs.Outside.{Outside}
use Rattle.replay.specs.Run.{MayWant, pending_verdict, settled_at}
use Rattle.replay.specs.Running.{ComesTo, IsRun, NothingIsDone, Running, limit_text, progress_of, setting_of}
use Rattle.replay.specs.Unfinished.{StaysInStep, StaysUnfinished}
use Rattle.replay.proofs.between.Acts.{WantsBy, memory-at_once}
use Rattle.replay.proofs.between.Runs.{settled-run}
use Rattle.replay.proofs.between.Settled.{cut-settled, may-settle, settled-plain, step-settled, verdict-settled, wants-first, wants-settled}
use Rattle.replay.proofs.lines.Effects.{does-nothing}

-- where a manager was lost, what was wanted meanwhile is wanted,
lost-later : (A B C D : Type 0) (broken : Bool) → broken ≡ true → WantsBy broken A B → (B → D) → WantsBy broken C D
lost-later A B C D true lost wants more = more wants
lost-later A B C D false lost wants more = absurd (let bad : false ≡ true = lost in cc)

-- and where it wasn't, all is as before
kept-later : (A B : Type 0) (broken : Bool) → broken ≡ false → WantsBy broken A B → A
kept-later A B false whole wants = wants
kept-later A B true whole wants = absurd (let bad : true ≡ false = whole in cc)

-- a commit that wants memory before it does anything
pub wants-comes : (fate : Fate) (slots : ℕ) (run new : Running) (events_old events_new : List Action) (taken_old taken_new : Option (List ℕ)) → MayWant (setting_of run) (progress_of slots run) run.asked
    → NothingIsDone run new events_old events_new taken_old taken_new → ComesTo slots run (commit_act fate) new (Err (Stopped fault.Memory)) events_old events_new taken_old taken_new
wants-comes fate slots run new events_old events_new taken_old taken_new may same =
    subst (λ events. ComesTo slots run (commit_act fate) new (Err (Stopped fault.Memory)) events_old events taken_old taken_new) (sym same.events)
    (subst (λ taken. ComesTo slots run (commit_act fate) new (Err (Stopped fault.Memory)) events_old events_old taken_old taken) (sym same.report)
    (memory-at_once _ _ _ new.broken (
      record { effects = []; needs = wants-first (setting_of run) (progress_of slots run) fate may; does = does-nothing events_old taken_old },
      record { run = same.run; events = refl; report = refl },
    )))

-- what is left of a run that was cut, of strict commands alone
pub stays-plain : (slots : ℕ) (fate : Fate) (run new : Running) (out_old out_new : Outside) (flight : Flight) → run.asked ≡ Nothing
    → StaysUnfinished slots (progress_of slots run) (commit_act fate) [] new out_old out_new flight
    → StaysUnfinished slots (settled_at (progress_of slots run)) (commit_act fate) [] new out_old out_new flight
stays-plain slots fate run new out_old out_new flight plain stays =
    subst (λ before. StaysUnfinished slots before (commit_act fate) [] new out_old out_new flight) (sym (settled-plain (progress_of slots run) plain)) stays

-- it isn't the case that memory wants and nothing was done, so a manager was lost
pub lost-by : (W : Type 0) (waits broken : Bool) → (W × (broken ≡ false) → waits ≡ true) → waits ≡ false → W → broken ≡ true
lost-by W waits true both not want = refl
lost-by W waits false both not want = absurd (let bad : true ≡ false = sym (both (want, refl)) ∙ not in cc)

-- what waited is put back: the run is as before
pub back-is : (run put mid : Running) (batch pending : List Change) (asked : Requested) → put ≡ record run { pending = batch; asked = Nothing } → mid ≡ put
    → pending ≡ run.pending → asked ≡ run.asked → record mid { pending = pending; asked = asked } ≡ run
back-is run put mid batch pending asked put_is same pending_is asked_is =
    ap (λ (r : Running). record r { pending = pending; asked = asked }) (same ∙ put_is)
    ∙ ap (λ (some : List Change). record run { pending = some; asked = asked }) pending_is
    ∙ ap (λ (some : Requested). record run { asked = some }) asked_is

pub back-run : (run put mid : Running) (batch pending : List Change) (asked : Requested) → IsRun run → put ≡ record run { pending = batch; asked = Nothing } → mid ≡ put
    → pending ≡ run.pending → asked ≡ run.asked → IsRun (record mid { pending = pending; asked = asked })
back-run run put mid batch pending asked is put_is same pending_is asked_is =
    subst IsRun (sym (back-is run put mid batch pending asked put_is same pending_is asked_is)) is

-- the batch waits in its place
pub settled-inside : {inside run : Running} (batch pending_new : List Change) (asked_new : Requested) → pending_new ≡ batch → asked_new ≡ Nothing → inside ≡ run → IsRun inside → run.manager.held ≡ None
    → TakesAsked run.manager.rules run.asked → batch ≡ settled_batch run.manager.rules run.pending run.asked → IsRun (record inside { pending = pending_new; asked = asked_new })
settled-inside {run = run} batch pending_new asked_new pending_is asked_is inside_is is none taken settled =
    subst (λ (r : Running). IsRun (record r { pending = pending_new; asked = asked_new })) (sym inside_is)
    (subst (λ (some : List Change). IsRun (record run { pending = some; asked = asked_new })) (sym (pending_is ∙ settled))
    (subst (λ (some : Requested). IsRun (record run { pending = settled_batch run.manager.rules run.pending run.asked; asked = some })) (sym asked_is)
    (settled-run run (subst IsRun inside_is is) none taken)))

module _ (slots : ℕ) (run : Running) (fate : Fate) (asked : IsAsked run.asked) (taken : TakesAsked run.manager.rules run.asked)
    (sound : IsSound run.manager.rules (settled_batch run.manager.rules run.pending run.asked)) where
  -- with what is asked for settled
  abbrev pub settled_first : Running
  settled_first = record run { pending = settled_batch run.manager.rules run.pending run.asked; asked = Nothing }

  same : pending_verdict (setting_of run) (progress_of slots run) ≡ pending_verdict (setting_of run) (settled_at (progress_of slots run))
  same = verdict-settled (setting_of run) (progress_of slots run) taken sound

  -- where the run stays as the commit left it
  pub comes-settled : (result : Result (Unit {0}) ActFault) (new : Running) (events_old events_new : List Action) (taken_old taken_new : Option (List ℕ)) → limit_text result ≡ None
      → (result ≡ Err (Stopped fault.Memory) → new.broken ≡ true)
      → ComesTo slots settled_first (commit_act fate) new result events_old events_new taken_old taken_new → ComesTo slots run (commit_act fate) new result events_old events_new taken_old taken_new
  comes-settled (Ok done) new events_old events_new taken_old taken_new limit lost comes = λ at.
      let carries = comes at in
      record { effects = carries.effects; step = step-settled (setting_of run) (progress_of slots run) same fate carries.effects (progress_of slots new) carries.step; does = carries.does }
  comes-settled (Err (Stopped fault.Sink)) new events_old events_new taken_old taken_new limit lost comes = λ at.
      let cuts = comes at in
      record { front = cuts.front; partial = cuts.partial; rest = cuts.rest; cut = cut-settled (setting_of run) (progress_of slots run) same fate cuts.front _ cuts.cut; does = cuts.does }
  comes-settled (Err (Stopped fault.Device)) new events_old events_new taken_old taken_new limit lost comes = λ at.
      let cuts = comes at in
      record { front = cuts.front; write = cuts.write; cut = cut-settled (setting_of run) (progress_of slots run) same fate cuts.front _ cuts.cut; does = cuts.does }
  comes-settled (Err (Stopped fault.Memory)) new events_old events_new taken_old taken_new limit lost comes =
      lost-later _ _ _ _ new.broken (lost refl) comes (λ wants at.
      let one = wants at in
      record { effects = one.effects; needs = wants-settled (setting_of run) (progress_of slots run) same fate one.effects asked one.needs; does = one.does })
  comes-settled (Err BatchFull) new events_old events_new taken_old taken_new limit lost comes = absurd (let bad : Some (codes "batch full") ≡ None = limit in cc)
  comes-settled (Err ChangesPending) new events_old events_new taken_old taken_new limit lost comes = absurd (let bad : Some (codes "changes pending") ≡ None = limit in cc)
  comes-settled (Err ProbesFull) new events_old events_new taken_old taken_new limit lost comes = absurd (let bad : Some (codes "too many probes") ≡ None = limit in cc)
  comes-settled (Err (Held left)) new events_old events_new taken_old taken_new limit lost comes = absurd (let bad : Some (codes "a commit is unfinished") ≡ None = limit in cc)

  -- where it waits as before for want of memory
  pub comes-restored : (mid new : Running) (events_old events_new : List Action) (taken_old taken_new : Option (List ℕ)) → mid.broken ≡ false → new ≡ run
      → ComesTo slots settled_first (commit_act fate) mid (Err (Stopped fault.Memory)) events_old events_new taken_old taken_new
      → ComesTo slots run (commit_act fate) new (Err (Stopped fault.Memory)) events_old events_new taken_old taken_new
  comes-restored mid new events_old events_new taken_old taken_new whole back comes =
      let left = (kept-later _ _ mid.broken whole comes).1 in
      wants-comes fate slots run new events_old events_new taken_old taken_new (may-settle (setting_of run) (progress_of slots run) run.asked asked)
      record { run = back; events = left.events; report = left.report }

  -- the same, by the run in which the batch was put
  module _ (put : Running) (put_is : put ≡ settled_first) where
    pub comes-forth : (result : Result (Unit {0}) ActFault) (new : Running) (events_old events_new : List Action) (taken_old taken_new : Option (List ℕ)) → limit_text result ≡ None
        → (result ≡ Err (Stopped fault.Memory) → new.broken ≡ true)
        → ComesTo slots put (commit_act fate) new result events_old events_new taken_old taken_new → ComesTo slots run (commit_act fate) new result events_old events_new taken_old taken_new
    comes-forth result new events_old events_new taken_old taken_new limit lost comes =
        comes-settled result new events_old events_new taken_old taken_new limit lost
        (subst (λ (r : Running). ComesTo slots r (commit_act fate) new result events_old events_new taken_old taken_new) put_is comes)

    pub comes-back : (result : Result (Unit {0}) ActFault) (mid new : Running) (events_old events_new : List Action) (taken_old taken_new : Option (List ℕ)) → result ≡ Err (Stopped fault.Memory)
        → mid.broken ≡ false → new ≡ run
        → ComesTo slots put (commit_act fate) mid result events_old events_new taken_old taken_new → ComesTo slots run (commit_act fate) new result events_old events_new taken_old taken_new
    comes-back result mid new events_old events_new taken_old taken_new wants whole back comes =
        subst (λ one. ComesTo slots run (commit_act fate) new one events_old events_new taken_old taken_new) (sym wants)
        (comes-restored mid new events_old events_new taken_old taken_new whole back
        (subst (λ one. ComesTo slots settled_first (commit_act fate) mid one events_old events_new taken_old taken_new) wants
        (subst (λ (r : Running). ComesTo slots r (commit_act fate) mid result events_old events_new taken_old taken_new) put_is comes)))

    -- where it is cut, the settled batch is what it began with
    pub stays-settled : (new : Running) (events : List Action) (out_old out_new : Outside) (flight : Flight)
        → (IsAt slots events (progress_of slots put) → StaysUnfinished slots (progress_of slots put) (commit_act fate) [] new out_old out_new flight)
        → IsAt slots events (progress_of slots run) → StaysUnfinished slots (settled_at (progress_of slots run)) (commit_act fate) [] new out_old out_new flight
    stays-settled new events out_old out_new flight stays at =
        subst (λ (r : Running). IsAt slots events (progress_of slots r) → StaysUnfinished slots (progress_of slots r) (commit_act fate) [] new out_old out_new flight) put_is stays at

    -- and the device is where it was
    pub in-step-settled : (new : Running) (events_old events_new : List Action) (flight_old flight_new : Flight) → StaysInStep slots put new events_old events_new flight_old flight_new
        → StaysInStep slots run new events_old events_new flight_old flight_new
    in-step-settled new events_old events_new flight_old flight_new steps = subst (λ (r : Running). StaysInStep slots r new events_old events_new flight_old flight_new) put_is steps
