-- What the first part of a commit that is turned comes to, by what the run is before.
use Rattle.std.proofs.Common.{◌≡◌, ◌≢◌, ◌⊎◌, ℕ, ◌+◌, ◌-◌, ◌^◌, ◌<◌, ◌≤◌, inl, inr, List, ◌++◌, Option, Some, None, IfSome, IsSome, Result, Ok, Err, IfErr, OnOk, length, length-append, refl, sym, ap, ◌∙◌, subst, arith}
use Rattle.std.specs.Prelude.{option_map}
use Rattle.tcam_device.specs.declared.Action.{Action}
use Rattle.tcam_device.specs.Flight.{Flight, writes_in}
use Rattle.commit_writes.specs.InFlight.{AreCurrent}
use Rattle.commit_writes.proofs.WritesIn.{writes_in-append}
use Rattle.batch_order.specs.Managed.{HeldCommit, Managed, live_now}
use Rattle.replay.specs.declared.RunFault.{RunFault}
use Rattle.replay.specs.declared.RunFault.TheVariants as fault
use Rattle.replay.specs.declared.fate.Fate.TheVariants as fates
use Rattle.replay.specs.declared.fate.Then.{Then}
use Rattle.replay.specs.declared.watch.Count.{Count}
use Rattle.replay.specs.Effects.{Effect, probes_told}
use Rattle.replay.specs.Run.{Progress}
use Rattle.replay.specs.Carried.{IsAt}
use Rattle.replay.specs.Fates.{IsUpTo, commit_act}
use Rattle.replay.specs.InFlight.{AreOf, IsSeen}
use Rattle.replay.specs.Pausing.{MakesUpTo}
use Rattle.replay.specs.Running.{Running, AreLeft, IsRun, MakesSome, progress_of, setting_of, watching}
use Rattle.replay.specs.Making.{HasCome, snapshot}
use Rattle.replay.specs.Unfinished.{IsUnfinished}
use Rattle.replay.specs.Crashing.{ComesToTurn, HasMoreThan, IsAtTurn}
use Rattle.replay.specs.Outside.{outside}
use Rattle.replay.proofs.making.Acting.{one, some-held}
use Rattle.replay.proofs.course.Course.{count_of}
use Rattle.replay.proofs.between.Halfway.{cut-run, few-left}
use Rattle.replay.proofs.flight.Leftover.{few-waiting, left-of}
use Rattle.replay.proofs.crash.ToTurn.{IsToStop, comes-to, few-due, stands-some, still-half, stop-at, turning}

-- few writes were told and are left, by their number
pub few-told : (after : ℕ) (then : Then) (base now : Running) → base ≡ now → IsRun base → IsSome now.manager.held → base.fate ≡ fates.Turns after then
    → (left : ℕ) → Some left ≡ option_map (λ held. length (writes_in held.actions)) base.manager.held → base.told + left ≤ 2 ^ 36
few-told after then base now view_is is held fate_is left left_is =
    go base.manager.held (few-due after then base is (subst (λ (r : Running). IsSome r.manager.held) (sym view_is) held) fate_is) left_is
  where
    go : (held : Option HeldCommit) → IfSome held (λ one. base.told + length (writes_in one.actions) ≤ 2 ^ 36) → Some left ≡ option_map (λ one. length (writes_in one.actions)) held → base.told + left ≤ 2 ^ 36
    go (Some one) few some = let same : left ≡ length (writes_in one.actions) = cc in omega arith
    go None few none = absurd (cc)

-- some actions are made, and none past the turn
pub record MadeUpTo (after : ℕ) (base : Running) (now : Managed) (count : Count) (events_old events_new : List Action) : Type 0 where
  pub some : MakesSome base.manager now
  pub come : HasCome (watching base) (count_of base) count some.made
  pub before : IsUpTo (after - base.told) some.made some.left
  pub few : count.told ≤ after
  pub events : events_new ≡ events_old ++ some.made

made-up_to : (Seen : Type 0) (slots after : ℕ) (base : Running) (result : Result (Unit {0}) RunFault) (now : Managed) (count : Count) (events_old events_new : List Action) (taken taken_new : Option (List ℕ))
    → MakesUpTo Seen after (watching base) slots (snapshot base.manager (count_of base) (outside events_old taken)) (snapshot now count (outside events_new taken_new)) result → MadeUpTo after base now count events_old events_new
made-up_to Seen slots after base (Ok done) now count events_old events_new taken taken_new pauses =
    let reached = pauses.reached in
    record { some = pauses.some; come = pauses.come; before = pauses.before; few = omega arith; events = pauses.events }
made-up_to Seen slots after base (Err why) now count events_old events_new taken taken_new (inl (sink, (stops, before, few, cuts))) =
    record { some = stops.some; come = stops.come; before = before; few = few; events = stops.events }
made-up_to Seen slots after base (Err why) now count events_old events_new taken taken_new (inr (device, (stops, before, below))) =
    record { some = stops.some; come = stops.come; before = before; few = omega (arith, below); events = stops.events }

module _ (slots after : ℕ) (then : Then) (base began : Running) (view_is : base ≡ began) (is : IsRun base) (within : began.manager.slots ≤ slots) (held : IsSome began.manager.held) (fate_is : began.fate ≡ fates.Turns after then) (more : HasMoreThan after began) where
  stop : IsToStop after then base
  stop = stop-at after then base began view_is is held fate_is more

  more_base : HasMoreThan after base
  more_base = subst (HasMoreThan after) (sym view_is) more

  inside : base.manager.slots ≤ slots
  inside = subst (λ (r : Running). r.manager.slots ≤ slots) (sym view_is) within

  -- what its writes are asked for
  pub asks-waiting : base.waiting ≤ base.depth
  asks-waiting = few-waiting (turning after then base) stop.half

  pub asks-more : IfSome base.manager.held (λ one. after < base.told + length (writes_in one.actions))
  asks-more = more_base

  pub asks-few : IfSome base.manager.held (λ one. base.told + length (writes_in one.actions) ≤ 2 ^ 36)
  asks-few = few-left (turning after then base) stop.half

  module _ (Seen : Type 0) (result : Result (Unit {0}) RunFault) (now : Managed) (count : Count) (events_old events_new : List Action) (taken taken_new : Option (List ℕ))
      (makes : MakesUpTo Seen after (watching base) slots (snapshot base.manager (count_of base) (outside events_old taken)) (snapshot now count (outside events_new taken_new)) result) where
    abbrev new : Running
    new = record base { manager = now; told = count.told; waiting = count.waiting }

    made : MadeUpTo after base now count events_old events_new
    made = made-up_to Seen slots after base result now count events_old events_new taken taken_new makes

    held-now : now.held ≡ Some (one base.manager now made.some)
    held-now = some-held base.manager now made.some

    pub run-first : IsRun new
    run-first =
        subst IsRun (sym (ap (λ (r : Running). record r { manager = now; told = count.told; waiting = count.waiting }) stop.same))
        (cut-run (turning after then base) now count stop.is made.some (inl (still-half slots after then base stop.half stop.is inside stop.more now count made.some made.come made.before made.few)))

    pub setting-first : setting_of new ≡ setting_of began
    setting-first = ap (λ (manager : Managed). setting_of (record base { manager = manager })) made.some.now_is ∙ ap setting_of view_is

    pub left-first : (flight : Flight) → (result ≢ Err fault.Sink → AreOf (probes_told base.json base.probes) count.waiting flight) → result ≢ Err fault.Sink → AreLeft new flight
    left-first flight are not_sink = left-of new flight (subst (λ (one : Option HeldCommit). IsSome one) (sym held-now) refl) (are not_sink)

    -- the device is where the run stands
    pub stands-first : (slots_new : ℕ) → slots_new ≡ slots → OnOk result (IsAt slots events_old (progress_of slots began) → IsAt slots_new events_new (progress_of slots_new new))
    stands-first slots_new same = go result
      where
        at-new : IsAt slots events_old (progress_of slots began) → IsAt slots events_new (progress_of slots new)
        at-new at =
            stands-some slots after then base stop.half stop.is inside stop.more now count made.some made.come made.before made.few events_old events_new
            (subst (λ (r : Running). IsAt slots events_old (progress_of slots r)) (sym view_is) at) made.events

        go : (one : Result (Unit {0}) RunFault) → OnOk one (IsAt slots events_old (progress_of slots began) → IsAt slots_new events_new (progress_of slots_new new))
        go (Ok done) = λ at. subst (λ n. IsAt n events_new (progress_of n new)) (sym same) (at-new at)
        go (Err why) = tt

  -- at its turn it has more
  pub at-first : (Seen : Type 0) (result : Result (Unit {0}) RunFault) (now : Managed) (count : Count) (events_old events_new : List Action) (taken taken_new : Option (List ℕ))
      → MakesUpTo Seen after (watching base) slots (snapshot base.manager (count_of base) (outside events_old taken)) (snapshot now count (outside events_new taken_new)) result
      → OnOk result (IsAtTurn after then (record base { manager = now; told = count.told; waiting = count.waiting }))
  at-first Seen (Ok done) now count events_old events_new taken taken_new pauses =
      let reached = pauses.reached in
      let number = pauses.come.told in
      let some = pauses.more in
      let parts : length (writes_in (pauses.some.made ++ pauses.some.left)) ≡ length (writes_in pauses.some.made) + length (writes_in pauses.some.left) =
      ap length (writes_in-append pauses.some.made pauses.some.left) ∙ length-append (writes_in pauses.some.made) (writes_in pauses.some.left) in
      let left : after < count.told + length (writes_in pauses.some.left) = omega arith in
      record {
        fate_is = ap (λ (r : Running). r.fate) stop.same;
        told_is = reached;
        held = subst (λ (one : Option HeldCommit). IsSome one) (sym (some-held base.manager now pauses.some)) refl;
        more = subst (λ one. IfSome one (λ (x : HeldCommit). after < count.told + length (writes_in x.actions))) (sym (some-held base.manager now pauses.some)) left;
      }
  at-first Seen (Err why) now count events_old events_new taken taken_new stops = tt

  pub kind-first : (Seen : Type 0) (result : Result (Unit {0}) RunFault) (now : Managed) (count : Count) (events_old events_new : List Action) (taken taken_new : Option (List ℕ))
      → MakesUpTo Seen after (watching base) slots (snapshot base.manager (count_of base) (outside events_old taken)) (snapshot now count (outside events_new taken_new)) result
      → IfErr result (λ why. (why ≡ fault.Sink) ⊎ (why ≡ fault.Device))
  kind-first Seen (Ok done) now count events_old events_new taken taken_new pauses = tt
  kind-first Seen (Err why) now count events_old events_new taken taken_new (inl (sink, stops)) = inl sink
  kind-first Seen (Err why) now count events_old events_new taken taken_new (inr (device, stops)) = inr device

  module _ (before : Progress) (front : List Effect) (unfinished : IsUnfinished slots before front began) (events_old : List Action) (flight : Flight) (at : IsAt slots events_old (progress_of slots began)) (current : AreCurrent (live_now began.manager) flight) where
    at_base : IsAt slots events_old (progress_of slots base)
    at_base = subst (λ (r : Running). IsAt slots events_old (progress_of slots r)) (sym view_is) at

    current_base : AreCurrent (live_now base.manager) flight
    current_base = subst (λ (r : Running). AreCurrent (live_now r.manager) flight) (sym view_is) current

    pub comes-first : (result : Result (Unit {0}) RunFault) (now : Managed) (count : Count) (events_new : List Action) (taken taken_new : Option (List ℕ)) (flight_new : Flight)
        → MakesUpTo (IsSeen slots events_old flight base.manager) after (watching base) slots (snapshot base.manager (count_of base) (outside events_old taken)) (snapshot now count (outside events_new taken_new)) result
        → (slots_new : ℕ) → slots_new ≡ slots → (result ≢ Err fault.Sink → IsSeen slots events_old flight base.manager → IsSeen slots_new events_new flight_new now)
        → ComesToTurn slots before (commit_act began.fate) front (record base { manager = now; told = count.told; waiting = count.waiting }) result (outside events_old taken) (outside events_new taken_new) flight_new
    comes-first result now count events_new taken taken_new flight_new makes slots_new same seen_new =
        let seen : IsSeen slots events_old flight base.manager = record { on = at_base; current = current_base } in
        let stands : IsUnfinished slots before front base = subst (IsUnfinished slots before front) (sym view_is) unfinished in
        subst (λ fate. ComesToTurn slots before (commit_act fate) front (record base { manager = now; told = count.told; waiting = count.waiting }) result (outside events_old taken) (outside events_new taken_new) flight_new)
        (ap (λ (r : Running). r.fate) view_is)
        (comes-to slots after then base stop more_base inside before front stands events_old events_new flight flight_new at_base current_base result now count taken taken_new makes (λ not_sink. (seen_new not_sink seen).current))
