-- Where another manager goes on with a commit that crashed the run stands where it did, and the words in flight stay current.
use Rattle.std.proofs.Common.{◌≡◌, ℕ, ◌+◌, ◌-◌, ◌<◌, ◌≤◌, inl, inr, Bool, true, false, List, [], ◌∷◌, ◌++◌, Option, Some, None, IfSome, IsSome, Result, Ok, Err, length, length-append, map, take, drop, replicate, refl, sym, ap, ◌∙◌, subst, append-nil, arith}
use Rattle.std.specs.Prelude.{◌&&◌}
use Rattle.std.specs.List.{AllByRecursion, list_any}
use Rattle.std.proofs.lemmas.List.{length-take, length-take-le}
use Rattle.slot_order.specs.Order.{most_slots}
use Rattle.rule_model.specs.declared.Rule.{Rule}
use Rattle.rule_model.specs.declared.IpVersion.{IpVersion}
use Rattle.rule_store.specs.declared.Mode.{Mode}
use Rattle.rule_store.specs.declared.Mode.TheVariants.{Cover}
use Rattle.rule_store.specs.Verdict.{Accepted, verdict}
use Rattle.tcam_device.specs.declared.Write.{Write}
use Rattle.tcam_device.specs.declared.Action.{Action}
use Rattle.tcam_device.specs.declared.Action.TheVariants.{Written, Drained}
use Rattle.tcam_device.specs.Flight.{Flight, writes_in}
use Rattle.tcam_device.specs.Insertion.{table_writes}
use Rattle.tcam_device.specs.State.{State, replay, state_after, on_device}
use Rattle.tcam_device.proofs.Wider.{slots-after}
use Rattle.commit_writes.specs.Actions.{commit_actions, have_bits, with_drain}
use Rattle.commit_writes.specs.Bits.{FieldBits, bits_with, new_bits}
use Rattle.commit_writes.specs.InFlight.{ArePartOf, AreCurrent}
use Rattle.commit_writes.specs.Routes.{IsRoute}
use Rattle.commit_writes.specs.Shape.{inserted_pieces}
use Rattle.commit_writes.proofs.Current.{are_current_part}
use Rattle.commit_writes.proofs.WritesIn.{writes_of_commit}
use Rattle.readback.specs.declared.Parts.{Parts}
use Rattle.readback.specs.declared.StageFault.TheVariants as stage_faults
use Rattle.readback.specs.Fault.{AreSetBits}
use Rattle.readback.specs.Stage.{IsStage}
use Rattle.readback.specs.Tasks.{stands_in}
use Rattle.batch_order.specs.declared.Placement.{Placement}
use Rattle.batch_order.specs.declared.restarting.fault.RestartFault.{RestartFault}
use Rattle.batch_order.specs.declared.restarting.fault.RestartFault.TheVariants as restart_faults
use Rattle.batch_order.specs.Managed.{CanRestart, HasBlankTables, HeldCommit, Managed, fresh, live_now}
use Rattle.batch_order.specs.Restart.{AnswersRestart, ArePartsOf, Resumes, bits_in, has_drained, rest_of}
use Rattle.batch_order.specs.Turning.{IsCurrentRight, IsHeldRight, has_drain}
use Rattle.replay.specs.declared.Act.TheVariants.{Crash}
use Rattle.replay.specs.declared.fate.Fate.TheVariants as fates
use Rattle.replay.specs.declared.fate.Then.TheVariants as thens
use Rattle.replay.specs.Effects.{Effect, waiting_after}
use Rattle.replay.specs.Run.{Progress, carried_so_far}
use Rattle.replay.specs.Fates.{commit_act}
use Rattle.replay.specs.Running.{Running, IsHalfway, IsOnward, IsRun, course_of, first_actions, progress_of, routes_of, setting_of}
use Rattle.replay.specs.Unfinished.{IsUnfinished, StandsHalfway, StandsOnward, TakesAtCrash}
use Rattle.replay.specs.Carried.{IsAt}
use Rattle.replay.specs.Crashing.{IsAtTurn, IsLost, IsTurned, after_loss}
use Rattle.replay.proofs.making.Acting.{one, some-held}
use Rattle.replay.proofs.making.Making.{makes-none}
use Rattle.replay.proofs.between.Halfway.{begun-is, held-forward, held_begun, setting-begun, way-same, whole-forward}
use Rattle.replay.proofs.crash.Onward.{GoesBy, goes-by}
use Rattle.replay.proofs.course.Resuming.{began, so_far, state-now, within_begun}
use Rattle.replay.proofs.course.Returning.{writes-up_to}
use Rattle.replay.proofs.between.Runs.{lost-run}
use Rattle.replay.proofs.crash.ToTurn.{IsToStop, accepted-run, made-first, more-made, none-first, stops-now, to-stop, turning}

-- ---- up to its drain a commit writes words of the tables alone

-- behind the drain none is left
none-drain : (writes : List Write) (made left : List Action) → map Written writes ≡ made ++ left → has_drain left ≡ false
none-drain [] [] left is = ap has_drain (sym is)
none-drain (write ∷ writes) [] left is = ap has_drain (sym is) ∙ none-drain writes [] (map Written writes) refl
none-drain [] (action ∷ made) left is = absurd (cc)
none-drain (write ∷ writes) (action ∷ made) left is = let tail : map Written writes ≡ made ++ left = cc in none-drain writes made left tail

-- while one is left no more writes were made than come before it
before-drain : (a b : List Write) (made left : List Action) → map Written a ++ Drained ∷ map Written b ≡ made ++ left → has_drain left ≡ true → length (writes_in made) ≤ length a
before-drain a b [] left is drains = omega arith
before-drain [] b (action ∷ made) left is drains =
    absurd (let tail : map Written b ≡ made ++ left = cc in let none : false ≡ true = sym (none-drain b made left tail) ∙ drains in cc)
before-drain (write ∷ a) b (action ∷ made) left is drains =
    let head : Written write ≡ action = cc in
    let tail : map Written a ++ Drained ∷ map Written b ≡ made ++ left = cc in
    let size : length (writes_in (action ∷ made)) ≡ length (writes_in (Written write ∷ made)) = ap (λ one. length (writes_in (one ∷ made))) (sym head) in
    let few = before-drain a b made left tail drains in
    omega (arith, few)

both-true : (a b : Bool) → (a && b) ≡ true → (a ≡ true) × (b ≡ true)
both-true true true both = (refl, refl)
both-true true false both = absurd (cc)
both-true false b both = absurd (cc)

module _ (slots after : ℕ) (base : Running) (half : IsHalfway (turning after thens.Restart base)) (is : IsRun (turning after thens.Restart base)) (inside : base.manager.slots ≤ slots) (more : after < length half.holds.1.made) (told : base.told ≡ after) where
  abbrev run : Running
  run = turning after thens.Restart base

  abbrev made : List Write
  made = half.holds.1.made

  abbrev bits : FieldBits
  bits = half.begun.bits

  abbrev during : FieldBits
  during = bits_with half.begun.mode half.begun.rules run.pending bits

  abbrev have : Bool
  have = have_bits (new_bits bits during)

  -- what the device holds at the crash
  abbrev pub at_crash : State
  at_crash = state_after (on_device slots half.begun.state) (take after made)

  abbrev stands : Bool
  stands = list_any (stands_in at_crash.slots) (inserted_pieces half.begun.mode during half.begun.rules run.pending)

  abbrev here : HeldCommit
  here = one (course_of run.fate half.begun (held_begun run half)) run.manager half.some

  -- the actions that were made are those up to the crash
  pub first : half.some.made ≡ first_actions run half.begun made after
  first = made-first slots after thens.Restart base half is inside more told

  writes-first : writes_in half.some.made ≡ take after made
  writes-first =
      ap writes_in first ∙ writes-up_to after (commit_actions half.begun.mode bits half.begun.rules run.pending made)
      ∙ ap (take after) (writes_of_commit have made)

  crash-state : on_device slots run.manager.state ≡ at_crash
  crash-state = state-now slots run half is inside ∙ ap (state_after (on_device slots half.begun.state)) writes-first

  held-one : run.manager.held ≡ Some here
  held-one = some-held (course_of run.fate half.begun (held_begun run half)) run.manager half.some

  here-during : here.during ≡ during
  here-during = ap (λ (held : HeldCommit). held.during) (held-forward run half refl)

  now-bits : run.manager.bits ≡ bits
  now-bits = ap (λ (manager : Managed). manager.bits) half.some.now_is

  can-restart : CanRestart half.begun.slots half.begun.mode bits half.begun.rules run.pending (on_device slots half.begun.state) made
  can-restart = half.holds.1.restarts slots (within_begun slots run half is inside)

  -- ---- words in flight

  -- while its drain is to come nothing stands that it inserts
  undrained : have ≡ true → has_drain half.some.left ≡ true → stands ≡ false
  undrained some drains =
      let count = table_writes made in
      let parts : map Written (take count made) ++ Drained ∷ map Written (drop count made) ≡ half.some.made ++ half.some.left =
      sym (ap (λ due. with_drain due made) some) ∙ sym (whole-forward run half refl).0 in
      let few = before-drain (take count made) (drop count made) half.some.made half.some.left parts drains in
      let size = length-take count made in
      let number : length (writes_in half.some.made) ≡ after = sym half.told ∙ told in
      can-restart.unplaced after (omega (arith, few, size, number))

  -- so the ranges that are live for the second manager are so for the first
  live-part : IsCurrentRight run.manager.bits here → (drained : Bool) → has_drained half.begun.mode bits half.begun.rules run.pending at_crash ≡ drained → ArePartOf (elim drained [ true ↦ during | false ↦ bits ]) here.current
  live-part right false none = subst (λ ranges. ArePartOf ranges here.current) now-bits right.least
  live-part right true found = by-drain (has_drain here.actions) refl
    where
      by-drain : (drains : Bool) → has_drain here.actions ≡ drains → ArePartOf during here.current
      by-drain false none = subst (λ ranges. ArePartOf ranges here.current) here-during (right.drained (way-same run half) none)
      by-drain true drains =
          absurd (let both = both-true have stands found in
          let none = undrained both.0 drains in
          let bad : true ≡ false = sym both.1 ∙ none in cc)

  right-here : IsHeldRight run.manager → IsCurrentRight run.manager.bits here
  right-here right = subst (λ held. IfSome held (λ (x : HeldCommit). IsCurrentRight run.manager.bits x)) held-one right

  -- by covers no word of a table has a bit
  pub blank-tables : base.manager.mode ≡ Cover → HasBlankTables (on_device slots base.manager.state)
  blank-tables cover =
      let same : base.manager.mode ≡ half.begun.mode = ap (λ (manager : Managed). manager.mode) half.some.now_is in
      subst HasBlankTables (sym crash-state) (can-restart.plain (sym same ∙ cover) after)

  are-begun : (parts : Parts) → ArePartsOf base.manager parts → ArePartsOf half.begun parts
  are-begun parts are = record { rules = are.rules ∙ ap (λ (manager : Managed). manager.rules) half.some.now_is; bits = are.bits ∙ now-bits }

  -- the device shows a stage, so there is but memory to want
  pub only-memory : (parts : Parts) → ArePartsOf base.manager parts → (fault : RestartFault) (back : Parts)
      → AnswersRestart base.manager.slots base.manager.mode base.manager.placement parts base.pending slots (on_device slots base.manager.state) (Err (fault, back)) → fault ≡ restart_faults.Stage stage_faults.Memory
  only-memory parts are_parts fault back answers =
      let are = are-begun parts are_parts in
      let moved : AnswersRestart half.begun.slots half.begun.mode half.begun.placement parts run.pending slots at_crash (Err (fault, back)) =
      subst (λ state. AnswersRestart half.begun.slots half.begun.mode half.begun.placement parts run.pending slots state (Err (fault, back))) crash-state
      (subst (λ (manager : Managed). AnswersRestart manager.slots manager.mode manager.placement parts run.pending slots (on_device slots base.manager.state) (Err (fault, back))) half.some.now_is answers) in
      moved.2
      (subst (λ (rules : List Rule). verdict half.begun.slots half.begun.mode rules run.pending ≡ Accepted) (sym are.rules) half.accepted)
      (subst (λ (rules : List Rule). AreSetBits half.begun.mode rules (bits_in parts)) (sym are.rules) (subst (AreSetBits half.begun.mode half.begun.rules) (sym are.bits) can-restart.set_bits))
      (subst (λ (rules : List Rule). IsStage half.begun.slots half.begun.mode (bits_in parts) rules run.pending at_crash) (sym are.rules)
      (subst (λ (live : FieldBits). IsStage half.begun.slots half.begun.mode live half.begun.rules run.pending at_crash) (sym are.bits) (can-restart.stages after)))

  module _ (parts : Parts) (are_parts : ArePartsOf base.manager parts) (restarted : Managed) (resumed : Resumes base.manager.slots base.manager.mode base.manager.placement parts base.pending slots (on_device slots base.manager.state) restarted) where
    pub are : ArePartsOf half.begun parts
    are = are-begun parts are_parts

    pub resumes : Resumes half.begun.slots half.begun.mode half.begun.placement parts run.pending slots at_crash restarted
    resumes =
        subst (λ state. Resumes half.begun.slots half.begun.mode half.begun.placement parts run.pending slots state restarted) crash-state
        (subst (λ (manager : Managed). Resumes manager.slots manager.mode manager.placement parts run.pending slots (on_device slots base.manager.state) restarted) half.some.now_is resumed)

    abbrev goes : GoesBy half.begun.slots half.begun.mode half.begun.placement half.begun.rules bits run.pending slots at_crash restarted
    goes = goes-by half.begun.slots half.begun.mode half.begun.placement half.begun parts run.pending slots at_crash restarted are resumes

    abbrev held_rest : HeldCommit
    held_rest = rest_of half.begun.mode bits half.begun.rules run.pending at_crash goes.made goes.counts

    abbrev pub over : Running
    over = record base { manager = restarted; fate = fates.Turned after thens.Restart }

    pub held-over : restarted.held ≡ Some held_rest
    held-over = ap (λ (manager : Managed). manager.held) goes.restarted_is

    pub slots-over : restarted.slots ≡ base.manager.slots
    slots-over = ap (λ (manager : Managed). manager.slots) goes.restarted_is ∙ sym (ap (λ (manager : Managed). manager.slots) half.some.now_is)

    -- words in flight stay current
    pub current-over : IsHeldRight base.manager → (flight : Flight) → AreCurrent (live_now base.manager) flight → AreCurrent (live_now restarted) flight
    current-over right flight current =
        let live : live_now restarted ≡ elim (has_drained half.begun.mode bits half.begun.rules run.pending at_crash) [ true ↦ during | false ↦ bits ] = ap (λ (manager : Managed). live_now manager) goes.restarted_is in
        let now : live_now base.manager ≡ here.current = ap (λ (held : Option HeldCommit). elim held [ None ↦ base.manager.bits | Some x ↦ x.current ]) held-one in
        are_current_part (live_now restarted) (live_now base.manager) flight
        (subst (λ ranges. ArePartOf ranges (live_now base.manager)) (sym live)
        (subst (ArePartOf (elim (has_drained half.begun.mode bits half.begun.rules run.pending at_crash) [ true ↦ during | false ↦ bits ])) (sym now)
        (live-part (right-here right) (has_drained half.begun.mode bits half.begun.rules run.pending at_crash) refl)))
        current

    pub setting-over : setting_of over ≡ setting_of run
    setting-over = ap (λ (manager : Managed). setting_of (record base { manager = manager })) goes.restarted_is ∙ sym (setting-begun run half)

    -- the run stands where it did
    pub progress-over : progress_of slots over ≡ progress_of slots base
    progress-over =
        ap (λ (manager : Managed). progress_of slots (record base { manager = manager })) goes.restarted_is
        ∙ ap (λ state. record (progress_of slots (record base { manager = half.begun })) { state = state }) (goes.on ∙ sym crash-state)
        ∙ sym (ap (λ (manager : Managed). record (progress_of slots (record base { manager = manager })) { state = on_device slots base.manager.state }) half.some.now_is)

    abbrev pub onward-over : IsOnward slots over
    onward-over = record {
      after = after;
      fate_is = refl;
      plain = half.plain;
      begun = half.begun;
      holds = half.holds;
      accepted = half.accepted;
      shows = half.shows;
      size = (begun-is run half is).size;
      more = more;
      parts = parts;
      parts_are = are;
      restarted = restarted;
      resumes = resumes;
      some = makes-none restarted held_rest held-over;
      told = (let same : after ≡ after + 0 = omega arith in told ∙ same);
      waiting = half.waiting ∙ ap (waiting_after run.depth 0) (first ∙ sym (append-nil (first_actions run half.begun made after)));
    }

    -- as many slots are in use
    size-over : length restarted.state.slots ≡ restarted.slots
    size-over =
        let size : length half.begun.state.slots ≡ half.begun.slots = (begun-is run half is).size in
        let wide = length-append half.begun.state.slots (replicate (slots - length half.begun.state.slots) None) in
        let whole = slots-after (on_device slots half.begun.state) (take after made) in
        let enough : half.begun.slots ≤ length at_crash.slots = omega (arith, size, wide, whole) in
        ap (λ (manager : Managed). length manager.state.slots) goes.restarted_is ∙ length-take-le half.begun.slots at_crash.slots enough
        ∙ sym (ap (λ (manager : Managed). manager.slots) goes.restarted_is)

    rules-over : restarted.rules ≡ base.manager.rules
    rules-over = ap (λ (manager : Managed). manager.rules) goes.restarted_is ∙ sym (ap (λ (manager : Managed). manager.rules) half.some.now_is)

    pub run-over : IsRun over
    run-over = record {
      changes = is.changes;
      asks = is.asks;
      routes = subst (λ (rules : List Rule). (version : IpVersion) → run.family ≡ routes_of version → AllByRecursion (IsRoute version) rules) (sym rules-over) is.routes;
      some_slots = subst (λ n. 1 ≤ n) (sym slots-over) is.some_slots;
      most_slots = subst (λ n. n ≤ most_slots) (sym slots-over) is.most_slots;
      size = size-over;
      few = is.few;
      shows = λ idle. absurd (let none : Some held_rest ≡ None = sym held-over ∙ idle in cc);
      halfway = λ _. inr (slots, subst (λ n. n ≤ slots) (sym slots-over) inside, onward-over);
      idle = λ idle. absurd (let none : Some held_rest ≡ None = sym held-over ∙ idle in cc);
    }

    pub stands-over : (before : Progress) (front : List Effect) → before ≡ progress_of slots (record run { manager = half.begun })
        → front ≡ carried_so_far (setting_of run) before half.some.made → StandsOnward slots before front over
    stands-over before front before_is front_is = record {
      onward = onward-over;
      before_is = before_is;
      front_is = front_is ∙ ap (λ setting. carried_so_far setting before half.some.made) (sym setting-over)
          ∙ ap (carried_so_far (setting_of over) before) (first ∙ sym (append-nil (first_actions run half.begun made after)));
    }

-- ---- by what a run is

pub to-crash : (after : ℕ) (run : Running) → IsRun run → IsAtTurn after thens.Restart run → IsToStop after thens.Restart run
to-crash after run is at = to-stop after thens.Restart run is at.held at.fate_is at.more

-- it wants memory to go on, and has had its effects so far
pub wants-over : (slots after : ℕ) (base : Running) (is : IsRun base) (at : IsAtTurn after thens.Restart base) → base.manager.slots ≤ slots → (before : Progress) (front : List Effect) → IsUnfinished slots before front base
    → TakesAtCrash (setting_of base) before (Crash after) front
wants-over slots after base is at inside before front (inl stands) =
    let stop = to-crash after base is at in
    let first : StandsHalfway slots before front (turning after thens.Restart base) = subst (StandsHalfway slots before front) stop.same stands in
    let half = first.halfway in
    let more = more-made after thens.Restart base half at.more in
    let start : Progress = began slots (turning after thens.Restart base) half stop.is inside in
    let so : front ≡ so_far slots (turning after thens.Restart base) half stop.is inside =
    first.front_is ∙ ap (λ (progress : Progress). carried_so_far (setting_of base) progress half.some.made) first.before_is in
    subst (λ progress. TakesAtCrash (setting_of base) progress (Crash after) front) (sym first.before_is)
    (subst (TakesAtCrash (setting_of base) start (Crash after)) (sym so)
    (accepted-run slots after thens.Restart base half stop.is inside more, stops-now slots after thens.Restart base half stop.is inside more (none-first slots after thens.Restart base half stop.is inside more at.told_is)))
wants-over slots after base is at inside before front (inr stands) =
    absurd (let bad : fates.Turns after thens.Restart ≡ fates.Turned stands.onward.after thens.Restart = sym at.fate_is ∙ stands.onward.fate_is in cc)

-- its commit stays unfinished by the other manager
pub unfinished-over : (slots after : ℕ) (base : Running) (is : IsRun base) (at : IsAtTurn after thens.Restart base) (inside : base.manager.slots ≤ slots) (parts : Parts) (are : ArePartsOf base.manager parts) (restarted : Managed)
    → Resumes base.manager.slots base.manager.mode base.manager.placement parts base.pending slots (on_device slots base.manager.state) restarted → (before : Progress) (front : List Effect)
    → IsUnfinished slots before front base → IsUnfinished slots before front (record base { manager = restarted; fate = fates.Turned after thens.Restart })
unfinished-over slots after base is at inside parts are restarted resumed before front (inl stands) =
    let stop = to-crash after base is at in
    let first : StandsHalfway slots before front (turning after thens.Restart base) = subst (StandsHalfway slots before front) stop.same stands in
    inr (stands-over slots after base first.halfway stop.is inside (more-made after thens.Restart base first.halfway at.more) at.told_is parts are restarted resumed before front first.before_is first.front_is)
unfinished-over slots after base is at inside parts are restarted resumed before front (inr stands) =
    absurd (let bad : fates.Turns after thens.Restart ≡ fates.Turned stands.onward.after thens.Restart = sym at.fate_is ∙ stands.onward.fate_is in cc)

-- ---- over the device that it stands over

module _ (slots after : ℕ) (base now : Running) (view_is : base ≡ now) (is : IsRun base) (at : IsAtTurn after thens.Restart now) (within : now.manager.slots ≤ slots) (journal : List Write) (events : List Action) (agrees : journal ≡ writes_in events) (stood : IsAt slots events (progress_of slots now)) where
  at_base : IsAtTurn after thens.Restart base
  at_base = subst (IsAtTurn after thens.Restart) (sym view_is) at

  inside_base : base.manager.slots ≤ slots
  inside_base = subst (λ (r : Running). r.manager.slots ≤ slots) (sym view_is) within

  stop : IsToStop after thens.Restart base
  stop = to-crash after base is at_base

  -- the device shows what the manager's writes left
  shown : replay slots journal ≡ on_device slots base.manager.state
  shown = ap (replay slots) agrees ∙ sym stood ∙ ap (λ (r : Running). on_device slots r.manager.state) (sym view_is)

  -- for want of memory to go on it has had its effects so far
  pub wants-shown : (before : Progress) (front : List Effect) → IsUnfinished slots before front now → TakesAtCrash (setting_of now) before (commit_act now.fate) front
  wants-shown before front unfinished =
      subst (λ act. TakesAtCrash (setting_of now) before act front) (sym (ap commit_act at.fate_is))
      (subst (λ (r : Running). TakesAtCrash (setting_of r) before (Crash after) front) view_is
      (wants-over slots after base is at_base inside_base before front (subst (IsUnfinished slots before front) (sym view_is) unfinished)))

  pub blank-shown : (mode : Mode) → mode ≡ base.manager.mode → mode ≡ Cover → HasBlankTables (replay slots journal)
  blank-shown mode mode_is cover = subst HasBlankTables (sym shown) (blank-tables slots after base stop.half stop.is inside_base stop.more at_base.told_is (sym mode_is ∙ cover))

  -- another manager is asked for, with the setting and the parts of the first
  module _ (asked : ℕ) (mode : Mode) (placement : Placement) (asked_is : asked ≡ base.manager.slots) (mode_is : mode ≡ base.manager.mode) (placement_is : placement ≡ base.manager.placement) where
    -- in the place of which a blank one stands meanwhile
    lost-shown : (blank : Managed) → blank ≡ fresh asked mode placement → ◌≡◌ {A = Running} (record base { manager = blank; told = 0; waiting = 0; fate = fates.Finishes; broken = true }) (after_loss now)
    lost-shown blank blank_is =
        ap (λ (manager : Managed). record base { manager = manager; told = 0; waiting = 0; fate = fates.Finishes; broken = true })
        (blank_is ∙ ap (λ n. fresh n mode placement) asked_is ∙ ap (λ (m : Mode). fresh base.manager.slots m placement) mode_is ∙ ap (fresh base.manager.slots base.manager.mode) placement_is)
        ∙ ap after_loss view_is

    pub is-lost : (blank : Managed) → blank ≡ fresh asked mode placement → IsLost now (record base { manager = blank; told = 0; waiting = 0; fate = fates.Finishes; broken = true })
    is-lost blank blank_is = inl (lost-shown blank blank_is)

    pub run-lost : (blank : Managed) → blank ≡ fresh asked mode placement → IsRun (record base { manager = blank; told = 0; waiting = 0; fate = fates.Finishes; broken = true })
    run-lost blank blank_is = subst IsRun (sym (lost-shown blank blank_is)) (lost-run now (subst IsRun view_is is))

    module _ (old : Managed) (old_is : old ≡ base.manager) (parts : Parts) (of_old : ArePartsOf old parts) where
      are_parts : ArePartsOf base.manager parts
      are_parts = subst (λ (manager : Managed). ArePartsOf manager parts) old_is of_old

      as_shown : (result : Result Managed (RestartFault × Parts)) → AnswersRestart asked mode placement parts base.pending slots (replay slots journal) result
          → AnswersRestart base.manager.slots base.manager.mode base.manager.placement parts base.pending slots (on_device slots base.manager.state) result
      as_shown result answers =
          subst (λ n. AnswersRestart n base.manager.mode base.manager.placement parts base.pending slots (on_device slots base.manager.state) result) asked_is
          (subst (λ (m : Mode). AnswersRestart asked m base.manager.placement parts base.pending slots (on_device slots base.manager.state) result) mode_is
          (subst (λ (p : Placement). AnswersRestart asked mode p parts base.pending slots (on_device slots base.manager.state) result) placement_is
          (subst (λ (state : State). AnswersRestart asked mode placement parts base.pending slots state result) shown answers)))

      -- it fails only for want of memory
      pub memory-shown : (fault : RestartFault) (back : Parts) → AnswersRestart asked mode placement parts base.pending slots (replay slots journal) (Err (fault, back)) → fault ≡ restart_faults.Stage stage_faults.Memory
      memory-shown fault back answers = only-memory slots after base stop.half stop.is inside_base stop.more at_base.told_is parts are_parts fault back (as_shown (Err (fault, back)) answers)

      module _ (restarted : Managed) (answers : AnswersRestart asked mode placement parts base.pending slots (replay slots journal) (Ok restarted)) where
        abbrev gone : Running
        gone = record base { manager = restarted; fate = fates.Turned after thens.Restart }

        resumed : Resumes base.manager.slots base.manager.mode base.manager.placement parts base.pending slots (on_device slots base.manager.state) restarted
        resumed = (as_shown (Ok restarted) answers).1

        pub run-gone : IsRun gone
        run-gone = run-over slots after base stop.half stop.is inside_base stop.more at_base.told_is parts are_parts restarted resumed

        pub is-gone : IsTurned after thens.Restart now gone
        is-gone =
            let held = held-over slots after base stop.half stop.is inside_base stop.more at_base.told_is parts are_parts restarted resumed in
            (restarted, subst (λ (one : Option HeldCommit). IsSome one) (sym held) refl, ap (λ (r : Running). record r { manager = restarted; fate = fates.Turned after thens.Restart }) view_is)

        pub unfinished-gone : (before : Progress) (front : List Effect) → IsUnfinished slots before front now → IsUnfinished slots before front gone
        unfinished-gone before front unfinished =
            unfinished-over slots after base is at_base inside_base parts are_parts restarted resumed before front (subst (IsUnfinished slots before front) (sym view_is) unfinished)

        pub setting-gone : setting_of gone ≡ setting_of now
        setting-gone = setting-over slots after base stop.half stop.is inside_base stop.more at_base.told_is parts are_parts restarted resumed ∙ ap setting_of view_is

        pub progress-gone : progress_of slots gone ≡ progress_of slots now
        progress-gone = progress-over slots after base stop.half stop.is inside_base stop.more at_base.told_is parts are_parts restarted resumed ∙ ap (progress_of slots) view_is

        pub current-gone : IsHeldRight base.manager → (flight flight_new : Flight) → flight_new ≡ flight → AreCurrent (live_now now.manager) flight → AreCurrent (live_now restarted) flight_new
        current-gone right flight flight_new kept current =
            subst (AreCurrent (live_now restarted)) (sym kept)
            (current-over slots after base stop.half stop.is inside_base stop.more at_base.told_is parts are_parts restarted resumed right flight
            (subst (λ (r : Running). AreCurrent (live_now r.manager) flight) (sym view_is) current))
