-- The first part of a commit that is turned: its course up to there.
use Rattle.std.proofs.Common.{◌≡◌, ◌≢◌, ℕ, ◌+◌, ◌-◌, ◌*◌, ◌^◌, ◌<◌, ◌≤◌, inl, inr, List, [], ◌∷◌, ◌++◌, Option, IfSome, IsSome, Result, Ok, Err, length, length-append, map, refl, sym, ap, ◌∙◌, subst, append_assoc, append-nil, arith}
use Rattle.std.specs.List.{AllByRecursion}
use Rattle.tcam_device.specs.declared.Action.{Action}
use Rattle.tcam_device.specs.declared.Action.TheVariants.{Written}
use Rattle.tcam_device.specs.Flight.{Flight, writes_in}
use Rattle.tcam_device.specs.State.{IsInUse, on_device, state_after}
use Rattle.tcam_device.proofs.Wider.{all_take}
use Rattle.commit_writes.specs.Actions.{up_to_writes}
use Rattle.commit_writes.specs.Undo.{undo_writes}
use Rattle.commit_writes.specs.InFlight.{AreCurrent}
use Rattle.commit_writes.proofs.WritesIn.{writes_in-append}
use Rattle.batch_order.specs.Managed.{HeldCommit, Managed, live_now}
use Rattle.replay.specs.declared.RunFault.{RunFault}
use Rattle.replay.specs.declared.RunFault.TheVariants as fault
use Rattle.replay.specs.declared.fate.Fate.TheVariants as fates
use Rattle.replay.specs.declared.fate.Then.{Then}
use Rattle.replay.specs.declared.fate.Then.TheVariants as thens
use Rattle.replay.specs.declared.Act.TheVariants.{Trial}
use Rattle.replay.specs.declared.watch.Count.{Count}
use Rattle.replay.specs.Effects.{Setting, Effect, effects_of, probes_told, waiting_after}
use Rattle.rule_store.specs.Verdict.{Accepted, verdict}
use Rattle.replay.specs.Run.{Progress, GoesPast, IsCutStep, StopsAtCrash, actions_before, carried_so_far}
use Rattle.replay.specs.Text.{aborted_line}
use Rattle.replay.specs.Carried.{IsAt}
use Rattle.replay.specs.Fates.{IsUpTo, commit_act, turning_act}
use Rattle.replay.specs.Pausing.{MakesUpTo}
use Rattle.replay.specs.Crashing.{ComesToTurn, HasMoreThan}
use Rattle.replay.specs.InFlight.{IsSeen}
use Rattle.replay.specs.Running.{Running, IsHalfway, IsRun, IsMidCommit, MakesSome, course_of, first_actions, progress_of, setting_of, watching}
use Rattle.replay.specs.Making.{HasCome, snapshot}
use Rattle.replay.specs.Unfinished.{IsUnfinished, StandsHalfway}
use Rattle.replay.specs.Outside.{outside}
use Rattle.replay.proofs.course.Course.{Course, at-more, breaks, count_of, cuts-by_step, does-made, later, stays, told-then}
use Rattle.replay.proofs.making.Upto.{next-up_to}
use Rattle.replay.proofs.lines.Opened.{carried-append}
use Rattle.replay.proofs.between.Halfway.{all-writes, begun-is, few-left, halfway-more, held_begun, run_begun, setting-begun, whole-forward, whole_actions}
use Rattle.replay.proofs.making.Making.{then-left}
use Rattle.replay.proofs.course.Resuming.{back-step, began, course_back, left-in_use, so_far, state-now, within_begun}
use Rattle.replay.proofs.course.Returning.{writes-up_to}
use Rattle.replay.proofs.between.Runs.{writes-of}
use Rattle.replay.proofs.between.Settled.{cut-plain}

-- what comes before a turn does so in two parts
before-then : (after : ℕ) (first left more rest : List Action) → length (writes_in first) ≤ after → left ≡ more ++ rest → IsUpTo after first left → IsUpTo (after - length (writes_in first)) more rest → IsUpTo after (first ++ more) rest
before-then after first left more rest within parts was is enough =
    let whole : (first ++ more) ++ rest ≡ first ++ left = append_assoc first more rest ∙ ap (λ actions. first ++ actions) (sym parts) in
    let all : after < length (writes_in (first ++ left)) = subst (λ actions. after < length (writes_in actions)) whole enough in
    let sizes : length (writes_in (first ++ left)) ≡ length (writes_in first) + length (writes_in left) =
    ap length (writes_in-append first left) ∙ length-append (writes_in first) (writes_in left) in
    let parts_size : length (writes_in left) ≡ length (writes_in (more ++ rest)) = ap (λ actions. length (writes_in actions)) parts in
    let both : length (writes_in (first ++ more)) ≡ length (writes_in first) + length (writes_in more) =
    ap length (writes_in-append first more) ∙ length-append (writes_in first) (writes_in more) in
    let same : after - length (writes_in first) - length (writes_in more) ≡ after - length (writes_in (first ++ more)) = omega arith in
    ap (up_to_writes after) whole ∙ was all
    ∙ ap (λ actions. first ++ up_to_writes (after - length (writes_in first)) actions) parts
    ∙ ap (λ actions. first ++ actions) (later enough)
    ∙ sym (append_assoc first more (up_to_writes (after - length (writes_in first) - length (writes_in more)) rest))
    ∙ ap (λ n. (first ++ more) ++ up_to_writes n rest) same
  where
    later : after < length (writes_in ((first ++ more) ++ rest)) → up_to_writes (after - length (writes_in first)) (more ++ rest) ≡ more ++ up_to_writes (after - length (writes_in first) - length (writes_in more)) rest
    later enough = is (
        let whole : length (writes_in ((first ++ more) ++ rest)) ≡ length (writes_in first) + length (writes_in (more ++ rest)) =
        ap (λ actions. length (writes_in actions)) (append_assoc first more rest) ∙ ap length (writes_in-append first (more ++ rest)) ∙ length-append (writes_in first) (writes_in (more ++ rest)) in
        omega arith)

-- a run whose commit is to be turned behind so many writes
abbrev pub turning : ℕ → Then → Running → Running
turning after then base = record base { fate = fates.Turns after then }

module _ (slots after : ℕ) (then : Then) (base : Running) (half : IsHalfway (turning after then base)) (is : IsRun (turning after then base)) (inside : base.manager.slots ≤ slots) (more : after < length half.holds.1.made) where
  abbrev run : Running
  run = turning after then base

  abbrev first : Progress
  first = began slots run half is inside

  abbrev begun_setting : Setting
  begun_setting = setting_of (run_begun run half)

  -- all actions of the commit, those that were made and those that are left
  whole-commit : whole_actions run half ≡ (held_begun run half).actions
  whole-commit = (whole-forward run half refl).0

  whole-writes : length (writes_in (whole_actions run half)) ≡ length half.holds.1.made
  whole-writes = ap length (whole-forward run half refl).1

  first-before : IsUpTo after half.some.made half.some.left
  first-before =
      let none : after - 0 ≡ after = omega arith in
      subst (λ n. IsUpTo n half.some.made half.some.left) none half.before

  -- what is left up to the turn
  abbrev pub left_first : List Action
  left_first = up_to_writes (after - length (writes_in half.some.made)) half.some.left

  pub whole-first : half.some.made ++ left_first ≡ actions_before (setting_of run) first after half.holds.1.made
  whole-first =
      subst (λ setting. half.some.made ++ left_first ≡ actions_before setting first after half.holds.1.made) (sym (setting-begun run half))
      (sym (first-before (subst (λ n. after < n) (sym whole-writes) more)) ∙ ap (up_to_writes after) whole-commit)

  pub first-made : half.some.made ++ left_first ≡ first_actions run half.begun half.holds.1.made after
  first-made = sym (first-before (subst (λ n. after < n) (sym whole-writes) more)) ∙ ap (up_to_writes after) whole-commit

  pub goes-past : GoesPast (setting_of run) first after half.holds.1.made
  goes-past = subst (λ setting. GoesPast setting first after half.holds.1.made) (sym (setting-begun run half)) (record {
    writes = writes-of (run_begun run half) half.holds.0 (begun-is run half is) half.holds.1 slots (within_begun slots run half is inside);
    more = more;
  })

  pub accepted-run : verdict (setting_of run).slots (setting_of run).mode half.begun.rules run.pending ≡ Accepted
  accepted-run = subst (λ setting. verdict setting.slots setting.mode half.begun.rules run.pending ≡ Accepted) (sym (setting-begun run half)) half.accepted

  -- where one of its effects isn't had it is cut there, in the whole of a commit that is taken back, or up to its crash
  pub cut-first : (way : Then) (some back : List Effect) (due : Effect) → carried_so_far (setting_of run) first (half.some.made ++ left_first) ≡ some ++ due ∷ back
      → IsCutStep (setting_of run) first (turning_act way after) some due
  cut-first thens.Restart some back due parts =
      inr (cut-plain (setting_of run) first after some due half.plain accepted-run half.holds.1.made goes-past back (ap (carried_so_far (setting_of run) first) (sym whole-first) ∙ parts))
  cut-first thens.Back some back due parts =
      let front = first_actions run half.begun half.holds.1.made after in
      let undo = map Written (undo_writes half.begun.state (writes_in front)) in
      let behind = effects_of (setting_of run) (probes_told run.json first.probes) (0 + length (writes_in front)) (waiting_after run.depth 0 front) (state_after first.state (writes_in front)) undo in
      cuts-by_step (setting_of run) first (Trial after) (course_back slots run half is inside after more) (aborted_line (run.commits + 1) (2 * after)) _ (back-step slots run half is inside after more) some (back ++ behind) due
      (carried-append (setting_of run) first front undo ∙ ap (λ effects. effects ++ behind) (ap (carried_so_far (setting_of run) first) (sym first-made) ∙ parts) ∙ append_assoc some (due ∷ back) behind)

  abbrev pub course-first : Course slots first (so_far slots run half is inside) run
  course-first = record {
    made = half.some.made;
    left = left_first;
    probes = refl;
    front_is = refl;
    state = state-now slots run half is inside;
    told = half.told;
    waiting = half.waiting;
    size = is.size;
    in_use = subst (AllByRecursion (IsInUse run.manager.slots)) (sym (writes-up_to (after - length (writes_in half.some.made)) half.some.left))
        (all_take (IsInUse run.manager.slots) (after - length (writes_in half.some.made)) (writes_in half.some.left) (left-in_use slots run half is inside));
    cuts = cut-first then;
  }

  -- at the turn these are the actions that were made, and none of them is left
  module _ (told : base.told ≡ after) where
    none-ahead : after - length (writes_in half.some.made) ≡ 0
    none-ahead = let number : length (writes_in half.some.made) ≡ after = sym half.told ∙ told in omega arith

    pub none-first : left_first ≡ []
    none-first = ap (λ n. up_to_writes n half.some.left) none-ahead

    pub made-first : half.some.made ≡ first_actions run half.begun half.holds.1.made after
    made-first = sym (append-nil half.some.made) ∙ ap (λ actions. half.some.made ++ actions) (sym none-first) ∙ first-made

  -- at the turn its effects are all that come before
  pub stops-now : left_first ≡ [] → StopsAtCrash (setting_of run) first after (so_far slots run half is inside)
  stops-now none = record {
    made = half.holds.1.made;
    crash = goes-past;
    effects_are = ap (carried_so_far (setting_of run) first) (sym (append-nil half.some.made) ∙ ap (λ actions. half.some.made ++ actions) (sym none) ∙ whole-first);
  }

  -- more writes are left than come before the turn
  pub enough-left : (now : Managed) (some : MakesSome run.manager now) → after - run.told < length (writes_in (some.made ++ some.left))
  enough-left now some =
      let told = half.told in
      let within = half.within in
      let whole = whole-writes in
      let parts : length (writes_in (whole_actions run half)) ≡ length (writes_in half.some.made) + length (writes_in half.some.left) =
      ap length (writes_in-append half.some.made half.some.left) ∙ length-append (writes_in half.some.made) (writes_in half.some.left) in
      let left : length (writes_in half.some.left) ≡ length (writes_in (some.made ++ some.left)) =
      ap (λ actions. length (writes_in actions)) (then-left (course_of run.fate half.begun (held_begun run half)) run.manager now half.some some) in
      omega arith

  -- some actions more, none past the turn
  module _ (now : Managed) (count : Count) (some : MakesSome run.manager now) (come : HasCome (watching run) (count_of run) count some.made) (before : IsUpTo (after - run.told) some.made some.left) (few : count.told ≤ after) where
    abbrev pub new : Running
    new = record run { manager = now; told = count.told; waiting = count.waiting }

    pub parts-first : half.some.left ≡ some.made ++ some.left
    parts-first = then-left (course_of run.fate half.begun (held_begun run half)) run.manager now half.some some

    pub now-before : IsUpTo (after - 0) (half.some.made ++ some.made) some.left
    now-before =
        let told = half.told in
        let same : after - run.told ≡ after - length (writes_in half.some.made) = omega arith in
        let none : after ≡ after - 0 = omega arith in
        let within = half.within in
        subst (λ n. IsUpTo n (half.some.made ++ some.made) some.left) none
        (before-then after half.some.made half.some.left some.made some.left (omega arith) parts-first first-before (subst (λ n. IsUpTo n some.made some.left) same before))

    abbrev pub still-half : IsHalfway new
    still-half = halfway-more run now count half some come now-before few

    -- the actions that are left up to the turn begin with them
    pub left-first : left_first ≡ some.made ++ up_to_writes (after - run.told - length (writes_in some.made)) some.left
    left-first =
        let told = half.told in
        let same : after - length (writes_in half.some.made) ≡ after - run.told = omega arith in
        ap (λ n. up_to_writes n half.some.left) same ∙ ap (up_to_writes (after - run.told)) parts-first ∙ before (enough-left now some)

    -- where the device is where the run stands it is so behind them
    pub stands-some : (events_old events_new : List Action) → IsAt slots events_old (progress_of slots run) → events_new ≡ events_old ++ some.made → IsAt slots events_new (progress_of slots new)
    stands-some events_old events_new at grown =
        ap (λ (manager : Managed). on_device slots manager.state) some.now_is
        ∙ at-more slots first (so_far slots run half is inside) run course-first events_old events_new at some.made (up_to_writes (after - run.told - length (writes_in some.made)) some.left) left-first grown

    setting-new : setting_of new ≡ setting_of run
    setting-new = ap (λ (manager : Managed). setting_of (record run { manager = manager })) some.now_is

    pub unfinished-new : IsUnfinished slots first (so_far slots run half is inside ++ later slots first (so_far slots run half is inside) run course-first some.made) new
    unfinished-new = inl (record {
      halfway = still-half;
      before_is = refl;
      front_is = sym (told-then slots first (so_far slots run half is inside) run course-first some.made)
          ∙ ap (λ setting. carried_so_far setting first (half.some.made ++ some.made)) (sym setting-new);
    })

  -- what its first part comes to
  module _ (events_old events_new : List Action) (flight flight_new : Flight) (at : IsAt slots events_old (progress_of slots run)) (current : AreCurrent (live_now run.manager) flight) where
    abbrev Seen : Type 0
    Seen = IsSeen slots events_old flight run.manager

    seen : Seen
    seen = record { on = at; current = current }

    pub comes : (result : Result (Unit {0}) RunFault) (now : Managed) (count : Count) (old taken : Option (List ℕ))
        → MakesUpTo Seen after (watching run) slots (snapshot run.manager (count_of run) (outside events_old old)) (snapshot now count (outside events_new taken)) result → (result ≢ Err fault.Sink → AreCurrent (live_now now) flight_new)
        → ComesToTurn slots first (commit_act run.fate) (so_far slots run half is inside) (record run { manager = now; told = count.told; waiting = count.waiting }) result (outside events_old old) (outside events_new taken) flight_new
    comes (Ok done) now count old taken pauses current_new =
        let few : count.told ≤ after = let reached = pauses.reached in omega arith in
        record {
          more = later slots first (so_far slots run half is inside) run course-first pauses.some.made;
          unfinished = unfinished-new now count pauses.some pauses.come pauses.before few;
          does = does-made slots first (so_far slots run half is inside) run course-first events_old events_new at pauses.some.made old taken pauses.events (pauses.report seen);
          stands = stands-some now count pauses.some pauses.come pauses.before few events_old events_new at pauses.events;
          current = current_new (λ e. absurd (cc));
        }
    comes (Err why) now count old taken (inr (device, (stops, before, below))) current_new =
        let few : count.told ≤ after = omega (arith, below) in
        let left = left-first now count stops.some stops.come before few in
        let told = stops.come.told in
        let ahead = after - run.told - length (writes_in stops.some.made) in
        let some_left : 0 < ahead = omega (arith, below) in
        let due : up_to_writes ahead stops.some.left ≡ Written stops.due ∷ up_to_writes (ahead - 1) stops.left =
        ap (up_to_writes ahead) stops.left_is ∙ next-up_to ahead (Written stops.due) stops.left some_left in
        subst (λ one. ComesToTurn slots first (commit_act run.fate) (so_far slots run half is inside) (record run { manager = now; told = count.told; waiting = count.waiting }) (Err one) (outside events_old old) (outside events_new taken) flight_new) (sym device)
        (stays slots first (so_far slots run half is inside) run course-first events_old events_new at (record run { manager = now; told = count.told; waiting = count.waiting })
        stops.some.made (up_to_writes (ahead - 1) stops.left) stops.due flight_new old taken
        (left ∙ ap (λ actions. stops.some.made ++ actions) due)
        (ap (λ (manager : Managed). setting_of (record run { manager = manager })) stops.some.now_is)
        refl
        (ap (λ (manager : Managed). manager.state) stops.some.now_is)
        stops.next stops.events (stops.report seen) (unfinished-new now count stops.some stops.come before few) (current_new (λ e. absurd (let bad : fault.Device ≡ fault.Sink = cc in cc))))
    comes (Err why) now count old taken (inl (sink, (stops, before, few, cuts))) current_new =
        subst (λ one. ComesToTurn slots first (commit_act run.fate) (so_far slots run half is inside) (record run { manager = now; told = count.told; waiting = count.waiting }) (Err one) (outside events_old old) (outside events_new taken) flight_new) (sym sink)
        (breaks slots first (so_far slots run half is inside) run course-first events_old events_new at (record run { manager = now; told = count.told; waiting = count.waiting })
        (stops.some.made ++ up_to_writes (after - run.told - length (writes_in stops.some.made)) stops.some.left) [] old taken
        (left-first now count stops.some stops.come before few ∙ sym (append-nil (stops.some.made ++ up_to_writes (after - run.told - length (writes_in stops.some.made)) stops.some.left)))
        (ap (λ (manager : Managed). setting_of (record run { manager = manager })) stops.some.now_is)
        (cuts (enough-left now stops.some) seen))

-- ---- by what a run is

-- the commit of a run that is to be turned, and has more writes
pub record IsToStop (after : ℕ) (then : Then) (run : Running) : Type 0 where
  pub same : run ≡ turning after then run
  pub is : IsRun (turning after then run)
  pub half : IsHalfway (turning after then run)
  pub more : after < length half.holds.1.made

pub more-made : (after : ℕ) (then : Then) (run : Running) (half : IsHalfway (turning after then run)) → HasMoreThan after run → after < length half.holds.1.made
more-made after then run half more =
    let due : after < run.told + length (writes_in half.some.left) =
    subst (λ held. IfSome held (λ (one : HeldCommit). after < run.told + length (writes_in one.actions))) (ap (λ (manager : Managed). manager.held) half.some.now_is) more in
    let all = all-writes (turning after then run) half refl in
    omega arith

-- while it is to be turned it has its first manager
first-half : (after : ℕ) (then : Then) (run : Running) → IsRun (turning after then run) → IsSome run.manager.held → IsHalfway (turning after then run)
first-half after then run is held = go (is.halfway held)
  where
    go : IsMidCommit (turning after then run) → IsHalfway (turning after then run)
    go (inl half) = half
    go (inr (slots, within, onward)) = absurd (let bad : fates.Turns after then ≡ fates.Turned onward.after thens.Restart = onward.fate_is in cc)

pub to-stop : (after : ℕ) (then : Then) (run : Running) → IsRun run → IsSome run.manager.held → run.fate ≡ fates.Turns after then → HasMoreThan after run → IsToStop after then run
to-stop after then run is held fate_is more =
    let same : run ≡ turning after then run = ap (λ fate. record run { fate = fate }) fate_is in
    let is_turning : IsRun (turning after then run) = subst IsRun same is in
    let half = first-half after then run is_turning held in
    record { same = same; is = is_turning; half = half; more = more-made after then run half more }

-- few writes were told and are left
pub few-due : (after : ℕ) (then : Then) (run : Running) → IsRun run → IsSome run.manager.held → run.fate ≡ fates.Turns after then → IfSome run.manager.held (λ held. run.told + length (writes_in held.actions) ≤ 2 ^ 36)
few-due after then run is held fate_is =
    few-left (turning after then run) (first-half after then run (subst IsRun (ap (λ fate. record run { fate = fate }) fate_is) is) held)

pub stop-at : (after : ℕ) (then : Then) (base now : Running) → base ≡ now → IsRun base → IsSome now.manager.held → now.fate ≡ fates.Turns after then → HasMoreThan after now → IsToStop after then base
stop-at after then base now same is held fate_is more =
    to-stop after then base is (subst (λ (r : Running). IsSome r.manager.held) (sym same) held) (ap (λ (r : Running). r.fate) same ∙ fate_is) (subst (HasMoreThan after) (sym same) more)

-- what its first part comes to, from where it began
pub comes-to : (slots after : ℕ) (then : Then) (run : Running) (stop : IsToStop after then run) → HasMoreThan after run → run.manager.slots ≤ slots → (before : Progress) (front : List Effect) → IsUnfinished slots before front run
    → (events_old events_new : List Action) (flight flight_new : Flight) → IsAt slots events_old (progress_of slots run) → AreCurrent (live_now run.manager) flight
    → (result : Result (Unit {0}) RunFault) (now : Managed) (count : Count) (old taken : Option (List ℕ))
    → MakesUpTo (IsSeen slots events_old flight run.manager) after (watching run) slots (snapshot run.manager (count_of run) (outside events_old old)) (snapshot now count (outside events_new taken)) result → (result ≢ Err fault.Sink → AreCurrent (live_now now) flight_new)
    → ComesToTurn slots before (commit_act run.fate) front (record run { manager = now; told = count.told; waiting = count.waiting }) result (outside events_old old) (outside events_new taken) flight_new
comes-to slots after then run stop more inside before front (inl stands) events_old events_new flight flight_new at current result now count old taken makes current_new =
    let first : StandsHalfway slots before front (turning after then run) = subst (StandsHalfway slots before front) stop.same stands in
    let half = first.halfway in
    let start : Progress = began slots (turning after then run) half stop.is inside in
    let so : front ≡ so_far slots (turning after then run) half stop.is inside =
    first.front_is ∙ ap (λ (progress : Progress). carried_so_far (setting_of run) progress half.some.made) first.before_is in
    let fate_is : run.fate ≡ fates.Turns after then = ap (λ (r : Running). r.fate) stop.same in
    subst (λ (new : Running). ComesToTurn slots before (commit_act run.fate) front new result (outside events_old old) (outside events_new taken) flight_new)
    (sym (ap (λ (r : Running). record r { manager = now; told = count.told; waiting = count.waiting }) stop.same))
    (subst (λ act. ComesToTurn slots before act front (record (turning after then run) { manager = now; told = count.told; waiting = count.waiting }) result (outside events_old old) (outside events_new taken) flight_new) (sym (ap commit_act fate_is))
    (subst (λ progress. ComesToTurn slots progress (commit_act (fates.Turns after then)) front (record (turning after then run) { manager = now; told = count.told; waiting = count.waiting }) result (outside events_old old) (outside events_new taken) flight_new) (sym first.before_is)
    (subst (λ effects. ComesToTurn slots start (commit_act (fates.Turns after then)) effects (record (turning after then run) { manager = now; told = count.told; waiting = count.waiting }) result (outside events_old old) (outside events_new taken) flight_new) (sym so)
    (comes slots after then run half stop.is inside (more-made after then run half more) events_old events_new flight flight_new at current result now count old taken makes current_new))))
comes-to slots after then run stop more inside before front (inr stands) events_old events_new flight flight_new at current result now count old taken makes current_new =
    absurd (let fate_is : run.fate ≡ fates.Turns after then = ap (λ (r : Running). r.fate) stop.same in
    let bad : fates.Turns after then ≡ fates.Turned stands.onward.after thens.Restart = sym fate_is ∙ stands.onward.fate_is in cc)
