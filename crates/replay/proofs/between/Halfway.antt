-- A run whose commit is unfinished.
use Rattle.std.proofs.Common.{◌≡◌, inl, ℕ, ◌+◌, ◌-◌, ◌*◌, ◌^◌, ◌<◌, ◌≤◌, Bool, true, false, List, [], ◌++◌, Option, Some, None, IfSome, length, length-append, refl, sym, ap, ◌∙◌, subst, arith}
use Rattle.rule_store.specs.Verdict.{Accepted}
use Rattle.tcam_device.specs.declared.Action.{Action}
use Rattle.tcam_device.specs.Flight.{writes_in}
use Rattle.tcam_device.specs.State.{State, IsInUse, state_after}
use Rattle.tcam_device.proofs.Spans.{state_after-append}
use Rattle.tcam_device.proofs.Wider.{slots-after}
use Rattle.commit_writes.specs.declared.Done.{Done}
use Rattle.batch_order.specs.Steps.{is_back as goes_back}
use Rattle.commit_writes.specs.Actions.{back_from, have_bits, up_to_writes}
use Rattle.commit_writes.specs.Routes.{IsRoute}
use Rattle.commit_writes.specs.Bits.{FieldBits, bits_with, new_bits}
use Rattle.commit_writes.proofs.WritesIn.{writes_of_commit, writes_in-append}
use Rattle.batch_order.specs.Managed.{Managed, HeldCommit, Holds, commit_of}
use Rattle.std.specs.List.{AllByRecursion}
use Rattle.slot_order.specs.Order.{most_slots}
use Rattle.rule_model.specs.declared.IpVersion.{IpVersion}
use Rattle.replay.specs.declared.watch.Count.{Count}
use Rattle.replay.specs.declared.steps.Ended.{Ended}
use Rattle.replay.specs.declared.steps.Ended.TheVariants as ended
use Rattle.replay.specs.Effects.{waiting_after}
use Rattle.settled_changes.specs.declared.requested.Requested.TheVariants.{Nothing}
use Rattle.replay.specs.declared.fate.Fate.{Fate}
use Rattle.replay.specs.declared.fate.Fate.TheVariants.{Finishes, Turns, Turned}
use Rattle.replay.specs.declared.fate.Then.TheVariants as thens
use Rattle.replay.specs.Fates.{IsAhead, IsBefore, IsFirst, IsWithinTurn, is_taken_back, turn_of}
use Rattle.replay.specs.Running.{Running, Watching, IsRun, IsHalfway, IsMidCommit, MakesSome, ShowsRules, course_held, course_of, setting_of, routes_of, verdict_of, watching}
use Rattle.replay.specs.Making.{EndsBy, HasCome, MakesAll, ended_line, finished_line, snapshot}
use Rattle.replay.specs.Reports.{done_line}
use Rattle.replay.specs.Text.{aborted_line}
use Rattle.replay.specs.Outside.{outside}
use Rattle.replay.proofs.making.Acting.{one, same-back, some-held, some-slots}
use Rattle.replay.proofs.course.Course.{count_of}
use Rattle.replay.proofs.making.Upto.{before-none}
use Rattle.replay.proofs.lines.Effects.{waiting-append}
use Rattle.replay.proofs.making.Making.{makes-none, makes-then}
use Rattle.replay.proofs.course.Returning.{both-in_use, ends-both, number-both}
use Rattle.replay.proofs.between.Runs.{run_after, run_returned, made-run, after-run, returned-run}

-- ---- the course that a commit takes, by what becomes of it

pub course-forward : (fate : Fate) (state : State) (held : HeldCommit) → is_taken_back fate ≡ false → course_held fate state held ≡ held
course-forward Finishes state held on = refl
course-forward (Turns after then) state held on = refl
course-forward (Turned after thens.Back) state held on = absurd (cc)
course-forward (Turned after thens.Restart) state held on = refl

course-way : (fate : Fate) (state : State) (held : HeldCommit) → goes_back held.way ≡ false → goes_back (course_held fate state held).way ≡ is_taken_back fate
course-way Finishes state held on = on
course-way (Turns after then) state held on = on
course-way (Turned after thens.Back) state held on = refl
course-way (Turned after thens.Restart) state held on = on

pub back-fate : (fate : Fate) → is_taken_back fate ≡ true → (after : ℕ) × (fate ≡ Turned after thens.Back)
back-fate Finishes back = absurd (cc)
back-fate (Turns after then) back = absurd (cc)
back-fate (Turned after thens.Back) back = (after, refl)
back-fate (Turned after thens.Restart) back = absurd (cc)

pub ahead-forward : (fate : Fate) (writes : ℕ) → IsAhead fate → (is_taken_back fate ≡ false) × IsFirst fate writes
ahead-forward Finishes writes ahead = (refl, tt)
ahead-forward (Turns after then) writes ahead = (refl, tt)
ahead-forward (Turned after then) writes ahead = absurd ahead

-- an unfinished commit after some actions more, which don't come past its turn
abbrev pub halfway-more : (run : Running) (now : Managed) (count : Count) → (half : IsHalfway run) → (some : MakesSome run.manager now) → HasCome (watching run) (count_of run) count some.made
    → IsBefore (turn_of run.fate) 0 (half.some.made ++ some.made) some.left → IsWithinTurn (turn_of run.fate) count.told → IsHalfway (record run { manager = now; told = count.told; waiting = count.waiting })
halfway-more run now count half some come before within =
    let earlier = half.told in
    let number = come.told in
    let lengths : length (writes_in (half.some.made ++ some.made)) ≡ length (writes_in half.some.made) + length (writes_in some.made) =
    ap length (writes_in-append half.some.made some.made) ∙ length-append (writes_in half.some.made) (writes_in some.made) in
    record {
      begun = half.begun;
      plain = half.plain;
      holds = half.holds;
      accepted = half.accepted;
      shows = half.shows;
      first = half.first;
      some = makes-then (course_of run.fate half.begun (commit_of half.begun run.pending half.holds.1.made half.holds.0)) run.manager now half.some some;
      told = omega arith;
      waiting = come.waiting ∙ ap (λ waiting. waiting_after run.depth waiting some.made) half.waiting ∙ sym (waiting-append run.depth 0 half.some.made some.made);
      before = before;
      within = within;
    }

-- a commit that was taken, before its first write
abbrev pub halfway-none : (run : Running) → IsAhead run.fate → run.asked ≡ Nothing → (counts : Done) → (holds : Holds (record run.manager { held = None }) run.pending counts run.manager) → verdict_of run ≡ Accepted → ShowsRules (record run.manager { held = None })
    → run.told ≡ 0 → run.waiting ≡ 0 → IsHalfway run
halfway-none run ahead plain counts holds accepted shows told waiting =
    let held : HeldCommit = commit_of run.manager run.pending holds.made counts in
    let held_is : run.manager.held ≡ Some held = ap (λ (manager : Managed). manager.held) holds.new_is in
    let first = ahead-forward run.fate (length holds.made) ahead in record {
      begun = run.manager;
      plain = plain;
      holds = (counts, holds);
      accepted = accepted;
      shows = shows;
      first = first.1;
      some = record {
        held = held;
        made = [];
        left = held.actions;
        current = held.current;
        held_is = ap Some (course-forward run.fate run.manager.state held first.0);
        whole = refl;
        now_is = (makes-none run.manager held held_is).now_is;
      };
      told = told;
      waiting = waiting;
      before = before-none (turn_of run.fate) 0 held.actions;
      within = none-told (turn_of run.fate) run.told told;
    }
  where
    none-told : (stop : Option ℕ) (told : ℕ) → told ≡ 0 → IsWithinTurn stop told
    none-told None told none = tt
    none-told (Some after) told none = omega arith

module _ (run : Running) (half : IsHalfway run) where
  -- the run when the commit began
  abbrev pub run_begun : Running
  run_begun = record run { manager = half.begun; told = 0; waiting = 0; fate = Finishes }

  -- the commit, with all of its writes
  abbrev pub begun-holds : Holds (record half.begun { held = None }) run.pending half.holds.0 half.begun
  begun-holds = half.holds.1

  abbrev pub held_begun : HeldCommit
  held_begun = commit_of half.begun run.pending begun-holds.made half.holds.0

  held-same : half.some.held ≡ course_held run.fate half.begun.state held_begun
  held-same =
      let both : Some half.some.held ≡ Some (course_held run.fate half.begun.state held_begun) = sym half.some.held_is in
      cc

  -- all actions, there and back where it is taken back: those that were made and those that are left
  abbrev pub whole_actions : List Action
  whole_actions = half.some.made ++ half.some.left

  -- whether it is taken back
  abbrev pub is_back : Bool
  is_back = is_taken_back run.fate

  pub held-forward : is_back ≡ false → half.some.held ≡ held_begun
  held-forward on = held-same ∙ course-forward run.fate half.begun.state held_begun on

  -- the commit that is held goes the same way
  pub way-same : goes_back (one (course_of run.fate half.begun held_begun) run.manager half.some).way ≡ is_back
  way-same =
      same-back half.begun.state (writes_in half.some.made) half.some.held.way ∙ ap (λ (held : HeldCommit). goes_back held.way) held-same
      ∙ course-way run.fate half.begun.state held_begun refl

  begun-writes : writes_in held_begun.actions ≡ begun-holds.made
  begun-writes =
      let bits : FieldBits = bits_with half.begun.mode half.begun.rules run.pending half.begun.bits in
      writes_of_commit (have_bits (new_bits half.begun.bits bits)) begun-holds.made

  pub begun-size : length (writes_in held_begun.actions) ≡ length begun-holds.made
  begun-size = ap length begun-writes

  pub begun-in_use : AllByRecursion (IsInUse half.begun.slots) (writes_in held_begun.actions)
  begun-in_use = subst (AllByRecursion (IsInUse half.begun.slots)) (sym begun-writes) begun-holds.in_use

  -- one that isn't makes the actions of the commit
  pub whole-forward : is_back ≡ false → (whole_actions ≡ held_begun.actions) × (writes_in whole_actions ≡ begun-holds.made)
  whole-forward on =
      let whole : whole_actions ≡ held_begun.actions = sym half.some.whole ∙ ap (λ (held : HeldCommit). held.actions) (held-forward on) in
      (whole, ap writes_in whole ∙ begun-writes)

  -- so these are those that were told and those that are left
  pub all-writes : is_back ≡ false → length begun-holds.made ≡ run.told + length (writes_in half.some.left)
  all-writes on =
      let told = half.told in
      let parts : length (writes_in whole_actions) ≡ length (writes_in half.some.made) + length (writes_in half.some.left) =
      ap length (writes_in-append half.some.made half.some.left) ∙ length-append (writes_in half.some.made) (writes_in half.some.left) in
      let whole : length (writes_in whole_actions) ≡ length begun-holds.made = ap length (whole-forward on).1 in
      omega arith

  -- one that is makes the first of them, and undoes those
  abbrev pub back-parts : is_back ≡ true → (after : ℕ) × (run.fate ≡ Turned after thens.Back)
  back-parts back = back-fate run.fate back

  pub whole-back : (back : is_back ≡ true) → whole_actions ≡ back_from half.begun.state (up_to_writes (back-parts back).0 held_begun.actions)
  whole-back back =
      sym half.some.whole ∙ ap (λ (held : HeldCommit). held.actions) held-same
      ∙ ap (λ (fate : Fate). (course_held fate half.begun.state held_begun).actions) (back-parts back).1

  pub back-more : (back : is_back ≡ true) → (back-parts back).0 < length begun-holds.made
  back-more back = subst (λ (fate : Fate). IsFirst fate (length begun-holds.made)) (back-parts back).1 half.first

  pub back-number : (back : is_back ≡ true) → length (writes_in whole_actions) ≡ 2 * (back-parts back).0
  back-number back =
      let more = back-more back in
      let size = begun-size in
      ap (λ actions. length (writes_in actions)) (whole-back back) ∙ number-both (back-parts back).0 half.begun.state held_begun.actions (omega arith)

  pub back-ends : is_back ≡ true → state_after half.begun.state (writes_in whole_actions) ≡ half.begun.state
  back-ends back =
      ap (λ actions. state_after half.begun.state (writes_in actions)) (whole-back back) ∙ ends-both half.begun.state (up_to_writes (back-parts back).0 held_begun.actions)

  -- each write is to a slot in use
  pub whole-in_use : AllByRecursion (IsInUse half.begun.slots) (writes_in whole_actions)
  whole-in_use = go is_back refl
    where
      go : (back : Bool) → is_back ≡ back → AllByRecursion (IsInUse half.begun.slots) (writes_in whole_actions)
      go false on = subst (AllByRecursion (IsInUse half.begun.slots)) (sym (whole-forward on).1) begun-holds.in_use
      go true back =
          subst (λ actions. AllByRecursion (IsInUse half.begun.slots) (writes_in actions)) (sym (whole-back back))
          (both-in_use half.begun.slots (back-parts back).0 half.begun.state held_begun.actions begun-in_use)

  -- few writes are made in all
  pub whole-few : length (writes_in whole_actions) ≤ 2 ^ 36 - 1
  whole-few = go is_back refl
    where
      go : (back : Bool) → is_back ≡ back → length (writes_in whole_actions) ≤ 2 ^ 36 - 1
      go false on =
          let few = begun-holds.few in
          let same : length (writes_in whole_actions) ≡ length begun-holds.made = ap length (whole-forward on).1 in
          omega arith
      go true back =
          let few = begun-holds.few in
          let more = back-more back in
          let same = back-number back in
          omega arith

  pub setting-begun : setting_of run ≡ setting_of run_begun
  setting-begun = ap (λ (manager : Managed). setting_of (record run { manager = manager })) half.some.now_is

  pub begun-is : IsRun run → IsRun run_begun
  begun-is is = record {
    changes = is.changes;
    asks = is.asks;
    routes = subst (λ (manager : Managed). (version : IpVersion) → run.family ≡ routes_of version → AllByRecursion (IsRoute version) manager.rules) half.some.now_is is.routes;
    some_slots = subst (λ (manager : Managed). 1 ≤ manager.slots) half.some.now_is is.some_slots;
    most_slots = subst (λ (manager : Managed). manager.slots ≤ most_slots) half.some.now_is is.most_slots;
    size = sym (slots-after half.begun.state (writes_in half.some.made)) ∙ subst (λ (manager : Managed). length manager.state.slots ≡ manager.slots) half.some.now_is is.size;
    few = is.few;
    shows = λ idle. absurd (let none : Some held_begun ≡ None = sym (ap (λ (manager : Managed). manager.held) begun-holds.new_is) ∙ idle in cc);
    halfway = λ some. inl (halfway-none run_begun tt half.plain half.holds.0 half.holds.1 half.accepted half.shows refl refl);
    idle = λ none. absurd (let none : Some held_begun ≡ None = sym (ap (λ (manager : Managed). manager.held) begun-holds.new_is) ∙ none in cc);
  }

  -- few writes were told or are left
  pub few-left : IfSome run.manager.held (λ held. run.told + length (writes_in held.actions) ≤ 2 ^ 36)
  few-left =
      let few = whole-few in
      let all : length (writes_in whole_actions) ≡ length (writes_in half.some.made) + length (writes_in half.some.left) =
      ap length (writes_in-append half.some.made half.some.left) ∙ length-append (writes_in half.some.made) (writes_in half.some.left) in
      let told = half.told in
      let most : run.told + length (writes_in half.some.left) ≤ 2 ^ 36 = omega arith in
      subst (λ held. IfSome held (λ (x : HeldCommit). run.told + length (writes_in x.actions) ≤ 2 ^ 36)) (sym (some-held (course_of run.fate half.begun held_begun) run.manager half.some)) most

  -- the line that it ends with
  abbrev pub line_by : Bool → List ℕ
  line_by true = aborted_line (run.commits + 1) (length (writes_in whole_actions))
  line_by false = done_line run.json run.early (run.commits + 1) half.holds.0

  abbrev pub line : List ℕ
  line = line_by is_back

  -- and the run behind it
  abbrev pub ended_by : Bool → Running
  ended_by true = run_returned run_begun (writes_in whole_actions)
  ended_by false = run_after run_begun begun-holds.made half.holds.0

  abbrev pub run_ended : Running
  run_ended = ended_by is_back

-- a run whose commit was cut
pub cut-run : (run : Running) (now : Managed) (count : Count) → IsRun run → (some : MakesSome run.manager now) → IsMidCommit (record run { manager = now; told = count.told; waiting = count.waiting })
    → IsRun (record run { manager = now; told = count.told; waiting = count.waiting })
cut-run run now count is some under_way = record {
  changes = is.changes;
  asks = is.asks;
  routes = subst (λ (manager : Managed). (version : IpVersion) → run.family ≡ routes_of version → AllByRecursion (IsRoute version) manager.rules) (sym some.now_is) is.routes;
  some_slots = subst (λ (manager : Managed). 1 ≤ manager.slots) (sym some.now_is) is.some_slots;
  most_slots = subst (λ (manager : Managed). manager.slots ≤ most_slots) (sym some.now_is) is.most_slots;
  size = subst (λ (manager : Managed). length manager.state.slots ≡ manager.slots) (sym some.now_is) (slots-after run.manager.state (writes_in some.made) ∙ is.size);
  few = is.few;
  shows = λ idle. absurd (let none : Some (one run.manager now some) ≡ None = sym (some-held run.manager now some) ∙ idle in cc);
  halfway = λ _. under_way;
  idle = λ idle. absurd (let none : Some (one run.manager now some) ≡ None = sym (some-held run.manager now some) ∙ idle in cc);
}

-- once the actions that were left are made
module _ (Seen : Type 0) (run : Running) (half : IsHalfway run) (watch : Watching) (slots : ℕ) (count_now : Count) (end : Ended) (now : Managed) (events events_now : List Action) (taken taken_now : Option (List ℕ))
    (all : MakesAll Seen watch slots (snapshot run.manager (count_of run) (outside events taken)) end (snapshot now count_now (outside events_now taken_now))) where
  abbrev course : Managed
  course = course_of run.fate half.begun (held_begun run half)

  held-one : all.held ≡ one course run.manager half.some
  held-one =
      let both : Some all.held ≡ Some (one course run.manager half.some) = sym all.held_is ∙ some-held course run.manager half.some in
      cc

  pub actions-left : all.actions ≡ half.some.left
  actions-left = all.actions_are ∙ ap (λ (held : HeldCommit). held.actions) held-one

  back-same : goes_back all.held.way ≡ is_back run half
  back-same = ap (λ (held : HeldCommit). goes_back held.way) held-one ∙ way-same run half

  -- all writes lead from where it began to here
  state-whole : state_after (state_after half.begun.state (writes_in half.some.made)) (writes_in half.some.left) ≡ state_after half.begun.state (writes_in (whole_actions run half))
  state-whole =
      sym (state_after-append half.begun.state (writes_in half.some.made) (writes_in half.some.left))
      ∙ ap (state_after half.begun.state) (sym (writes_in-append half.some.made half.some.left))

  pub number-whole : count_now.told ≡ length (writes_in (whole_actions run half))
  number-whole =
      let told = all.come.told in
      let before = half.told in
      let same : length (writes_in all.actions) ≡ length (writes_in half.some.left) = ap (λ actions. length (writes_in actions)) actions-left in
      let parts : length (writes_in (whole_actions run half)) ≡ length (writes_in half.some.made) + length (writes_in half.some.left) =
      ap length (writes_in-append half.some.made half.some.left) ∙ length-append (writes_in half.some.made) (writes_in half.some.left) in
      omega arith

  -- the manager is that of the run behind it
  pub now-same : now ≡ (run_ended run half).manager
  now-same = go end all.ends
    where
      at : State → HeldCommit → Managed
      at state held = record half.begun { state = state; rules = held.rules; bits = held.bits; held = None }

      go : (end : Ended) → EndsBy run.manager all.held all.actions end now → now ≡ (run_ended run half).manager
      go (ended.Finished done) ends =
          let on = sym back-same ∙ ends.0 in
          ends.2
          ∙ ap (λ (held : HeldCommit). record run.manager { state = state_after run.manager.state (writes_in all.actions); rules = held.rules; bits = held.bits; held = None }) held-one
          ∙ ap (λ actions. record run.manager { state = state_after run.manager.state (writes_in actions); rules = half.some.held.rules; bits = half.some.held.bits; held = None }) actions-left
          ∙ ap (λ (manager : Managed). record manager { state = state_after manager.state (writes_in half.some.left); rules = half.some.held.rules; bits = half.some.held.bits; held = None }) half.some.now_is
          ∙ ap (λ (state : State). at state half.some.held) (state-whole ∙ ap (state_after half.begun.state) (whole-forward run half on).1)
          ∙ ap (at (state_after half.begun.state (begun-holds run half).made)) (held-forward run half on)
          ∙ ap (λ back. (ended_by run half back).manager) (sym on)
      go ended.Reverted ends =
          ends.1
          ∙ ap (λ actions. record run.manager { state = state_after run.manager.state (writes_in actions); held = None }) actions-left
          ∙ ap (λ (manager : Managed). record manager { state = state_after manager.state (writes_in half.some.left); held = None }) half.some.now_is
          ∙ ap (λ (state : State). record half.begun { state = state; held = None }) state-whole
          ∙ ap (λ back. (ended_by run half back).manager) (sym (sym back-same ∙ ends.0))

  pub slots-now : now.slots ≡ run.manager.slots
  slots-now = ap (λ (manager : Managed). manager.slots) now-same ∙ go (is_back run half) ∙ sym (some-slots course run.manager half.some)
    where
      go : (back : Bool) → (ended_by run half back).manager.slots ≡ half.begun.slots
      go true = refl
      go false = refl

  pub idle-now : now.held ≡ None
  idle-now = ap (λ (manager : Managed). manager.held) now-same ∙ go (is_back run half)
    where
      go : (back : Bool) → (ended_by run half back).manager.held ≡ None
      go true = refl
      go false = refl

  -- the run once it is counted
  pub ended-writes : (back : Bool) → is_back run half ≡ back → run.writes + count_now.told ≡ (ended_by run half back).writes
  ended-writes true back = ap (λ n. run.writes + n) number-whole
  ended-writes false on =
      let same = ((begun-holds run half).numbers half.begun.slots (omega arith)).writes in
      ap (λ n. run.writes + n) (number-whole ∙ ap length (whole-forward run half on).1 ∙ sym same)

  pub few-made : count_now.told ≤ 2 ^ 36 - 1
  few-made = subst (λ n. n ≤ 2 ^ 36 - 1) (sym number-whole) (whole-few run half)

  -- before its batch is dropped
  pub made-run_held : IsRun run → IsRun (record run { manager = now; told = 0; waiting = 0; fate = Finishes })
  made-run_held is =
      subst (λ (manager : Managed). IsRun (record run { manager = manager; told = 0; waiting = 0; fate = Finishes })) (sym now-same) (go (is_back run half) refl)
    where
      go : (back : Bool) → is_back run half ≡ back → IsRun (record run { manager = (ended_by run half back).manager; told = 0; waiting = 0; fate = Finishes })
      go true back =
          returned-run (run_begun run half) half.holds.0 (begun-is run half is) half.holds.1 run.pending run.commits run.writes (writes_in (whole_actions run half)) is.changes is.few (back-ends run half back) half.shows
      go false on = made-run (run_begun run half) half.holds.0 (begun-is run half is) half.holds.1 run.pending run.commits run.writes is.changes is.few

  pub ended-run : IsRun run → IsRun (run_ended run half)
  ended-run is = go (is_back run half) refl
    where
      few : run.writes + length (writes_in (whole_actions run half)) ≤ (run.commits + 1) * (2 ^ 36 - 1)
      few = let before = is.few in let more = whole-few run half in omega arith

      go : (back : Bool) → is_back run half ≡ back → IsRun (ended_by run half back)
      go true back =
          returned-run (run_begun run half) half.holds.0 (begun-is run half is) half.holds.1 [] (run.commits + 1) (run.writes + length (writes_in (whole_actions run half))) (writes_in (whole_actions run half)) (λ version route. tt) few
          (back-ends run half back) half.shows
      go false on = after-run (run_begun run half) half.holds.0 (begun-is run half is) half.holds.1

  -- and its batch is dropped
  module _ (counted : Running) (closed : counted ≡ record run { manager = now; told = 0; waiting = 0; fate = Finishes; pending = []; commits = run.commits + 1 }) where
    pub after-writes : ◌≡◌ {A = Running} (record counted { writes = counted.writes + count_now.told }) (run_ended run half)
    after-writes =
        ap (λ (r : Running). record r { writes = r.writes + count_now.told }) closed
        ∙ ap (λ (manager : Managed). record run { manager = manager; told = 0; waiting = 0; fate = Finishes; pending = []; commits = run.commits + 1; writes = run.writes + count_now.told }) now-same
        ∙ go (is_back run half) refl
      where
        go : (back : Bool) → is_back run half ≡ back
            → ◌≡◌ {A = Running} (record run { manager = (ended_by run half (is_back run half)).manager; told = 0; waiting = 0; fate = Finishes; pending = []; commits = run.commits + 1; writes = run.writes + count_now.told }) (ended_by run half (is_back run half))
        go back same =
            subst (λ one. ◌≡◌ {A = Running} (record run { manager = (ended_by run half one).manager; told = 0; waiting = 0; fate = Finishes; pending = []; commits = run.commits + 1; writes = run.writes + count_now.told }) (ended_by run half one)) (sym same)
            (by back same)
          where
            by : (back : Bool) → is_back run half ≡ back
                → ◌≡◌ {A = Running} (record run { manager = (ended_by run half back).manager; told = 0; waiting = 0; fate = Finishes; pending = []; commits = run.commits + 1; writes = run.writes + count_now.told }) (ended_by run half back)
            by true same = ap (λ n. record (ended_by run half true) { writes = n }) (ended-writes true same)
            by false same = ap (λ n. record (ended_by run half false) { writes = n }) (ended-writes false same)

    pub after-writes_run : IsRun run → IsRun (record counted { writes = counted.writes + count_now.told })
    after-writes_run is = subst IsRun (sym after-writes) (ended-run is)

    -- the line is that of its end
    pub line-same : ended_line counted.json counted.early counted.commits run.fate end count_now.told ≡ line run half
    line-same = go end all.ends
      where
        first-line : (fate : Fate) → IsFirst fate (length (begun-holds run half).made) → is_taken_back fate ≡ false → (done : Done)
            → finished_line counted.json counted.early counted.commits fate done count_now.told ≡ done_line counted.json counted.early counted.commits done
        first-line Finishes first on done = refl
        first-line (Turns after then) first on done = refl
        first-line (Turned after thens.Back) first on done = absurd (cc)
        first-line (Turned after thens.Restart) first on done = absurd first

        go : (end : Ended) → EndsBy run.manager all.held all.actions end now → ended_line counted.json counted.early counted.commits run.fate end count_now.told ≡ line run half
        go (ended.Finished done) ends =
            let on = sym back-same ∙ ends.0 in
            let counts : done ≡ half.holds.0 = ends.1 ∙ ap (λ (held : HeldCommit). held.counts) held-one ∙ ap (λ (held : HeldCommit). held.counts) (held-forward run half on) in
            first-line run.fate half.first on done
            ∙ ap (λ (r : Running). done_line r.json r.early r.commits done) closed ∙ ap (done_line run.json run.early (run.commits + 1)) counts ∙ ap (line_by run half) (sym on)
        go ended.Reverted ends =
            ap (λ (r : Running). aborted_line r.commits count_now.told) closed ∙ ap (aborted_line (run.commits + 1)) number-whole ∙ ap (line_by run half) (sym (sym back-same ∙ ends.0))
