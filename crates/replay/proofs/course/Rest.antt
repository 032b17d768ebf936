-- What is left of an unfinished commit that comes to its end by the manager that it has, whichever that is.
use Rattle.std.proofs.Common.{◌≡◌, ℕ, ◌+◌, ◌-◌, ◌^◌, ◌<◌, ◌≤◌, inl, List, [], ◌++◌, Option, Some, None, IfSome, false, length, length-append, refl, sym, ap, ◌∙◌, subst, append_assoc, arith}
use Rattle.tcam_device.specs.declared.Action.{Action}
use Rattle.tcam_device.specs.Flight.{writes_in}
use Rattle.batch_order.specs.Managed.{Managed, HeldCommit}
use Rattle.commit_writes.proofs.WritesIn.{writes_in-append}
use Rattle.replay.specs.declared.fate.Fate.{Fate}
use Rattle.replay.specs.declared.fate.Fate.TheVariants as fates
use Rattle.replay.specs.declared.watch.Count.{Count}
use Rattle.replay.specs.declared.steps.Ended.{Ended}
use Rattle.replay.specs.Effects.{Effect}
use Rattle.replay.specs.Run.{Progress, carried_so_far}
use Rattle.replay.specs.Crashing.{HasMoreThan}
use Rattle.replay.specs.Fates.{IsBefore, IsWithinTurn, is_taken_back, turn_of}
use Rattle.replay.specs.Running.{Running, Watching, IsHalfway, IsRun, MakesSome, course_of, setting_of, watching}
use Rattle.replay.specs.Making.{HasCome, MakesAll, ended_line, snapshot}
use Rattle.replay.specs.Unfinished.{IsUnfinished, StandsHalfway}
use Rattle.replay.specs.Outside.{outside}
use Rattle.replay.proofs.making.Acting.{some-held}
use Rattle.replay.proofs.course.Course.{Course, Ending, count_of}
use Rattle.replay.proofs.making.Making.{then-left}
use Rattle.replay.proofs.course.Returning.{IsWithin}
use Rattle.replay.proofs.between.Halfway.{actions-left, after-writes, all-writes, begun-holds, ended-run, few-left, few-made, halfway-more, held_begun, idle-now, line, line-same, made-run_held, run_ended, slots-now, whole-forward}
use Rattle.replay.proofs.flight.Leftover.{few-waiting}
use Rattle.replay.proofs.course.Resuming.{began, course-half, ending-half, so_far}

-- its actions are made, and it ends so
pub record EndsWith (run : Running) (now : Managed) (count : Count) (end : Ended) (line : List ℕ) (ended : Running) : Type 0 where
  pub idle : now.held ≡ None
  pub same_slots : now.slots ≡ run.manager.slots
  pub few : count.told ≤ 2 ^ 36 - 1
  -- what it is before its batch is dropped, and then
  pub closing : IsRun (record run { manager = now; told = 0; waiting = 0; fate = fates.Finishes })
  pub ended_is : IsRun ended
  pub counted : (counted : Running) → counted ≡ record run { manager = now; told = 0; waiting = 0; fate = fates.Finishes; pending = []; commits = run.commits + 1 }
      → (◌≡◌ {A = Running} (record counted { writes = counted.writes + count.told }) ended) × (ended_line counted.json counted.early counted.commits run.fate end count.told ≡ line)

-- its course to its end, and what making its actions comes to
pub record Rest (slots : ℕ) (before : Progress) (front : List Effect) (run : Running) : Type 1 where
  pub course : Course slots before front run
  pub line : List ℕ
  pub ended : Running
  pub ending : Ending slots before front run course line ended
  -- few writes are left
  pub few_left : IfSome run.manager.held (λ held. run.told + length (writes_in held.actions) ≤ 2 ^ 36)
  pub few_waiting : run.waiting ≤ run.depth
  -- the actions that are left are those that are made
  pub part : (now : Managed) (some : MakesSome run.manager now) → course.left ≡ some.made ++ some.left
  pub actions : (Seen : Type 0) (watch : Watching) (width : ℕ) (count : Count) (end : Ended) (now : Managed) (events events_now : List Action) (taken taken_now : Option (List ℕ))
      (all : MakesAll Seen watch width (snapshot run.manager (count_of run) (outside events taken)) end (snapshot now count (outside events_now taken_now))) → all.actions ≡ course.left
  -- with some of them made it is unfinished
  pub more : (now : Managed) (count : Count) (some : MakesSome run.manager now) → HasCome (watching run) (count_of run) count some.made
      → IsUnfinished slots before (carried_so_far (setting_of run) before (course.made ++ some.made)) (record run { manager = now; told = count.told; waiting = count.waiting })
  -- and with all of them it ends
  pub ends : (Seen : Type 0) (watch : Watching) (width : ℕ) (count : Count) (end : Ended) (now : Managed) (events events_now : List Action) (taken taken_now : Option (List ℕ))
      → MakesAll Seen watch width (snapshot run.manager (count_of run) (outside events taken)) end (snapshot now count (outside events_now taken_now)) → EndsWith run now count end line ended

-- ---- by its first manager

-- one that is to be turned wasn't taken back
no-back : (fate : Fate) (after : ℕ) → turn_of fate ≡ Some after → is_taken_back fate ≡ false
no-back fates.Finishes after is = refl
no-back (fates.Turns limit then) after is = refl
no-back (fates.Turned limit then) after is = absurd (cc)

-- it has no more writes than come before its turn
abbrev pub HasNoTurn : Running → Type 0
HasNoTurn run = IfSome (turn_of run.fate) (λ after. ¬ (HasMoreThan after run))

module _ (slots : ℕ) (run : Running) (half : IsHalfway run) (is : IsRun run) (inside : run.manager.slots ≤ slots) (none : HasNoTurn run) where
  -- none of its writes comes past its turn
  few-writes : (stop : Option ℕ) → turn_of run.fate ≡ stop → IsWithin stop (length (begun-holds run half).made)
  few-writes None is_none = tt
  few-writes (Some after) turns =
      let all = all-writes run half (no-back run.fate after turns) in
      let never : ¬ (after < run.told + length (writes_in half.some.left)) =
      subst (λ held. ¬ (IfSome held (λ (one : HeldCommit). after < run.told + length (writes_in one.actions)))) (some-held (course_of run.fate half.begun (held_begun run half)) run.manager half.some)
      (subst (λ stop. IfSome stop (λ limit. ¬ (HasMoreThan limit run))) turns none) in
      omega (arith, never)

  few : IsWithin (turn_of run.fate) (length (begun-holds run half).made)
  few = few-writes (turn_of run.fate) refl

  part : (now : Managed) (some : MakesSome run.manager now) → half.some.left ≡ some.made ++ some.left
  part now some = then-left (course_of run.fate half.begun (held_begun run half)) run.manager now half.some some

  -- where it stands with some of them made, none of them past the turn
  still-before : (now : Managed) (some : MakesSome run.manager now) → IsBefore (turn_of run.fate) 0 (half.some.made ++ some.made) some.left
  still-before now some = go (turn_of run.fate) refl
    where
      go : (stop : Option ℕ) → turn_of run.fate ≡ stop → IsBefore stop 0 (half.some.made ++ some.made) some.left
      go None is_none = tt
      go (Some after) turns = λ more.
          let all : length (writes_in ((half.some.made ++ some.made) ++ some.left)) ≡ length (begun-holds run half).made =
          ap (λ actions. length (writes_in actions)) (append_assoc half.some.made some.made some.left ∙ ap (λ actions. half.some.made ++ actions) (sym (part now some)))
          ∙ ap length (whole-forward run half (no-back run.fate after turns)).1 in
          let within = few-writes (Some after) turns in
          absurd (omega (arith, more))

  still-within : (now : Managed) (count : Count) (some : MakesSome run.manager now) → HasCome (watching run) (count_of run) count some.made → IsWithinTurn (turn_of run.fate) count.told
  still-within now count some come = go (turn_of run.fate) refl
    where
      go : (stop : Option ℕ) → turn_of run.fate ≡ stop → IsWithinTurn stop count.told
      go None is_none = tt
      go (Some after) turns =
          let sizes : length (writes_in half.some.left) ≡ length (writes_in some.made) + length (writes_in some.left) =
          ap (λ actions. length (writes_in actions)) (part now some) ∙ ap length (writes_in-append some.made some.left) ∙ length-append (writes_in some.made) (writes_in some.left) in
          let all = all-writes run half (no-back run.fate after turns) in
          let within = few-writes (Some after) turns in
          let told_now = come.told in
          omega arith

  pub rest-half : Rest slots (began slots run half is inside) (so_far slots run half is inside) run
  rest-half = record {
    course = course-half slots run half is inside few;
    line = line run half;
    ended = run_ended run half;
    ending = ending-half slots run half is inside few;
    part = part;
    actions = λ Seen watch width count end now events events_now taken taken_now all. actions-left Seen run half watch width count end now events events_now taken taken_now all;
    more = λ now count some come. inl (record {
      halfway = halfway-more run now count half some come (still-before now some) (still-within now count some come);
      before_is = refl;
      front_is = ap (λ setting. carried_so_far setting (began slots run half is inside) (half.some.made ++ some.made)) (setting-more now count some);
    });
    few_left = few-left run half;
    few_waiting = few-waiting run half;
    ends = λ Seen watch width count end now events events_now taken taken_now all. record {
      idle = idle-now Seen run half watch width count end now events events_now taken taken_now all;
      same_slots = slots-now Seen run half watch width count end now events events_now taken taken_now all;
      few = few-made Seen run half watch width count end now events events_now taken taken_now all;
      closing = made-run_held Seen run half watch width count end now events events_now taken taken_now all is;
      ended_is = ended-run Seen run half watch width count end now events events_now taken taken_now all is;
      counted = λ counted closed. (
        after-writes Seen run half watch width count end now events events_now taken taken_now all counted closed,
        line-same Seen run half watch width count end now events events_now taken taken_now all counted closed,
      );
    };
  }
    where
      setting-more : (now : Managed) (count : Count) → (some : MakesSome run.manager now) → setting_of run ≡ setting_of (record run { manager = now; told = count.told; waiting = count.waiting })
      setting-more now count some = sym (ap (λ (manager : Managed). setting_of (record run { manager = manager })) some.now_is)

-- what holds of the effects that such a commit had holds of those that are said of it
pub as-halfway : (slots : ℕ) (before : Progress) (front : List Effect) (run : Running) (stands : StandsHalfway slots before front run) (is : IsRun run) (inside : run.manager.slots ≤ slots) → HasNoTurn run → Rest slots before front run
as-halfway slots before front run stands is inside none =
    let half = stands.halfway in
    subst (λ (at : Progress). Rest slots at front run) (sym stands.before_is)
    (subst (λ effects. Rest slots (began slots run half is inside) effects run) (sym (stands.front_is ∙ ap (λ (at : Progress). carried_so_far (setting_of run) at half.some.made) stands.before_is))
    (rest-half slots run half is inside none))
