-- An unfinished commit that crashed and whose second manager goes on with it, as a course to its end.
use Rattle.std.proofs.Common.{◌≡◌, ℕ, ◌+◌, ◌^◌, ◌<◌, ◌≤◌, inr, Bool, List, [], ◌∷◌, ◌++◌, Option, Some, None, length, length-append, take, refl, sym, ap, ◌∙◌, subst, append_assoc, arith}
use Rattle.std.proofs.lemmas.List.{length-take-le}
use Rattle.std.specs.List.{AllByRecursion}
use Rattle.rule_model.specs.declared.Rule.{Rule}
use Rattle.rule_model.specs.declared.IpVersion.{IpVersion}
use Rattle.rule_model.specs.declared.IpVersion.TheVariants.{V4, V6}
use Rattle.rule_store.specs.Batch.{set_after}
use Rattle.rule_store.specs.Verdict.{Verdict}
use Rattle.rule_store.specs.declared.Mode.{Mode}
use Rattle.rule_store.specs.declared.Command.{Command as Change}
use Rattle.tcam_device.specs.declared.Write.{Write}
use Rattle.tcam_device.specs.declared.Action.{Action}
use Rattle.tcam_device.specs.Flight.{writes_in}
use Rattle.tcam_device.specs.Insertion.{insertions, IsUncrossed}
use Rattle.tcam_device.specs.State.{State, IsInUse, state_after, on_device}
use Rattle.tcam_device.proofs.Spans.{state_after-append}
use Rattle.tcam_device.proofs.Wider.{slots-after, state_after-on_device}
use Rattle.commit_writes.specs.Proposal.{proposal}
use Rattle.commit_writes.specs.declared.Done.{Done}
use Rattle.commit_writes.specs.Actions.{commit_actions, have_bits, with_drain}
use Rattle.commit_writes.specs.Bits.{FieldBits, bits_left, bits_with, new_bits}
use Rattle.commit_writes.specs.Routes.{IsRoute, prefix_lengths}
use Rattle.commit_writes.specs.Shape.{insertions_behind}
use Rattle.commit_writes.proofs.WritesIn.{writes_of_commit, writes_in-append}
use Rattle.readback.specs.declared.Parts.{Parts}
use Rattle.readback.specs.Tasks.{Task}
use Rattle.readback.specs.Stage.{IsCommitAt, IsTwinSlot}
use Rattle.readback.specs.Going.{GoesOn, needs_drain}
use Rattle.batch_order.specs.declared.Placement.{Placement}
use Rattle.batch_order.specs.Placing.{IsPlacedBy, IsRestPlacedBy}
use Rattle.batch_order.specs.Managed.{HeldCommit, Holds, Managed, OnlyChangesRoutes}
use Rattle.batch_order.specs.Restart.{ArePartsOf, Resumes, in_use, rest_of}
use Rattle.report_lines.specs.declared.Family.{Family}
use Rattle.report_lines.specs.declared.Family.TheVariants.{Route, Acl, Route6, Acl6}
use Rattle.replay.specs.declared.fate.Fate.TheVariants as fates
use Rattle.replay.specs.declared.fate.Then.TheVariants as thens
use Rattle.replay.specs.Effects.{Setting, Effect, Prints}
use Rattle.replay.specs.Run.{Progress, Crashes, Judged, HasEffects, OfFamily, Restarts, actions_over, after_segment, carried, carried_so_far}
use Rattle.replay.specs.Text.{restarted_line}
use Rattle.replay.specs.Fates.{commit_act}
use Rattle.replay.specs.Running.{Running, IsOnward, IsRun, first_actions, progress_of, routes_of, setting_of}
use Rattle.replay.proofs.course.Course.{Course, Ending, cuts-by_step}
use Rattle.replay.proofs.course.Returning.{writes-up_to}
use Rattle.replay.proofs.between.Runs.{in-use}
use Rattle.replay.proofs.between.Settled.{judged-plain}

-- the plan that another manager goes on with, by the rules and the bits of the first
pub record GoesBy (slots : ℕ) (mode : Mode) (placement : Placement) (rules : List Rule) (bits : FieldBits) (batch : List Change) (device_slots : ℕ) (state : State) (restarted : Managed) : Type 0 where
  pub made : List Write
  pub counts : Done
  pub done : List Task
  pub left : List Task
  pub twin : Option ℕ
  pub stage : IsCommitAt slots mode bits rules batch state done left
  pub is_twin : IsTwinSlot state.slots twin
  pub restarted_is : restarted ≡ record {
    slots = slots;
    mode = mode;
    placement = placement;
    rules = rules;
    bits = bits;
    state = in_use slots state;
    held = Some (rest_of mode bits rules batch state made counts);
  }
  pub on : on_device device_slots (in_use slots state) ≡ state
  pub writes_in_use : AllByRecursion (IsInUse slots) made
  pub few : length made ≤ 2 ^ 35
  pub goes_on : GoesOn slots mode bits rules batch state left twin made
  pub placed : IsRestPlacedBy placement device_slots (proposal mode bits rules batch) (in_use slots state) done left twin made
  pub uncrossed : (version : IpVersion) → AllByRecursion (IsRoute version) rules → OnlyChangesRoutes version batch → IsUncrossed (prefix_lengths version) (insertions_behind goes_on.shape)

pub goes-by : (slots : ℕ) (mode : Mode) (placement : Placement) (begun : Managed) (parts : Parts) (batch : List Change) (device_slots : ℕ) (state : State) (restarted : Managed) → ArePartsOf begun parts
    → Resumes slots mode placement parts batch device_slots state restarted → GoesBy slots mode placement begun.rules begun.bits batch device_slots state restarted
goes-by slots mode placement begun parts batch device_slots state restarted are resumes =
    subst (λ (rules : List Rule). GoesBy slots mode placement rules begun.bits batch device_slots state restarted) are.rules
    (subst (λ (bits : FieldBits). GoesBy slots mode placement parts.rules.rules bits batch device_slots state restarted) are.bits (record {
      made = resumes.made;
      counts = resumes.counts;
      done = resumes.done;
      left = resumes.left;
      twin = resumes.twin;
      stage = resumes.stage;
      is_twin = resumes.is_twin;
      restarted_is = resumes.new_is;
      on = resumes.on;
      writes_in_use = resumes.writes_in_use;
      few = resumes.few;
      goes_on = resumes.goes_on;
      placed = resumes.placed;
      uncrossed = resumes.uncrossed;
    }))

pub in-back : {A : Type 0} (P : A → Type 0) (a b : List A) → AllByRecursion P (a ++ b) → AllByRecursion P b
in-back P [] b all = all
in-back P (x ∷ a) b all = in-back P a b all.1

in-front : {A : Type 0} (P : A → Type 0) (a b : List A) → AllByRecursion P (a ++ b) → AllByRecursion P a
in-front P [] b all = tt
in-front P (x ∷ a) b all = (all.0, in-front P a b all.1)

module _ (slots : ℕ) (run : Running) (onward : IsOnward slots run) (is : IsRun run) (inside : run.manager.slots ≤ slots) where
  abbrev pub begun : Managed
  begun = onward.begun

  -- where the commit began
  abbrev pub began_first : Progress
  began_first = progress_of slots (record run { manager = begun })

  abbrev pub holds : Holds (record begun { held = None }) run.pending onward.holds.0 begun
  holds = onward.holds.1

  -- what it held at its crash
  abbrev at_crash : State
  at_crash = state_after (on_device slots begun.state) (take onward.after holds.made)

  abbrev pub goes : GoesBy begun.slots begun.mode begun.placement begun.rules begun.bits run.pending slots at_crash onward.restarted
  goes = goes-by begun.slots begun.mode begun.placement begun onward.parts run.pending slots at_crash onward.restarted onward.parts_are onward.resumes

  abbrev pub held_rest : HeldCommit
  held_rest = rest_of begun.mode begun.bits begun.rules run.pending at_crash goes.made goes.counts

  abbrev drains : Bool
  drains = needs_drain begun.mode begun.bits begun.rules run.pending at_crash

  abbrev firsts : List Action
  firsts = first_actions run begun holds.made onward.after

  pub held-is : onward.some.held ≡ held_rest
  held-is =
      let both : Some onward.some.held ≡ Some held_rest = sym onward.some.held_is ∙ ap (λ (manager : Managed). manager.held) goes.restarted_is in
      cc

  -- the actions of its plan
  pub rest-whole : with_drain drains goes.made ≡ onward.some.made ++ onward.some.left
  rest-whole = ap (λ (held : HeldCommit). held.actions) (sym held-is) ∙ onward.some.whole

  -- so these are all of them, over the crash
  pub all-over : (firsts ++ onward.some.made) ++ onward.some.left ≡ actions_over (setting_of (record run { manager = begun })) began_first onward.after holds.made goes.made
  all-over = append_assoc firsts onward.some.made onward.some.left ∙ ap (λ actions. firsts ++ actions) (sym rest-whole)

  pub firsts-writes : writes_in firsts ≡ take onward.after holds.made
  firsts-writes =
      writes-up_to onward.after (commit_actions begun.mode begun.bits begun.rules run.pending holds.made)
      ∙ ap (take onward.after) (writes_of_commit (have_bits (new_bits begun.bits (bits_with begun.mode begun.rules run.pending begun.bits))) holds.made)

  pub rest-writes : writes_in onward.some.made ++ writes_in onward.some.left ≡ goes.made
  rest-writes = sym (writes_in-append onward.some.made onward.some.left) ∙ ap writes_in (sym rest-whole) ∙ writes_of_commit drains goes.made

  pub now-slots : run.manager.slots ≡ begun.slots
  now-slots = ap (λ (manager : Managed). manager.slots) onward.some.now_is ∙ ap (λ (manager : Managed). manager.slots) goes.restarted_is

  setting-first : setting_of run ≡ setting_of (record run { manager = begun })
  setting-first =
      ap (λ (manager : Managed). setting_of (record run { manager = manager })) onward.some.now_is
      ∙ ap (λ (manager : Managed). setting_of (record run { manager = manager })) goes.restarted_is

  pub restarted-size : length onward.restarted.state.slots ≡ begun.slots
  restarted-size =
      sym (slots-after onward.restarted.state (writes_in onward.some.made))
      ∙ subst (λ (manager : Managed). length manager.state.slots ≡ manager.slots) onward.some.now_is is.size
      ∙ ap (λ (manager : Managed). manager.slots) goes.restarted_is

  pub all-in_use : AllByRecursion (IsInUse begun.slots) (writes_in onward.some.made ++ writes_in onward.some.left)
  all-in_use = subst (AllByRecursion (IsInUse begun.slots)) (sym rest-writes) goes.writes_in_use

  -- the device holds what the writes before the crash and those since left
  pub state-now : on_device slots run.manager.state ≡ state_after began_first.state (writes_in (firsts ++ onward.some.made))
  state-now =
      let made = writes_in onward.some.made in
      let some = in-front (IsInUse begun.slots) made (writes_in onward.some.left) all-in_use in
      ap (λ (manager : Managed). on_device slots manager.state) onward.some.now_is
      ∙ sym (state_after-on_device slots onward.restarted.state made (subst (λ size. AllByRecursion (IsInUse size) made) (sym restarted-size) some))
      ∙ ap (λ state. state_after state made) (ap (λ (manager : Managed). on_device slots manager.state) goes.restarted_is ∙ goes.on)
      ∙ sym (state_after-append began_first.state (take onward.after holds.made) made)
      ∙ ap (λ writes. state_after began_first.state (writes ++ made)) (sym firsts-writes)
      ∙ ap (state_after began_first.state) (sym (writes_in-append firsts onward.some.made))

  pub told-now : run.told ≡ length (writes_in (firsts ++ onward.some.made))
  told-now =
      let more = onward.more in
      let size : length (take onward.after holds.made) ≡ onward.after = length-take-le onward.after holds.made (omega arith) in
      onward.told
      ∙ ap (λ n. n + length (writes_in onward.some.made)) (sym size ∙ ap length (sym firsts-writes))
      ∙ sym (length-append (writes_in firsts) (writes_in onward.some.made)) ∙ ap length (sym (writes_in-append firsts onward.some.made))

  -- few writes came before the crash
  pub first-run_few : onward.after < 2 ^ 35
  first-run_few = let more = onward.more in let few = holds.few in omega arith

  -- its line, and the run behind it
  abbrev pub line_over : List ℕ
  line_over = restarted_line (run.commits + 1) onward.after (onward.after + length goes.made)

  abbrev pub ended_over : Running
  ended_over =
      record run {
        manager = record onward.restarted {
          rules = set_after begun.rules run.pending;
          bits = bits_left (set_after begun.rules run.pending) (bits_with begun.mode begun.rules run.pending begun.bits);
          state = state_after onward.restarted.state goes.made;
          held = None;
        };
        pending = [];
        commits = run.commits + 1;
        writes = run.writes + (onward.after + length goes.made);
        told = 0;
        waiting = 0;
        fate = fates.Finishes;
      }

  rules-now : run.manager.rules ≡ begun.rules
  rules-now = ap (λ (manager : Managed). manager.rules) onward.some.now_is ∙ ap (λ (manager : Managed). manager.rules) goes.restarted_is

  pub routes-first : (version : IpVersion) → run.family ≡ routes_of version → AllByRecursion (IsRoute version) begun.rules
  routes-first version route = subst (AllByRecursion (IsRoute version)) rules-now (is.routes version route)

  of-rest : (family : Family) → run.family ≡ family → OfFamily family (insertions_behind goes.goes_on.shape)
  of-rest Route route = goes.uncrossed V4 (routes-first V4 route) (is.changes V4 route)
  of-rest Acl other = tt
  of-rest Route6 route = goes.uncrossed V6 (routes-first V6 route) (is.changes V6 route)
  of-rest Acl6 other = tt

  -- where the run stands then is what the set of the batch tells, behind all writes
  pub whole-state : on_device slots (state_after onward.restarted.state goes.made) ≡ state_after began_first.state (take onward.after holds.made ++ goes.made)
  whole-state =
      sym (state_after-on_device slots onward.restarted.state goes.made (subst (λ size. AllByRecursion (IsInUse size) goes.made) (sym restarted-size) goes.writes_in_use))
      ∙ ap (λ state. state_after state goes.made) (ap (λ (manager : Managed). on_device slots manager.state) goes.restarted_is ∙ goes.on)
      ∙ sym (state_after-append began_first.state (take onward.after holds.made) goes.made)

  whole-length : length (take onward.after holds.made ++ goes.made) ≡ onward.after + length goes.made
  whole-length =
      let more = onward.more in
      let size : length (take onward.after holds.made) ≡ onward.after = length-take-le onward.after holds.made (omega arith) in
      length-append (take onward.after holds.made) goes.made ∙ ap (λ n. n + length goes.made) size

  progress-ended : progress_of slots ended_over ≡ after_segment (setting_of (record run { manager = begun })) began_first (take onward.after holds.made ++ goes.made)
  progress-ended =
      let at : State → ℕ → Progress = λ state writes. record (progress_of slots ended_over) { state = state; writes = run.writes + writes } in
      ap (λ state. at state (onward.after + length goes.made)) whole-state
      ∙ ap (at (state_after began_first.state (take onward.after holds.made ++ goes.made))) (sym whole-length)

  begun-inside : begun.slots ≤ slots
  begun-inside = subst (λ n. n ≤ slots) now-slots inside

  begun-size : length begun.state.slots ≡ begun.slots
  begun-size = onward.size

  -- all that it does
  abbrev pub all_effects : List Effect
  all_effects = carried (setting_of (record run { manager = begun })) began_first (actions_over (setting_of (record run { manager = begun })) began_first onward.after holds.made goes.made) ++ Prints line_over ∷ []

  abbrev restarts : Restarts (setting_of (record run { manager = begun })) began_first onward.after all_effects (progress_of slots ended_over)
  restarts = record {
    made = holds.made;
    crash = record {
      writes = record {
        segment = holds.segment slots begun-inside;
        placed = subst (λ (state : State). IsPlacedBy begun.placement begun.mode begun.bits begun.rules run.pending state holds.made)
            (sym (in-use (setting_of (record run { manager = begun })) slots begun.state begun-size)) holds.placed;
        of_family = of-first run.family refl;
        in_use = holds.in_use;
        counts = onward.holds.0;
        numbers = holds.numbers slots begun-inside;
      };
      more = onward.more;
    };
    done = goes.done;
    left = goes.left;
    stage = goes.stage;
    twin = goes.twin;
    is_twin = goes.is_twin;
    rest = goes.made;
    goes_on = goes.goes_on;
    placed = (slots, goes.placed);
    of_family = of-rest run.family refl;
    in_use = goes.writes_in_use;
    effects_are = refl;
    new_is = progress-ended;
  }
    where
      of-first : (family : Family) → run.family ≡ family → OfFamily family (insertions (on_device slots begun.state) holds.made)
      of-first Route route = holds.uncrossed slots begun-inside V4 (routes-first V4 route) (is.changes V4 route)
      of-first Acl other = tt
      of-first Route6 route = holds.uncrossed slots begun-inside V6 (routes-first V6 route) (is.changes V6 route)
      of-first Acl6 other = tt

  pub all-step : HasEffects (setting_of run) began_first (commit_act run.fate) (carried (setting_of run) began_first ((firsts ++ onward.some.made) ++ onward.some.left) ++ Prints line_over ∷ []) (progress_of slots ended_over)
  all-step =
      subst (λ fate. HasEffects (setting_of run) began_first (commit_act fate) (carried (setting_of run) began_first ((firsts ++ onward.some.made) ++ onward.some.left) ++ Prints line_over ∷ []) (progress_of slots ended_over)) (sym onward.fate_is)
      (subst (λ setting. HasEffects setting began_first (commit_act (fates.Turned onward.after thens.Restart)) (carried setting began_first ((firsts ++ onward.some.made) ++ onward.some.left) ++ Prints line_over ∷ []) (progress_of slots ended_over)) (sym setting-first)
      (subst (λ actions. HasEffects first_setting began_first (commit_act (fates.Turned onward.after thens.Restart)) (carried first_setting began_first actions ++ Prints line_over ∷ []) (progress_of slots ended_over)) (sym all-over)
      (judged-plain (Crashes onward.after) first_setting began_first all_effects (progress_of slots ended_over) onward.plain
      (subst (λ (verdict : Verdict). Judged (Crashes onward.after) first_setting began_first verdict all_effects (progress_of slots ended_over)) (sym onward.accepted) (inr restarts)))))
    where
      first_setting : Setting
      first_setting = setting_of (record run { manager = begun })

  abbrev pub course-over : Course slots began_first (carried_so_far (setting_of run) began_first (firsts ++ onward.some.made)) run
  course-over = record {
    made = firsts ++ onward.some.made;
    left = onward.some.left;
    probes = refl;
    front_is = refl;
    state = state-now;
    told = told-now;
    waiting = onward.waiting;
    size = is.size;
    in_use = subst (λ n. AllByRecursion (IsInUse n) (writes_in onward.some.left)) (sym now-slots) (in-back (IsInUse begun.slots) (writes_in onward.some.made) (writes_in onward.some.left) all-in_use);
    cuts = cuts-by_step (setting_of run) began_first (commit_act run.fate) ((firsts ++ onward.some.made) ++ onward.some.left) line_over (progress_of slots ended_over) all-step;
  }

  pub ending-over : Ending slots began_first (carried_so_far (setting_of run) began_first (firsts ++ onward.some.made)) run course-over line_over ended_over
  ending-over = record {
    step = all-step;
    state = ap (state_after onward.restarted.state) (sym rest-writes)
        ∙ state_after-append onward.restarted.state (writes_in onward.some.made) (writes_in onward.some.left)
        ∙ ap (λ (manager : Managed). state_after manager.state (writes_in onward.some.left)) (sym onward.some.now_is);
    setting = ap (λ (manager : Managed). setting_of (record run { manager = record manager { rules = set_after begun.rules run.pending; bits = bits_left (set_after begun.rules run.pending) (bits_with begun.mode begun.rules run.pending begun.bits); state = state_after manager.state goes.made; held = None } })) goes.restarted_is
        ∙ sym setting-first;
  }
