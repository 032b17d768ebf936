-- Where a commit is taken back the run stands where it did, and what undoes its writes is left of it.
use Rattle.std.proofs.Common.{◌≡◌, ℕ, ◌<◌, ◌≤◌, inl, inr, List, Option, Some, None, IsSome, Result, length, map, refl, sym, ap, ◌∙◌, subst, append-nil, arith}
use Rattle.std.specs.List.{AllByRecursion}
use Rattle.slot_order.specs.Order.{most_slots}
use Rattle.rule_model.specs.declared.IpVersion.{IpVersion}
use Rattle.tcam_device.specs.declared.Write.{Write}
use Rattle.tcam_device.specs.declared.Action.TheVariants.{Written}
use Rattle.tcam_device.specs.Flight.{writes_in}
use Rattle.tcam_device.specs.State.{State, state_after}
use Rattle.commit_writes.specs.Actions.{back_from}
use Rattle.commit_writes.specs.Routes.{IsRoute}
use Rattle.commit_writes.specs.Undo.{undo_writes}
use Rattle.batch_order.specs.declared.AbortFault.{AbortFault}
use Rattle.batch_order.specs.CarriedOut.{HasRoomBothWays}
use Rattle.batch_order.specs.Managed.{HeldCommit, Managed, Way}
use Rattle.batch_order.specs.Managed.Way.{On, Back}
use Rattle.batch_order.specs.Steps.{Aborts, TurnsBack, TurnsPrepared, going_back}
use Rattle.batch_order.proofs.Leaving.{turns_leave}
use Rattle.replay.specs.declared.fate.Fate.TheVariants as fates
use Rattle.replay.specs.declared.fate.Then.TheVariants as thens
use Rattle.replay.specs.Effects.{Effect}
use Rattle.replay.specs.Run.{Progress, carried_so_far}
use Rattle.replay.specs.Crashing.{IsAtTurn, IsTurned}
use Rattle.replay.specs.Running.{Running, IsHalfway, IsRun, course_of, first_actions, progress_of, routes_of, setting_of, there_and_back, way_after}
use Rattle.replay.specs.Unfinished.{IsUnfinished, StandsHalfway}
use Rattle.replay.proofs.making.Acting.{one, some-held}
use Rattle.replay.proofs.between.Halfway.{held-forward, held_begun}
use Rattle.replay.proofs.crash.ToTurn.{IsToStop, made-first, more-made, to-stop, turning}

-- room for both ways is room for the way back
pub turns_room : (old new : Managed) (result : Result ℕ AbortFault) → Aborts old old.held result new → (spare : ℕ) → HasRoomBothWays old.held spare → HasRoomBothWays new.held spare
turns_room old new result did = (turns_leave old new result did).both_ways

module _ (after : ℕ) (base : Running) (half : IsHalfway (turning after thens.Back base)) (is : IsRun (turning after thens.Back base)) (more : after < length half.holds.1.made) (told : base.told ≡ after) (result : Result ℕ AbortFault) (new : Managed)
    (aborts : Aborts base.manager base.manager.held result new) where
  abbrev run : Running
  run = turning after thens.Back base

  abbrev here : HeldCommit
  here = one (course_of run.fate half.begun (held_begun run half)) run.manager half.some

  abbrev state : State
  state = half.begun.state

  abbrev undo : List Write
  undo = undo_writes state (writes_in half.some.made)

  -- what it holds was planned, and isn't turned
  pub held-is : half.some.held ≡ held_begun run half
  held-is = held-forward run half refl

  way-is : here.way ≡ On undo
  way-is = ap (λ (held : HeldCommit). way_after state (writes_in half.some.made) held.way) held-is ∙ ap On (append-nil undo)

  pub turns : new ≡ record base.manager { held = Some (going_back here undo) }
  turns =
      (subst (λ (way : Way). TurnsBack base.manager here way result new) way-is
      (subst (λ prepared. TurnsPrepared base.manager here prepared result new) (ap (λ (held : HeldCommit). held.prepared) held-is)
      (subst (λ held. Aborts base.manager held result new) (some-held (course_of run.fate half.begun (held_begun run half)) run.manager half.some) aborts))).1

  abbrev pub over : Running
  over = record base { manager = new; fate = fates.Turned after thens.Back }

  abbrev pub back-at : HeldCommit → ℕ → Managed
  back-at held undone = record half.begun { state = state_after state (writes_in half.some.made); held = Some (record held { actions = map Written undo; way = Back undone; current = half.some.current }) }

  -- the actions that were made are those up to the turn
  pub first : half.some.made ≡ first_actions run half.begun half.holds.1.made after
  first = made-first base.manager.slots after thens.Back base half is (omega arith) more told

  abbrev pub half-over : IsHalfway over
  half-over = record {
    begun = half.begun;
    plain = half.plain;
    holds = half.holds;
    accepted = half.accepted;
    shows = half.shows;
    first = more;
    some = record {
      held = there_and_back after state (held_begun run half);
      made = half.some.made;
      left = map Written undo;
      current = half.some.current;
      held_is = refl;
      whole = ap (back_from state) (sym first);
      now_is = turns
          ∙ ap (λ (manager : Managed). record manager { held = Some (going_back here undo) }) half.some.now_is
          ∙ ap (λ held. back-at held (length undo)) held-is
          ∙ ap (λ front. back-at (held_begun run half) (length (undo_writes state (writes_in front)))) first;
    };
    told = half.told;
    waiting = half.waiting;
    before = tt;
    within = tt;
  }

  pub setting-over : setting_of over ≡ setting_of run
  setting-over = ap (λ (manager : Managed). setting_of (record base { manager = manager })) turns

  pub progress-over : (slots : ℕ) → progress_of slots over ≡ progress_of slots base
  progress-over slots = ap (λ (manager : Managed). progress_of slots (record base { manager = manager })) turns

  pub run-over : IsRun over
  run-over = record {
    changes = is.changes;
    asks = is.asks;
    routes = subst (λ (manager : Managed). (version : IpVersion) → run.family ≡ routes_of version → AllByRecursion (IsRoute version) manager.rules) (sym turns) is.routes;
    some_slots = subst (λ (manager : Managed). 1 ≤ manager.slots) (sym turns) is.some_slots;
    most_slots = subst (λ (manager : Managed). manager.slots ≤ most_slots) (sym turns) is.most_slots;
    size = subst (λ (manager : Managed). length manager.state.slots ≡ manager.slots) (sym turns) is.size;
    few = is.few;
    shows = λ idle. absurd (let none : Some (going_back here undo) ≡ None = sym (ap (λ (manager : Managed). manager.held) turns) ∙ idle in cc);
    halfway = λ _. inl half-over;
    idle = λ idle. absurd (let none : Some (going_back here undo) ≡ None = sym (ap (λ (manager : Managed). manager.held) turns) ∙ idle in cc);
  }

-- ---- by what a run is

module _ (after : ℕ) (base now : Running) (view_is : base ≡ now) (is : IsRun base) (at : IsAtTurn after thens.Back now) (result : Result ℕ AbortFault) (new : Managed) (aborts : Aborts base.manager base.manager.held result new) where
  at_base : IsAtTurn after thens.Back base
  at_base = subst (IsAtTurn after thens.Back) (sym view_is) at

  stop : IsToStop after thens.Back base
  stop = to-stop after thens.Back base is at_base.held at_base.fate_is at_base.more

  abbrev gone : Running
  gone = record base { manager = new; fate = fates.Turned after thens.Back }

  pub run-back : IsRun gone
  run-back = run-over after base stop.half stop.is stop.more at_base.told_is result new aborts

  pub is-back : IsTurned after thens.Back now gone
  is-back =
      let held = ap (λ (manager : Managed). manager.held) (turns after base stop.half stop.is stop.more at_base.told_is result new aborts) in
      (new, subst (λ (one : Option HeldCommit). IsSome one) (sym held) refl, ap (λ (r : Running). record r { manager = new; fate = fates.Turned after thens.Back }) view_is)

  pub setting-back : setting_of gone ≡ setting_of now
  setting-back = setting-over after base stop.half stop.is stop.more at_base.told_is result new aborts ∙ ap setting_of view_is

  pub progress-back : (slots : ℕ) → progress_of slots gone ≡ progress_of slots now
  progress-back slots = progress-over after base stop.half stop.is stop.more at_base.told_is result new aborts slots ∙ ap (progress_of slots) view_is

  -- its commit stays unfinished
  pub unfinished-back : (slots : ℕ) (before : Progress) (front : List Effect) → IsUnfinished slots before front now → IsUnfinished slots before front gone
  unfinished-back slots before front unfinished = go (subst (IsUnfinished slots before front) (sym view_is) unfinished)
    where
      go : IsUnfinished slots before front base → IsUnfinished slots before front gone
      go (inl stands) =
          let first : StandsHalfway slots before front (turning after thens.Back base) = subst (StandsHalfway slots before front) stop.same stands in
          let half = first.halfway in
          let more = more-made after thens.Back base half at_base.more in
          inl (record {
            halfway = half-over after base half stop.is more at_base.told_is result new aborts;
            before_is = first.before_is;
            front_is = first.front_is ∙ ap (λ setting. carried_so_far setting before half.some.made) (sym (setting-over after base half stop.is more at_base.told_is result new aborts));
          })
      go (inr stands) = absurd (let bad : fates.Turns after thens.Back ≡ fates.Turned stands.onward.after thens.Restart = sym at_base.fate_is ∙ stands.onward.fate_is in cc)
