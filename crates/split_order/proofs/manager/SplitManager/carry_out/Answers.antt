use Rattle.std.proofs.Common.{◌≡◌, ◌+◌, ◌-◌, ◌≤◌, ◌++◌, ◌∷◌, [], ℕ, List, length, refl, sym, ap, ap₂, subst, ◌∙◌, arith}
use Rattle.commit_writes.specs.InFlight.{AreCurrent}
use Rattle.batch_order.specs.CarriedOut.{ahead}
use Rattle.batch_order.specs.Managed.{live_now}
use Rattle.split_device.specs.declared.SplitAction.{SplitAction}
use Rattle.split_device.specs.declared.SplitAction.TheVariants.{Written, Drained}
use Rattle.split_device.specs.Flight.{Flight, flight_count}
use Rattle.split_order.specs.declared.SplitStep.{SplitStep}
use Rattle.split_order.specs.declared.SplitStep.TheVariants as step
use Rattle.split_order.specs.declared.SplitUnfinished.{SplitUnfinished}
use Rattle.split_order.specs.declared.SplitUnfinished.TheVariants as unfinished
use Rattle.split_order.specs.CarriedOut.{AreServed, HasMade, IsDrainNext, SplitStopsBy}
use Rattle.split_order.specs.Left.{left_of, left_of_held, since_of, state_on}
use Rattle.split_order.specs.Managed.{SplitManaged, no_counts}
use Rattle.split_order.specs.Steps.{Advances, IsPartNext, SplitSteps, made_by}
use Rattle.split_order.proofs.Carrying.{drained_is, finished_is, goes_drained, goes_failed, goes_start, goes_wrote, has_finished, idle_is, made_and_left, nearer, nearer_drained, no_tries, not_drain, rests_is, same_slots, served_on, still_led, still_logged, tried_all, tried_stuck, waiting_is, wrote_is}
use Rattle.split_order.proofs.Live.{step_current}
use Rattle.split_order.proofs.Stepped.{advances_slots}
use Rattle.split_order.proofs.manager.SplitManager.carry_out.Goals as goal

pub carrying-init : goal.carrying-init
carrying-init g c = record {
  goes = goes_start (g.D.SplitDevice.slot_count c.args.device.now) c.args.self.now (g.D.SplitDevice.events c.args.device.now) c.args.tries (g.D.SplitDevice.faults c.args.device.now);
  slot_count = refl;
  flight = refl;
  wide = c.requires.slots;
  spare = refl;
  room = c.requires.room;
  current = λ was. was;
  below = c.requires.tries;
  due = λ some. absurd (omega arith);
}

pub carrying-preserved-in-Ok-Wrote : goal.carrying-preserved-in-Ok-Wrote
carrying-preserved-in-Ok-Wrote g c =
    let made = c.in-Ok-Wrote.ensures in
    let inv = c.carrying.invariant in
    let m : SplitManaged = c.carrying.self in
    let new : SplitManaged = c.step.new.self in
    let old : SplitManaged = c.args.self.now in
    let count = g.D.SplitDevice.slot_count c.carrying.device in
    let slots = g.D.SplitDevice.slot_count c.args.device.now in
    let flying = flight_count (g.D.SplitDevice.flight c.carrying.device) in
    let part = c.in-Ok-Wrote.field-0-0 in
    let steps : SplitSteps count m flying (left_of count m) (step.Wrote part) new = subst (λ (s : SplitStep). SplitSteps count m flying (left_of count m) s new) c.in-Ok-Wrote.field-0-is made.stepped in
    let did : Advances count (Written part) m new = wrote_is count m new flying (left_of count m) part steps in
    let here : Advances slots (Written part) m new = subst (λ n. Advances n (Written part) m new) inv.slot_count did in
    let logged : g.D.SplitDevice.events c.step.new.device ≡ g.D.SplitDevice.events c.carrying.device ++ Written part ∷ [] =
    made.events ∙ ap (λ (s : SplitStep). g.D.SplitDevice.events c.carrying.device ++ made_by s) c.in-Ok-Wrote.field-0-is in
    let faults : g.D.SplitDevice.faults c.step.new.device ≡ g.D.SplitDevice.faults c.carrying.device = made.cause.stayed in
    let goes = goes_wrote slots old m new part _ _ (g.D.SplitDevice.events c.step.new.device) c.args.tries c.carrying.failures _ _ inv.goes here logged inv.below in
    record {
      goes = rw faults goes;
      slot_count = made.slot_count ∙ inv.slot_count;
      flight = made.flight ∙ inv.flight;
      wide = rw (advances_slots count (Written part) m new did, made.slot_count) inv.wide;
      spare = made.spare ∙ inv.spare;
      room = made.room;
      current = λ was.
          subst (λ (flight : Flight). AreCurrent (live_now new.whole) flight.words) (sym made.flight)
          (step_current count m (g.D.SplitDevice.flight c.carrying.device) (left_of count m) c.in-Ok-Wrote.field-0 new made.current made.stepped (inv.current was));
      below = c.requires.tries;
      due = λ some. absurd (omega arith);
    }

pub carrying-preserved-in-Ok-Drained : goal.carrying-preserved-in-Ok-Drained
carrying-preserved-in-Ok-Drained g c =
    let made = c.in-Ok-Drained.ensures in
    let inv = c.carrying.invariant in
    let m : SplitManaged = c.carrying.self in
    let new : SplitManaged = c.step.new.self in
    let old : SplitManaged = c.args.self.now in
    let count = g.D.SplitDevice.slot_count c.carrying.device in
    let slots = g.D.SplitDevice.slot_count c.args.device.now in
    let flying = flight_count (g.D.SplitDevice.flight c.carrying.device) in
    let steps : SplitSteps count m flying (left_of count m) (step.Drained) new = subst (λ (s : SplitStep). SplitSteps count m flying (left_of count m) s new) c.in-Ok-Drained.field-0-is made.stepped in
    let did : Advances count Drained m new = drained_is count m new flying (left_of count m) steps in
    let here : Advances slots Drained m new = subst (λ n. Advances n Drained m new) inv.slot_count did in
    let logged : g.D.SplitDevice.events c.step.new.device ≡ g.D.SplitDevice.events c.carrying.device ++ Drained ∷ [] =
    made.events ∙ ap (λ (s : SplitStep). g.D.SplitDevice.events c.carrying.device ++ made_by s) c.in-Ok-Drained.field-0-is in
    let faults : g.D.SplitDevice.faults c.step.new.device ≡ g.D.SplitDevice.faults c.carrying.device = made.cause.stayed in
    let goes = goes_drained slots old m new _ _ (g.D.SplitDevice.events c.step.new.device) c.args.tries c.carrying.failures _ _ inv.goes here logged in
    record {
      goes = rw faults goes;
      slot_count = made.slot_count ∙ inv.slot_count;
      flight = made.flight ∙ inv.flight;
      wide = rw (advances_slots count Drained m new did, made.slot_count) inv.wide;
      spare = made.spare ∙ inv.spare;
      room = made.room;
      current = λ was.
          subst (λ (flight : Flight). AreCurrent (live_now new.whole) flight.words) (sym made.flight)
          (step_current count m (g.D.SplitDevice.flight c.carrying.device) (left_of count m) c.in-Ok-Drained.field-0 new made.current made.stepped (inv.current was));
      below = inv.below;
      due = λ some. absurd (let part : IsPartNext (left_of count m) = inv.due some in subst IsPartNext did.left_is part);
    }

pub carrying-smaller-in-Ok-Wrote : goal.carrying-smaller-in-Ok-Wrote
carrying-smaller-in-Ok-Wrote g c =
    let made = c.in-Ok-Wrote.ensures in
    let inv = c.carrying.invariant in
    let m : SplitManaged = c.carrying.self in
    let new : SplitManaged = c.step.new.self in
    let old : SplitManaged = c.args.self.now in
    let count = g.D.SplitDevice.slot_count c.carrying.device in
    let slots = g.D.SplitDevice.slot_count c.args.device.now in
    let flying = flight_count (g.D.SplitDevice.flight c.carrying.device) in
    let part = c.in-Ok-Wrote.field-0-0 in
    let steps : SplitSteps count m flying (left_of count m) (step.Wrote part) new = subst (λ (s : SplitStep). SplitSteps count m flying (left_of count m) s new) c.in-Ok-Wrote.field-0-is made.stepped in
    let did : Advances count (Written part) m new = wrote_is count m new flying (left_of count m) part steps in
    rw made.slot_count (nearer (length (left_of count m)) (length (left_of count new)) c.args.tries c.carrying.failures (ap length did.left_is) inv.below)

pub carrying-smaller-in-Ok-Drained : goal.carrying-smaller-in-Ok-Drained
carrying-smaller-in-Ok-Drained g c =
    let made = c.in-Ok-Drained.ensures in
    let m : SplitManaged = c.carrying.self in
    let new : SplitManaged = c.step.new.self in
    let count = g.D.SplitDevice.slot_count c.carrying.device in
    let flying = flight_count (g.D.SplitDevice.flight c.carrying.device) in
    let steps : SplitSteps count m flying (left_of count m) (step.Drained) new = subst (λ (s : SplitStep). SplitSteps count m flying (left_of count m) s new) c.in-Ok-Drained.field-0-is made.stepped in
    let did : Advances count Drained m new = drained_is count m new flying (left_of count m) steps in
    rw made.slot_count (nearer_drained (length (left_of count m)) (length (left_of count new)) c.args.tries (c.args.tries - c.carrying.failures) (ap length did.left_is) c.requires.tries)

pub returns-in-Ok-Finished-clause-finished : goal.returns-in-Ok-Finished-clause-finished
returns-in-Ok-Finished-clause-finished g c =
    let made = c.in-Ok-Finished.ensures in
    let inv = c.carrying.invariant in
    let m : SplitManaged = c.carrying.self in
    let new : SplitManaged = c.step.new.self in
    let old : SplitManaged = c.args.self.now in
    let count = g.D.SplitDevice.slot_count c.carrying.device in
    let slots = g.D.SplitDevice.slot_count c.args.device.now in
    let flying = flight_count (g.D.SplitDevice.flight c.carrying.device) in
    let done = c.in-Ok-Finished.done in
    let steps : SplitSteps count m flying (left_of count m) (step.Finished done) new = subst (λ (s : SplitStep). SplitSteps count m flying (left_of count m) s new) c.in-Ok-Finished.field-0-is made.stepped in
    let is = finished_is count m new flying (left_of count m) done steps in
    let nothing : left_of slots m ≡ [] = subst (λ n. left_of n m ≡ []) inv.slot_count is.0 in
    has_finished slots old m new inv.goes.made done inv.goes.has_made nothing is.1 is.2

pub returns-in-Ok-Idle-clause-finished : goal.returns-in-Ok-Idle-clause-finished
returns-in-Ok-Idle-clause-finished g c =
    let made = c.in-Ok-Idle.ensures in
    let inv = c.carrying.invariant in
    let m : SplitManaged = c.carrying.self in
    let new : SplitManaged = c.step.new.self in
    let old : SplitManaged = c.args.self.now in
    let count = g.D.SplitDevice.slot_count c.carrying.device in
    let slots = g.D.SplitDevice.slot_count c.args.device.now in
    let flying = flight_count (g.D.SplitDevice.flight c.carrying.device) in
    let steps : SplitSteps count m flying (left_of count m) (step.Idle) new = subst (λ (s : SplitStep). SplitSteps count m flying (left_of count m) s new) c.in-Ok-Idle.field-0-is made.stepped in
    let is = idle_is count m new flying (left_of count m) steps in
    let ends = rests_is m new is.0 is.1 c.serving-in-Ok-Idle.ensures.rest in
    let nothing : left_of slots m ≡ [] = ap (left_of_held (state_on slots m) (since_of m) m.whole.state m.made) is.0 in
    has_finished slots old m new inv.goes.made no_counts inv.goes.has_made nothing ends.0 ends.1

pub returns-in-Ok-Waiting-clause-stopped : goal.returns-in-Ok-Waiting-clause-stopped
returns-in-Ok-Waiting-clause-stopped g c =
    let made = c.in-Ok-Waiting.ensures in
    let inv = c.carrying.invariant in
    let m : SplitManaged = c.carrying.self in
    let new : SplitManaged = c.step.new.self in
    let old : SplitManaged = c.args.self.now in
    let count = g.D.SplitDevice.slot_count c.carrying.device in
    let slots = g.D.SplitDevice.slot_count c.args.device.now in
    let flying = flight_count (g.D.SplitDevice.flight c.carrying.device) in
    let waits : ℕ = c.in-Ok-Waiting.flying in
    let steps : SplitSteps count m flying (left_of count m) (step.Waiting waits) new = subst (λ (s : SplitStep). SplitSteps count m flying (left_of count m) s new) c.in-Ok-Waiting.field-0-is made.stepped in
    let is = waiting_is count m new flying (left_of count m) waits steps in
    let wide : new.whole.slots ≤ count = subst (λ (s : SplitManaged). s.whole.slots ≤ count) (sym is.3) inv.wide in
    let drain : IsDrainNext (left_of count new) = subst (λ (s : SplitManaged). IsDrainNext (left_of count s)) (sym is.3) is.0 in
    let halt : SplitUnfinished = unfinished.Waiting waits c.parts_left-left.result in
    let why : SplitStopsBy (left_of count new) flying halt = (drain, is.1, is.2, c.parts_left-left.ensures count wide) in
    record {
      made = inv.goes.made;
      has_made = subst (λ (s : SplitManaged). HasMade slots inv.goes.made old s) (sym is.3) inv.goes.has_made;
      why = subst (λ n. SplitStopsBy (left_of n new) (flight_count (g.D.SplitDevice.flight c.args.device.now)) halt) inv.slot_count
          (subst (λ (flight : Flight). SplitStopsBy (left_of count new) (flight_count flight) halt) inv.flight why);
    }

pub returns-in-Ok-Finished-clause-events : goal.returns-in-Ok-Finished-clause-events
returns-in-Ok-Finished-clause-events g c =
    let made = c.in-Ok-Finished.ensures in
    let inv = c.carrying.invariant in
    let m : SplitManaged = c.carrying.self in
    let new : SplitManaged = c.step.new.self in
    let old : SplitManaged = c.args.self.now in
    let count = g.D.SplitDevice.slot_count c.carrying.device in
    let slots = g.D.SplitDevice.slot_count c.args.device.now in
    let flying = flight_count (g.D.SplitDevice.flight c.carrying.device) in
    let done = c.in-Ok-Finished.done in
    let steps : SplitSteps count m flying (left_of count m) (step.Finished done) new = subst (λ (s : SplitStep). SplitSteps count m flying (left_of count m) s new) c.in-Ok-Finished.field-0-is made.stepped in
    let is = finished_is count m new flying (left_of count m) done steps in
    let nothing : left_of slots m ≡ [] = subst (λ n. left_of n m ≡ []) inv.slot_count is.0 in
    let logged : g.D.SplitDevice.events c.step.new.device ≡ g.D.SplitDevice.events c.carrying.device = still_logged _ _ _ made.events (ap made_by c.in-Ok-Finished.field-0-is) in
    let same : left_of (g.D.SplitDevice.slot_count c.step.new.device) new ≡ left_of slots m = ap (left_of (g.D.SplitDevice.slot_count c.step.new.device)) is.2 ∙ sym nothing in
    ap₂ (λ (events left : List SplitAction). events ++ left) logged same ∙ made_and_left slots old m _ _ _ _ _ _ inv.goes

pub returns-in-Ok-Idle-clause-events : goal.returns-in-Ok-Idle-clause-events
returns-in-Ok-Idle-clause-events g c =
    let made = c.in-Ok-Idle.ensures in
    let inv = c.carrying.invariant in
    let m : SplitManaged = c.carrying.self in
    let new : SplitManaged = c.step.new.self in
    let old : SplitManaged = c.args.self.now in
    let count = g.D.SplitDevice.slot_count c.carrying.device in
    let slots = g.D.SplitDevice.slot_count c.args.device.now in
    let flying = flight_count (g.D.SplitDevice.flight c.carrying.device) in
    let steps : SplitSteps count m flying (left_of count m) (step.Idle) new = subst (λ (s : SplitStep). SplitSteps count m flying (left_of count m) s new) c.in-Ok-Idle.field-0-is made.stepped in
    let is = idle_is count m new flying (left_of count m) steps in
    let logged : g.D.SplitDevice.events c.step.new.device ≡ g.D.SplitDevice.events c.carrying.device = still_logged _ _ _ made.events (ap made_by c.in-Ok-Idle.field-0-is) in
    let same : left_of (g.D.SplitDevice.slot_count c.step.new.device) new ≡ left_of slots m =
    ap (left_of (g.D.SplitDevice.slot_count c.step.new.device)) is.1 ∙ ap (λ n. left_of n m) (made.slot_count ∙ inv.slot_count) in
    ap₂ (λ (events left : List SplitAction). events ++ left) logged same ∙ made_and_left slots old m _ _ _ _ _ _ inv.goes

pub returns-in-Ok-Waiting-clause-events : goal.returns-in-Ok-Waiting-clause-events
returns-in-Ok-Waiting-clause-events g c =
    let made = c.in-Ok-Waiting.ensures in
    let inv = c.carrying.invariant in
    let m : SplitManaged = c.carrying.self in
    let new : SplitManaged = c.step.new.self in
    let old : SplitManaged = c.args.self.now in
    let count = g.D.SplitDevice.slot_count c.carrying.device in
    let slots = g.D.SplitDevice.slot_count c.args.device.now in
    let flying = flight_count (g.D.SplitDevice.flight c.carrying.device) in
    let waits : ℕ = c.in-Ok-Waiting.flying in
    let steps : SplitSteps count m flying (left_of count m) (step.Waiting waits) new = subst (λ (s : SplitStep). SplitSteps count m flying (left_of count m) s new) c.in-Ok-Waiting.field-0-is made.stepped in
    let is = waiting_is count m new flying (left_of count m) waits steps in
    let logged : g.D.SplitDevice.events c.step.new.device ≡ g.D.SplitDevice.events c.carrying.device = still_logged _ _ _ made.events (ap made_by c.in-Ok-Waiting.field-0-is) in
    let same : left_of (g.D.SplitDevice.slot_count c.step.new.device) new ≡ left_of slots m =
    ap (left_of (g.D.SplitDevice.slot_count c.step.new.device)) is.3 ∙ ap (λ n. left_of n m) (made.slot_count ∙ inv.slot_count) in
    ap₂ (λ (events left : List SplitAction). events ++ left) logged same ∙ made_and_left slots old m _ _ _ _ _ _ inv.goes

pub returns-in-Ok-Finished-clause-slots : goal.returns-in-Ok-Finished-clause-slots
returns-in-Ok-Finished-clause-slots g c =
    let made = c.in-Ok-Finished.ensures in
    let inv = c.carrying.invariant in
    let m : SplitManaged = c.carrying.self in
    let new : SplitManaged = c.step.new.self in
    let old : SplitManaged = c.args.self.now in
    let count = g.D.SplitDevice.slot_count c.carrying.device in
    let slots = g.D.SplitDevice.slot_count c.args.device.now in
    let flying = flight_count (g.D.SplitDevice.flight c.carrying.device) in
    let done = c.in-Ok-Finished.done in
    let steps : SplitSteps count m flying (left_of count m) (step.Finished done) new = subst (λ (s : SplitStep). SplitSteps count m flying (left_of count m) s new) c.in-Ok-Finished.field-0-is made.stepped in
    let is = finished_is count m new flying (left_of count m) done steps in
    let nothing : left_of slots m ≡ [] = subst (λ n. left_of n m ≡ []) inv.slot_count is.0 in
    ap (λ (s : SplitManaged). s.whole.slots) is.2 ∙ same_slots slots inv.goes.made old m inv.goes.has_made

pub returns-in-Ok-Idle-clause-slots : goal.returns-in-Ok-Idle-clause-slots
returns-in-Ok-Idle-clause-slots g c =
    let made = c.in-Ok-Idle.ensures in
    let inv = c.carrying.invariant in
    let m : SplitManaged = c.carrying.self in
    let new : SplitManaged = c.step.new.self in
    let old : SplitManaged = c.args.self.now in
    let count = g.D.SplitDevice.slot_count c.carrying.device in
    let slots = g.D.SplitDevice.slot_count c.args.device.now in
    let flying = flight_count (g.D.SplitDevice.flight c.carrying.device) in
    let steps : SplitSteps count m flying (left_of count m) (step.Idle) new = subst (λ (s : SplitStep). SplitSteps count m flying (left_of count m) s new) c.in-Ok-Idle.field-0-is made.stepped in
    let is = idle_is count m new flying (left_of count m) steps in
    ap (λ (s : SplitManaged). s.whole.slots) is.1 ∙ same_slots slots inv.goes.made old m inv.goes.has_made

pub returns-in-Ok-Waiting-clause-slots : goal.returns-in-Ok-Waiting-clause-slots
returns-in-Ok-Waiting-clause-slots g c =
    let made = c.in-Ok-Waiting.ensures in
    let inv = c.carrying.invariant in
    let m : SplitManaged = c.carrying.self in
    let new : SplitManaged = c.step.new.self in
    let old : SplitManaged = c.args.self.now in
    let count = g.D.SplitDevice.slot_count c.carrying.device in
    let slots = g.D.SplitDevice.slot_count c.args.device.now in
    let flying = flight_count (g.D.SplitDevice.flight c.carrying.device) in
    let waits : ℕ = c.in-Ok-Waiting.flying in
    let steps : SplitSteps count m flying (left_of count m) (step.Waiting waits) new = subst (λ (s : SplitStep). SplitSteps count m flying (left_of count m) s new) c.in-Ok-Waiting.field-0-is made.stepped in
    let is = waiting_is count m new flying (left_of count m) waits steps in
    ap (λ (s : SplitManaged). s.whole.slots) is.3 ∙ same_slots slots inv.goes.made old m inv.goes.has_made

pub returns-in-Ok-Finished-clause-tried : goal.returns-in-Ok-Finished-clause-tried
returns-in-Ok-Finished-clause-tried g c =
    let made = c.in-Ok-Finished.ensures in
    let inv = c.carrying.invariant in
    let m : SplitManaged = c.carrying.self in
    let new : SplitManaged = c.step.new.self in
    let old : SplitManaged = c.args.self.now in
    let count = g.D.SplitDevice.slot_count c.carrying.device in
    let slots = g.D.SplitDevice.slot_count c.args.device.now in
    let flying = flight_count (g.D.SplitDevice.flight c.carrying.device) in
    let done = c.in-Ok-Finished.done in
    let steps : SplitSteps count m flying (left_of count m) (step.Finished done) new = subst (λ (s : SplitStep). SplitSteps count m flying (left_of count m) s new) c.in-Ok-Finished.field-0-is made.stepped in
    let is = finished_is count m new flying (left_of count m) done steps in
    let nothing : left_of slots m ≡ [] = subst (λ n. left_of n m ≡ []) inv.slot_count is.0 in
    let logged : g.D.SplitDevice.events c.step.new.device ≡ g.D.SplitDevice.events c.carrying.device = still_logged _ _ _ made.events (ap made_by c.in-Ok-Finished.field-0-is) in
    let tries : c.carrying.failures ≡ 0 = no_tries c.carrying.failures (left_of count m) inv.due (λ part. subst IsPartNext is.0 part) in
    let faults : g.D.SplitDevice.faults c.step.new.device ≡ g.D.SplitDevice.faults c.carrying.device = made.cause.stayed in
    rw faults (tried_all slots old m _ _ _ c.args.tries c.carrying.failures _ _ _ inv.goes tries logged (λ stuck. stuck))

pub returns-in-Ok-Idle-clause-tried : goal.returns-in-Ok-Idle-clause-tried
returns-in-Ok-Idle-clause-tried g c =
    let made = c.in-Ok-Idle.ensures in
    let inv = c.carrying.invariant in
    let m : SplitManaged = c.carrying.self in
    let new : SplitManaged = c.step.new.self in
    let old : SplitManaged = c.args.self.now in
    let count = g.D.SplitDevice.slot_count c.carrying.device in
    let slots = g.D.SplitDevice.slot_count c.args.device.now in
    let flying = flight_count (g.D.SplitDevice.flight c.carrying.device) in
    let steps : SplitSteps count m flying (left_of count m) (step.Idle) new = subst (λ (s : SplitStep). SplitSteps count m flying (left_of count m) s new) c.in-Ok-Idle.field-0-is made.stepped in
    let is = idle_is count m new flying (left_of count m) steps in
    let logged : g.D.SplitDevice.events c.step.new.device ≡ g.D.SplitDevice.events c.carrying.device = still_logged _ _ _ made.events (ap made_by c.in-Ok-Idle.field-0-is) in
    let nothing : left_of count m ≡ [] = ap (left_of_held (state_on count m) (since_of m) m.whole.state m.made) is.0 in
    let tries : c.carrying.failures ≡ 0 = no_tries c.carrying.failures (left_of count m) inv.due (λ part. subst IsPartNext nothing part) in
    let faults : g.D.SplitDevice.faults c.step.new.device ≡ g.D.SplitDevice.faults c.carrying.device = made.cause.stayed in
    rw faults (tried_all slots old m _ _ _ c.args.tries c.carrying.failures _ _ _ inv.goes tries logged (λ stuck. stuck))

pub returns-in-Ok-Waiting-clause-tried : goal.returns-in-Ok-Waiting-clause-tried
returns-in-Ok-Waiting-clause-tried g c =
    let made = c.in-Ok-Waiting.ensures in
    let inv = c.carrying.invariant in
    let m : SplitManaged = c.carrying.self in
    let new : SplitManaged = c.step.new.self in
    let old : SplitManaged = c.args.self.now in
    let count = g.D.SplitDevice.slot_count c.carrying.device in
    let slots = g.D.SplitDevice.slot_count c.args.device.now in
    let flying = flight_count (g.D.SplitDevice.flight c.carrying.device) in
    let waits : ℕ = c.in-Ok-Waiting.flying in
    let steps : SplitSteps count m flying (left_of count m) (step.Waiting waits) new = subst (λ (s : SplitStep). SplitSteps count m flying (left_of count m) s new) c.in-Ok-Waiting.field-0-is made.stepped in
    let is = waiting_is count m new flying (left_of count m) waits steps in
    let logged : g.D.SplitDevice.events c.step.new.device ≡ g.D.SplitDevice.events c.carrying.device = still_logged _ _ _ made.events (ap made_by c.in-Ok-Waiting.field-0-is) in
    let tries : c.carrying.failures ≡ 0 = no_tries c.carrying.failures (left_of count m) inv.due (not_drain (left_of count m) is.0) in
    let faults : g.D.SplitDevice.faults c.step.new.device ≡ g.D.SplitDevice.faults c.carrying.device = made.cause.stayed in
    rw faults (tried_all slots old m _ _ _ c.args.tries c.carrying.failures _ _ _ inv.goes tries logged (λ stuck. stuck))

pub returns-in-Ok-Finished-clause-current : goal.returns-in-Ok-Finished-clause-current
returns-in-Ok-Finished-clause-current g c was =
    let made = c.in-Ok-Finished.ensures in
    let inv = c.carrying.invariant in
    let m : SplitManaged = c.carrying.self in
    let new : SplitManaged = c.step.new.self in
    let count = g.D.SplitDevice.slot_count c.carrying.device in
    subst (λ (flight : Flight). AreCurrent (live_now new.whole) flight.words) (sym made.flight)
    (step_current count m (g.D.SplitDevice.flight c.carrying.device) (left_of count m) c.in-Ok-Finished.field-0 new made.current made.stepped (inv.current was))

pub returns-in-Ok-Idle-clause-current : goal.returns-in-Ok-Idle-clause-current
returns-in-Ok-Idle-clause-current g c was =
    let made = c.in-Ok-Idle.ensures in
    let inv = c.carrying.invariant in
    let m : SplitManaged = c.carrying.self in
    let new : SplitManaged = c.step.new.self in
    let count = g.D.SplitDevice.slot_count c.carrying.device in
    subst (λ (flight : Flight). AreCurrent (live_now new.whole) flight.words) (sym made.flight)
    (step_current count m (g.D.SplitDevice.flight c.carrying.device) (left_of count m) c.in-Ok-Idle.field-0 new made.current made.stepped (inv.current was))

pub returns-in-Ok-Waiting-clause-current : goal.returns-in-Ok-Waiting-clause-current
returns-in-Ok-Waiting-clause-current g c was =
    let made = c.in-Ok-Waiting.ensures in
    let inv = c.carrying.invariant in
    let m : SplitManaged = c.carrying.self in
    let new : SplitManaged = c.step.new.self in
    let count = g.D.SplitDevice.slot_count c.carrying.device in
    subst (λ (flight : Flight). AreCurrent (live_now new.whole) flight.words) (sym made.flight)
    (step_current count m (g.D.SplitDevice.flight c.carrying.device) (left_of count m) c.in-Ok-Waiting.field-0 new made.current made.stepped (inv.current was))

pub returns-in-Ok-Finished-clause-led : goal.returns-in-Ok-Finished-clause-led
returns-in-Ok-Finished-clause-led g c on = c.in-Ok-Finished.ensures.led (still_led (g.D.SplitDevice.slot_count c.args.device.now) c.args.self.now c.carrying.self _ _ _ _ _ _ c.carrying.invariant.goes on)

pub returns-in-Ok-Idle-clause-led : goal.returns-in-Ok-Idle-clause-led
returns-in-Ok-Idle-clause-led g c on = c.in-Ok-Idle.ensures.led (still_led (g.D.SplitDevice.slot_count c.args.device.now) c.args.self.now c.carrying.self _ _ _ _ _ _ c.carrying.invariant.goes on)

pub returns-in-Ok-Waiting-clause-led : goal.returns-in-Ok-Waiting-clause-led
returns-in-Ok-Waiting-clause-led g c on = c.in-Ok-Waiting.ensures.led (still_led (g.D.SplitDevice.slot_count c.args.device.now) c.args.self.now c.carrying.self _ _ _ _ _ _ c.carrying.invariant.goes on)

pub returns-in-Ok-Finished-clause-hitless : goal.returns-in-Ok-Finished-clause-hitless
returns-in-Ok-Finished-clause-hitless g c on =
    let made = c.in-Ok-Finished.ensures in
    let inv = c.carrying.invariant in
    let old : SplitManaged = c.args.self.now in
    let slots = g.D.SplitDevice.slot_count c.args.device.now in
    let logged : g.D.SplitDevice.events c.step.new.device ≡ g.D.SplitDevice.events c.carrying.device = still_logged _ _ _ made.events (ap made_by c.in-Ok-Finished.field-0-is) in
    subst (λ n. AreServed n (g.D.SplitDevice.events c.args.device.now) (g.D.SplitDevice.events c.step.new.device) old.whole.rules (ahead old.whole)) (sym (made.slot_count ∙ inv.slot_count))
    (served_on slots old _ _ inv.goes.made (left_of slots c.carrying.self) on (logged ∙ inv.goes.events_are) inv.goes.has_made.left_is (c.serving.ensures.way slots c.requires.slots))

pub returns-in-Ok-Idle-clause-hitless : goal.returns-in-Ok-Idle-clause-hitless
returns-in-Ok-Idle-clause-hitless g c on =
    let made = c.in-Ok-Idle.ensures in
    let inv = c.carrying.invariant in
    let old : SplitManaged = c.args.self.now in
    let slots = g.D.SplitDevice.slot_count c.args.device.now in
    let logged : g.D.SplitDevice.events c.step.new.device ≡ g.D.SplitDevice.events c.carrying.device = still_logged _ _ _ made.events (ap made_by c.in-Ok-Idle.field-0-is) in
    subst (λ n. AreServed n (g.D.SplitDevice.events c.args.device.now) (g.D.SplitDevice.events c.step.new.device) old.whole.rules (ahead old.whole)) (sym (made.slot_count ∙ inv.slot_count))
    (served_on slots old _ _ inv.goes.made (left_of slots c.carrying.self) on (logged ∙ inv.goes.events_are) inv.goes.has_made.left_is (c.serving.ensures.way slots c.requires.slots))

pub returns-in-Ok-Waiting-clause-hitless : goal.returns-in-Ok-Waiting-clause-hitless
returns-in-Ok-Waiting-clause-hitless g c on =
    let made = c.in-Ok-Waiting.ensures in
    let inv = c.carrying.invariant in
    let old : SplitManaged = c.args.self.now in
    let slots = g.D.SplitDevice.slot_count c.args.device.now in
    let logged : g.D.SplitDevice.events c.step.new.device ≡ g.D.SplitDevice.events c.carrying.device = still_logged _ _ _ made.events (ap made_by c.in-Ok-Waiting.field-0-is) in
    subst (λ n. AreServed n (g.D.SplitDevice.events c.args.device.now) (g.D.SplitDevice.events c.step.new.device) old.whole.rules (ahead old.whole)) (sym (made.slot_count ∙ inv.slot_count))
    (served_on slots old _ _ inv.goes.made (left_of slots c.carrying.self) on (logged ∙ inv.goes.events_are) inv.goes.has_made.left_is (c.serving.ensures.way slots c.requires.slots))

pub returns-then-failures-tries-clause-tried : goal.returns-then-failures-tries-clause-tried
returns-then-failures-tries-clause-tried g c =
    let failed = c.in-Err.ensures in
    let m : SplitManaged = c.carrying.self in
    let old : SplitManaged = c.args.self.now in
    let slots = g.D.SplitDevice.slot_count c.args.device.now in
    let goes = goes_failed slots old m _ _ (g.D.SplitDevice.events c.step.new.device) c.args.tries c.carrying.failures _ _ (g.D.SplitDevice.faults c.step.new.device) c.carrying.invariant.goes
    failed.events_err failed.cause.later failed.cause.once failed.cause.failed in
    tried_stuck slots old m _ _ (g.D.SplitDevice.events c.step.new.device) c.args.tries (c.carrying.failures + 1) _ _ (Unit {0}) goes c.if-failures-tries.true refl tt

pub returns-then-failures-tries-clause-hitless : goal.returns-then-failures-tries-clause-hitless
returns-then-failures-tries-clause-hitless g c on =
    let failed = c.in-Err.ensures in
    let inv = c.carrying.invariant in
    let old : SplitManaged = c.args.self.now in
    let slots = g.D.SplitDevice.slot_count c.args.device.now in
    subst (λ n. AreServed n (g.D.SplitDevice.events c.args.device.now) (g.D.SplitDevice.events c.step.new.device) old.whole.rules (ahead old.whole)) (sym (failed.slot_count ∙ inv.slot_count))
    (served_on slots old _ _ inv.goes.made (left_of slots c.carrying.self) on (failed.events_err ∙ inv.goes.events_are) inv.goes.has_made.left_is (c.serving.ensures.way slots c.requires.slots))
