-- The loop goes on as `SplitManager::carry_out` does, counts the parts and the drains, and tells of each.
use Rattle.std.proofs.Common.{◌≡◌, ℕ, ◌+◌, ◌-◌, ◌≤◌, ◌++◌, ◌∷◌, [], Bool, length, refl, ap, subst, ◌∙◌, append-nil, arith}
use Rattle.script_lines.specs.Given.{counted}
use Rattle.split_device.specs.declared.SplitAction.TheVariants.{Written, Drained}
use Rattle.split_device.specs.Flight.{flight_count, written}
use Rattle.split_order.specs.declared.SplitStep.{SplitStep}
use Rattle.split_order.specs.declared.SplitStep.TheVariants as step
use Rattle.split_order.specs.Left.{left_of, left_of_held, since_of, state_on}
use Rattle.split_order.specs.Managed.{SplitManaged}
use Rattle.split_order.specs.Steps.{Advances, IsPartNext, SplitSteps, made_by}
use Rattle.split_order.proofs.Carrying.{Goes, drained_is, finished_is, goes_drained, goes_failed, goes_start, goes_wrote, idle_is, nearer, nearer_drained, no_tries, rests_is, wrote_is}
use Rattle.split_order.proofs.Stepped.{advances_slots}
use Rattle.router.specs.Run.{drains_in}
use Rattle.router.proofs.Counting.{all_carried, count_drained, count_wrote, drain_fits, is_cut, leaves_carried, leaves_stuck, part_fits, parts_drained, parts_wrote}
use Rattle.router.proofs.Parts.{counted_one, counted_still}
use Rattle.router.proofs.Telling.{all_told, tells_more, tells_same, tells_start, told_but_one}
use Rattle.router.proofs.carrying.carry.Goals as goal

pub carrying-init : goal.carrying-init
carrying-init g c = record {
  goes = goes_start (g.D.SplitDevice.slot_count c.args.device.now) c.args.manager.now (g.D.SplitDevice.events c.args.device.now) 4 (g.D.SplitDevice.faults c.args.device.now);
  slot_count = refl;
  flight = refl;
  empty = c.requires.none_in_flight;
  wide = c.requires.slots;
  room = c.requires.room;
  count = omega arith;
  few = c.requires.few;
  number = omega arith;
  few_parts = c.requires.few_parts;
  below = omega arith;
  due = λ some. absurd (omega arith);
  tells = tells_start c.args.telling.now.trace c.args.telling.now.version c.args.telling.now.side (g.D.SplitDevice.events c.args.device.now)
      (λ (one : Bool). counted one (g.K.Sink.taken c.args.sink.now) (g.K.Sink.accepted c.args.sink.now));
  told = λ some. some;
  writes = refl;
}

pub carrying-preserved-in-Ok : goal.carrying-preserved-in-Ok
carrying-preserved-in-Ok g c =
    let made = c.in-Ok-Wrote.ensures in
    let inv = c.carrying.invariant in
    let m : SplitManaged = c.carrying.manager in
    let new : SplitManaged = c.step.new.self in
    let old : SplitManaged = c.args.manager.now in
    let count = g.D.SplitDevice.slot_count c.carrying.device in
    let slots = g.D.SplitDevice.slot_count c.args.device.now in
    let flying = flight_count (g.D.SplitDevice.flight c.carrying.device) in
    let part = c.in-Ok-Wrote.part in
    let steps : SplitSteps count m flying (left_of count m) (step.Wrote part) new = subst (λ (s : SplitStep). SplitSteps count m flying (left_of count m) s new) c.in-Ok-Wrote.field-0-is made.stepped in
    let did : Advances count (Written part) m new = wrote_is count m new flying (left_of count m) part steps in
    let here : Advances slots (Written part) m new = subst (λ n. Advances n (Written part) m new) inv.slot_count did in
    let logged : g.D.SplitDevice.events c.step.new.device ≡ g.D.SplitDevice.events c.carrying.device ++ Written part ∷ [] =
    made.events ∙ ap (λ (s : SplitStep). g.D.SplitDevice.events c.carrying.device ++ made_by s) c.in-Ok-Wrote.field-0-is in
    let faults : g.D.SplitDevice.faults c.step.new.device ≡ g.D.SplitDevice.faults c.carrying.device = made.cause.stayed in
    let goes = goes_wrote slots old m new part _ _ (g.D.SplitDevice.events c.step.new.device) 4 c.carrying.failures _ _ inv.goes here logged inv.below in
    record {
      goes = rw faults goes;
      slot_count = made.slot_count ∙ inv.slot_count;
      flight = made.flight ∙ inv.flight;
      empty = made.flight ∙ inv.empty;
      wide = rw (advances_slots count (Written part) m new did, made.slot_count) inv.wide;
      room = made.room;
      count = count_wrote c.carrying.drains _ part (left_of slots m) (left_of slots new) inv.count here.left_is;
      few = inv.few;
      number = parts_wrote c.carrying.parts _ part (left_of slots m) (left_of slots new) inv.number here.left_is;
      few_parts = inv.few_parts;
      below = omega arith;
      due = λ some. absurd (omega arith);
      tells = tells_more c.args.telling.now.trace c.args.telling.now.version c.args.telling.now.side c.carrying.parts (g.D.SplitDevice.events c.args.device.now) (g.D.SplitDevice.events c.carrying.device) (g.D.SplitDevice.events c.step.new.device)
          (λ (one : Bool). counted one (g.K.Sink.taken c.args.sink.now) (g.K.Sink.accepted c.args.sink.now))
          (λ (one : Bool). counted one (g.K.Sink.taken c.carrying.sink) (g.K.Sink.accepted c.carrying.sink))
          (λ (one : Bool). counted one (g.K.Sink.taken c.tell_action.new.sink) (g.K.Sink.accepted c.tell_action.new.sink)) (Written part) inv.tells logged c.in-Ok.ensures.line.whole;
      told = λ some. c.in-Ok.ensures.line.told (inv.told some);
      writes = c.in-Ok.ensures.line.cause.stayed ∙ inv.writes;
    }

pub carrying-preserved-in-Ok-tell_action : goal.carrying-preserved-in-Ok-tell_action
carrying-preserved-in-Ok-tell_action g c =
    let made = c.in-Ok-Drained.ensures in
    let inv = c.carrying.invariant in
    let m : SplitManaged = c.carrying.manager in
    let new : SplitManaged = c.step.new.self in
    let old : SplitManaged = c.args.manager.now in
    let count = g.D.SplitDevice.slot_count c.carrying.device in
    let slots = g.D.SplitDevice.slot_count c.args.device.now in
    let flying = flight_count (g.D.SplitDevice.flight c.carrying.device) in
    let steps : SplitSteps count m flying (left_of count m) (step.Drained) new = subst (λ (s : SplitStep). SplitSteps count m flying (left_of count m) s new) c.in-Ok-Drained.field-0-is made.stepped in
    let did : Advances count Drained m new = drained_is count m new flying (left_of count m) steps in
    let here : Advances slots Drained m new = subst (λ n. Advances n Drained m new) inv.slot_count did in
    let logged : g.D.SplitDevice.events c.step.new.device ≡ g.D.SplitDevice.events c.carrying.device ++ Drained ∷ [] =
    made.events ∙ ap (λ (s : SplitStep). g.D.SplitDevice.events c.carrying.device ++ made_by s) c.in-Ok-Drained.field-0-is in
    let faults : g.D.SplitDevice.faults c.step.new.device ≡ g.D.SplitDevice.faults c.carrying.device = made.cause.stayed in
    let goes = goes_drained slots old m new _ _ (g.D.SplitDevice.events c.step.new.device) 4 c.carrying.failures _ _ inv.goes here logged in
    record {
      goes = rw faults goes;
      slot_count = made.slot_count ∙ inv.slot_count;
      flight = made.flight ∙ inv.flight;
      empty = made.flight ∙ inv.empty;
      wide = rw (advances_slots count Drained m new did, made.slot_count) inv.wide;
      room = made.room;
      count = count_drained c.carrying.drains _ (left_of slots m) (left_of slots new) inv.count here.left_is;
      few = inv.few;
      number = parts_drained c.carrying.parts _ (left_of slots m) (left_of slots new) inv.number here.left_is;
      few_parts = inv.few_parts;
      below = inv.below;
      due = λ some. absurd (let part : IsPartNext (left_of count m) = inv.due some in subst IsPartNext did.left_is part);
      tells = tells_more c.args.telling.now.trace c.args.telling.now.version c.args.telling.now.side c.carrying.parts (g.D.SplitDevice.events c.args.device.now) (g.D.SplitDevice.events c.carrying.device) (g.D.SplitDevice.events c.step.new.device)
          (λ (one : Bool). counted one (g.K.Sink.taken c.args.sink.now) (g.K.Sink.accepted c.args.sink.now))
          (λ (one : Bool). counted one (g.K.Sink.taken c.carrying.sink) (g.K.Sink.accepted c.carrying.sink))
          (λ (one : Bool). counted one (g.K.Sink.taken c.tell_action-in-Ok-Drained.new.sink) (g.K.Sink.accepted c.tell_action-in-Ok-Drained.new.sink)) Drained inv.tells logged c.in-Ok-tell_action.ensures.line.whole;
      told = λ some. c.in-Ok-tell_action.ensures.line.told (inv.told some);
      writes = c.in-Ok-tell_action.ensures.line.cause.stayed ∙ inv.writes;
    }

pub overflow_add-drains : goal.overflow_add-drains
overflow_add-drains g c =
    let made = c.in-Ok-Drained.ensures in
    let inv = c.carrying.invariant in
    let m : SplitManaged = c.carrying.manager in
    let new : SplitManaged = c.step.new.self in
    let old : SplitManaged = c.args.manager.now in
    let count = g.D.SplitDevice.slot_count c.carrying.device in
    let slots = g.D.SplitDevice.slot_count c.args.device.now in
    let flying = flight_count (g.D.SplitDevice.flight c.carrying.device) in
    let steps : SplitSteps count m flying (left_of count m) (step.Drained) new = subst (λ (s : SplitStep). SplitSteps count m flying (left_of count m) s new) c.in-Ok-Drained.field-0-is made.stepped in
    let did : Advances count Drained m new = drained_is count m new flying (left_of count m) steps in
    let here : Advances slots Drained m new = subst (λ n. Advances n Drained m new) inv.slot_count did in
    let fits : c.carrying.drains + 1 ≤ drains_in (left_of slots old) = drain_fits c.carrying.drains _ (left_of slots m) (left_of slots new) inv.count here.left_is in
    let few = inv.few in
    omega arith

pub overflow_add-parts : goal.overflow_add-parts
overflow_add-parts g c =
    let made = c.in-Ok-Wrote.ensures in
    let inv = c.carrying.invariant in
    let m : SplitManaged = c.carrying.manager in
    let new : SplitManaged = c.step.new.self in
    let old : SplitManaged = c.args.manager.now in
    let count = g.D.SplitDevice.slot_count c.carrying.device in
    let slots = g.D.SplitDevice.slot_count c.args.device.now in
    let flying = flight_count (g.D.SplitDevice.flight c.carrying.device) in
    let part = c.in-Ok-Wrote.part in
    let steps : SplitSteps count m flying (left_of count m) (step.Wrote part) new = subst (λ (s : SplitStep). SplitSteps count m flying (left_of count m) s new) c.in-Ok-Wrote.field-0-is made.stepped in
    let did : Advances count (Written part) m new = wrote_is count m new flying (left_of count m) part steps in
    let here : Advances slots (Written part) m new = subst (λ n. Advances n (Written part) m new) inv.slot_count did in
    let fits : c.carrying.parts + 1 ≤ length (written (left_of slots old)) = part_fits c.carrying.parts _ part (left_of slots m) (left_of slots new) inv.number here.left_is in
    let few = inv.few_parts in
    omega arith

pub carrying-smaller-in-Ok : goal.carrying-smaller-in-Ok
carrying-smaller-in-Ok g c =
    let made = c.in-Ok-Wrote.ensures in
    let inv = c.carrying.invariant in
    let m : SplitManaged = c.carrying.manager in
    let new : SplitManaged = c.step.new.self in
    let old : SplitManaged = c.args.manager.now in
    let count = g.D.SplitDevice.slot_count c.carrying.device in
    let slots = g.D.SplitDevice.slot_count c.args.device.now in
    let flying = flight_count (g.D.SplitDevice.flight c.carrying.device) in
    let part = c.in-Ok-Wrote.part in
    let steps : SplitSteps count m flying (left_of count m) (step.Wrote part) new = subst (λ (s : SplitStep). SplitSteps count m flying (left_of count m) s new) c.in-Ok-Wrote.field-0-is made.stepped in
    let did : Advances count (Written part) m new = wrote_is count m new flying (left_of count m) part steps in
    let here : Advances slots (Written part) m new = subst (λ n. Advances n (Written part) m new) inv.slot_count did in
    rw made.slot_count (nearer (length (left_of count m)) (length (left_of count new)) 4 c.carrying.failures (ap length did.left_is) inv.below)

pub carrying-smaller-in-Ok-tell_action : goal.carrying-smaller-in-Ok-tell_action
carrying-smaller-in-Ok-tell_action g c =
    let made = c.in-Ok-Drained.ensures in
    let inv = c.carrying.invariant in
    let m : SplitManaged = c.carrying.manager in
    let new : SplitManaged = c.step.new.self in
    let old : SplitManaged = c.args.manager.now in
    let count = g.D.SplitDevice.slot_count c.carrying.device in
    let slots = g.D.SplitDevice.slot_count c.args.device.now in
    let flying = flight_count (g.D.SplitDevice.flight c.carrying.device) in
    let steps : SplitSteps count m flying (left_of count m) (step.Drained) new = subst (λ (s : SplitStep). SplitSteps count m flying (left_of count m) s new) c.in-Ok-Drained.field-0-is made.stepped in
    let did : Advances count Drained m new = drained_is count m new flying (left_of count m) steps in
    let here : Advances slots Drained m new = subst (λ n. Advances n Drained m new) inv.slot_count did in
    rw made.slot_count (nearer_drained (length (left_of count m)) (length (left_of count new)) 4 (4 - c.carrying.failures) (ap length did.left_is) (omega arith))

pub returns-in-Ok-Finished-clause-carried : goal.returns-in-Ok-Finished-clause-carried
returns-in-Ok-Finished-clause-carried g c =
    let made = c.in-Ok-Finished.ensures in
    let inv = c.carrying.invariant in
    let m : SplitManaged = c.carrying.manager in
    let new : SplitManaged = c.step.new.self in
    let old : SplitManaged = c.args.manager.now in
    let count = g.D.SplitDevice.slot_count c.carrying.device in
    let slots = g.D.SplitDevice.slot_count c.args.device.now in
    let flying = flight_count (g.D.SplitDevice.flight c.carrying.device) in
    let done = c.in-Ok-Finished.field-0-0 in
    let steps : SplitSteps count m flying (left_of count m) (step.Finished done) new = subst (λ (s : SplitStep). SplitSteps count m flying (left_of count m) s new) c.in-Ok-Finished.field-0-is made.stepped in
    let is = finished_is count m new flying (left_of count m) done steps in
    let nothing : left_of slots m ≡ [] = subst (λ n. left_of n m ≡ []) inv.slot_count is.0 in
    let none : made_by c.in-Ok-Finished.field-0 ≡ [] = ap made_by c.in-Ok-Finished.field-0-is in
    let logged : g.D.SplitDevice.events c.step.new.device ≡ g.D.SplitDevice.events c.carrying.device =
    made.events ∙ (ap (λ some. g.D.SplitDevice.events c.carrying.device ++ some) none ∙ append-nil (g.D.SplitDevice.events c.carrying.device)) in
    rw logged (all_carried slots old m new _ _ c.carrying.failures _ _ c.carrying.drains inv.goes nothing is.2 inv.count)

pub returns-in-Ok-Idle-clause-carried : goal.returns-in-Ok-Idle-clause-carried
returns-in-Ok-Idle-clause-carried g c =
    let made = c.in-Ok-Idle.ensures in
    let inv = c.carrying.invariant in
    let m : SplitManaged = c.carrying.manager in
    let new : SplitManaged = c.step.new.self in
    let old : SplitManaged = c.args.manager.now in
    let count = g.D.SplitDevice.slot_count c.carrying.device in
    let slots = g.D.SplitDevice.slot_count c.args.device.now in
    let flying = flight_count (g.D.SplitDevice.flight c.carrying.device) in
    let steps : SplitSteps count m flying (left_of count m) (step.Idle) new = subst (λ (s : SplitStep). SplitSteps count m flying (left_of count m) s new) c.in-Ok-Idle.field-0-is made.stepped in
    let is = idle_is count m new flying (left_of count m) steps in
    let nothing : left_of slots m ≡ [] = ap (left_of_held (state_on slots m) (since_of m) m.whole.state m.made) is.0 in
    let none : made_by c.in-Ok-Idle.field-0 ≡ [] = ap made_by c.in-Ok-Idle.field-0-is in
    let logged : g.D.SplitDevice.events c.step.new.device ≡ g.D.SplitDevice.events c.carrying.device =
    made.events ∙ (ap (λ some. g.D.SplitDevice.events c.carrying.device ++ some) none ∙ append-nil (g.D.SplitDevice.events c.carrying.device)) in
    let ends = rests_is m new is.0 is.1 c.serving.ensures.rest in
    rw logged (all_carried slots old m new _ _ c.carrying.failures _ _ c.carrying.drains inv.goes nothing ends.1 inv.count)

pub returns-in-Ok-Finished-clause-device : goal.returns-in-Ok-Finished-clause-device
returns-in-Ok-Finished-clause-device g c =
    let made = c.in-Ok-Finished.ensures in
    let inv = c.carrying.invariant in
    let m : SplitManaged = c.carrying.manager in
    let new : SplitManaged = c.step.new.self in
    let old : SplitManaged = c.args.manager.now in
    let count = g.D.SplitDevice.slot_count c.carrying.device in
    let slots = g.D.SplitDevice.slot_count c.args.device.now in
    let flying = flight_count (g.D.SplitDevice.flight c.carrying.device) in
    let done = c.in-Ok-Finished.field-0-0 in
    let steps : SplitSteps count m flying (left_of count m) (step.Finished done) new = subst (λ (s : SplitStep). SplitSteps count m flying (left_of count m) s new) c.in-Ok-Finished.field-0-is made.stepped in
    let is = finished_is count m new flying (left_of count m) done steps in
    let nothing : left_of slots m ≡ [] = subst (λ n. left_of n m ≡ []) inv.slot_count is.0 in
    let none : made_by c.in-Ok-Finished.field-0 ≡ [] = ap made_by c.in-Ok-Finished.field-0-is in
    let logged : g.D.SplitDevice.events c.step.new.device ≡ g.D.SplitDevice.events c.carrying.device =
    made.events ∙ (ap (λ some. g.D.SplitDevice.events c.carrying.device ++ some) none ∙ append-nil (g.D.SplitDevice.events c.carrying.device)) in
    let tries : c.carrying.failures ≡ 0 = no_tries c.carrying.failures (left_of count m) inv.due (λ part. subst IsPartNext is.0 part) in
    let faults : g.D.SplitDevice.faults c.step.new.device ≡ g.D.SplitDevice.faults c.carrying.device = made.cause.stayed in
    leaves_carried g.D.SplitDevice.slot_count g.D.SplitDevice.events g.D.SplitDevice.flight g.D.SplitDevice.faults c.args.device.now c.step.new.device slots old m _
    (rw (logged, faults, ← tries) inv.goes) (made.slot_count ∙ inv.slot_count) (made.flight ∙ inv.flight) (λ wrong. cc)

pub returns-in-Ok-Idle-clause-device : goal.returns-in-Ok-Idle-clause-device
returns-in-Ok-Idle-clause-device g c =
    let made = c.in-Ok-Idle.ensures in
    let inv = c.carrying.invariant in
    let m : SplitManaged = c.carrying.manager in
    let new : SplitManaged = c.step.new.self in
    let old : SplitManaged = c.args.manager.now in
    let count = g.D.SplitDevice.slot_count c.carrying.device in
    let slots = g.D.SplitDevice.slot_count c.args.device.now in
    let flying = flight_count (g.D.SplitDevice.flight c.carrying.device) in
    let steps : SplitSteps count m flying (left_of count m) (step.Idle) new = subst (λ (s : SplitStep). SplitSteps count m flying (left_of count m) s new) c.in-Ok-Idle.field-0-is made.stepped in
    let is = idle_is count m new flying (left_of count m) steps in
    let nothing : left_of slots m ≡ [] = ap (left_of_held (state_on slots m) (since_of m) m.whole.state m.made) is.0 in
    let none : made_by c.in-Ok-Idle.field-0 ≡ [] = ap made_by c.in-Ok-Idle.field-0-is in
    let logged : g.D.SplitDevice.events c.step.new.device ≡ g.D.SplitDevice.events c.carrying.device =
    made.events ∙ (ap (λ some. g.D.SplitDevice.events c.carrying.device ++ some) none ∙ append-nil (g.D.SplitDevice.events c.carrying.device)) in
    let none_left : left_of count m ≡ [] = ap (left_of_held (state_on count m) (since_of m) m.whole.state m.made) is.0 in
    let tries : c.carrying.failures ≡ 0 = no_tries c.carrying.failures (left_of count m) inv.due (λ part. subst IsPartNext none_left part) in
    let faults : g.D.SplitDevice.faults c.step.new.device ≡ g.D.SplitDevice.faults c.carrying.device = made.cause.stayed in
    leaves_carried g.D.SplitDevice.slot_count g.D.SplitDevice.events g.D.SplitDevice.flight g.D.SplitDevice.faults c.args.device.now c.step.new.device slots old m _
    (rw (logged, faults, ← tries) inv.goes) (made.slot_count ∙ inv.slot_count) (made.flight ∙ inv.flight) (λ wrong. cc)

-- ---- what was told of it, and what the sink counts

pub returns-in-Ok-Finished-clause-lines : goal.returns-in-Ok-Finished-clause-lines
returns-in-Ok-Finished-clause-lines g c =
    let none : made_by c.in-Ok-Finished.field-0 ≡ [] = ap made_by c.in-Ok-Finished.field-0-is in
    let logged : g.D.SplitDevice.events c.step.new.device ≡ g.D.SplitDevice.events c.carrying.device =
    c.in-Ok-Finished.ensures.events ∙ (ap (λ some. g.D.SplitDevice.events c.carrying.device ++ some) none ∙ append-nil (g.D.SplitDevice.events c.carrying.device)) in
    all_told c.args.telling.now.trace c.args.telling.now.version c.args.telling.now.side c.carrying.parts (g.D.SplitDevice.events c.args.device.now) (g.D.SplitDevice.events c.step.new.device)
    (λ (one : Bool). counted one (g.K.Sink.taken c.args.sink.now) (g.K.Sink.accepted c.args.sink.now)) (λ (one : Bool). counted one (g.K.Sink.taken c.carrying.sink) (g.K.Sink.accepted c.carrying.sink))
    (tells_same c.args.telling.now.trace c.args.telling.now.version c.args.telling.now.side c.carrying.parts (g.D.SplitDevice.events c.args.device.now) (g.D.SplitDevice.events c.carrying.device) (g.D.SplitDevice.events c.step.new.device)
    (λ (one : Bool). counted one (g.K.Sink.taken c.args.sink.now) (g.K.Sink.accepted c.args.sink.now)) (λ (one : Bool). counted one (g.K.Sink.taken c.carrying.sink) (g.K.Sink.accepted c.carrying.sink)) c.carrying.invariant.tells logged)

pub returns-in-Ok-Finished-clause-cause : goal.returns-in-Ok-Finished-clause-cause
returns-in-Ok-Finished-clause-cause g c = counted_still _ _ _ c.carrying.invariant.writes (λ wrong. cc)

pub returns-in-Ok-Idle-clause-lines : goal.returns-in-Ok-Idle-clause-lines
returns-in-Ok-Idle-clause-lines g c =
    let none : made_by c.in-Ok-Idle.field-0 ≡ [] = ap made_by c.in-Ok-Idle.field-0-is in
    let logged : g.D.SplitDevice.events c.step.new.device ≡ g.D.SplitDevice.events c.carrying.device =
    c.in-Ok-Idle.ensures.events ∙ (ap (λ some. g.D.SplitDevice.events c.carrying.device ++ some) none ∙ append-nil (g.D.SplitDevice.events c.carrying.device)) in
    all_told c.args.telling.now.trace c.args.telling.now.version c.args.telling.now.side c.carrying.parts (g.D.SplitDevice.events c.args.device.now) (g.D.SplitDevice.events c.step.new.device)
    (λ (one : Bool). counted one (g.K.Sink.taken c.args.sink.now) (g.K.Sink.accepted c.args.sink.now)) (λ (one : Bool). counted one (g.K.Sink.taken c.carrying.sink) (g.K.Sink.accepted c.carrying.sink))
    (tells_same c.args.telling.now.trace c.args.telling.now.version c.args.telling.now.side c.carrying.parts (g.D.SplitDevice.events c.args.device.now) (g.D.SplitDevice.events c.carrying.device) (g.D.SplitDevice.events c.step.new.device)
    (λ (one : Bool). counted one (g.K.Sink.taken c.args.sink.now) (g.K.Sink.accepted c.args.sink.now)) (λ (one : Bool). counted one (g.K.Sink.taken c.carrying.sink) (g.K.Sink.accepted c.carrying.sink)) c.carrying.invariant.tells logged)

pub returns-in-Ok-Idle-clause-cause : goal.returns-in-Ok-Idle-clause-cause
returns-in-Ok-Idle-clause-cause g c = counted_still _ _ _ c.carrying.invariant.writes (λ wrong. cc)

-- ---- a device that failed

pub returns-then-failures-eq-TRIES-clause-lines : goal.returns-then-failures-eq-TRIES-clause-lines
returns-then-failures-eq-TRIES-clause-lines g c =
    all_told c.args.telling.now.trace c.args.telling.now.version c.args.telling.now.side c.carrying.parts (g.D.SplitDevice.events c.args.device.now) (g.D.SplitDevice.events c.step.new.device)
    (λ (one : Bool). counted one (g.K.Sink.taken c.args.sink.now) (g.K.Sink.accepted c.args.sink.now)) (λ (one : Bool). counted one (g.K.Sink.taken c.carrying.sink) (g.K.Sink.accepted c.carrying.sink))
    (tells_same c.args.telling.now.trace c.args.telling.now.version c.args.telling.now.side c.carrying.parts (g.D.SplitDevice.events c.args.device.now) (g.D.SplitDevice.events c.carrying.device) (g.D.SplitDevice.events c.step.new.device)
    (λ (one : Bool). counted one (g.K.Sink.taken c.args.sink.now) (g.K.Sink.accepted c.args.sink.now)) (λ (one : Bool). counted one (g.K.Sink.taken c.carrying.sink) (g.K.Sink.accepted c.carrying.sink)) c.carrying.invariant.tells c.in-Err.ensures.events_err)

pub returns-then-failures-eq-TRIES-clause-device : goal.returns-then-failures-eq-TRIES-clause-device
returns-then-failures-eq-TRIES-clause-device g c =
    let failed = c.in-Err.ensures in
    let inv = c.carrying.invariant in
    let m : SplitManaged = c.carrying.manager in
    let old : SplitManaged = c.args.manager.now in
    let slots = g.D.SplitDevice.slot_count c.args.device.now in
    let goes = goes_failed slots old m _ _ (g.D.SplitDevice.events c.step.new.device) 4 c.carrying.failures _ _ (g.D.SplitDevice.faults c.step.new.device) inv.goes failed.events_err failed.cause.later failed.cause.once failed.cause.failed in
    let four : c.carrying.failures + 1 ≡ 4 = c.if-failures-eq-TRIES.true in
    leaves_stuck g.D.SplitDevice.slot_count g.D.SplitDevice.events g.D.SplitDevice.flight g.D.SplitDevice.faults c.args.device.now c.step.new.device slots old m _
    (subst (λ (n : ℕ). Goes slots old m (g.D.SplitDevice.events c.args.device.now) (g.D.SplitDevice.events c.step.new.device) 4 n (g.D.SplitDevice.faults c.args.device.now) (g.D.SplitDevice.faults c.step.new.device)) four goes)
    (failed.slot_count ∙ inv.slot_count) (failed.flight ∙ inv.flight) refl

pub returns-then-failures-eq-TRIES-clause-cause : goal.returns-then-failures-eq-TRIES-clause-cause
returns-then-failures-eq-TRIES-clause-cause g c = counted_still _ _ _ c.carrying.invariant.writes (λ wrong. cc)

-- ---- a line that was refused

pub returns-in-Err-tell_action-clause-stopped : goal.returns-in-Err-tell_action-clause-stopped
returns-in-Err-tell_action-clause-stopped g c =
    let made = c.in-Ok-Wrote.ensures in
    let inv = c.carrying.invariant in
    let m : SplitManaged = c.carrying.manager in
    let new : SplitManaged = c.step.new.self in
    let old : SplitManaged = c.args.manager.now in
    let count = g.D.SplitDevice.slot_count c.carrying.device in
    let slots = g.D.SplitDevice.slot_count c.args.device.now in
    let flying = flight_count (g.D.SplitDevice.flight c.carrying.device) in
    let part = c.in-Ok-Wrote.part in
    let steps : SplitSteps count m flying (left_of count m) (step.Wrote part) new = subst (λ (s : SplitStep). SplitSteps count m flying (left_of count m) s new) c.in-Ok-Wrote.field-0-is made.stepped in
    let did : Advances count (Written part) m new = wrote_is count m new flying (left_of count m) part steps in
    let here : Advances slots (Written part) m new = subst (λ n. Advances n (Written part) m new) inv.slot_count did in
    let logged : g.D.SplitDevice.events c.step.new.device ≡ g.D.SplitDevice.events c.carrying.device ++ Written part ∷ [] =
    made.events ∙ ap (λ (s : SplitStep). g.D.SplitDevice.events c.carrying.device ++ made_by s) c.in-Ok-Wrote.field-0-is in
    let goes = goes_wrote slots old m new part _ _ (g.D.SplitDevice.events c.step.new.device) 4 c.carrying.failures _ _ inv.goes here logged inv.below in
    is_cut slots old new _ (g.D.SplitDevice.events c.step.new.device) 4 _ _ _ goes

pub returns-in-Err-tell_action-clause-lines : goal.returns-in-Err-tell_action-clause-lines
returns-in-Err-tell_action-clause-lines g c =
    let inv = c.carrying.invariant in
    let part = c.in-Ok-Wrote.part in
    let logged : g.D.SplitDevice.events c.step.new.device ≡ g.D.SplitDevice.events c.carrying.device ++ Written part ∷ [] =
    c.in-Ok-Wrote.ensures.events ∙ ap (λ (s : SplitStep). g.D.SplitDevice.events c.carrying.device ++ made_by s) c.in-Ok-Wrote.field-0-is in
    told_but_one c.args.telling.now.trace c.args.telling.now.version c.args.telling.now.side c.carrying.parts (g.D.SplitDevice.events c.args.device.now) (g.D.SplitDevice.events c.carrying.device) (g.D.SplitDevice.events c.step.new.device)
    (λ (one : Bool). counted one (g.K.Sink.taken c.args.sink.now) (g.K.Sink.accepted c.args.sink.now)) (λ (one : Bool). counted one (g.K.Sink.taken c.carrying.sink) (g.K.Sink.accepted c.carrying.sink)) (λ (one : Bool). counted one (g.K.Sink.taken c.tell_action.new.sink) (g.K.Sink.accepted c.tell_action.new.sink)) (Written part) inv.tells logged c.in-Err-tell_action.ensures.wanted c.in-Err-tell_action.ensures.line.part

pub returns-in-Err-tell_action-clause-device : goal.returns-in-Err-tell_action-clause-device
returns-in-Err-tell_action-clause-device g c =
    let made = c.in-Ok-Wrote.ensures in
    let inv = c.carrying.invariant in
    let m : SplitManaged = c.carrying.manager in
    let new : SplitManaged = c.step.new.self in
    let old : SplitManaged = c.args.manager.now in
    let count = g.D.SplitDevice.slot_count c.carrying.device in
    let slots = g.D.SplitDevice.slot_count c.args.device.now in
    let flying = flight_count (g.D.SplitDevice.flight c.carrying.device) in
    let part = c.in-Ok-Wrote.part in
    let steps : SplitSteps count m flying (left_of count m) (step.Wrote part) new = subst (λ (s : SplitStep). SplitSteps count m flying (left_of count m) s new) c.in-Ok-Wrote.field-0-is made.stepped in
    let did : Advances count (Written part) m new = wrote_is count m new flying (left_of count m) part steps in
    let here : Advances slots (Written part) m new = subst (λ n. Advances n (Written part) m new) inv.slot_count did in
    let logged : g.D.SplitDevice.events c.step.new.device ≡ g.D.SplitDevice.events c.carrying.device ++ Written part ∷ [] =
    made.events ∙ ap (λ (s : SplitStep). g.D.SplitDevice.events c.carrying.device ++ made_by s) c.in-Ok-Wrote.field-0-is in
    let goes = goes_wrote slots old m new part _ _ (g.D.SplitDevice.events c.step.new.device) 4 c.carrying.failures _ _ inv.goes here logged inv.below in
    let faults : g.D.SplitDevice.faults c.step.new.device ≡ g.D.SplitDevice.faults c.carrying.device = made.cause.stayed in
    leaves_carried g.D.SplitDevice.slot_count g.D.SplitDevice.events g.D.SplitDevice.flight g.D.SplitDevice.faults c.args.device.now c.step.new.device slots old new _
    (rw faults goes) (made.slot_count ∙ inv.slot_count) (made.flight ∙ inv.flight) (λ wrong. cc)

pub returns-in-Err-tell_action-clause-told : goal.returns-in-Err-tell_action-clause-told
returns-in-Err-tell_action-clause-told g c = λ some. c.in-Err-tell_action.ensures.line.told (c.carrying.invariant.told some)

pub returns-in-Err-tell_action-clause-cause : goal.returns-in-Err-tell_action-clause-cause
returns-in-Err-tell_action-clause-cause g c = counted_one _ _ _ _ _ c.carrying.invariant.writes c.in-Err-tell_action.ensures.line.cause refl

pub returns-in-Err-tell_action-2-clause-stopped : goal.returns-in-Err-tell_action-2-clause-stopped
returns-in-Err-tell_action-2-clause-stopped g c =
    let made = c.in-Ok-Drained.ensures in
    let inv = c.carrying.invariant in
    let m : SplitManaged = c.carrying.manager in
    let new : SplitManaged = c.step.new.self in
    let old : SplitManaged = c.args.manager.now in
    let count = g.D.SplitDevice.slot_count c.carrying.device in
    let slots = g.D.SplitDevice.slot_count c.args.device.now in
    let flying = flight_count (g.D.SplitDevice.flight c.carrying.device) in
    let steps : SplitSteps count m flying (left_of count m) (step.Drained) new = subst (λ (s : SplitStep). SplitSteps count m flying (left_of count m) s new) c.in-Ok-Drained.field-0-is made.stepped in
    let did : Advances count Drained m new = drained_is count m new flying (left_of count m) steps in
    let here : Advances slots Drained m new = subst (λ n. Advances n Drained m new) inv.slot_count did in
    let logged : g.D.SplitDevice.events c.step.new.device ≡ g.D.SplitDevice.events c.carrying.device ++ Drained ∷ [] =
    made.events ∙ ap (λ (s : SplitStep). g.D.SplitDevice.events c.carrying.device ++ made_by s) c.in-Ok-Drained.field-0-is in
    let goes = goes_drained slots old m new _ _ (g.D.SplitDevice.events c.step.new.device) 4 c.carrying.failures _ _ inv.goes here logged in
    is_cut slots old new _ (g.D.SplitDevice.events c.step.new.device) 4 _ _ _ goes

pub returns-in-Err-tell_action-2-clause-lines : goal.returns-in-Err-tell_action-2-clause-lines
returns-in-Err-tell_action-2-clause-lines g c =
    let inv = c.carrying.invariant in
    let logged : g.D.SplitDevice.events c.step.new.device ≡ g.D.SplitDevice.events c.carrying.device ++ Drained ∷ [] =
    c.in-Ok-Drained.ensures.events ∙ ap (λ (s : SplitStep). g.D.SplitDevice.events c.carrying.device ++ made_by s) c.in-Ok-Drained.field-0-is in
    told_but_one c.args.telling.now.trace c.args.telling.now.version c.args.telling.now.side c.carrying.parts (g.D.SplitDevice.events c.args.device.now) (g.D.SplitDevice.events c.carrying.device) (g.D.SplitDevice.events c.step.new.device)
    (λ (one : Bool). counted one (g.K.Sink.taken c.args.sink.now) (g.K.Sink.accepted c.args.sink.now)) (λ (one : Bool). counted one (g.K.Sink.taken c.carrying.sink) (g.K.Sink.accepted c.carrying.sink)) (λ (one : Bool). counted one (g.K.Sink.taken c.tell_action-in-Ok-Drained.new.sink) (g.K.Sink.accepted c.tell_action-in-Ok-Drained.new.sink)) Drained inv.tells logged c.in-Err-tell_action-2.ensures.wanted c.in-Err-tell_action-2.ensures.line.part

pub returns-in-Err-tell_action-2-clause-device : goal.returns-in-Err-tell_action-2-clause-device
returns-in-Err-tell_action-2-clause-device g c =
    let made = c.in-Ok-Drained.ensures in
    let inv = c.carrying.invariant in
    let m : SplitManaged = c.carrying.manager in
    let new : SplitManaged = c.step.new.self in
    let old : SplitManaged = c.args.manager.now in
    let count = g.D.SplitDevice.slot_count c.carrying.device in
    let slots = g.D.SplitDevice.slot_count c.args.device.now in
    let flying = flight_count (g.D.SplitDevice.flight c.carrying.device) in
    let steps : SplitSteps count m flying (left_of count m) (step.Drained) new = subst (λ (s : SplitStep). SplitSteps count m flying (left_of count m) s new) c.in-Ok-Drained.field-0-is made.stepped in
    let did : Advances count Drained m new = drained_is count m new flying (left_of count m) steps in
    let here : Advances slots Drained m new = subst (λ n. Advances n Drained m new) inv.slot_count did in
    let logged : g.D.SplitDevice.events c.step.new.device ≡ g.D.SplitDevice.events c.carrying.device ++ Drained ∷ [] =
    made.events ∙ ap (λ (s : SplitStep). g.D.SplitDevice.events c.carrying.device ++ made_by s) c.in-Ok-Drained.field-0-is in
    let goes = goes_drained slots old m new _ _ (g.D.SplitDevice.events c.step.new.device) 4 c.carrying.failures _ _ inv.goes here logged in
    let faults : g.D.SplitDevice.faults c.step.new.device ≡ g.D.SplitDevice.faults c.carrying.device = made.cause.stayed in
    let tries : c.carrying.failures ≡ 0 = no_tries c.carrying.failures (left_of count m) inv.due (λ part. subst IsPartNext did.left_is part) in
    leaves_carried g.D.SplitDevice.slot_count g.D.SplitDevice.events g.D.SplitDevice.flight g.D.SplitDevice.faults c.args.device.now c.step.new.device slots old new _
    (rw (faults, ← tries) goes) (made.slot_count ∙ inv.slot_count) (made.flight ∙ inv.flight) (λ wrong. cc)

pub returns-in-Err-tell_action-2-clause-told : goal.returns-in-Err-tell_action-2-clause-told
returns-in-Err-tell_action-2-clause-told g c = λ some. c.in-Err-tell_action-2.ensures.line.told (c.carrying.invariant.told some)

pub returns-in-Err-tell_action-2-clause-cause : goal.returns-in-Err-tell_action-2-clause-cause
returns-in-Err-tell_action-2-clause-cause g c = counted_one _ _ _ _ _ c.carrying.invariant.writes c.in-Err-tell_action-2.ensures.line.cause refl
