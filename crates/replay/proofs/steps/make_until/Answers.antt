-- It stops at a turn; a step makes the next action that is left, and one that fails leaves it; each is told.
use Rattle.std.proofs.Common.{refl, inl, inr, sym, ap, arith, append-nil, ◌≡◌, ◌+◌, ◌-◌, ◌≤◌, ◌∙◌, length, ◌++◌, ◌∷◌, [], subst, append_assoc}
use Rattle.std.specs.Io.KnownBytes.{Appends}
use Rattle.std.proofs.KnownBytes.{Appends-nil}
use Rattle.script_lines.specs.Given.{counted}
use Rattle.tcam_device.specs.declared.Action.TheVariants as action
use Rattle.tcam_device.specs.Flight.{writes_in}
use Rattle.tcam_device.specs.State.{replay}
use Rattle.tcam_device.specs.View.{device_state, journal}
use Rattle.batch_order.specs.Steps.{KeepsCurrent, actions_of}
use Rattle.replay.specs.Effects.{deed_told, printed, write_told}
use Rattle.replay.specs.InFlight.{IsSeen}
use Rattle.replay.specs.Outside.{CutsLines}
use Rattle.batch_order.proofs.under_way.Stepped.{same_slots}
use Rattle.replay.proofs.making.Acting.{some-slots}
use Rattle.replay.proofs.making.Tries.{tried-none}
use Rattle.replay.proofs.making.Deeds.{deed-made}
use Rattle.replay.proofs.between.Leaving.{counted-failed, leaves-as, leaves-cut, leaves-line, leaves-made, leaves-then, leaves-told, leaves-tried, uncounted}
use Rattle.replay.proofs.making.Making.{come-drained, drained-acts, drained-none, few-written, fewer-drained, fewer-passed, fewer-written, goes-idle, left-now, making-drained, making-none, making-passed, making-written, passed-acts, waits-left, wrote-acts}
use Rattle.replay.proofs.making.Reported.{cuts-before, cuts-drain, cuts-write, tells-drain, tells-write}
use Rattle.replay.proofs.flight.Seeing.{as-searched, as-written, empty-flight, lines-empty, seen-empty, seen-ended, seen-written}
use Rattle.replay.proofs.making.Stopping.{making-cut, making-finished, making-reverted, making-stops, making-stops_behind}
use Rattle.commit_writes.specs.Actions.{up_to_writes}
use Rattle.replay.proofs.making.Upto.{all-some, before-none, before-one, below-written, drain-next, early-due, early-within, making-pauses, with-some, within-same, within-written}
use Rattle.replay.proofs.steps.make_until.Goals as goal

pub making-init : goal.making-init
making-init g c =
    let making = making-none c.args.manager.now c.args.watch.now c.args.count.now (g.D.Writable.view c.args.device.now).events (g.D.Writable.view c.args.device.now).flight (g.D.Writable.view c.args.device.now).spare c.requires.held c.requires.room c.requires.in_flight c.requires.waiting in record {
      making = making;
      told = λ which seen. Appends-nil _;
      seen = λ seen. seen;
      before = before-none c.args.stop c.args.count.now.told making.some.left;
      reach = c.requires.told;
      leaves = leaves-line _ _ _ _ _ _ ⊥ ⊥ (λ some. some) refl refl refl (uncounted ⊥ _ _ (λ e. e) refl) (λ e. e);
    }

-- what the next write does may be read off the device
pub next_deed-deed-requires : goal.next_deed-deed-requires
next_deed-deed-requires g c =
    let i = c.making.invariant in
    let m = i.making in
    rw (some-slots c.args.manager.now c.making.manager m.some, i.leaves.slots) c.requires.slots

-- the next step may be made
pub step_tried-requires-clause-slots : goal.step_tried-requires-clause-slots
step_tried-requires-clause-slots g c =
    let i = c.making.invariant in
    let m = i.making in
    rw (some-slots c.args.manager.now c.making.manager m.some, i.leaves.slots) c.requires.slots

pub step_tried-requires-clause-room : goal.step_tried-requires-clause-room
step_tried-requires-clause-room g c = c.making.invariant.making.room

pub tell_write-requires-clause-told : goal.tell_write-requires-clause-told
tell_write-requires-clause-told g c =
    let i = c.making.invariant in
    let m = i.making in
    few-written c.args.manager.now c.making.manager c.step_tried.new.manager c.args.watch.now c.args.count.now c.making.count c.making.count (g.D.Writable.view c.args.device.now).events (g.D.Writable.view c.making.device).events (g.D.Writable.view c.step_tried.new.device).events (g.D.Writable.view c.making.device).flight (g.D.Writable.view c.step_tried.new.device).flight (g.D.Writable.view c.making.device).spare (g.D.Writable.view c.step_tried.new.device).spare m c.in-Ok-Wrote.field-0 c.in-Ok-Wrote.ensures.stepped c.in-Ok-Wrote.write c.in-Ok-Wrote.field-0-is c.requires.few

-- a write is made and told
pub making-preserved-in-Ok : goal.making-preserved-in-Ok
making-preserved-in-Ok g c =
    let i = c.making.invariant in
    let m = i.making in
    let made = c.in-Ok-Wrote.ensures in
    let told = c.in-Ok.ensures in
    let step = c.in-Ok-Wrote.field-0 in
    let write = c.in-Ok-Wrote.write in
    let wrote = c.in-Ok-Wrote.field-0-is in
    let deed = deed-made c.args.watch.now.names (g.D.Writable.view c.args.device.now).slots (g.D.Writable.view c.making.device).slots (g.D.Writable.view c.making.device).events c.making.manager _ step c.step_tried.new.manager write c.next_deed-deed.result
    c.next_deed-deed.ensures i.leaves.slots made.stepped wrote in
    let grown = made.made.events ∙ ap (λ one. (g.D.Writable.view c.making.device).events ++ actions_of one) wrote in
    let stays = rw (made.made.slots, i.leaves.slots) at made.stays_on in
    let within = subst (λ n. n ≤ (g.D.Writable.view c.args.device.now).slots) (sym (same_slots _ _ _ _ _ made.stepped ∙ some-slots c.args.manager.now c.making.manager m.some)) c.requires.slots in
    let early = early-due c.args.manager.now c.making.manager c.args.watch.now c.args.count.now c.making.count (g.D.Writable.view c.args.device.now).events (g.D.Writable.view c.making.device).events (g.D.Writable.view c.making.device).flight (g.D.Writable.view c.making.device).spare i.making c.args.stop (sym c.stops_here.ensures ∙ c.if-stops_here.false) in
    let acts = wrote-acts c.args.manager.now c.making.manager c.step_tried.new.manager c.args.watch.now c.args.count.now c.making.count c.tell_write.new.count (g.D.Writable.view c.args.device.now).events (g.D.Writable.view c.making.device).events (g.D.Writable.view c.tell_write.new.device).events (g.D.Writable.view c.making.device).flight (g.D.Writable.view c.tell_write.new.device).flight (g.D.Writable.view c.making.device).spare (g.D.Writable.view c.tell_write.new.device).spare m step made.stepped write wrote in
    let left = acts.is in
    let before = before-one c.args.stop c.args.count.now.told c.making.count.told m.some.made m.some.left acts.left (action.Written write) m.come.told i.reach left early i.before in
    record {
      making = making-written c.args.manager.now c.making.manager c.step_tried.new.manager c.args.watch.now c.args.count.now c.making.count c.tell_write.new.count (g.D.Writable.view c.args.device.now).events (g.D.Writable.view c.making.device).events (g.D.Writable.view c.tell_write.new.device).events (g.D.Writable.view c.making.device).flight (g.D.Writable.view c.tell_write.new.device).flight (g.D.Writable.view c.making.device).spare (g.D.Writable.view c.tell_write.new.device).spare m step made.stepped write wrote (device_state (g.D.Writable.view c.step_tried.new.device)) (told.others.events ∙ made.made.events)
          (rw told.others.spare made.room) told.told told.waiting (rw made.made.flight at told.flight);
      told = λ which seen. tells-write c.args.manager.now c.args.watch.now (g.D.Writable.view c.args.device.now).slots c.args.count.now (g.D.Writable.view c.args.device.now).events m.some.made c.making.count (g.D.Writable.view c.making.device).events m.come m.events write (counted which (g.K.Sink.taken c.args.sink.now) (g.K.Sink.accepted c.args.sink.now)) (counted which (g.K.Sink.taken c.making.sink) (g.K.Sink.accepted c.making.sink)) (counted which (g.K.Sink.taken c.tell_write.new.sink) (g.K.Sink.accepted c.tell_write.new.sink)) (i.told which seen)
          (as-written c.args.manager.now c.making.manager c.step_tried.new.manager c.args.watch.now step write (g.D.Writable.view c.args.device.now).slots (journal (g.D.Writable.view c.making.device)) (journal (g.D.Writable.view c.step_tried.new.device)) (g.D.Writable.view c.making.device).events (g.D.Writable.view c.step_tried.new.device).events (g.D.Writable.view c.making.device).flight (g.D.Writable.view c.step_tried.new.device).flight c.making.count.waiting refl refl grown made.made.flight stays wrote made.keeps within made.serves m.words m.few told.keys (i.seen seen)
          (λ lines. Appends (counted which (g.K.Sink.taken c.making.sink) (g.K.Sink.accepted c.making.sink)) (counted which (g.K.Sink.taken c.tell_write.new.sink) (g.K.Sink.accepted c.tell_write.new.sink)) (printed lines)) (write_told c.args.watch.now.json c.args.watch.now.trace c.args.watch.now.family (c.making.count.told + 1) (deed_told c.args.watch.now.names (replay (g.D.Writable.view c.args.device.now).slots (writes_in (g.D.Writable.view c.making.device).events)) write) write) (c.making.count.told + 1) (rw (made.made.slots, i.leaves.slots, deed) at (told.lines.whole which)));
      seen = λ seen. seen-written c.args.manager.now c.making.manager c.step_tried.new.manager c.args.watch.now step write (g.D.Writable.view c.args.device.now).slots (journal (g.D.Writable.view c.making.device)) (journal (g.D.Writable.view c.step_tried.new.device)) (g.D.Writable.view c.making.device).events (g.D.Writable.view c.step_tried.new.device).events (g.D.Writable.view c.making.device).flight (g.D.Writable.view c.step_tried.new.device).flight c.making.count.waiting refl refl grown made.made.flight stays wrote made.keeps within made.serves m.words m.few told.keys (i.seen seen)
          (g.D.Writable.view c.tell_write.new.device).events (g.D.Writable.view c.tell_write.new.device).flight told.others.events (rw (made.made.slots, i.leaves.slots) at told.flight);
      before = before;
      reach = within-written c.args.stop c.args.count.now.told c.making.count.told c.tell_write.new.count.told m.some.made m.some.left acts.left write m.come.told i.reach left early told.told;
      leaves = leaves-told _ _ _ _ _ _ _ _ (leaves-made _ _ _ _ _ _ _ _ i.leaves made.made made.tried) told.lines.told told.others.slots told.others.events told.others.faults told.lines.cause.stayed;
    }

pub making-smaller-in-Ok : goal.making-smaller-in-Ok
making-smaller-in-Ok g c =
    let i = c.making.invariant in
    let m = i.making in
    let told = c.in-Ok.ensures in
    let before = left-now c.args.manager.now c.making.manager i.making.some in
    let after = fewer-written c.args.manager.now c.making.manager c.step_tried.new.manager c.args.watch.now c.args.count.now c.making.count c.tell_write.new.count (g.D.Writable.view c.args.device.now).events (g.D.Writable.view c.making.device).events (g.D.Writable.view c.tell_write.new.device).events (g.D.Writable.view c.making.device).flight (g.D.Writable.view c.tell_write.new.device).flight (g.D.Writable.view c.making.device).spare (g.D.Writable.view c.tell_write.new.device).spare m c.in-Ok-Wrote.field-0 c.in-Ok-Wrote.ensures.stepped c.in-Ok-Wrote.write c.in-Ok-Wrote.field-0-is in
    omega (arith, before, after)

-- or a line of it is cut
pub returns-in-Err-tell_write-clause-makes : goal.returns-in-Err-tell_write-clause-makes
returns-in-Err-tell_write-clause-makes g c = λ which.
    let i = c.making.invariant in
    let m = i.making in
    let made = c.in-Ok-Wrote.ensures in
    let told = c.in-Err-tell_write.ensures in
    let step = c.in-Ok-Wrote.field-0 in
    let write = c.in-Ok-Wrote.write in
    let wrote = c.in-Ok-Wrote.field-0-is in
    let deed = deed-made c.args.watch.now.names (g.D.Writable.view c.args.device.now).slots (g.D.Writable.view c.making.device).slots (g.D.Writable.view c.making.device).events c.making.manager _ step c.step_tried.new.manager write c.next_deed-deed.result
    c.next_deed-deed.ensures i.leaves.slots made.stepped wrote in
    let grown = made.made.events ∙ ap (λ one. (g.D.Writable.view c.making.device).events ++ actions_of one) wrote in
    let stays = rw (made.made.slots, i.leaves.slots) at made.stays_on in
    let within = subst (λ n. n ≤ (g.D.Writable.view c.args.device.now).slots) (sym (same_slots _ _ _ _ _ made.stepped ∙ some-slots c.args.manager.now c.making.manager m.some)) c.requires.slots in
    let acts = wrote-acts c.args.manager.now c.making.manager c.step_tried.new.manager c.args.watch.now c.args.count.now c.making.count c.tell_write.new.count (g.D.Writable.view c.args.device.now).events (g.D.Writable.view c.making.device).events (g.D.Writable.view c.tell_write.new.device).events (g.D.Writable.view c.making.device).flight (g.D.Writable.view c.tell_write.new.device).flight (g.D.Writable.view c.making.device).spare (g.D.Writable.view c.tell_write.new.device).spare m step made.stepped write wrote in
    let early = early-due c.args.manager.now c.making.manager c.args.watch.now c.args.count.now c.making.count (g.D.Writable.view c.args.device.now).events (g.D.Writable.view c.making.device).events (g.D.Writable.view c.making.device).flight (g.D.Writable.view c.making.device).spare i.making c.args.stop (sym c.stops_here.ensures ∙ c.if-stops_here.false) in
    let left = acts.is in
    let before = before-one c.args.stop c.args.count.now.told c.making.count.told m.some.made m.some.left acts.left (action.Written write) m.come.told i.reach left early i.before in inl (
      refl,
      (
        making-stops_behind (IsSeen (g.D.Writable.view c.args.device.now).slots (g.D.Writable.view c.args.device.now).events (g.D.Writable.view c.args.device.now).flight c.args.manager.now) c.args.manager.now c.making.manager c.step_tried.new.manager c.args.watch.now (g.D.Writable.view c.args.device.now).slots c.args.count.now c.making.count c.tell_write.new.count (g.D.Writable.view c.args.device.now).events (g.D.Writable.view c.making.device).events (g.D.Writable.view c.tell_write.new.device).events (g.D.Writable.view c.making.device).flight (g.D.Writable.view c.making.device).spare m (counted which (g.K.Sink.taken c.args.sink.now) (g.K.Sink.accepted c.args.sink.now)) (counted which (g.K.Sink.taken c.making.sink) (g.K.Sink.accepted c.making.sink)) (i.told which) (counted which (g.K.Sink.taken c.tell_write.new.sink) (g.K.Sink.accepted c.tell_write.new.sink)) (action.Written write) acts
            (told.others.events ∙ grown)
            (record { told = told.told; waiting = told.waiting })
            (λ seen. cuts-write c.args.manager.now c.args.watch.now (g.D.Writable.view c.args.device.now).slots c.args.count.now (g.D.Writable.view c.args.device.now).events m.some.made c.making.count (g.D.Writable.view c.making.device).events m.come m.events write acts.left (m.some.made ++ action.Written write ∷ acts.left) (g.D.Writable.view c.tell_write.new.device).events (counted which (g.K.Sink.taken c.args.sink.now) (g.K.Sink.accepted c.args.sink.now)) (counted which (g.K.Sink.taken c.making.sink) (g.K.Sink.accepted c.making.sink)) (counted which (g.K.Sink.taken c.tell_write.new.sink) (g.K.Sink.accepted c.tell_write.new.sink))
            refl (told.others.events ∙ grown) (i.told which seen)
            (as-written c.args.manager.now c.making.manager c.step_tried.new.manager c.args.watch.now step write (g.D.Writable.view c.args.device.now).slots (journal (g.D.Writable.view c.making.device)) (journal (g.D.Writable.view c.step_tried.new.device)) (g.D.Writable.view c.making.device).events (g.D.Writable.view c.step_tried.new.device).events (g.D.Writable.view c.making.device).flight (g.D.Writable.view c.step_tried.new.device).flight c.making.count.waiting refl refl grown made.made.flight stays wrote made.keeps within made.serves m.words m.few told.keys (i.seen seen)
            (λ lines. CutsLines lines (counted which (g.K.Sink.taken c.making.sink) (g.K.Sink.accepted c.making.sink)) (counted which (g.K.Sink.taken c.tell_write.new.sink) (g.K.Sink.accepted c.tell_write.new.sink))) (write_told c.args.watch.now.json c.args.watch.now.trace c.args.watch.now.family (c.making.count.told + 1) (deed_told c.args.watch.now.names (replay (g.D.Writable.view c.args.device.now).slots (writes_in (g.D.Writable.view c.making.device).events)) write) write) (c.making.count.told + 1) (rw (made.made.slots, i.leaves.slots, deed) at (told.lines.part which)))),
        before,
        within-written c.args.stop c.args.count.now.told c.making.count.told c.tell_write.new.count.told m.some.made m.some.left acts.left write m.come.told i.reach left early told.told,
        all-some c.args.stop _ (λ after. λ enough. (λ seen. cuts-write c.args.manager.now c.args.watch.now (g.D.Writable.view c.args.device.now).slots c.args.count.now (g.D.Writable.view c.args.device.now).events m.some.made c.making.count (g.D.Writable.view c.making.device).events m.come m.events write (up_to_writes (after - c.args.count.now.told - length (writes_in (m.some.made ++ action.Written write ∷ []))) acts.left) ((m.some.made ++ action.Written write ∷ []) ++ up_to_writes (after - c.args.count.now.told - length (writes_in (m.some.made ++ action.Written write ∷ []))) acts.left) (g.D.Writable.view c.tell_write.new.device).events (counted which (g.K.Sink.taken c.args.sink.now) (g.K.Sink.accepted c.args.sink.now)) (counted which (g.K.Sink.taken c.making.sink) (g.K.Sink.accepted c.making.sink)) (counted which (g.K.Sink.taken c.tell_write.new.sink) (g.K.Sink.accepted c.tell_write.new.sink))
            (append_assoc m.some.made (action.Written write ∷ []) (up_to_writes (after - c.args.count.now.told - length (writes_in (m.some.made ++ action.Written write ∷ []))) acts.left)) (told.others.events ∙ grown) (i.told which seen)
            (as-written c.args.manager.now c.making.manager c.step_tried.new.manager c.args.watch.now step write (g.D.Writable.view c.args.device.now).slots (journal (g.D.Writable.view c.making.device)) (journal (g.D.Writable.view c.step_tried.new.device)) (g.D.Writable.view c.making.device).events (g.D.Writable.view c.step_tried.new.device).events (g.D.Writable.view c.making.device).flight (g.D.Writable.view c.step_tried.new.device).flight c.making.count.waiting refl refl grown made.made.flight stays wrote made.keeps within made.serves m.words m.few told.keys (i.seen seen)
            (λ lines. CutsLines lines (counted which (g.K.Sink.taken c.making.sink) (g.K.Sink.accepted c.making.sink)) (counted which (g.K.Sink.taken c.tell_write.new.sink) (g.K.Sink.accepted c.tell_write.new.sink))) (write_told c.args.watch.now.json c.args.watch.now.trace c.args.watch.now.family (c.making.count.told + 1) (deed_told c.args.watch.now.names (replay (g.D.Writable.view c.args.device.now).slots (writes_in (g.D.Writable.view c.making.device).events)) write) write) (c.making.count.told + 1) (rw (made.made.slots, i.leaves.slots, deed) at (told.lines.part which))))),
      ),
    )

pub returns-in-Err-tell_write-clause-room : goal.returns-in-Err-tell_write-clause-room
returns-in-Err-tell_write-clause-room g c = rw c.in-Err-tell_write.ensures.others.spare c.in-Ok-Wrote.ensures.room

-- a drain is made that had no word to wait for, and is told
pub making-preserved : goal.making-preserved
making-preserved g c =
    let i = c.making.invariant in
    let m = i.making in
    let made = c.in-Ok-Drained.ensures in
    let told = c.in-Ok-tell_drain-2.ensures in
    let step = c.in-Ok-Drained.field-0 in
    let drained = c.in-Ok-Drained.field-0-is in
    let none = drained-none c.args.manager.now c.making.manager c.step_tried.new.manager c.args.watch.now c.args.count.now c.making.count c.making.count (g.D.Writable.view c.args.device.now).events (g.D.Writable.view c.making.device).events (g.D.Writable.view c.step_tried.new.device).events (g.D.Writable.view c.making.device).flight (g.D.Writable.view c.step_tried.new.device).flight (g.D.Writable.view c.making.device).spare (g.D.Writable.view c.step_tried.new.device).spare m step made.stepped drained in
    let empty = made.made.flight ∙ empty-flight (g.D.Writable.view c.making.device).flight none in
    let stays = rw (made.made.slots, i.leaves.slots) at made.stays_on in
    let early = early-due c.args.manager.now c.making.manager c.args.watch.now c.args.count.now c.making.count (g.D.Writable.view c.args.device.now).events (g.D.Writable.view c.making.device).events (g.D.Writable.view c.making.device).flight (g.D.Writable.view c.making.device).spare i.making c.args.stop (sym c.stops_here.ensures ∙ c.if-stops_here.false) in
    let acts = drained-acts c.args.manager.now c.making.manager c.step_tried.new.manager c.args.watch.now c.args.count.now c.making.count c.tell_drain-in-Ok-Drained.new.count (g.D.Writable.view c.args.device.now).events (g.D.Writable.view c.making.device).events (g.D.Writable.view c.step_tried.new.device).events (g.D.Writable.view c.making.device).flight (g.D.Writable.view c.step_tried.new.device).flight (g.D.Writable.view c.making.device).spare (g.D.Writable.view c.step_tried.new.device).spare m step made.stepped drained in
    let left = acts.is in
    let before = before-one c.args.stop c.args.count.now.told c.making.count.told m.some.made m.some.left acts.left action.Drained m.come.told i.reach left early i.before in
    record {
      making = making-drained c.args.manager.now c.making.manager c.step_tried.new.manager c.args.watch.now c.args.count.now c.making.count c.tell_drain-in-Ok-Drained.new.count (g.D.Writable.view c.args.device.now).events (g.D.Writable.view c.making.device).events (g.D.Writable.view c.step_tried.new.device).events (g.D.Writable.view c.making.device).flight (g.D.Writable.view c.step_tried.new.device).flight (g.D.Writable.view c.making.device).spare (g.D.Writable.view c.step_tried.new.device).spare m step made.stepped drained made.made.events made.room told.told told.waiting empty;
      told = λ which seen. tells-drain c.args.manager.now c.args.watch.now (g.D.Writable.view c.args.device.now).slots c.args.count.now (g.D.Writable.view c.args.device.now).events m.some.made c.making.count (g.D.Writable.view c.making.device).events m.come m.events (counted which (g.K.Sink.taken c.args.sink.now) (g.K.Sink.accepted c.args.sink.now)) (counted which (g.K.Sink.taken c.making.sink) (g.K.Sink.accepted c.making.sink)) (counted which (g.K.Sink.taken c.making.sink) (g.K.Sink.accepted c.making.sink)) (counted which (g.K.Sink.taken c.tell_drain-in-Ok-Drained.new.sink) (g.K.Sink.accepted c.tell_drain-in-Ok-Drained.new.sink)) (i.told which seen)
          (subst (λ lines. Appends (counted which (g.K.Sink.taken c.making.sink) (g.K.Sink.accepted c.making.sink)) (counted which (g.K.Sink.taken c.making.sink) (g.K.Sink.accepted c.making.sink)) (printed lines))
          (sym (lines-empty c.args.watch.now c.making.count.told (replay (g.D.Writable.view c.args.device.now).slots (writes_in (g.D.Writable.view c.making.device).events)) c.making.count.waiting (g.D.Writable.view c.making.device).flight m.words none)) (Appends-nil (counted which (g.K.Sink.taken c.making.sink) (g.K.Sink.accepted c.making.sink)))) (told.lines.whole which);
      seen = λ seen. seen-empty c.making.manager c.step_tried.new.manager (g.D.Writable.view c.args.device.now).slots (journal (g.D.Writable.view c.making.device)) (journal (g.D.Writable.view c.step_tried.new.device))
          (g.D.Writable.view c.making.device).events (g.D.Writable.view c.step_tried.new.device).events (g.D.Writable.view c.making.device).flight (g.D.Writable.view c.step_tried.new.device).flight refl refl stays empty (i.seen seen);
      before = before;
      reach = within-same c.args.stop c.making.count.told c.tell_drain-in-Ok-Drained.new.count.told i.reach told.told;
      leaves = leaves-told _ _ _ _ _ _ _ _ (leaves-made _ _ _ _ _ _ _ _ i.leaves made.made made.tried) told.lines.told refl refl refl told.lines.cause.stayed;
    }

pub making-smaller : goal.making-smaller
making-smaller g c =
    let i = c.making.invariant in
    let m = i.making in
    let told = c.in-Ok-tell_drain-2.ensures in
    let before = left-now c.args.manager.now c.making.manager i.making.some in
    let after = fewer-drained c.args.manager.now c.making.manager c.step_tried.new.manager c.args.watch.now c.args.count.now c.making.count c.tell_drain-in-Ok-Drained.new.count (g.D.Writable.view c.args.device.now).events (g.D.Writable.view c.making.device).events (g.D.Writable.view c.step_tried.new.device).events (g.D.Writable.view c.making.device).flight (g.D.Writable.view c.step_tried.new.device).flight (g.D.Writable.view c.making.device).spare (g.D.Writable.view c.step_tried.new.device).spare m c.in-Ok-Drained.field-0 c.in-Ok-Drained.ensures.stepped c.in-Ok-Drained.field-0-is in
    omega (arith, before, after)

-- or its line is cut
pub returns-in-Err-tell_drain-2-clause-makes : goal.returns-in-Err-tell_drain-2-clause-makes
returns-in-Err-tell_drain-2-clause-makes g c = λ which.
    let i = c.making.invariant in
    let m = i.making in
    let made = c.in-Ok-Drained.ensures in
    let told = c.in-Err-tell_drain-2.ensures in
    let step = c.in-Ok-Drained.field-0 in
    let drained = c.in-Ok-Drained.field-0-is in
    let none = drained-none c.args.manager.now c.making.manager c.step_tried.new.manager c.args.watch.now c.args.count.now c.making.count c.making.count (g.D.Writable.view c.args.device.now).events (g.D.Writable.view c.making.device).events (g.D.Writable.view c.step_tried.new.device).events (g.D.Writable.view c.making.device).flight (g.D.Writable.view c.step_tried.new.device).flight (g.D.Writable.view c.making.device).spare (g.D.Writable.view c.step_tried.new.device).spare m step made.stepped drained in
    let empty = made.made.flight ∙ empty-flight (g.D.Writable.view c.making.device).flight none in
    let acts = drained-acts c.args.manager.now c.making.manager c.step_tried.new.manager c.args.watch.now c.args.count.now c.making.count c.tell_drain-in-Ok-Drained.new.count (g.D.Writable.view c.args.device.now).events (g.D.Writable.view c.making.device).events (g.D.Writable.view c.step_tried.new.device).events (g.D.Writable.view c.making.device).flight (g.D.Writable.view c.step_tried.new.device).flight (g.D.Writable.view c.making.device).spare (g.D.Writable.view c.step_tried.new.device).spare m step made.stepped drained in
    let grown = made.made.events ∙ ap (λ one. (g.D.Writable.view c.making.device).events ++ actions_of one) drained in
    let early = early-due c.args.manager.now c.making.manager c.args.watch.now c.args.count.now c.making.count (g.D.Writable.view c.args.device.now).events (g.D.Writable.view c.making.device).events (g.D.Writable.view c.making.device).flight (g.D.Writable.view c.making.device).spare i.making c.args.stop (sym c.stops_here.ensures ∙ c.if-stops_here.false) in
    let left = acts.is in
    let before = before-one c.args.stop c.args.count.now.told c.making.count.told m.some.made m.some.left acts.left action.Drained m.come.told i.reach left early i.before in inl (
      refl,
      (
        making-stops_behind (IsSeen (g.D.Writable.view c.args.device.now).slots (g.D.Writable.view c.args.device.now).events (g.D.Writable.view c.args.device.now).flight c.args.manager.now) c.args.manager.now c.making.manager c.step_tried.new.manager c.args.watch.now (g.D.Writable.view c.args.device.now).slots c.args.count.now c.making.count c.tell_drain-in-Ok-Drained.new.count (g.D.Writable.view c.args.device.now).events (g.D.Writable.view c.making.device).events (g.D.Writable.view c.step_tried.new.device).events (g.D.Writable.view c.making.device).flight (g.D.Writable.view c.making.device).spare m (counted which (g.K.Sink.taken c.args.sink.now) (g.K.Sink.accepted c.args.sink.now)) (counted which (g.K.Sink.taken c.making.sink) (g.K.Sink.accepted c.making.sink)) (i.told which) (counted which (g.K.Sink.taken c.tell_drain-in-Ok-Drained.new.sink) (g.K.Sink.accepted c.tell_drain-in-Ok-Drained.new.sink)) action.Drained acts grown
            (come-drained c.args.watch.now c.making.count c.tell_drain-in-Ok-Drained.new.count told.told told.waiting)
            (λ seen. cuts-drain c.args.manager.now c.args.watch.now (g.D.Writable.view c.args.device.now).slots c.args.count.now (g.D.Writable.view c.args.device.now).events m.some.made c.making.count (g.D.Writable.view c.making.device).events m.come m.events acts.left (m.some.made ++ action.Drained ∷ acts.left) (g.D.Writable.view c.step_tried.new.device).events (counted which (g.K.Sink.taken c.args.sink.now) (g.K.Sink.accepted c.args.sink.now)) (counted which (g.K.Sink.taken c.making.sink) (g.K.Sink.accepted c.making.sink)) (counted which (g.K.Sink.taken c.making.sink) (g.K.Sink.accepted c.making.sink)) (counted which (g.K.Sink.taken c.tell_drain-in-Ok-Drained.new.sink) (g.K.Sink.accepted c.tell_drain-in-Ok-Drained.new.sink))
            refl grown (i.told which seen)
            (subst (λ lines. Appends (counted which (g.K.Sink.taken c.making.sink) (g.K.Sink.accepted c.making.sink)) (counted which (g.K.Sink.taken c.making.sink) (g.K.Sink.accepted c.making.sink)) (printed lines))
            (sym (lines-empty c.args.watch.now c.making.count.told (replay (g.D.Writable.view c.args.device.now).slots (writes_in (g.D.Writable.view c.making.device).events)) c.making.count.waiting (g.D.Writable.view c.making.device).flight m.words none)) (Appends-nil (counted which (g.K.Sink.taken c.making.sink) (g.K.Sink.accepted c.making.sink)))) (told.lines.part which)),
        before,
        within-same c.args.stop c.making.count.told c.tell_drain-in-Ok-Drained.new.count.told i.reach told.told,
        all-some c.args.stop _ (λ after. λ enough. (λ seen. cuts-drain c.args.manager.now c.args.watch.now (g.D.Writable.view c.args.device.now).slots c.args.count.now (g.D.Writable.view c.args.device.now).events m.some.made c.making.count (g.D.Writable.view c.making.device).events m.come m.events (up_to_writes (after - c.args.count.now.told - length (writes_in (m.some.made ++ action.Drained ∷ []))) acts.left) ((m.some.made ++ action.Drained ∷ []) ++ up_to_writes (after - c.args.count.now.told - length (writes_in (m.some.made ++ action.Drained ∷ []))) acts.left) (g.D.Writable.view c.step_tried.new.device).events (counted which (g.K.Sink.taken c.args.sink.now) (g.K.Sink.accepted c.args.sink.now)) (counted which (g.K.Sink.taken c.making.sink) (g.K.Sink.accepted c.making.sink)) (counted which (g.K.Sink.taken c.making.sink) (g.K.Sink.accepted c.making.sink)) (counted which (g.K.Sink.taken c.tell_drain-in-Ok-Drained.new.sink) (g.K.Sink.accepted c.tell_drain-in-Ok-Drained.new.sink))
            (append_assoc m.some.made (action.Drained ∷ []) (up_to_writes (after - c.args.count.now.told - length (writes_in (m.some.made ++ action.Drained ∷ []))) acts.left)) grown (i.told which seen)
            (subst (λ lines. Appends (counted which (g.K.Sink.taken c.making.sink) (g.K.Sink.accepted c.making.sink)) (counted which (g.K.Sink.taken c.making.sink) (g.K.Sink.accepted c.making.sink)) (printed lines))
            (sym (lines-empty c.args.watch.now c.making.count.told (replay (g.D.Writable.view c.args.device.now).slots (writes_in (g.D.Writable.view c.making.device).events)) c.making.count.waiting (g.D.Writable.view c.making.device).flight m.words none)) (Appends-nil (counted which (g.K.Sink.taken c.making.sink) (g.K.Sink.accepted c.making.sink)))) (told.lines.part which))),
      ),
    )

pub returns-in-Err-tell_drain-2-clause-room : goal.returns-in-Err-tell_drain-2-clause-room
returns-in-Err-tell_drain-2-clause-room g c = c.in-Ok-Drained.ensures.room

-- nothing is left, and it is finished
pub returns-in-Ok-Finished-clause-makes : goal.returns-in-Ok-Finished-clause-makes
returns-in-Ok-Finished-clause-makes g c = λ which.
    let i = c.making.invariant in
    let m = i.making in
    let made = c.in-Ok-Finished.ensures in (
      making-finished (IsSeen (g.D.Writable.view c.args.device.now).slots (g.D.Writable.view c.args.device.now).events (g.D.Writable.view c.args.device.now).flight c.args.manager.now) c.args.manager.now c.making.manager c.step_tried.new.manager c.args.watch.now (g.D.Writable.view c.args.device.now).slots c.args.count.now c.making.count c.making.count (g.D.Writable.view c.args.device.now).events (g.D.Writable.view c.making.device).events (g.D.Writable.view c.step_tried.new.device).events (g.D.Writable.view c.making.device).flight (g.D.Writable.view c.making.device).spare m (counted which (g.K.Sink.taken c.args.sink.now) (g.K.Sink.accepted c.args.sink.now)) (counted which (g.K.Sink.taken c.making.sink) (g.K.Sink.accepted c.making.sink)) (i.told which) c.in-Ok-Finished.field-0 made.stepped made.made.events c.in-Ok-Finished.done c.in-Ok-Finished.field-0-is,
      i.reach,
    )

-- or taken back
pub returns-in-Ok-Reverted-clause-makes : goal.returns-in-Ok-Reverted-clause-makes
returns-in-Ok-Reverted-clause-makes g c = λ which.
    let i = c.making.invariant in
    let m = i.making in
    let made = c.in-Ok-Reverted.ensures in (
      making-reverted (IsSeen (g.D.Writable.view c.args.device.now).slots (g.D.Writable.view c.args.device.now).events (g.D.Writable.view c.args.device.now).flight c.args.manager.now) c.args.manager.now c.making.manager c.step_tried.new.manager c.args.watch.now (g.D.Writable.view c.args.device.now).slots c.args.count.now c.making.count c.making.count (g.D.Writable.view c.args.device.now).events (g.D.Writable.view c.making.device).events (g.D.Writable.view c.step_tried.new.device).events (g.D.Writable.view c.making.device).flight (g.D.Writable.view c.making.device).spare m (counted which (g.K.Sink.taken c.args.sink.now) (g.K.Sink.accepted c.args.sink.now)) (counted which (g.K.Sink.taken c.making.sink) (g.K.Sink.accepted c.making.sink)) (i.told which) c.in-Ok-Reverted.field-0 made.stepped made.made.events _ c.in-Ok-Reverted.field-0-is,
      i.reach,
    )

-- a write failed at each try
pub returns-in-Err-clause-makes : goal.returns-in-Err-clause-makes
returns-in-Err-clause-makes g c = λ which.
    let i = c.making.invariant in
    let m = i.making in
    let failed = c.in-Err.ensures in
    let early = early-due c.args.manager.now c.making.manager c.args.watch.now c.args.count.now c.making.count (g.D.Writable.view c.args.device.now).events (g.D.Writable.view c.making.device).events (g.D.Writable.view c.making.device).flight (g.D.Writable.view c.making.device).spare i.making c.args.stop (sym c.stops_here.ensures ∙ c.if-stops_here.false) in
    let stops = making-cut (IsSeen (g.D.Writable.view c.args.device.now).slots (g.D.Writable.view c.args.device.now).events (g.D.Writable.view c.args.device.now).flight c.args.manager.now) c.args.manager.now c.making.manager c.step_tried.new.manager c.args.watch.now (g.D.Writable.view c.args.device.now).slots c.args.count.now c.making.count c.making.count (g.D.Writable.view c.args.device.now).events (g.D.Writable.view c.making.device).events (g.D.Writable.view c.step_tried.new.device).events (g.D.Writable.view c.making.device).flight (g.D.Writable.view c.making.device).spare m (counted which (g.K.Sink.taken c.args.sink.now) (g.K.Sink.accepted c.args.sink.now)) (counted which (g.K.Sink.taken c.making.sink) (g.K.Sink.accepted c.making.sink)) (i.told which) failed.failed failed.unmade.events failed.due in
    inr (refl, (stops, i.before, below-written c.args.stop c.args.count.now.told c.making.count.told m.some.made m.some.left stops.left stops.due m.come.told i.reach stops.left_is early))

-- ---- a drain that waits: the words in flight are searched, then it is made and told
pub pass_drain-requires : goal.pass_drain-requires
pass_drain-requires g c =
    let i = c.making.invariant in
    let m = i.making in
    let made = c.in-Ok-Waiting.ensures in
    let waits = waits-left c.args.manager.now c.making.manager c.step_tried.new.manager c.args.watch.now c.args.count.now c.making.count c.making.count (g.D.Writable.view c.args.device.now).events (g.D.Writable.view c.making.device).events (g.D.Writable.view c.step_tried.new.device).events (g.D.Writable.view c.making.device).flight (g.D.Writable.view c.step_tried.new.device).flight (g.D.Writable.view c.making.device).spare (g.D.Writable.view c.step_tried.new.device).spare m c.in-Ok-Waiting.field-0 made.stepped _ c.in-Ok-Waiting.field-0-is in
    record {
      slots = rw (waits.3, some-slots c.args.manager.now c.making.manager m.some, c.in-Ok-search_all.ensures.others.slots, made.made.slots, i.leaves.slots) c.requires.slots;
      drain = rw waits.3 waits.2;
      none_in_flight = c.in-Ok-search_all.ensures.flight;
      room = rw c.in-Ok-search_all.ensures.others.spare made.room;
    }

pub making-preserved-in-Ok-tell_drain : goal.making-preserved-in-Ok-tell_drain
making-preserved-in-Ok-tell_drain g c =
    let i = c.making.invariant in
    let m = i.making in
    let made = c.in-Ok-Waiting.ensures in
    let waits = waits-left c.args.manager.now c.making.manager c.step_tried.new.manager c.args.watch.now c.args.count.now c.making.count c.making.count (g.D.Writable.view c.args.device.now).events (g.D.Writable.view c.making.device).events (g.D.Writable.view c.step_tried.new.device).events (g.D.Writable.view c.making.device).flight (g.D.Writable.view c.step_tried.new.device).flight (g.D.Writable.view c.making.device).spare (g.D.Writable.view c.step_tried.new.device).spare m c.in-Ok-Waiting.field-0 made.stepped _ c.in-Ok-Waiting.field-0-is in
    let searched = c.in-Ok-search_all.ensures in
    let passed = c.pass_drain.ensures in
    let told = c.in-Ok-tell_drain.ensures in
    let kept : (g.D.Writable.view c.step_tried.new.device).events ≡ (g.D.Writable.view c.making.device).events =
    made.made.events ∙ ap (λ one. (g.D.Writable.view c.making.device).events ++ actions_of one) c.in-Ok-Waiting.field-0-is ∙ append-nil (g.D.Writable.view c.making.device).events in
    let within = subst (λ n. n ≤ (g.D.Writable.view c.args.device.now).slots) (sym (same_slots _ _ _ _ _ made.stepped ∙ some-slots c.args.manager.now c.making.manager m.some)) c.requires.slots in
    let first = rw (made.made.slots, i.leaves.slots) at made.stays_on in
    let second = rw (passed.made.slots, searched.others.slots, made.made.slots, i.leaves.slots, searched.others.events) at passed.stays_on in
    let early = early-due c.args.manager.now c.making.manager c.args.watch.now c.args.count.now c.making.count (g.D.Writable.view c.args.device.now).events (g.D.Writable.view c.making.device).events (g.D.Writable.view c.making.device).flight (g.D.Writable.view c.making.device).spare i.making c.args.stop (sym c.stops_here.ensures ∙ c.if-stops_here.false) in
    let acts = passed-acts c.args.manager.now c.making.manager c.step_tried.new.manager c.pass_drain.new.manager c.args.watch.now c.args.count.now c.making.count c.tell_drain.new.count (g.D.Writable.view c.args.device.now).events (g.D.Writable.view c.making.device).events (g.D.Writable.view c.pass_drain.new.device).events (g.D.Writable.view c.making.device).flight (g.D.Writable.view c.pass_drain.new.device).flight (g.D.Writable.view c.making.device).spare (g.D.Writable.view c.pass_drain.new.device).spare m waits.3 c.pass_drain.ensures.stepped in
    let left = acts.is in
    let before = before-one c.args.stop c.args.count.now.told c.making.count.told m.some.made m.some.left acts.left action.Drained m.come.told i.reach left early i.before in
    record {
      making = making-passed c.args.manager.now c.making.manager c.step_tried.new.manager c.pass_drain.new.manager c.args.watch.now c.args.count.now c.making.count c.tell_drain.new.count (g.D.Writable.view c.args.device.now).events (g.D.Writable.view c.making.device).events (g.D.Writable.view c.pass_drain.new.device).events (g.D.Writable.view c.making.device).flight (g.D.Writable.view c.pass_drain.new.device).flight (g.D.Writable.view c.making.device).spare (g.D.Writable.view c.pass_drain.new.device).spare m waits.3 c.pass_drain.ensures.stepped
          (passed.made.events ∙ ap (λ events. events ++ action.Drained ∷ []) (searched.others.events ∙ kept)) passed.room told.told told.waiting (passed.made.flight ∙ searched.flight);
      told = λ which seen. tells-drain c.args.manager.now c.args.watch.now (g.D.Writable.view c.args.device.now).slots c.args.count.now (g.D.Writable.view c.args.device.now).events m.some.made c.making.count (g.D.Writable.view c.making.device).events m.come m.events (counted which (g.K.Sink.taken c.args.sink.now) (g.K.Sink.accepted c.args.sink.now)) (counted which (g.K.Sink.taken c.making.sink) (g.K.Sink.accepted c.making.sink)) (counted which (g.K.Sink.taken c.search_all.new.sink) (g.K.Sink.accepted c.search_all.new.sink)) (counted which (g.K.Sink.taken c.tell_drain.new.sink) (g.K.Sink.accepted c.tell_drain.new.sink)) (i.told which seen)
          (as-searched c.making.manager c.step_tried.new.manager c.args.watch.now (g.D.Writable.view c.args.device.now).slots (journal (g.D.Writable.view c.step_tried.new.device)) (g.D.Writable.view c.making.device).events (g.D.Writable.view c.step_tried.new.device).events (g.D.Writable.view c.making.device).flight (g.D.Writable.view c.step_tried.new.device).flight c.making.count.waiting refl kept made.made.flight waits.3 within made.serves m.words (i.seen seen)
          (λ lines. Appends (counted which (g.K.Sink.taken c.making.sink) (g.K.Sink.accepted c.making.sink)) (counted which (g.K.Sink.taken c.search_all.new.sink) (g.K.Sink.accepted c.search_all.new.sink)) (printed lines)) c.making.count.told (rw (made.made.slots, i.leaves.slots) at (searched.lines.whole which)))
          (told.lines.whole which);
      seen = λ seen. seen-empty c.making.manager c.pass_drain.new.manager (g.D.Writable.view c.args.device.now).slots (journal (g.D.Writable.view c.making.device)) (journal (g.D.Writable.view c.pass_drain.new.device))
          (g.D.Writable.view c.making.device).events (g.D.Writable.view c.pass_drain.new.device).events (g.D.Writable.view c.making.device).flight (g.D.Writable.view c.pass_drain.new.device).flight
          refl refl (λ on. second (first on)) (passed.made.flight ∙ searched.flight) (i.seen seen);
      before = before;
      reach = within-same c.args.stop c.making.count.told c.tell_drain.new.count.told i.reach told.told;
      leaves = leaves-told _ _ _ _ _ _ _ _ (leaves-made _ _ _ _ _ _ _ _
          (leaves-told _ _ _ _ _ _ _ _ (leaves-made _ _ _ _ _ _ _ _ i.leaves made.made made.tried) searched.lines.told searched.others.slots searched.others.events searched.others.faults searched.lines.cause.stayed)
          passed.made (tried-none ⊥ _ _ (λ never. never) passed.faults)) told.lines.told refl refl refl told.lines.cause.stayed;
    }

pub making-smaller-in-Ok-tell_drain : goal.making-smaller-in-Ok-tell_drain
making-smaller-in-Ok-tell_drain g c =
    let i = c.making.invariant in
    let m = i.making in
    let made = c.in-Ok-Waiting.ensures in
    let waits = waits-left c.args.manager.now c.making.manager c.step_tried.new.manager c.args.watch.now c.args.count.now c.making.count c.making.count (g.D.Writable.view c.args.device.now).events (g.D.Writable.view c.making.device).events (g.D.Writable.view c.step_tried.new.device).events (g.D.Writable.view c.making.device).flight (g.D.Writable.view c.step_tried.new.device).flight (g.D.Writable.view c.making.device).spare (g.D.Writable.view c.step_tried.new.device).spare m c.in-Ok-Waiting.field-0 made.stepped _ c.in-Ok-Waiting.field-0-is in
    let told = c.in-Ok-tell_drain.ensures in
    let before = left-now c.args.manager.now c.making.manager i.making.some in
    let after = fewer-passed c.args.manager.now c.making.manager c.step_tried.new.manager c.pass_drain.new.manager c.args.watch.now c.args.count.now c.making.count c.tell_drain.new.count (g.D.Writable.view c.args.device.now).events (g.D.Writable.view c.making.device).events (g.D.Writable.view c.pass_drain.new.device).events (g.D.Writable.view c.making.device).flight (g.D.Writable.view c.pass_drain.new.device).flight (g.D.Writable.view c.making.device).spare (g.D.Writable.view c.pass_drain.new.device).spare m waits.3 c.pass_drain.ensures.stepped in
    omega (arith, before, after)

-- a line of the words that it waits for is cut
pub returns-in-Err-search_all-clause-makes : goal.returns-in-Err-search_all-clause-makes
returns-in-Err-search_all-clause-makes g c = λ which.
    let i = c.making.invariant in
    let m = i.making in
    let made = c.in-Ok-Waiting.ensures in
    let waits = waits-left c.args.manager.now c.making.manager c.step_tried.new.manager c.args.watch.now c.args.count.now c.making.count c.making.count (g.D.Writable.view c.args.device.now).events (g.D.Writable.view c.making.device).events (g.D.Writable.view c.step_tried.new.device).events (g.D.Writable.view c.making.device).flight (g.D.Writable.view c.step_tried.new.device).flight (g.D.Writable.view c.making.device).spare (g.D.Writable.view c.step_tried.new.device).spare m c.in-Ok-Waiting.field-0 made.stepped _ c.in-Ok-Waiting.field-0-is in
    let searched = c.in-Err-search_all.ensures in
    let kept : (g.D.Writable.view c.step_tried.new.device).events ≡ (g.D.Writable.view c.making.device).events =
    made.made.events ∙ ap (λ one. (g.D.Writable.view c.making.device).events ++ actions_of one) c.in-Ok-Waiting.field-0-is ∙ append-nil (g.D.Writable.view c.making.device).events in
    let within = subst (λ n. n ≤ (g.D.Writable.view c.args.device.now).slots) (sym (same_slots _ _ _ _ _ made.stepped ∙ some-slots c.args.manager.now c.making.manager m.some)) c.requires.slots in
    let early = early-due c.args.manager.now c.making.manager c.args.watch.now c.args.count.now c.making.count (g.D.Writable.view c.args.device.now).events (g.D.Writable.view c.making.device).events (g.D.Writable.view c.making.device).flight (g.D.Writable.view c.making.device).spare i.making c.args.stop (sym c.stops_here.ensures ∙ c.if-stops_here.false) in
    rw (searched.others.events, kept) (inl (
      refl,
      (
        (making-stops (IsSeen (g.D.Writable.view c.args.device.now).slots (g.D.Writable.view c.args.device.now).events (g.D.Writable.view c.args.device.now).flight c.args.manager.now) c.args.manager.now c.making.manager c.step_tried.new.manager c.args.watch.now (g.D.Writable.view c.args.device.now).slots c.args.count.now c.making.count c.making.count (g.D.Writable.view c.args.device.now).events (g.D.Writable.view c.making.device).events (g.D.Writable.view c.making.device).events (g.D.Writable.view c.making.device).flight (g.D.Writable.view c.making.device).spare m (counted which (g.K.Sink.taken c.args.sink.now) (g.K.Sink.accepted c.args.sink.now)) (counted which (g.K.Sink.taken c.making.sink) (g.K.Sink.accepted c.making.sink)) (i.told which) (counted which (g.K.Sink.taken c.search_all.new.sink) (g.K.Sink.accepted c.search_all.new.sink)) waits.3 refl
            (λ seen. cuts-before c.args.manager.now c.args.watch.now (g.D.Writable.view c.args.device.now).slots c.args.count.now (g.D.Writable.view c.args.device.now).events m.some.made c.making.count (g.D.Writable.view c.making.device).events m.come m.events waits.0 (m.some.made ++ m.some.left) (counted which (g.K.Sink.taken c.args.sink.now) (g.K.Sink.accepted c.args.sink.now)) (counted which (g.K.Sink.taken c.making.sink) (g.K.Sink.accepted c.making.sink)) (counted which (g.K.Sink.taken c.search_all.new.sink) (g.K.Sink.accepted c.search_all.new.sink))
            (ap (λ more. m.some.made ++ more) waits.1) (i.told which seen)
            (as-searched c.making.manager c.step_tried.new.manager c.args.watch.now (g.D.Writable.view c.args.device.now).slots (journal (g.D.Writable.view c.step_tried.new.device)) (g.D.Writable.view c.making.device).events (g.D.Writable.view c.step_tried.new.device).events (g.D.Writable.view c.making.device).flight (g.D.Writable.view c.step_tried.new.device).flight c.making.count.waiting refl kept made.made.flight waits.3 within made.serves m.words (i.seen seen)
            (λ lines. CutsLines lines (counted which (g.K.Sink.taken c.making.sink) (g.K.Sink.accepted c.making.sink)) (counted which (g.K.Sink.taken c.search_all.new.sink) (g.K.Sink.accepted c.search_all.new.sink))) c.making.count.told (rw (made.made.slots, i.leaves.slots) at (searched.lines.part which))))),
        i.before,
        i.reach,
        with-some c.args.stop _ _ (early-within c.args.stop c.args.count.now.told c.making.count.told m.some.made m.some.left m.come.told i.reach early) (λ after ahead. λ enough. (λ seen. cuts-before c.args.manager.now c.args.watch.now (g.D.Writable.view c.args.device.now).slots c.args.count.now (g.D.Writable.view c.args.device.now).events m.some.made c.making.count (g.D.Writable.view c.making.device).events m.come m.events (up_to_writes (after - c.args.count.now.told - length (writes_in m.some.made)) waits.0) (m.some.made ++ up_to_writes (after - c.args.count.now.told - length (writes_in m.some.made)) m.some.left) (counted which (g.K.Sink.taken c.args.sink.now) (g.K.Sink.accepted c.args.sink.now)) (counted which (g.K.Sink.taken c.making.sink) (g.K.Sink.accepted c.making.sink)) (counted which (g.K.Sink.taken c.search_all.new.sink) (g.K.Sink.accepted c.search_all.new.sink))
            (ap (λ more. m.some.made ++ more) (drain-next after c.args.count.now.told m.some.made m.some.left waits.0 waits.1 ahead.0 ahead.1 enough)) (i.told which seen)
            (as-searched c.making.manager c.step_tried.new.manager c.args.watch.now (g.D.Writable.view c.args.device.now).slots (journal (g.D.Writable.view c.step_tried.new.device)) (g.D.Writable.view c.making.device).events (g.D.Writable.view c.step_tried.new.device).events (g.D.Writable.view c.making.device).flight (g.D.Writable.view c.step_tried.new.device).flight c.making.count.waiting refl kept made.made.flight waits.3 within made.serves m.words (i.seen seen)
            (λ lines. CutsLines lines (counted which (g.K.Sink.taken c.making.sink) (g.K.Sink.accepted c.making.sink)) (counted which (g.K.Sink.taken c.search_all.new.sink) (g.K.Sink.accepted c.search_all.new.sink))) c.making.count.told (rw (made.made.slots, i.leaves.slots) at (searched.lines.part which))))),
      ),
    ))

pub returns-in-Err-search_all-clause-room : goal.returns-in-Err-search_all-clause-room
returns-in-Err-search_all-clause-room g c = rw c.in-Err-search_all.ensures.others.spare c.in-Ok-Waiting.ensures.room

-- or its own
pub returns-in-Err-tell_drain-clause-makes : goal.returns-in-Err-tell_drain-clause-makes
returns-in-Err-tell_drain-clause-makes g c = λ which.
    let i = c.making.invariant in
    let m = i.making in
    let made = c.in-Ok-Waiting.ensures in
    let waits = waits-left c.args.manager.now c.making.manager c.step_tried.new.manager c.args.watch.now c.args.count.now c.making.count c.making.count (g.D.Writable.view c.args.device.now).events (g.D.Writable.view c.making.device).events (g.D.Writable.view c.step_tried.new.device).events (g.D.Writable.view c.making.device).flight (g.D.Writable.view c.step_tried.new.device).flight (g.D.Writable.view c.making.device).spare (g.D.Writable.view c.step_tried.new.device).spare m c.in-Ok-Waiting.field-0 made.stepped _ c.in-Ok-Waiting.field-0-is in
    let searched = c.in-Ok-search_all.ensures in
    let passed = c.pass_drain.ensures in
    let told = c.in-Err-tell_drain.ensures in
    let kept : (g.D.Writable.view c.step_tried.new.device).events ≡ (g.D.Writable.view c.making.device).events =
    made.made.events ∙ ap (λ one. (g.D.Writable.view c.making.device).events ++ actions_of one) c.in-Ok-Waiting.field-0-is ∙ append-nil (g.D.Writable.view c.making.device).events in
    let within = subst (λ n. n ≤ (g.D.Writable.view c.args.device.now).slots) (sym (same_slots _ _ _ _ _ made.stepped ∙ some-slots c.args.manager.now c.making.manager m.some)) c.requires.slots in
    let acts = passed-acts c.args.manager.now c.making.manager c.step_tried.new.manager c.pass_drain.new.manager c.args.watch.now c.args.count.now c.making.count c.tell_drain.new.count (g.D.Writable.view c.args.device.now).events (g.D.Writable.view c.making.device).events (g.D.Writable.view c.pass_drain.new.device).events (g.D.Writable.view c.making.device).flight (g.D.Writable.view c.pass_drain.new.device).flight (g.D.Writable.view c.making.device).spare (g.D.Writable.view c.pass_drain.new.device).spare m waits.3 c.pass_drain.ensures.stepped in
    let grown = passed.made.events ∙ ap (λ events. events ++ action.Drained ∷ []) (searched.others.events ∙ kept) in
    let early = early-due c.args.manager.now c.making.manager c.args.watch.now c.args.count.now c.making.count (g.D.Writable.view c.args.device.now).events (g.D.Writable.view c.making.device).events (g.D.Writable.view c.making.device).flight (g.D.Writable.view c.making.device).spare i.making c.args.stop (sym c.stops_here.ensures ∙ c.if-stops_here.false) in
    let left = acts.is in
    let before = before-one c.args.stop c.args.count.now.told c.making.count.told m.some.made m.some.left acts.left action.Drained m.come.told i.reach left early i.before in inl (
      refl,
      (
        making-stops_behind (IsSeen (g.D.Writable.view c.args.device.now).slots (g.D.Writable.view c.args.device.now).events (g.D.Writable.view c.args.device.now).flight c.args.manager.now) c.args.manager.now c.making.manager c.pass_drain.new.manager c.args.watch.now (g.D.Writable.view c.args.device.now).slots c.args.count.now c.making.count c.tell_drain.new.count (g.D.Writable.view c.args.device.now).events (g.D.Writable.view c.making.device).events (g.D.Writable.view c.pass_drain.new.device).events (g.D.Writable.view c.making.device).flight (g.D.Writable.view c.making.device).spare m (counted which (g.K.Sink.taken c.args.sink.now) (g.K.Sink.accepted c.args.sink.now)) (counted which (g.K.Sink.taken c.making.sink) (g.K.Sink.accepted c.making.sink)) (i.told which) (counted which (g.K.Sink.taken c.tell_drain.new.sink) (g.K.Sink.accepted c.tell_drain.new.sink)) action.Drained acts grown
            (come-drained c.args.watch.now c.making.count c.tell_drain.new.count told.told told.waiting)
            (λ seen. cuts-drain c.args.manager.now c.args.watch.now (g.D.Writable.view c.args.device.now).slots c.args.count.now (g.D.Writable.view c.args.device.now).events m.some.made c.making.count (g.D.Writable.view c.making.device).events m.come m.events acts.left (m.some.made ++ action.Drained ∷ acts.left) (g.D.Writable.view c.pass_drain.new.device).events (counted which (g.K.Sink.taken c.args.sink.now) (g.K.Sink.accepted c.args.sink.now)) (counted which (g.K.Sink.taken c.making.sink) (g.K.Sink.accepted c.making.sink)) (counted which (g.K.Sink.taken c.search_all.new.sink) (g.K.Sink.accepted c.search_all.new.sink)) (counted which (g.K.Sink.taken c.tell_drain.new.sink) (g.K.Sink.accepted c.tell_drain.new.sink))
            refl grown (i.told which seen)
            (as-searched c.making.manager c.step_tried.new.manager c.args.watch.now (g.D.Writable.view c.args.device.now).slots (journal (g.D.Writable.view c.step_tried.new.device)) (g.D.Writable.view c.making.device).events (g.D.Writable.view c.step_tried.new.device).events (g.D.Writable.view c.making.device).flight (g.D.Writable.view c.step_tried.new.device).flight c.making.count.waiting refl kept made.made.flight waits.3 within made.serves m.words (i.seen seen)
            (λ lines. Appends (counted which (g.K.Sink.taken c.making.sink) (g.K.Sink.accepted c.making.sink)) (counted which (g.K.Sink.taken c.search_all.new.sink) (g.K.Sink.accepted c.search_all.new.sink)) (printed lines)) c.making.count.told (rw (made.made.slots, i.leaves.slots) at (searched.lines.whole which)))
            (told.lines.part which)),
        before,
        within-same c.args.stop c.making.count.told c.tell_drain.new.count.told i.reach told.told,
        all-some c.args.stop _ (λ after. λ enough. (λ seen. cuts-drain c.args.manager.now c.args.watch.now (g.D.Writable.view c.args.device.now).slots c.args.count.now (g.D.Writable.view c.args.device.now).events m.some.made c.making.count (g.D.Writable.view c.making.device).events m.come m.events (up_to_writes (after - c.args.count.now.told - length (writes_in (m.some.made ++ action.Drained ∷ []))) acts.left) ((m.some.made ++ action.Drained ∷ []) ++ up_to_writes (after - c.args.count.now.told - length (writes_in (m.some.made ++ action.Drained ∷ []))) acts.left) (g.D.Writable.view c.pass_drain.new.device).events (counted which (g.K.Sink.taken c.args.sink.now) (g.K.Sink.accepted c.args.sink.now)) (counted which (g.K.Sink.taken c.making.sink) (g.K.Sink.accepted c.making.sink)) (counted which (g.K.Sink.taken c.search_all.new.sink) (g.K.Sink.accepted c.search_all.new.sink)) (counted which (g.K.Sink.taken c.tell_drain.new.sink) (g.K.Sink.accepted c.tell_drain.new.sink))
            (append_assoc m.some.made (action.Drained ∷ []) (up_to_writes (after - c.args.count.now.told - length (writes_in (m.some.made ++ action.Drained ∷ []))) acts.left)) grown (i.told which seen)
            (as-searched c.making.manager c.step_tried.new.manager c.args.watch.now (g.D.Writable.view c.args.device.now).slots (journal (g.D.Writable.view c.step_tried.new.device)) (g.D.Writable.view c.making.device).events (g.D.Writable.view c.step_tried.new.device).events (g.D.Writable.view c.making.device).flight (g.D.Writable.view c.step_tried.new.device).flight c.making.count.waiting refl kept made.made.flight waits.3 within made.serves m.words (i.seen seen)
            (λ lines. Appends (counted which (g.K.Sink.taken c.making.sink) (g.K.Sink.accepted c.making.sink)) (counted which (g.K.Sink.taken c.search_all.new.sink) (g.K.Sink.accepted c.search_all.new.sink)) (printed lines)) c.making.count.told (rw (made.made.slots, i.leaves.slots) at (searched.lines.whole which)))
            (told.lines.part which))),
      ),
    )

pub returns-in-Err-tell_drain-clause-room : goal.returns-in-Err-tell_drain-clause-room
returns-in-Err-tell_drain-clause-room g c = c.pass_drain.ensures.room

-- ---- it stops at its turn
pub returns-then-stops_here-clause-makes : goal.returns-then-stops_here-clause-makes
returns-then-stops_here-clause-makes g c = λ which.
    let i = c.making.invariant in
    making-pauses c.args.manager.now c.making.manager c.args.watch.now c.args.count.now c.making.count (g.D.Writable.view c.args.device.now).events (g.D.Writable.view c.making.device).events (g.D.Writable.view c.making.device).flight (g.D.Writable.view c.making.device).spare i.making
    (IsSeen (g.D.Writable.view c.args.device.now).slots (g.D.Writable.view c.args.device.now).events (g.D.Writable.view c.args.device.now).flight c.args.manager.now) (g.D.Writable.view c.args.device.now).slots (counted which (g.K.Sink.taken c.args.sink.now) (g.K.Sink.accepted c.args.sink.now)) (counted which (g.K.Sink.taken c.making.sink) (g.K.Sink.accepted c.making.sink))
    c.args.stop (sym c.stops_here.ensures ∙ c.if-stops_here.true) i.reach i.before (i.told which)

pub returns-then-stops_here-clause-in_flight : goal.returns-then-stops_here-clause-in_flight
returns-then-stops_here-clause-in_flight g c = λ _. c.making.invariant.making.words

pub returns-then-stops_here-clause-seen : goal.returns-then-stops_here-clause-seen
returns-then-stops_here-clause-seen g c = λ _ seen. rw c.making.invariant.leaves.slots (c.making.invariant.seen seen)

pub returns-then-stops_here-clause-room : goal.returns-then-stops_here-clause-room
returns-then-stops_here-clause-room g c = c.making.invariant.making.room

-- ---- what is left in flight, and the room
pub returns-in-Ok-Finished-clause-in_flight : goal.returns-in-Ok-Finished-clause-in_flight
returns-in-Ok-Finished-clause-in_flight g c = λ _. rw c.in-Ok-Finished.ensures.made.flight c.making.invariant.making.words

pub returns-in-Ok-Finished-clause-seen : goal.returns-in-Ok-Finished-clause-seen
returns-in-Ok-Finished-clause-seen g c = λ _ seen.
    let i = c.making.invariant in
    let made = c.in-Ok-Finished.ensures in
    let stays = rw (made.made.slots, i.leaves.slots) at made.stays_on in
    rw (made.made.slots, i.leaves.slots)
    (seen-ended c.making.manager c.step_tried.new.manager (g.D.Writable.view c.args.device.now).slots (journal (g.D.Writable.view c.making.device)) (journal (g.D.Writable.view c.step_tried.new.device)) (g.D.Writable.view c.making.device).events (g.D.Writable.view c.step_tried.new.device).events (g.D.Writable.view c.making.device).flight (g.D.Writable.view c.step_tried.new.device).flight refl refl stays
    (subst (λ one. KeepsCurrent c.making.manager one c.step_tried.new.manager) c.in-Ok-Finished.field-0-is made.keeps) made.made.flight (i.seen seen))

pub returns-in-Ok-Reverted-clause-in_flight : goal.returns-in-Ok-Reverted-clause-in_flight
returns-in-Ok-Reverted-clause-in_flight g c = λ _. rw c.in-Ok-Reverted.ensures.made.flight c.making.invariant.making.words

pub returns-in-Ok-Reverted-clause-seen : goal.returns-in-Ok-Reverted-clause-seen
returns-in-Ok-Reverted-clause-seen g c = λ _ seen.
    let i = c.making.invariant in
    let made = c.in-Ok-Reverted.ensures in
    let stays = rw (made.made.slots, i.leaves.slots) at made.stays_on in
    rw (made.made.slots, i.leaves.slots)
    (seen-ended c.making.manager c.step_tried.new.manager (g.D.Writable.view c.args.device.now).slots (journal (g.D.Writable.view c.making.device)) (journal (g.D.Writable.view c.step_tried.new.device)) (g.D.Writable.view c.making.device).events (g.D.Writable.view c.step_tried.new.device).events (g.D.Writable.view c.making.device).flight (g.D.Writable.view c.step_tried.new.device).flight refl refl stays
    (subst (λ one. KeepsCurrent c.making.manager one c.step_tried.new.manager) c.in-Ok-Reverted.field-0-is made.keeps) made.made.flight (i.seen seen))

pub returns-in-Err-clause-in_flight : goal.returns-in-Err-clause-in_flight
returns-in-Err-clause-in_flight g c = λ _. rw c.in-Err.ensures.unmade.flight c.making.invariant.making.words

pub returns-in-Err-clause-seen : goal.returns-in-Err-clause-seen
returns-in-Err-clause-seen g c = λ _ seen.
    let i = c.making.invariant in
    let failed = c.in-Err.ensures in
    rw (failed.failed, failed.unmade.slots, i.leaves.slots, failed.unmade.events, failed.unmade.flight) (i.seen seen)

-- ---- what it leaves of the sink and the device
pub returns-then-stops_here-clause-leaves : goal.returns-then-stops_here-clause-leaves
returns-then-stops_here-clause-leaves g c = leaves-as _ _ _ _ _ _ ⊥ ⊥ _ _ (λ e. absurd (cc)) (λ never. absurd never) (λ e. absurd (cc)) (λ never. absurd never) c.making.invariant.leaves

pub returns-in-Ok-Finished-clause-leaves : goal.returns-in-Ok-Finished-clause-leaves
returns-in-Ok-Finished-clause-leaves g c = let made = c.in-Ok-Finished.ensures in leaves-as _ _ _ _ _ _ ⊥ ⊥ _ _ (λ e. absurd (cc)) (λ never. absurd never) (λ e. absurd (cc)) (λ never. absurd never) (leaves-made _ _ _ _ _ _ _ _ c.making.invariant.leaves made.made made.tried)

pub returns-in-Ok-Reverted-clause-leaves : goal.returns-in-Ok-Reverted-clause-leaves
returns-in-Ok-Reverted-clause-leaves g c = let made = c.in-Ok-Reverted.ensures in leaves-as _ _ _ _ _ _ ⊥ ⊥ _ _ (λ e. absurd (cc)) (λ never. absurd never) (λ e. absurd (cc)) (λ never. absurd never) (leaves-made _ _ _ _ _ _ _ _ c.making.invariant.leaves made.made made.tried)

pub returns-in-Err-clause-leaves : goal.returns-in-Err-clause-leaves
returns-in-Err-clause-leaves g c =
    let failed = c.in-Err.ensures in
    leaves-then _ _ _ _ _ _ _ _ ⊥ ⊥ _ _ (λ never. never) (λ never. never) c.making.invariant.leaves
    (leaves-tried _ _ _ _ _ _ _ _ failed.unmade (λ e. absurd (cc)) failed.tried_err tt)

pub returns-in-Err-tell_write-clause-leaves : goal.returns-in-Err-tell_write-clause-leaves
returns-in-Err-tell_write-clause-leaves g c =
    let made = c.in-Ok-Wrote.ensures in
    let told = c.in-Err-tell_write.ensures in
    leaves-cut _ _ _ _ _ _ _ _ _ _ (leaves-made _ _ _ _ _ _ _ _ c.making.invariant.leaves made.made made.tried) told.lines.told told.others.slots told.others.events told.others.faults (counted-failed _ _ _ _ told.lines.cause) (λ e. absurd (cc))

pub returns-in-Err-tell_drain-2-clause-leaves : goal.returns-in-Err-tell_drain-2-clause-leaves
returns-in-Err-tell_drain-2-clause-leaves g c =
    let made = c.in-Ok-Drained.ensures in
    let told = c.in-Err-tell_drain-2.ensures in
    leaves-cut _ _ _ _ _ _ _ _ _ _ (leaves-made _ _ _ _ _ _ _ _ c.making.invariant.leaves made.made made.tried) told.lines.told refl refl refl (counted-failed _ _ _ _ told.lines.cause) (λ e. absurd (cc))

pub returns-in-Err-search_all-clause-leaves : goal.returns-in-Err-search_all-clause-leaves
returns-in-Err-search_all-clause-leaves g c =
    let made = c.in-Ok-Waiting.ensures in
    let searched = c.in-Err-search_all.ensures in
    leaves-cut _ _ _ _ _ _ _ _ _ _ (leaves-made _ _ _ _ _ _ _ _ c.making.invariant.leaves made.made made.tried) searched.lines.told searched.others.slots searched.others.events searched.others.faults (counted-failed _ _ _ _ searched.lines.cause) (λ e. absurd (cc))

pub returns-in-Err-tell_drain-clause-leaves : goal.returns-in-Err-tell_drain-clause-leaves
returns-in-Err-tell_drain-clause-leaves g c =
    let made = c.in-Ok-Waiting.ensures in
    let searched = c.in-Ok-search_all.ensures in
    let passed = c.pass_drain.ensures in
    let told = c.in-Err-tell_drain.ensures in
    leaves-cut _ _ _ _ _ _ _ _ _ _ (leaves-made _ _ _ _ _ _ _ _
    (leaves-told _ _ _ _ _ _ _ _ (leaves-made _ _ _ _ _ _ _ _ c.making.invariant.leaves made.made made.tried) searched.lines.told searched.others.slots searched.others.events searched.others.faults searched.lines.cause.stayed)
    passed.made (tried-none ⊥ _ _ (λ never. never) passed.faults)) told.lines.told refl refl refl (counted-failed _ _ _ _ told.lines.cause) (λ e. absurd (cc))

-- a commit is under way
pub unreachable-requires : goal.unreachable-requires
unreachable-requires g c =
    let i = c.making.invariant in
    let m = i.making in
    goes-idle c.args.manager.now c.making.manager c.step_tried.new.manager c.args.watch.now c.args.count.now c.making.count c.making.count (g.D.Writable.view c.args.device.now).events (g.D.Writable.view c.making.device).events (g.D.Writable.view c.step_tried.new.device).events (g.D.Writable.view c.making.device).flight (g.D.Writable.view c.step_tried.new.device).flight (g.D.Writable.view c.making.device).spare (g.D.Writable.view c.step_tried.new.device).spare m c.in-Ok-Idle.field-0 c.in-Ok-Idle.ensures.stepped c.in-Ok-Idle.field-0-is
