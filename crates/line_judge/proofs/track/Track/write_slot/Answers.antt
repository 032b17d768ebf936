use Rattle.std.proofs.Common.{◌≡◌, ◌<◌, sym, subst}
use Rattle.std.proofs.lemmas.Result.{on_ok_weaker, IfErr-weaker}
use Rattle.rule_store.specs.Batch.{set_after}
use Rattle.tcam_device.specs.declared.Write.TheVariants as writes
use Rattle.tcam_device.specs.State.{apply}
use Rattle.line_judge.specs.declared.track.Track.{Track}
use Rattle.line_judge.specs.Tracked.{IsEventFault, IsJudgedEvent}
use Rattle.line_judge.proofs.LinesTaken.{judged_back, opens_without}
use Rattle.line_judge.proofs.track.Track.write_slot.Goals as goal

pub take_ahead-requires-clause-sound : goal.take_ahead-requires-clause-sound
take_ahead-requires-clause-sound c = c.requires.open.sound

pub take_ahead-requires-clause-ahead : goal.take_ahead-requires-clause-ahead
take_ahead-requires-clause-ahead c = c.requires.open.ahead

pub write_slot_by-requires-clause-open : goal.write_slot_by-requires-clause-open
write_slot_by-requires-clause-open c = opens_without c.args.self.now c.take_ahead.new.self c.in-Ok.ensures.same c.requires.open

pub write_slot_by-requires-clause-ahead : goal.write_slot_by-requires-clause-ahead
write_slot_by-requires-clause-ahead c = subst (λ (t : Track). c.in-Ok.ahead ≡ set_after t.rules t.batch) (sym c.in-Ok.ensures.same) c.in-Ok.ensures.set

pub write_slot_by-requires-clause-used : goal.write_slot_by-requires-clause-used
write_slot_by-requires-clause-used c = subst (λ (t : Track). c.args.slot < t.slots) (sym c.in-Ok.ensures.same) c.requires.used

pub returns-in-Ok-clause-written : goal.returns-in-Ok-clause-written
returns-in-Ok-clause-written c =
    on_ok_weaker c.write_slot_by.result (λ judged. judged_back c.args.self.now c.write_slot_by.new.self (apply c.args.self.now.device (writes.Slot c.args.slot c.args.content.now))
    (subst (λ (t : Track). IsJudgedEvent t (apply t.device (writes.Slot c.args.slot c.args.content.now)) c.write_slot_by.new.self) c.in-Ok.ensures.same judged)) c.write_slot_by.ensures.written

pub returns-in-Ok-clause-stopped : goal.returns-in-Ok-clause-stopped
returns-in-Ok-clause-stopped c =
    IfErr-weaker c.write_slot_by.result _ _ (λ fault is. subst (λ (t : Track). IsEventFault t (apply t.device (writes.Slot c.args.slot c.args.content.now)) fault) c.in-Ok.ensures.same is) c.write_slot_by.ensures.stopped

pub returns-in-Err-clause-stopped : goal.returns-in-Err-clause-stopped
returns-in-Err-clause-stopped c = subst (IsEventFault c.args.self.now (apply c.args.self.now.device (writes.Slot c.args.slot c.args.content.now))) (sym c.in-Err.ensures.memory) tt
