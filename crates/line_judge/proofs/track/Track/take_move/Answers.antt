use Rattle.std.proofs.Common.{◌≡◌, ◌≤◌, ◌+◌, ℕ, Some, refl, sym, subst, arith}
use Rattle.std.proofs.lemmas.Result.{on_ok_weaker, IfErr-weaker}
use Rattle.rule_store.specs.Batch.{set_after}
use Rattle.driver_trace.specs.DriverLines.{last_moved}
use Rattle.tcam_device.specs.State.{State}
use Rattle.driver_trace.specs.Known.{moved_slots}
use Rattle.driver_trace.specs.declared.DriverLine.TheVariants as driver
use Rattle.line_judge.specs.declared.track.Track.{Track}
use Rattle.line_judge.specs.Tracked.{IsEventFault, IsJudgedEvent}
use Rattle.line_judge.proofs.LinesTaken.{event_stops, event_takes, judged_back, memory_stops, opens, opens_without, uses}
use Rattle.line_judge.proofs.track.Track.take_move.Goals as goal

abbrev moved_by : State → ℕ → ℕ → ℕ → State
moved_by state from to count = record state { slots = moved_slots state.slots from to count }

pub take_ahead-requires-clause-sound : goal.take_ahead-requires-clause-sound
take_ahead-requires-clause-sound c = (opens c.args.self.now (driver.Move c.args.from c.args.to c.args.count) (Some (last_moved c.args.from c.args.to c.args.count)) refl c.requires).sound

pub take_ahead-requires-clause-ahead : goal.take_ahead-requires-clause-ahead
take_ahead-requires-clause-ahead c = (opens c.args.self.now (driver.Move c.args.from c.args.to c.args.count) (Some (last_moved c.args.from c.args.to c.args.count)) refl c.requires).ahead

pub move_by-requires-clause-open : goal.move_by-requires-clause-open
move_by-requires-clause-open c =
    opens_without c.args.self.now c.take_ahead.new.self c.in-Ok.ensures.same (opens c.args.self.now (driver.Move c.args.from c.args.to c.args.count) (Some (last_moved c.args.from c.args.to c.args.count)) refl c.requires)

pub move_by-requires-clause-ahead : goal.move_by-requires-clause-ahead
move_by-requires-clause-ahead c = subst (λ (t : Track). c.in-Ok.ahead ≡ set_after t.rules t.batch) (sym c.in-Ok.ensures.same) c.in-Ok.ensures.set

pub move_by-requires-clause-from : goal.move_by-requires-clause-from
move_by-requires-clause-from c =
    let used = uses c.args.self.now (driver.Move c.args.from c.args.to c.args.count) (last_moved c.args.from c.args.to c.args.count) refl c.requires in
    subst (λ (t : Track). c.args.from + c.args.count ≤ t.slots) (sym c.in-Ok.ensures.same) (omega arith)

pub move_by-requires-clause-to : goal.move_by-requires-clause-to
move_by-requires-clause-to c =
    let used = uses c.args.self.now (driver.Move c.args.from c.args.to c.args.count) (last_moved c.args.from c.args.to c.args.count) refl c.requires in
    subst (λ (t : Track). c.args.to + c.args.count ≤ t.slots) (sym c.in-Ok.ensures.same) (omega arith)

pub returns-in-Ok-clause-taken : goal.returns-in-Ok-clause-taken
returns-in-Ok-clause-taken c =
    on_ok_weaker c.move_by.result (λ judged. event_takes c.args.self.now c.move_by.new.self (driver.Move c.args.from c.args.to c.args.count) (Some (last_moved c.args.from c.args.to c.args.count)) (moved_by c.args.self.now.device c.args.from c.args.to c.args.count) refl refl refl refl refl
    (judged_back c.args.self.now c.move_by.new.self (moved_by c.args.self.now.device c.args.from c.args.to c.args.count) (subst (λ (t : Track). IsJudgedEvent t (moved_by t.device c.args.from c.args.to c.args.count) c.move_by.new.self) c.in-Ok.ensures.same judged))) c.move_by.ensures.written

pub returns-in-Ok-clause-stopped : goal.returns-in-Ok-clause-stopped
returns-in-Ok-clause-stopped c =
    IfErr-weaker c.move_by.result _ _ (λ fault is. event_stops c.args.self.now (driver.Move c.args.from c.args.to c.args.count) (moved_by c.args.self.now.device c.args.from c.args.to c.args.count) fault refl refl refl
    (subst (λ (t : Track). IsEventFault t (moved_by t.device c.args.from c.args.to c.args.count) fault) c.in-Ok.ensures.same is)) c.move_by.ensures.stopped

pub returns-in-Err-clause-stopped : goal.returns-in-Err-clause-stopped
returns-in-Err-clause-stopped c = memory_stops c.args.self.now (driver.Move c.args.from c.args.to c.args.count) c.in-Err.fault c.in-Err.ensures.memory
