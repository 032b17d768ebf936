use Rattle.std.proofs.Common.{◌≡◌, None, refl, sym, subst}
use Rattle.std.proofs.lemmas.Result.{on_ok_weaker, IfErr-weaker}
use Rattle.rule_store.specs.Batch.{set_after}
use Rattle.tcam_device.specs.declared.Write.TheVariants as writes
use Rattle.tcam_device.specs.State.{apply}
use Rattle.trace_file.specs.declared.TraceLine.TheVariants as lines
use Rattle.driver_trace.specs.declared.DriverLine.TheVariants as driver
use Rattle.line_judge.specs.declared.track.Track.{Track}
use Rattle.line_judge.specs.Tracked.{IsEventFault, IsJudgedEvent}
use Rattle.line_judge.proofs.LinesTaken.{event_stops, event_takes, judged_back, memory_stops, opens, opens_without}
use Rattle.line_judge.proofs.track.Track.write_word.Goals as goal

pub take_ahead-requires-clause-sound : goal.take_ahead-requires-clause-sound
take_ahead-requires-clause-sound c = (opens c.args.self.now (driver.Common (lines.Table c.args.field c.args.port c.args.word)) None refl c.requires).sound

pub take_ahead-requires-clause-ahead : goal.take_ahead-requires-clause-ahead
take_ahead-requires-clause-ahead c = (opens c.args.self.now (driver.Common (lines.Table c.args.field c.args.port c.args.word)) None refl c.requires).ahead

pub write_word_by-requires-clause-open : goal.write_word_by-requires-clause-open
write_word_by-requires-clause-open c = opens_without c.args.self.now c.take_ahead.new.self c.in-Ok.ensures.same (opens c.args.self.now (driver.Common (lines.Table c.args.field c.args.port c.args.word)) None refl c.requires)

pub write_word_by-requires-clause-ahead : goal.write_word_by-requires-clause-ahead
write_word_by-requires-clause-ahead c = subst (λ (t : Track). c.in-Ok.ahead ≡ set_after t.rules t.batch) (sym c.in-Ok.ensures.same) c.in-Ok.ensures.set

pub returns-in-Ok-clause-taken : goal.returns-in-Ok-clause-taken
returns-in-Ok-clause-taken c =
    on_ok_weaker c.write_word_by.result (λ judged. event_takes c.args.self.now c.write_word_by.new.self (driver.Common (lines.Table c.args.field c.args.port c.args.word)) None (apply c.args.self.now.device (writes.Table c.args.field c.args.port c.args.word)) refl refl refl refl refl
    (judged_back c.args.self.now c.write_word_by.new.self (apply c.args.self.now.device (writes.Table c.args.field c.args.port c.args.word))
    (subst (λ (t : Track). IsJudgedEvent t (apply t.device (writes.Table c.args.field c.args.port c.args.word)) c.write_word_by.new.self) c.in-Ok.ensures.same judged))) c.write_word_by.ensures.written

pub returns-in-Ok-clause-stopped : goal.returns-in-Ok-clause-stopped
returns-in-Ok-clause-stopped c =
    IfErr-weaker c.write_word_by.result _ _ (λ fault is. event_stops c.args.self.now (driver.Common (lines.Table c.args.field c.args.port c.args.word)) (apply c.args.self.now.device (writes.Table c.args.field c.args.port c.args.word)) fault refl refl refl
    (subst (λ (t : Track). IsEventFault t (apply t.device (writes.Table c.args.field c.args.port c.args.word)) fault) c.in-Ok.ensures.same is)) c.write_word_by.ensures.stopped

pub returns-in-Err-clause-stopped : goal.returns-in-Err-clause-stopped
returns-in-Err-clause-stopped c = memory_stops c.args.self.now (driver.Common (lines.Table c.args.field c.args.port c.args.word)) c.in-Err.fault c.in-Err.ensures.memory
