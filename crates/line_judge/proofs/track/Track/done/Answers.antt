use Rattle.std.proofs.Common.{◌≡◌, refl, sym, subst}
use Rattle.std.proofs.lemmas.Result.{on_ok_weaker, IfErr-weaker}
use Rattle.rule_store.specs.Batch.{set_after}
use Rattle.driver_trace.specs.declared.Asked.TheVariants.{New}
use Rattle.trace_file.specs.declared.TraceLine.TheVariants as lines
use Rattle.driver_trace.specs.declared.DriverLine.TheVariants as driver
use Rattle.line_judge.specs.declared.track.Track.{Track}
use Rattle.line_judge.specs.Tracked.{IsEndedWith, IsFaultOf, between}
use Rattle.line_judge.proofs.LinesTaken.{done_stops, done_takes, ended_back, ends_open, memory_stops, opens_without}
use Rattle.line_judge.proofs.track.Track.done.Goals as goal

pub take_ahead-requires-clause-sound : goal.take_ahead-requires-clause-sound
take_ahead-requires-clause-sound c = (ends_open c.args.self.now (driver.Common (lines.Done c.args.n)) c.args.n refl c.requires).sound

pub take_ahead-requires-clause-ahead : goal.take_ahead-requires-clause-ahead
take_ahead-requires-clause-ahead c = (ends_open c.args.self.now (driver.Common (lines.Done c.args.n)) c.args.n refl c.requires).ahead

pub done_by-requires-clause-open : goal.done_by-requires-clause-open
done_by-requires-clause-open c = opens_without c.args.self.now c.take_ahead.new.self c.in-Ok.ensures.same (ends_open c.args.self.now (driver.Common (lines.Done c.args.n)) c.args.n refl c.requires)

pub done_by-requires-clause-ahead : goal.done_by-requires-clause-ahead
done_by-requires-clause-ahead c = subst (λ (t : Track). c.in-Ok.ahead ≡ set_after t.rules t.batch) (sym c.in-Ok.ensures.same) c.in-Ok.ensures.set

pub returns-in-Ok-clause-taken : goal.returns-in-Ok-clause-taken
returns-in-Ok-clause-taken c =
    on_ok_weaker c.done_by.result (λ ended. done_takes c.args.self.now c.done_by.new.self c.args.n c.requires
    (ended_back c.args.self.now c.done_by.new.self (set_after c.args.self.now.rules c.args.self.now.batch) (subst (λ (t : Track). IsEndedWith t (set_after t.rules t.batch) c.done_by.new.self) c.in-Ok.ensures.same ended))) c.done_by.ensures.taken

pub returns-in-Ok-clause-stopped : goal.returns-in-Ok-clause-stopped
returns-in-Ok-clause-stopped c =
    IfErr-weaker c.done_by.result _ _ (λ fault is. done_stops c.args.self.now c.args.n fault (subst (λ (t : Track). IsFaultOf t.by New (between t) fault) c.in-Ok.ensures.same is)) c.done_by.ensures.stopped

pub returns-in-Err-clause-stopped : goal.returns-in-Err-clause-stopped
returns-in-Err-clause-stopped c = memory_stops c.args.self.now (driver.Common (lines.Done c.args.n)) c.in-Err.fault c.in-Err.ensures.memory
