use Rattle.std.proofs.Common.{◌≡◌, refl, sym, subst}
use Rattle.std.proofs.lemmas.Result.{on_ok_weaker, IfErr-weaker}
use Rattle.rule_store.specs.Batch.{set_after}
use Rattle.driver_trace.specs.declared.Asked.TheVariants.{Old}
use Rattle.driver_trace.specs.declared.DriverLine.TheVariants as driver
use Rattle.line_judge.specs.declared.track.Track.{Track}
use Rattle.line_judge.specs.Tracked.{IsEndedWith, IsFaultOf, between}
use Rattle.line_judge.proofs.LinesTaken.{back_stops, back_takes, ended_back, ends_open, memory_stops, opens_without}
use Rattle.line_judge.proofs.track.Track.back.Goals as goal

pub take_ahead-requires-clause-sound : goal.take_ahead-requires-clause-sound
take_ahead-requires-clause-sound c = (ends_open c.args.self.now (driver.Back c.args.n) c.args.n refl c.requires).sound

pub take_ahead-requires-clause-ahead : goal.take_ahead-requires-clause-ahead
take_ahead-requires-clause-ahead c = (ends_open c.args.self.now (driver.Back c.args.n) c.args.n refl c.requires).ahead

pub back_from-requires-clause-open : goal.back_from-requires-clause-open
back_from-requires-clause-open c = opens_without c.args.self.now c.take_ahead.new.self c.in-Ok.ensures.same (ends_open c.args.self.now (driver.Back c.args.n) c.args.n refl c.requires)

pub back_from-requires-clause-ahead : goal.back_from-requires-clause-ahead
back_from-requires-clause-ahead c = subst (λ (t : Track). c.in-Ok.ahead ≡ set_after t.rules t.batch) (sym c.in-Ok.ensures.same) c.in-Ok.ensures.set

pub returns-in-Ok-clause-taken : goal.returns-in-Ok-clause-taken
returns-in-Ok-clause-taken c =
    on_ok_weaker c.back_from.result (λ ended. back_takes c.args.self.now c.back_from.new.self c.args.n c.requires
    (ended_back c.args.self.now c.back_from.new.self (c.args.self.now.rules) (subst (λ (t : Track). IsEndedWith t (t.rules) c.back_from.new.self) c.in-Ok.ensures.same ended))) c.back_from.ensures.taken

pub returns-in-Ok-clause-stopped : goal.returns-in-Ok-clause-stopped
returns-in-Ok-clause-stopped c =
    IfErr-weaker c.back_from.result _ _ (λ fault is. back_stops c.args.self.now c.args.n fault (subst (λ (t : Track). IsFaultOf t.by Old (between t) fault) c.in-Ok.ensures.same is)) c.back_from.ensures.stopped

pub returns-in-Err-clause-stopped : goal.returns-in-Err-clause-stopped
returns-in-Err-clause-stopped c = memory_stops c.args.self.now (driver.Back c.args.n) c.in-Err.fault c.in-Err.ensures.memory
