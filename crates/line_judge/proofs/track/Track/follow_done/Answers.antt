use Rattle.std.proofs.Common.{refl}
use Rattle.std.proofs.lemmas.Result.{on_ok_weaker, IfErr-weaker}
use Rattle.trace_file.specs.declared.TraceLine.TheVariants as lines
use Rattle.driver_trace.specs.declared.DriverLine.TheVariants as driver
use Rattle.line_judge.proofs.LinesTaken.{done_takes, ends_open, memory_stops}
use Rattle.line_judge.proofs.FollowedLines.{done_followed}
use Rattle.line_judge.proofs.track.Track.follow_done.Goals as goal

pub apply-requires : goal.apply-requires
apply-requires c = (ends_open c.args.self.now (driver.Common (lines.Done c.args.n)) c.args.n refl c.requires.may).sound

pub returns-in-Ok-clause-taken : goal.returns-in-Ok-clause-taken
returns-in-Ok-clause-taken c =
    on_ok_weaker c.close.result (λ closed. done_takes c.args.self.now c.close.new.self c.args.n c.requires.may
    (done_followed c.args.self.now c.close.new.self c.apply.new.self c.in-Ok.ensures c.requires.hitless closed)) c.close.ensures.closed

pub returns-in-Ok-clause-stopped : goal.returns-in-Ok-clause-stopped
returns-in-Ok-clause-stopped c = IfErr-weaker c.close.result _ _ (λ fault is. memory_stops c.args.self.now (driver.Common (lines.Done c.args.n)) fault is) c.close.ensures.memory
