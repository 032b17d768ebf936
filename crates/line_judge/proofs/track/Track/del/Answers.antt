use Rattle.std.proofs.Common.{refl}
use Rattle.std.proofs.lemmas.Result.{on_ok_weaker, IfErr-weaker}
use Rattle.trace_file.specs.declared.TraceLine.TheVariants as lines
use Rattle.driver_trace.specs.declared.DriverLine.TheVariants as driver
use Rattle.line_judge.proofs.LinesTaken.{del_stops, del_takes, sound_before}
use Rattle.line_judge.proofs.track.Track.del.Goals as goal

pub returns-clause-taken : goal.returns-clause-taken
returns-clause-taken c = on_ok_weaker c.push.result (λ is. del_takes c.args.self.now c.push.new.self c.args.priority c.requires is.0 is.1) c.push.ensures.pushed

pub returns-clause-stopped : goal.returns-clause-stopped
returns-clause-stopped c = IfErr-weaker c.push.result _ _ (λ fault is. del_stops c.args.self.now c.args.priority fault c.requires is) c.push.ensures.stopped

pub push-requires : goal.push-requires
push-requires c = sound_before c.args.self.now (driver.Common (lines.Del c.args.priority)) refl c.requires
