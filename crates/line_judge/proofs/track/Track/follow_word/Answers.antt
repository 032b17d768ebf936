use Rattle.std.proofs.Common.{None, refl, sym, subst}
use Rattle.std.proofs.lemmas.Result.{on_ok_weaker, IfErr-weaker}
use Rattle.tcam_device.specs.declared.Write.TheVariants as writes
use Rattle.tcam_device.specs.State.{apply}
use Rattle.trace_file.specs.declared.TraceLine.TheVariants as lines
use Rattle.driver_trace.specs.declared.DriverLine.TheVariants as driver
use Rattle.line_judge.specs.Tracked.{TakesLine}
use Rattle.line_judge.proofs.LinesTaken.{event_takes, memory_stops, opens}
use Rattle.line_judge.proofs.FollowedLines.{word_followed}
use Rattle.line_judge.proofs.track.Track.follow_word.Goals as goal

pub returns-clause-taken : goal.returns-clause-taken
returns-clause-taken c =
    on_ok_weaker c.count_write.result (λ same. subst (TakesLine c.args.self.now (driver.Common (lines.Table c.args.field c.args.port c.args.word))) (sym same)
    (event_takes c.args.self.now _ (driver.Common (lines.Table c.args.field c.args.port c.args.word)) None (apply c.args.self.now.device (writes.Table c.args.field c.args.port c.args.word)) refl refl refl refl refl
    (word_followed c.args.self.now (opens c.args.self.now (driver.Common (lines.Table c.args.field c.args.port c.args.word)) None refl c.requires.may) c.write.new.self c.args.field c.args.port c.args.word
    c.write.ensures c.requires.hitless))) c.count_write.ensures.counted

pub returns-clause-stopped : goal.returns-clause-stopped
returns-clause-stopped c =
    IfErr-weaker c.count_write.result _ _ (λ fault is. memory_stops c.args.self.now (driver.Common (lines.Table c.args.field c.args.port c.args.word)) fault is) c.count_write.ensures.memory
