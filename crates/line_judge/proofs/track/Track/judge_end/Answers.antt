use Rattle.std.proofs.Common.{arith}
use Rattle.write_judge.specs.Judging.{StateBetween}
use Rattle.line_judge.proofs.EndedSets.{commands_more, commands_all}
use Rattle.line_judge.proofs.track.Track.judge_end.Goals as goal

pub loop-i-preserved : goal.loop-i-preserved
loop-i-preserved c =
    let now : StateBetween = record { state = c.args.self.now.device; old = c.args.self.now.rules; new = c.args.ahead.now } in
    commands_more c.args.self.now.by c.args.asked now c.args.self.now.batch c.loop-i.i c.at-command.result c.at-command.ensures c.priority.result c.priority.ensures c.in-Ok.ensures c.loop-i.invariant

pub returns : goal.returns
returns c =
    let now : StateBetween = record { state = c.args.self.now.device; old = c.args.self.now.rules; new = c.args.ahead.now } in
    commands_all c.args.self.now.by c.args.asked now c.args.self.now.batch c.loop-i.i (omega arith) c.loop-i.invariant
