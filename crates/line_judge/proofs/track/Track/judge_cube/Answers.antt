use Rattle.write_judge.specs.Judging.{StateBetween}
use Rattle.line_judge.proofs.track.Track.judge_cube.Goals as goal

pub returns-in-Ok : goal.returns-in-Ok
returns-in-Ok c =
    let now : StateBetween = record { state = c.args.self.now.device; old = c.args.self.now.rules; new = c.args.ahead.now } in
    c.outcome.ensures c.args.self.now.by c.args.asked now c.args.cube.now c.in-Ok.ensures
