use Rattle.write_judge.specs.Judging.{StateBetween}
use Rattle.line_judge.proofs.Outcomes.{held_from}
use Rattle.line_judge.proofs.track.Track.judge_held.Goals as goal

pub returns-in-Some : goal.returns-in-Some
returns-in-Some c =
    let now : StateBetween = record { state = c.args.self.now.device; old = c.args.self.now.rules; new = c.args.ahead.now } in
    held_from c.args.self.now.by now c.args.content.now _ c.cube_of-cube.result c.judge_cube.result c.in-Some.is c.cube_of-cube.ensures c.judge_cube.ensures
