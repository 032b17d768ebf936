use Rattle.write_judge.specs.Judging.{StateBetween}
use Rattle.line_judge.proofs.Outcomes.{first_held, second_held}
use Rattle.line_judge.proofs.track.Track.judge_pair.Goals as goal

pub returns-in-Ok-clause-one : goal.returns-in-Ok-clause-one
returns-in-Ok-clause-one c =
    let now : StateBetween = record { state = c.args.self.now.device; old = c.args.self.now.rules; new = c.args.ahead.now } in
    first_held c.args.self.now.by now c.args.one.now c.args.other.now c.judge_held-in-Ok.result c.in-Ok.ensures c.judge_held-in-Ok.ensures

pub returns-in-Ok-clause-other : goal.returns-in-Ok-clause-other
returns-in-Ok-clause-other c =
    let now : StateBetween = record { state = c.args.self.now.device; old = c.args.self.now.rules; new = c.args.ahead.now } in
    second_held c.args.self.now.by now c.args.other.now c.judge_held-in-Ok.result c.judge_held-in-Ok.ensures
