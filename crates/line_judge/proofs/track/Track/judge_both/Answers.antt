use Rattle.write_judge.specs.Judging.{StateBetween}
use Rattle.line_judge.proofs.Outcomes.{both_sets}
use Rattle.line_judge.proofs.track.Track.judge_both.Goals as goal

pub returns-in-Ok : goal.returns-in-Ok
returns-in-Ok c =
    let now : StateBetween = record { state = c.args.self.now.device; old = c.args.self.now.rules; new = c.args.ahead.now } in
    both_sets c.args.self.now.by c.args.asked now c.args.priority c.judge_rule-in-Ok.result c.in-Ok.ensures c.judge_rule-in-Ok.ensures
