use Rattle.write_judge.specs.Judging.{StateBetween}
use Rattle.line_judge.proofs.Outcomes.{first_block, second_block}
use Rattle.line_judge.proofs.track.Track.judge_blocks.Goals as goal

pub returns-in-Ok-clause-one : goal.returns-in-Ok-clause-one
returns-in-Ok-clause-one c =
    let now : StateBetween = record { state = c.args.self.now.device; old = c.args.self.now.rules; new = c.args.ahead.now } in
    first_block c.args.self.now.by now c.args.one.now c.args.other.now c.judge_block-in-Ok.result c.in-Ok.ensures c.judge_block-in-Ok.ensures

pub returns-in-Ok-clause-other : goal.returns-in-Ok-clause-other
returns-in-Ok-clause-other c =
    let now : StateBetween = record { state = c.args.self.now.device; old = c.args.self.now.rules; new = c.args.ahead.now } in
    second_block c.args.self.now.by now c.args.other.now c.judge_block-in-Ok.result c.judge_block-in-Ok.ensures
