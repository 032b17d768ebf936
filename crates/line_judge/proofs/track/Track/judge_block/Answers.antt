use Rattle.std.proofs.Common.{arith}
use Rattle.write_judge.specs.Judging.{StateBetween}
use Rattle.line_judge.proofs.Blocks.{block_more, block_all}
use Rattle.line_judge.proofs.track.Track.judge_block.Goals as goal

pub loop-held-preserved : goal.loop-held-preserved
loop-held-preserved c =
    let now : StateBetween = record { state = c.args.self.now.device; old = c.args.self.now.rules; new = c.args.ahead.now } in
    block_more c.args.self.now.by now c.args.block.now c.loop-held.held-index c.held-item.result (omega arith) c.held-item.is c.in-Ok.ensures c.loop-held.invariant

pub returns : goal.returns
returns c =
    let now : StateBetween = record { state = c.args.self.now.device; old = c.args.self.now.rules; new = c.args.ahead.now } in
    block_all c.args.self.now.by now c.args.block.now c.loop-held.held-index (omega arith) c.loop-held.invariant
