use Rattle.std.proofs.Common.{refl}
use Rattle.placement.specs.Live.{is_above}
use Rattle.move_planner.proofs.Walked.{walked_down_none, walked_down_on, walked_down_end}
use Rattle.move_planner.proofs.shorter.walk_down.Goals as goal

pub loop-next-init : goal.loop-next-init
loop-next-init c = walked_down_none (is_above c.args.index.now.live) c.args.slots.now c.args.ends _ _ c.requires.down c.in_ok-walk.ensures.last c.in_ok-walk.ensures.members

pub loop-next-preserved : goal.loop-next-preserved
loop-next-preserved c =
    walked_down_on (is_above c.args.index.now.live) c.args.slots.now c.args.ends _ _ _ _ _ c.loop-next.invariant c.in-Some.ensures c.in_ok-push.ensures.last c.in_ok-push.ensures.members

pub returns : goal.returns
returns c =
    let w = walked_down_end (is_above c.args.index.now.live) c.args.slots.now c.args.ends _ _ c.loop-next.invariant c.step_down.result c.in_default.not-Some c.step_down.ensures in
    record { rest = w.rest; to = refl; members = w.are; follows = w.follows }
