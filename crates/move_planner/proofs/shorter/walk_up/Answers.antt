use Rattle.std.proofs.Common.{refl}
use Rattle.placement.specs.Live.{is_above}
use Rattle.move_planner.proofs.Walked.{walked_up_none, walked_up_on, walked_up_end}
use Rattle.move_planner.proofs.shorter.walk_up.Goals as goal

pub loop-next-init : goal.loop-next-init
loop-next-init c = walked_up_none (is_above c.args.index.now.live) c.args.slots.now c.args.ends _ _ c.requires.up c.in_ok-walk.ensures.last c.in_ok-walk.ensures.members

pub loop-next-preserved : goal.loop-next-preserved
loop-next-preserved c =
    walked_up_on (is_above c.args.index.now.live) c.args.slots.now c.args.ends _ _ _ _ _ c.loop-next.invariant c.in-Some.ensures c.in_ok-push.ensures.last c.in_ok-push.ensures.members

pub returns : goal.returns
returns c =
    let w = walked_up_end (is_above c.args.index.now.live) c.args.slots.now c.args.ends _ _ c.loop-next.invariant c.step_up.result c.in_default.not-Some c.step_up.ensures in
    record { rest = w.rest; to = refl; members = w.are; follows = w.follows }
