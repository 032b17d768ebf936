use Rattle.std.proofs.Common.{subst}
use Rattle.placement.specs.Live.{is_above}
use Rattle.move_planner.specs.Steps.{FindsShorter}
use Rattle.move_planner.proofs.Ways.{low_inside, high_inside, can_go_down, can_go_up, way_is, some_way}
use Rattle.move_planner.proofs.placing.way.Goals as goal

pub down_ends-down-requires : goal.down_ends-down-requires
down_ends-down-requires c = low_inside c.args.index.now c.args.id c.args.slots.now c.args.gap.lower c.args.gap.upper c.requires.lower c.requires.upper c.requires.ready

pub up_ends-up-requires : goal.up_ends-up-requires
up_ends-up-requires c = high_inside c.args.index.now c.args.id c.args.slots.now c.args.gap.lower c.args.gap.upper c.requires.lower c.requires.upper c.requires.ready

pub shorter_chain-requires-clause-down : goal.shorter_chain-requires-clause-down
shorter_chain-requires-clause-down c =
    can_go_down c.args.index.now c.args.id c.args.slots.now c.args.gap.lower c.args.gap.upper c.requires.lower c.requires.upper
    c.down_ends-down.result c.requires.ready c.down_ends-down.ensures

pub shorter_chain-requires-clause-up : goal.shorter_chain-requires-clause-up
shorter_chain-requires-clause-up c =
    can_go_up c.args.index.now c.args.id c.args.slots.now c.args.gap.lower c.args.gap.upper c.requires.lower c.requires.upper
    c.up_ends-up.result c.requires.ready c.up_ends-up.ensures

pub unreachable-requires : goal.unreachable-requires
unreachable-requires c =
    let none = subst (FindsShorter (is_above c.args.index.now.live) c.args.slots.now c.down_ends-down.result c.up_ends-up.result) c.in-None.is c.in_ok-chain.ensures in
    some_way c.args.index.now c.args.id c.args.slots.now c.args.gap.lower c.args.gap.upper c.requires.lower c.requires.upper
    c.down_ends-down.result c.up_ends-up.result c.requires.ready c.requires.full c.down_ends-down.ensures c.up_ends-up.ensures none.0 none.1

pub returns : goal.returns
returns c =
    way_is c.args.index.now c.args.id c.args.slots.now c.args.gap.lower c.args.gap.upper c.requires.lower c.requires.upper
    c.down_ends-down.result c.up_ends-up.result c.in-Some.chain c.down_ends-down.ensures c.up_ends-up.ensures
    (subst (FindsShorter (is_above c.args.index.now.live) c.args.slots.now c.down_ends-down.result c.up_ends-up.result) c.in-Some.is c.in_ok-chain.ensures)
