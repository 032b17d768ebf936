use Rattle.std.proofs.Common.{sym, ◌∙◌}
use Rattle.placement.specs.Live.{is_above, rank_in}
use Rattle.placement.proofs.Orders.{ranked}
use Rattle.move_planner.proofs.Sought.{up_ended}
use Rattle.move_planner.proofs.Told.{some_told, told_upper}
use Rattle.move_planner.proofs.chains.step_up.Goals as goal

pub returns : goal.returns
returns c =
    let homes = some_told c.args.index.now.told (sym c.is_told.ensures.told ∙ c.if-not-is_told.false) in
    let last = told_upper c.args.index.now c.args.slots.now homes.0 c.in_ok-id.id homes.1 c.requires.told c.last_above.result c.requires.once (c.last_above.ensures homes.0 homes.1) in
    up_ended (is_above c.args.index.now.live) (rank_in c.args.index.now.live) c.args.slots.now c.args.free c.args.slot c.in_ok-id.id
    (ranked c.args.index.now c.is_told.ensures.apart) c.requires.order (sym c.in_ok-id.ensures) _ _ last c.if_behind.ensures
