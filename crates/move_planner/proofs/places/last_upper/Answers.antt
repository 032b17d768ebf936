use Rattle.std.proofs.Common.{sym, ◌∙◌}
use Rattle.move_planner.proofs.Told.{some_told, told_upper}
use Rattle.move_planner.proofs.places.last_upper.Goals as goal

pub returns-then-is_told-clause-last : goal.returns-then-is_told-clause-last
returns-then-is_told-clause-last c =
    let homes = some_told c.args.index.now.told (sym c.is_told.ensures.told ∙ c.if-is_told.true) in
    told_upper c.args.index.now c.args.slots.now homes.0 c.args.id homes.1 c.requires.told c.last_above.result c.requires.once (c.last_above.ensures homes.0 homes.1)
