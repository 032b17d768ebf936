use Rattle.std.proofs.Common.{sym, ◌∙◌}
use Rattle.move_planner.proofs.Told.{some_told, told_lower}
use Rattle.move_planner.proofs.places.first_lower.Goals as goal

pub returns-then-is_told-clause-first : goal.returns-then-is_told-clause-first
returns-then-is_told-clause-first c =
    let homes = some_told c.args.index.now.told (sym c.is_told.ensures.told ∙ c.if-is_told.true) in
    told_lower c.args.index.now c.args.slots.now homes.0 c.args.id homes.1 c.requires.told c.first_below.result c.requires.order (c.first_below.ensures homes.0 homes.1)
