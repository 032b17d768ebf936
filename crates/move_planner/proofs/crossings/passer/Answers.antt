use Rattle.placement.specs.Live.{is_above}
use Rattle.move_planner.specs.Steps.{FindsShorter}
use Rattle.move_planner.proofs.Outcomes.{if_ok}
use Rattle.move_planner.proofs.Underway.{early_goes, late_goes, passer_is}
use Rattle.move_planner.proofs.Told.{untold}
use Rattle.move_planner.proofs.crossings.passer.Goals as goal

pub shorter_chain-requires-clause-down : goal.shorter_chain-requires-clause-down
shorter_chain-requires-clause-down c =
    let u = c.requires.underway in
    early_goes c.args.index.now u.0 u.1 u.2 c.args.slots.now c.args.sides.now c.args.cut u.3 c.early_ends-down.result (c.early_ends-down.ensures c.args.index.now u.0 u.1 u.2 u.3)

pub shorter_chain-requires-clause-up : goal.shorter_chain-requires-clause-up
shorter_chain-requires-clause-up c =
    let u = c.requires.underway in
    late_goes c.args.index.now u.0 u.1 u.2 c.args.slots.now c.args.sides.now c.args.cut u.3 c.late_ends-up.result (c.late_ends-up.ensures c.args.index.now u.0 u.1 u.2 u.3)

pub returns : goal.returns
returns c =
    if_ok (FindsShorter (is_above c.args.index.now.live) c.args.slots.now c.early_ends-down.result c.late_ends-up.result) _ c.shorter_chain.result
    (λ found s id behind before w. passer_is c.args.index.now id behind before c.args.slots.now c.args.sides.now c.args.cut w c.early_ends-down.result c.late_ends-up.result found
    (c.early_ends-down.ensures c.args.index.now id behind before w) (c.late_ends-up.ensures c.args.index.now id behind before w) s) c.shorter_chain.ensures

pub shorter_chain-requires-clause-told : goal.shorter_chain-requires-clause-told
shorter_chain-requires-clause-told c = untold c.args.index.now c.args.slots.now c.requires.untold
