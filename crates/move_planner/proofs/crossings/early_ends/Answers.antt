use Rattle.std.proofs.Common.{sym, subst}
use Rattle.move_planner.specs.Steps.{FindsEarly}
use Rattle.move_planner.proofs.Underway.{early_unmarked, early_blocked}
use Rattle.move_planner.proofs.crossings.early_ends.Goals as goal

pub returns-in_err-from : goal.returns-in_err-from
returns-in_err-from c = λ index id behind before w.
    subst (FindsEarly behind c.args.slots.now c.args.sides.now c.args.cut) (sym c.from_residual.ensures)
    (early_unmarked index id behind before c.args.slots.now c.args.sides.now c.args.cut w c.in_err-from.ensures)

pub returns-in_err-free : goal.returns-in_err-free
returns-in_err-free c = λ index id behind before w.
    subst (FindsEarly behind c.args.slots.now c.args.sides.now c.args.cut) (sym c.from_residual-in_err-free.ensures)
    (early_blocked index id behind before c.args.slots.now c.args.sides.now c.args.cut w c.in_ok-from.from c.in_ok-from.ensures (sym c.in_err-free.ensures))
