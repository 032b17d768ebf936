use Rattle.move_planner.proofs.Noted.{noted_then}
use Rattle.move_planner.proofs.crossings.turn.Goals as goal

pub returns-clause-noted : goal.returns-clause-noted
returns-clause-noted c =
    noted_then c.args.slots.now c.shift.new.slots c.make.new.slots c.args.plan.now c.shift.new.plan c.make.new.self c.args.undo.now c.shift.new.undo c.make.new.undo c.shift.ensures.noted c.make.ensures.noted
