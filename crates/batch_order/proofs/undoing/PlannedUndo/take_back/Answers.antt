use Rattle.std.proofs.Common.{ℕ, length, sym, ap, subst, ◌∙◌}
use Rattle.std.specs.List.{AllByRecursion}
use Rattle.move_planner.specs.Noted.{IsInside, taken_back}
use Rattle.move_planner.proofs.Noted.{length_back}
use Rattle.batch_order.proofs.undoing.PlannedUndo.take_back.Goals as goal

pub put_back-requires : goal.put_back-requires
put_back-requires c = c.requires.1.changes_inside

pub put_back-requires-2 : goal.put_back-requires-2
put_back-requires-2 c =
    subst (λ (count : ℕ). AllByRecursion (IsInside count) c.args.self.now.moves)
    (sym (ap length c.put_back.ensures.exact ∙ length_back c.args.arrangement.now c.args.self.now.changes)) c.requires.1.moves_inside

pub returns-clause-back : goal.returns-clause-back
returns-clause-back c before takes =
    c.put_back-2.ensures.exact ∙ (ap (λ slots. taken_back slots c.args.self.now.moves) c.put_back.ensures.exact ∙ takes.leads)

pub returns-clause-told : goal.returns-clause-told
returns-clause-told c told = c.put_back-2.ensures.told (c.put_back.ensures.told told)
