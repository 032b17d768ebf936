use Rattle.std.proofs.Common.{◌∙◌, ◌++◌, [], ◌∷◌, List, ap}
use Rattle.placement.specs.declared.Move.{Move}
use Rattle.move_planner.proofs.Noted.{noted_none, noted_one}
use Rattle.move_planner.proofs.Moves.make.Goals as goal

pub returns-in_err-reserve-clause-noted : goal.returns-in_err-reserve-clause-noted
returns-in_err-reserve-clause-noted c = rw (c.reserve.ensures.items, c.self.view_is) (noted_none c.args.slots.now c.args.self.now c.args.undo.now)

pub returns-in_err-reserve-2-clause-noted : goal.returns-in_err-reserve-2-clause-noted
returns-in_err-reserve-2-clause-noted c =
    rw (c.reserve.ensures.items, c.self.view_is, c.reserve-2.ensures.items, c.undo.view_is) (noted_none c.args.slots.now c.args.self.now c.args.undo.now)

pub returns-clause-noted : goal.returns-clause-noted
returns-clause-noted c =
    noted_one c.args.slots.now c.make_in.new.slots c.args.self.now _ c.args.undo.now _ c.args.step c.requires
    (c.push_reserved.ensures.items ∙ ap (λ (some : List Move). some ++ c.args.step ∷ []) (c.reserve.ensures.items ∙ c.self.view_is))
    c.make_in.ensures
    (c.push_reserved-2.ensures.items ∙ (ap (λ (some : List Move). some ++ c.back_of.result ∷ []) (c.reserve-2.ensures.items ∙ c.undo.view_is) ∙ ap (λ (step : Move). c.args.undo.now ++ step ∷ []) c.back_of.ensures))
