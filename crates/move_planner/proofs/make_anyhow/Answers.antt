use Rattle.std.proofs.Common.{◌≡◌, Some, None, sym, ap, subst, ◌∙◌}
use Rattle.std.specs.Prelude.{slice_set}
use Rattle.std.proofs.lemmas.List.{set-set}
use Rattle.slot_pool.specs.Arrangement.{Slots}
use Rattle.placement.specs.declared.Move.{Move}
use Rattle.placement.specs.Placement.{after_move}
use Rattle.move_planner.proofs.make_anyhow.Goals as goal

pub returns-in-Put : goal.returns-in-Put
returns-in-Put c =
    let at = c.in-Put.slot in
    let held = Some c.in-Put.id in
    subst (λ (step : Move). c.put.new.self ≡ after_move c.args.slots.now step) (sym c.in-Put.is)
    (c.put.ensures ∙ (ap (λ (slots : Slots). slice_set slots at held) c.erase.ensures ∙ set-set c.args.slots.now at None held))
