use Rattle.std.proofs.Common.{◌∙◌, ap}
use Rattle.rule_model.specs.Entry.{entry_for}
use Rattle.trace_check.proofs.StandsFound.{told_found}
use Rattle.trace_check.proofs.tasks.is_told.Goals as goal

pub returns : goal.returns
returns c =
    c.is_some.ensures
    ∙ told_found c.args.places.now c.args.piece.now c.piece.inside.entry (c.piece.invariant ∙ ap entry_for c.piece.view_is) c.standing.result c.standing.ensures.found c.standing.ensures.none
