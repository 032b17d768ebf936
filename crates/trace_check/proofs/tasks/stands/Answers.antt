use Rattle.std.proofs.Common.{◌∙◌, ap, arith}
use Rattle.rule_model.specs.Entry.{entry_for}
use Rattle.trace_check.proofs.StandsFound.{stands_found}
use Rattle.trace_check.proofs.tasks.stands.Goals as goal

pub returns : goal.returns
returns c =
    c.is_some.ensures
    ∙ stands_found c.args.places.now c.args.piece.now c.piece.inside.entry (c.piece.invariant ∙ ap entry_for c.piece.view_is) c.len.result (let size = c.len.ensures in omega arith) c.copy_of.result c.copy_of.ensures.some
    c.copy_of.ensures.none
