use Rattle.std.proofs.Common.{◌≡◌, sym, ◌∙◌, ap, ap₂}
use Rattle.rule_model.specs.Entry.{entry_for, same_match}
use Rattle.trace_check.specs.Behind.{is_of}
use Rattle.trace_check.proofs.tasks.is_of.Goals as goal

pub returns-in-Some : goal.returns-in-Some
returns-in-Some c =
    let piece : c.piece.inside.entry ≡ entry_for c.args.piece.now = c.piece.invariant ∙ ap entry_for c.piece.view_is in
    let held : c.held.inside.entry ≡ entry_for c.in-Some.held = c.held.invariant ∙ ap entry_for c.held.view_is in
    c.same_match.ensures ∙ (ap₂ same_match piece held ∙ ap (is_of c.args.piece.now) (sym c.in-Some.is))
