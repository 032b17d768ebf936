use Rattle.std.proofs.Common.{◌≡◌, Contains, ap, sym, ◌∙◌, subst}
use Rattle.std.specs.Prelude.{◌↔◌, IsTrue, is_some}
use Rattle.rule_model.specs.Entry.{RankedPiece, entry_for}
use Rattle.readback.proofs.Walks.{some_or_none}
use Rattle.readback.proofs.missing.is_listed.Goals as goal

pub returns : goal.returns
returns c =
    let entry : c.piece.inside.entry ≡ entry_for c.args.piece.now = c.piece.invariant ∙ ap entry_for c.piece.view_is in
    subst (λ found. IsTrue found ↔ ((other : RankedPiece) × Contains c.args.pieces.now other × (entry_for other ≡ entry_for c.args.piece.now))) (sym c.is_some.ensures)
    (subst (λ e. IsTrue (is_some c.find.result) ↔ ((other : RankedPiece) × Contains c.args.pieces.now other × (entry_for other ≡ e))) entry
    (some_or_none c.find.result c.find.ensures.found c.find.ensures.none))
