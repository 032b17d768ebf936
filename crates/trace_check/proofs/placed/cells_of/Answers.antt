use Rattle.std.proofs.Common.{◌≡◌, Some, None, sym, ◌∙◌, subst}
use Rattle.trace_check.specs.Columns.{AreCellsOf}
use Rattle.trace_check.proofs.placed.cells_of.Goals as goal

pub returns-in-None : goal.returns-in-None
returns-in-None c ranked same = absurd (let bad : None ≡ Some ranked = sym c.in-None.is ∙ same in cc)

pub returns-in-Some : goal.returns-in-Some
returns-in-Some c ranked same =
    let one : c.in-Some.known ≡ ranked = (let k : Some c.in-Some.known ≡ Some ranked = sym c.in-Some.is ∙ same in cc) in
    subst (AreCellsOf c.cells_by.result) (c.known.view_is ∙ one) c.cells_by.ensures
