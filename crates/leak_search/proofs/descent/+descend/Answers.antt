use Rattle.std.proofs.Common.{subst}
use Rattle.leak_search.specs.Sought.{IsStep}
use Rattle.leak_search.proofs.descent.+descend.Goals as goal

pub returns-in-Ends : goal.returns-in-Ends
returns-in-Ends t c = λ is.
    subst (IsStep c.args.question c.args.lists.now c.args.tables.now.src c.args.tables.now.dst c.args.cube.now) c.in-Ends.is c.in_ok-step.ensures (cc)

pub returns-in-Clear : goal.returns-in-Clear
returns-in-Clear t c = λ is.
    subst (IsStep c.args.question c.args.lists.now c.args.tables.now.src c.args.tables.now.dst c.args.cube.now) c.in-Cuts.is c.in_ok-step.ensures
    (c.in_ok-low-in-Cuts.ensures (cc)) (c.in_ok-high-in-Clear.ensures is)
