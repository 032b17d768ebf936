-- The last line is told.
use Rattle.report_lines.proofs.Handing.{hands-ok, hands-err}
use Rattle.router.proofs.router.Router.finish.Goals as goal
use Rattle.router.proofs.router.Router.finish.Goals.{in-Ok, in-Err}

pub returns-clause-line : goal.returns-clause-line
returns-clause-line g c =
    elim c.match-tell_end.branch [
      | in-Ok w ↦ rw w.result-is (hands-ok _ _ _ _ _ _ _ _ _ w.in-Ok.ensures)
      | in-Err w ↦ rw w.result-is (hands-err _ _ _ _ _ _ _ _ _ w.in-Err.ensures)
    ]
