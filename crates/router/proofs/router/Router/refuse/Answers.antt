-- The line is that of the rejection.
use Rattle.report_lines.proofs.Handing.{hands-ok, hands-err}
use Rattle.router.proofs.router.Router.refuse.Goals as goal
use Rattle.router.proofs.router.Router.refuse.Goals.{in-Ok, in-Err}

pub returns-clause-line : goal.returns-clause-line
returns-clause-line g c =
    elim c.match-told.branch [
      | in-Ok w ↦ rw w.result-is (hands-ok _ _ _ _ _ _ _ _ _ (rw w.in-Ok.is at c.tell_refused-told.ensures))
      | in-Err w ↦ rw w.result-is (hands-err _ _ _ _ _ _ _ _ _ (rw w.in-Err.is at c.tell_refused-told.ensures))
    ]
