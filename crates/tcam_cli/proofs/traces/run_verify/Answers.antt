use Rattle.replay.proofs.between.Leaving.{counted-as}
use Rattle.tcam_cli.proofs.Checks.{only-read, read-status}
use Rattle.tcam_cli.proofs.traces.run_verify.Goals as goal

pub returns-clause-gives : goal.returns-clause-gives
returns-clause-gives g c = (c.verify.result, c.verify.ensures.gives.0, c.verify.ensures.gives.1, c.verify.ensures.gives.2, c.write_told.ensures)

pub returns-clause-cause : goal.returns-clause-cause
returns-clause-cause g c =
    counted-as _ _ _ _ (λ failed. only-read _ _ _ _ _ _ c.verify.result c.write_told.ensures failed) (λ same. read-status _ _ _ _ _ _ c.verify.result same c.write_told.ensures) c.verify.ensures.cause
