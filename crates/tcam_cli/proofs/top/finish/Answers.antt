use Rattle.std.proofs.Common.{sym, ◌∙◌}
use Rattle.replay.specs.Running.{progress_of}
use Rattle.tcam_cli.proofs.Closings.{closes-whole, closes-cut, ended-refused, ended-done}
use Rattle.tcam_cli.proofs.top.finish.Goals as goal

pub returns-in-Ok-true-clause-closes : goal.returns-in-Ok-true-clause-closes
returns-in-Ok-true-clause-closes g c = λ slots.
    closes-whole _ _ _ _ _ _ _ _ _ (ended-refused (progress_of slots c.args.run.now) (sym c.in-Ok-true.ensures.refused ∙ c.in-Ok-true.field-0-test)) (λ e. cc) (c.in-Ok-true.ensures.line slots)

pub returns-in-Ok-false-clause-closes : goal.returns-in-Ok-false-clause-closes
returns-in-Ok-false-clause-closes g c = λ slots.
    closes-whole _ _ _ _ _ _ _ _ _ (ended-done (progress_of slots c.args.run.now) (sym c.in-Ok-false.ensures.refused ∙ c.in-Ok-false.field-0-test)) (λ e. cc) (c.in-Ok-false.ensures.line slots)

pub returns-in-Err-clause-closes : goal.returns-in-Err-clause-closes
returns-in-Err-clause-closes g c = λ slots. closes-cut _ _ _ _ _ _ _ _ (c.in-Err.ensures.line slots)
