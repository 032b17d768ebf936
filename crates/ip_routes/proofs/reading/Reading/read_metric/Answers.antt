use Rattle.std.proofs.Common.{ap, ◌∙◌, Ok}
use Rattle.ip_routes.specs.Reading.{read_metric}
use Rattle.ip_routes.proofs.reading.Reading.read_metric.Goals as goal

pub returns-in-Ok : goal.returns-in-Ok
returns-in-Ok c = ap Ok c.set_metric.ensures ∙ ap (λ r. read_metric c.args.self.now r) c.in-Ok.ensures

pub returns-in-Err : goal.returns-in-Err
returns-in-Err c = ap (λ r. read_metric c.args.self.now r) c.in-Err.ensures
