use Rattle.ip_routes.proofs.Steps.{fits-is}
use Rattle.std.proofs.Common.{true, false}
use Rattle.ip_routes.proofs.reading.put_part.Goals as goal

pub returns-in-Ok-clause-fits : goal.returns-in-Ok-clause-fits
returns-in-Ok-clause-fits c = fits-is true _ _ c.in-Ok.ensures.variant

pub returns-in-Err-clause-fits : goal.returns-in-Err-clause-fits
returns-in-Err-clause-fits c = fits-is false _ _ c.in-Err.ensures.variant
