use Rattle.std.proofs.Common.{refl}
use Rattle.router_runs.proofs.Closings.{closes-whole, closes-cut}
use Rattle.router_cli.proofs.top.tell.Goals as goal

pub returns-in-Ok-clause-closes : goal.returns-in-Ok-clause-closes
returns-in-Ok-clause-closes g c = closes-whole _ _ _ _ _ _ _ _ _ refl c.requires c.in-Ok.ensures

pub returns-in-Err-clause-closes : goal.returns-in-Err-clause-closes
returns-in-Err-clause-closes g c = closes-cut _ _ _ _ _ _ _ _ c.in-Err.ensures
