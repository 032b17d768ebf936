use Rattle.std.proofs.Common.{◌≡◌, Some, drop}
use Rattle.std.specs.Prelude.{fold}
use Rattle.ip_monitor.specs.Ranks.{least_of, lesser}
use Rattle.ip_monitor.proofs.ranks.least_of.Given as goal

abbrev pub invariant-loop-rank : goal.invariant-loop-rank
invariant-loop-rank l = record { same : least_of l.ranks ≡ Some (fold lesser l.least (drop l.rank-index l.behind)) }
