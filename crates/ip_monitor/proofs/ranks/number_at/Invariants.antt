use Rattle.std.proofs.Common.{◌≡◌, drop}
use Rattle.ip_monitor.specs.Ranks.{number_at}
use Rattle.ip_monitor.proofs.ranks.number_at.Given as goal

abbrev pub invariant-loop-rank : goal.invariant-loop-rank
invariant-loop-rank l = record { same : number_at l.metric l.ranks ≡ number_at l.metric (drop l.rank-index l.ranks) }
