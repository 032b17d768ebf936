use Rattle.std.proofs.Common.{◌≡◌, ◌++◌, drop}
use Rattle.ip_monitor.specs.Ranks.{others}
use Rattle.ip_monitor.proofs.ranks.others.Given as goal

abbrev pub invariant-loop-rank : goal.invariant-loop-rank
invariant-loop-rank l = record { same : others l.metric l.ranks ≡ l.kept.items ++ others l.metric (drop l.rank-index l.ranks) }
