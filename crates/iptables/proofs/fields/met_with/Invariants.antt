use Rattle.std.proofs.Common.{◌≡◌, ◌++◌, drop}
use Rattle.iptables.specs.Values.{met_with}
use Rattle.iptables.proofs.fields.met_with.Given as goal

abbrev pub invariant-loop-each : goal.invariant-loop-each
invariant-loop-each l = record { put : l.met.items ++ met_with (drop l.each-index l.tests) l.others ≡ met_with l.tests l.others }
