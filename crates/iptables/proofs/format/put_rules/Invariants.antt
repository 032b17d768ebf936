use Rattle.std.proofs.Common.{◌≡◌, ◌++◌, drop}
use Rattle.iptables.specs.Telling.{rules_of}
use Rattle.iptables.proofs.format.put_rules.Given as goal

abbrev pub invariant-loop-each : goal.invariant-loop-each
invariant-loop-each l = record { put : l.into.items ++ rules_of l.chain l.target (drop l.each-index l.tests) ≡ l.fn.into.items ++ rules_of l.chain l.target l.tests }
