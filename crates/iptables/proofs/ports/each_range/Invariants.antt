use Rattle.std.proofs.Common.{◌≡◌, ◌++◌, drop}
use Rattle.iptables.specs.Values.{each_range}
use Rattle.iptables.proofs.ports.each_range.Given as goal

abbrev pub invariant-loop-range : goal.invariant-loop-range
invariant-loop-range l = record { put : l.tests.items ++ each_range l.side (drop l.range-index l.ranges) ≡ each_range l.side l.ranges }
