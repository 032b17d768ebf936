use Rattle.std.proofs.Common.{◌≡◌, ◌++◌, drop}
use Rattle.iptables.specs.Values.{met_each}
use Rattle.iptables.proofs.fields.put_each.Given as goal

abbrev pub invariant-loop-other : goal.invariant-loop-other
invariant-loop-other l = record { put : l.into.items ++ met_each l.tests (drop l.other-index l.others) ≡ l.fn.into.items ++ met_each l.tests l.others }
