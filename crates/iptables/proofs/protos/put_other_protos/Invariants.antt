use Rattle.std.proofs.Common.{◌≡◌, ◌≤◌, ◌++◌}
use Rattle.iptables.specs.Values.{other_protos}
use Rattle.iptables.proofs.protos.put_other_protos.Given as goal

abbrev pub invariant-protocols : goal.invariant-protocols
invariant-protocols l = record {
  put : l.into.items ++ other_protos l.proto l.left ≡ l.fn.into.items ++ other_protos l.proto l.count;
  few : l.left ≤ 256;
}

abbrev pub decreases-protocols : goal.decreases-protocols
decreases-protocols l = l.left
