use Rattle.std.proofs.Common.{◌≡◌, ◌≤◌, ◌<◌, ◌^◌, ◌++◌}
use Rattle.iptables.specs.Values.{beside}
use Rattle.iptables.proofs.blocks.put_beside.Given as goal

abbrev pub invariant-lengths : goal.invariant-lengths
invariant-lengths l = record {
  put : l.into.items ++ beside l.side l.which l.left l.bits ≡ l.fn.into.items ++ beside l.side l.which l.len l.number;
  length : l.left ≤ 128;
  fits : l.bits < 2 ^ l.left;
}

abbrev pub decreases-lengths : goal.decreases-lengths
decreases-lengths l = l.left
