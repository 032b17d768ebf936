use Rattle.std.proofs.Common.{◌≡◌, ◌≤◌, ◌+◌, ◌-◌}
use Rattle.arrayvec.specs.ArrayVec.{array_vec_len}
use Rattle.cisco_lists.specs.Ports.{more_ports, several_at}
use Rattle.cisco_lists.proofs.ports.several.Given as goal

abbrev pub invariant-ports : goal.invariant-ports
invariant-ports l = record {
  same : several_at l.names l.fn.at ≡ more_ports (9 - l.round) l.names l.spans.items l.at;
  few : array_vec_len l.spans ≤ l.round + 1;
}
