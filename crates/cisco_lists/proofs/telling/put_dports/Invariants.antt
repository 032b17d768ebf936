use Rattle.std.proofs.Common.{◌≡◌, ◌+◌, ◌++◌, drop}
use Rattle.cisco_lists.specs.Telling.{dport_lines}
use Rattle.cisco_lists.proofs.telling.put_dports.Given as goal

abbrev pub invariant-loop-dport : goal.invariant-loop-dport
invariant-loop-dport l = record {
  text : l.fn.into.items ++ dport_lines l.entry l.sport l.number l.dports ≡ l.into.items ++ dport_lines l.entry l.sport l.next (drop l.dport-index l.dports);
  next : l.next ≡ l.number + l.dport-index;
}
