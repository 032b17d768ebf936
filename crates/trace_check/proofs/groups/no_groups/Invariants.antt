use Rattle.std.proofs.Common.{◌≡◌, length}
use Rattle.trace_check.proofs.groups.no_groups.Given as goal

abbrev pub invariant-loop : goal.invariant-loop
invariant-loop l = length l.groups.items ≡ l.counter
