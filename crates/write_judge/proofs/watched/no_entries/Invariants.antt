use Rattle.std.proofs.Common.{◌≡◌, None, replicate}
use Rattle.write_judge.proofs.watched.no_entries.Given as goal

abbrev pub invariant-loop : goal.invariant-loop
invariant-loop l = l.empty.items ≡ replicate l.counter None
