use Rattle.std.proofs.Common.{◌≡◌, ◌++◌, take}
use Rattle.settled_changes.specs.Settled.{puts_of}
use Rattle.settled_changes.proofs.settling.put_all.Given as goal

abbrev pub invariant-loop-i : goal.invariant-loop-i
invariant-loop-i l = l.requests.items ≡ l.fn.requests.items ++ puts_of (take l.i l.whole.rules)
