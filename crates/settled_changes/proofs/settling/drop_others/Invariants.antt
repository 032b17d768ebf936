use Rattle.std.proofs.Common.{◌≡◌, ◌++◌, take}
use Rattle.settled_changes.specs.Settled.{drops_of}
use Rattle.settled_changes.proofs.settling.drop_others.Given as goal

abbrev pub invariant-loop-i : goal.invariant-loop-i
invariant-loop-i l = l.requests.items ≡ l.fn.requests.items ++ drops_of (take l.i l.rules.rules) l.whole.rules
