use Rattle.settled_changes.proofs.FirstFault.{IsKnown}
use Rattle.settled_changes.proofs.faults.first_fault.Given as goal

abbrev pub invariant-loop-i : goal.invariant-loop-i
invariant-loop-i l = IsKnown l.rules.rules l.requests l.i l.strict l.strictly l.forgivingly
