use Rattle.readback.proofs.Pairs.{IsWalked}
use Rattle.readback.proofs.doubled.twin_of.Given as goal

-- the twin among the first slots
abbrev pub invariant-loop-at : goal.invariant-loop-at
invariant-loop-at l = IsWalked l.held l.at l.twin
