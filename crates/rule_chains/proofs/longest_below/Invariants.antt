use Rattle.rule_chains.proofs.FromLowest.{IsSoFar}
use Rattle.rule_chains.proofs.longest_below.Given as goal

abbrev pub invariant-loop-below : goal.invariant-loop-below
invariant-loop-below l = IsSoFar l.rules.rules l.lengths l.upper l.from l.below l.longest
