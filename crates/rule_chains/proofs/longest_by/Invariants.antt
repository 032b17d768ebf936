use Rattle.rule_chains.proofs.FromLowest.{AreLengths}
use Rattle.rule_chains.proofs.longest_by.Given as goal

abbrev pub invariant-loop-from : goal.invariant-loop-from
invariant-loop-from l = AreLengths l.rules.rules l.from l.lengths l.longest

abbrev pub decreases-loop-from : goal.decreases-loop-from
decreases-loop-from l = l.from
