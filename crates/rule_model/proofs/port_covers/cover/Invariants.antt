use Rattle.rule_model.specs.PortRange.{range_size}
use Rattle.rule_model.proofs.CoverRest.{IsMade}
use Rattle.rule_model.proofs.port_covers.cover.Given as goal

abbrev pub invariant-loop-behind : goal.invariant-loop-behind
invariant-loop-behind l = IsMade l.fn.ports l.cover l.range

abbrev pub decreases-loop-behind : goal.decreases-loop-behind
decreases-loop-behind l = range_size l.range
