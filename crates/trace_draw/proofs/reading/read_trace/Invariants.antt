use Rattle.std.proofs.Common.{◌≡◌, ◌-◌}
use Rattle.trace_draw.proofs.reading.read_trace.Given as goal

abbrev pub invariant-rounds : goal.invariant-rounds
invariant-rounds g l = g.S.Source.faults l.source ≡ g.S.Source.faults l.fn.source

abbrev pub decreases-rounds : goal.decreases-rounds
decreases-rounds g l = 18446744073709551615 - l.number
