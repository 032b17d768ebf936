use Rattle.std.proofs.Common.{sym}
use Rattle.trace_check.proofs.LinesTaken.{placed_at}
use Rattle.trace_check.proofs.checker.Checker.take.Goals as goal

pub invariant_of-result : goal.invariant_of-result
invariant_of-result c = placed_at c.in-Some.next c.judge.new.self c.in-Some.next (c.in-Ok.ensures.taken.sound c.in-Some.next (sym c.in-Some.ensures))
