use Rattle.std.proofs.Common.{◌≡◌, ◌++◌, drop}
use Rattle.written_chains.specs.Written.{narrowed}
use Rattle.written_chains.proofs.writing.put_narrowed.Given as goal

abbrev pub invariant-loop-line : goal.invariant-loop-line
invariant-loop-line l = record { put : l.into.items ++ narrowed l.tests (drop l.line-index l.lines) ≡ l.fn.into.items ++ narrowed l.tests l.lines }
