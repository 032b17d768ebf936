use Rattle.std.proofs.Common.{◌≡◌, ◌++◌, drop}
use Rattle.written_chains.specs.Written.{called_lines}
use Rattle.written_chains.proofs.writing.put_called.Given as goal

abbrev pub invariant-loop-line : goal.invariant-loop-line
invariant-loop-line l = record { put : l.into.items ++ called_lines l.tests (drop l.line-index l.called) l.behind ≡ l.fn.into.items ++ called_lines l.tests l.called l.behind }
