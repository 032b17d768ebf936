use Rattle.port_table.proofs.Written.{IsWordSoFar}
use Rattle.port_table.proofs.written_word.Given as goal

abbrev pub invariant-loop-one : goal.invariant-loop-one
invariant-loop-one l = IsWordSoFar l.written l.port l.one-index l.word
