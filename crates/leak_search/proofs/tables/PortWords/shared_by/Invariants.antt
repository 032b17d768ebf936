use Rattle.leak_search.proofs.KnownWords.{IsSharedBelow}
use Rattle.leak_search.proofs.tables.PortWords.shared_by.Given as goal

abbrev pub invariant-loop-i : goal.invariant-loop-i
invariant-loop-i l = IsSharedBelow l.self l.value l.mask l.word l.shared l.i
