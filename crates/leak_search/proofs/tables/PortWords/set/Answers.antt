use Rattle.std.proofs.Common.{arith}
use Rattle.leak_search.proofs.KnownWords.{words_set}
use Rattle.leak_search.proofs.tables.PortWords.set.Goals as goal

pub invariant_of-self : goal.invariant_of-self
invariant_of-self c = words_set c.self.inside.words.items c.from.result c.args.word c.self.invariant.0 c.self.invariant.1 (omega arith) (omega arith)
