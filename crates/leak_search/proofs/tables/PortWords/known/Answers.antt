use Rattle.std.proofs.Common.{arith}
use Rattle.leak_search.proofs.KnownWords.{known_here}
use Rattle.leak_search.proofs.tables.PortWords.known.Goals as goal

pub returns-then-mask-eq-ALL_BITS : goal.returns-then-mask-eq-ALL_BITS
returns-then-mask-eq-ALL_BITS c = λ port below near.
    known_here c.args.self.now c.args.value c.args.mask c.at-word.result (omega arith) c.if-mask-eq-ALL_BITS.true c.at-word.ensures port below near
