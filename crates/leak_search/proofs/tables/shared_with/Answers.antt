use Rattle.std.proofs.Common.{arith, refl}
use Rattle.std.proofs.lemmas.Nat.{xor_lt}
use Rattle.leak_search.proofs.KnownWords.{shared_agrees, shared_kept}
use Rattle.leak_search.proofs.tables.shared_with.Goals as goal

pub returns-clause-shared : goal.returns-clause-shared
returns-clause-shared c =
    let below = xor_lt 16 c.args.one c.args.other (omega arith) (omega arith) in
    shared_agrees c.args.bits c.args.one c.args.other _ (omega arith) refl

pub returns-clause-kept : goal.returns-clause-kept
returns-clause-kept c = λ n zero. shared_kept c.args.bits _ _ n refl zero
