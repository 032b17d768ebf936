use Rattle.std.proofs.Common.{arith}
use Rattle.std.proofs.lemmas.Nat.{mul-le}
use Rattle.cisco_lists.proofs.format.pairs.Goals as goal

pub overflow_mul-result : goal.overflow_mul-result
overflow_mul-result c = omega (arith, mul-le c.args.sports c.args.dports 10 10 c.requires.first c.requires.second)

pub returns-clause-few : goal.returns-clause-few
returns-clause-few c = omega (arith, mul-le c.args.sports c.args.dports 10 10 c.requires.first c.requires.second)
