use Rattle.std.proofs.Common.{bit_or, get_or, eqb, arith, ap, ◌∙◌}
use Rattle.std.proofs.lemmas.Simd.{length-zip2, get_or-zip2}
use Rattle.eight_lanes.proofs.Lanes.{or_test}
use Rattle.eight_lanes.proofs.either.Goals as goal

pub returns-clause-len : goal.returns-clause-len
returns-clause-len c = length-zip2 bit_or c.args.a c.args.b (omega arith) ∙ c.requires.0

pub returns-clause-zeros : goal.returns-clause-zeros
returns-clause-zeros c k l =
    ap (λ n. eqb n 0) (get_or-zip2 bit_or c.args.a c.args.b k 0 0 0 (omega arith) (omega arith)) ∙ or_test (get_or c.args.a k 0) (get_or c.args.b k 0)
