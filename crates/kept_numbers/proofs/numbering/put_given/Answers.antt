use Rattle.std.proofs.Common.{arith}
use Rattle.kept_numbers.proofs.Loops.{given-full, given-put}
use Rattle.kept_numbers.proofs.numbering.put_given.Goals as goal

pub returns-then-number-at-clause-goes : goal.returns-then-number-at-clause-goes
returns-then-number-at-clause-goes c = λ marks. given-full c.args.into.now.items c.args.into.now.items c.args.at.low c.args.at.wait c.args.given marks (omega arith)

pub returns-clause-goes : goal.returns-clause-goes
returns-clause-goes c =
    λ marks. given-put c.args.into.now.items _ _ c.args.at.low c.args.at.wait c.args.given marks (omega arith) c.in_ok-put_spread.ensures c.in_ok-push.ensures.items
