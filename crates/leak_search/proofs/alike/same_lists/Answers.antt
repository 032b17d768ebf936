use Rattle.std.proofs.Common.{arith}
use Rattle.leak_search.proofs.AlikeLists.{lists_alike}
use Rattle.leak_search.proofs.alike.same_lists.Goals as goal

pub returns : goal.returns
returns c = λ yes word.
    lists_alike c.args.by word c.args.a.now c.args.b.now (omega arith) (λ i one other less is_one is_other. c.alike_until.ensures.alike i one other (omega arith) is_one is_other)
