use Rattle.std.proofs.Common.{◌∙◌, sym, arith}
use Rattle.leak_search.proofs.AlikeLists.{alike_from, alike_more}
use Rattle.leak_search.proofs.alike.alike_until.Goals as goal

pub loop-i-preserved : goal.loop-i-preserved
loop-i-preserved c =
    alike_more c.args.by c.args.a.now c.args.b.now c.loop-i.i c.index-a-i.result c.index-b-i.result (omega arith) (omega arith) c.index-a-i.is c.index-b-i.is
    (alike_from c.args.by c.index-a-i.result c.index-b-i.result (sym c.are_alike.ensures ∙ c.if-not-are_alike.false)) c.loop-i.invariant

pub returns-clause-alike : goal.returns-clause-alike
returns-clause-alike c = λ i one other less. c.loop-i.invariant i one other (omega arith)
