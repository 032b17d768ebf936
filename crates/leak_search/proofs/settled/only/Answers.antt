use Rattle.std.proofs.Common.{◌∙◌, ap}
use Rattle.driver_trace.specs.Compared.{as_compared}
use Rattle.leak_search.proofs.Settling.{cut_within, settled_told}
use Rattle.leak_search.proofs.settled.only.Goals as goal

pub returns-then-agree-clause-right : goal.returns-then-agree-clause-right
returns-then-agree-clause-right c = λ is answer settled.
    c.agree.ensures.0 c.if-agree.true ∙ ap (as_compared c.args.by) (settled_told c.args.wanted c.in-Told.answer answer c.in-Told.is settled)

pub returns-in-Open-clause-cut : goal.returns-in-Open-clause-cut
returns-in-Open-clause-cut c = λ lane bit same. cut_within _ _ lane bit same (c.requires c.in-Open.lane c.in-Open.bit c.in-Open.is)
