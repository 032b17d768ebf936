use Rattle.std.proofs.Common.{◌≡◌, min, arith}
use Rattle.std.specs.Int.{w16, trailing_zeros}
use Rattle.rule_model.proofs.FirstLevels.{begins_with}
use Rattle.rule_model.proofs.port_covers.first_level.Goals as goal

pub returns : goal.returns
returns c =
    let first = c.lo-2.ensures.value in
    let least : c.min.result ≡ min (trailing_zeros w16 c.args.range.lo) c.ilog2.result = cc in
    begins_with c.args.range c.min.result c.ilog2.result c.lo.ensures.range least (omega arith) (omega arith)
