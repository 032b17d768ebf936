use Rattle.std.proofs.Common.{sym, subst}
use Rattle.rule_gen.specs.Line.{IsListRule}
use Rattle.rule_gen.proofs.Lines.{rule_from-line}
use Rattle.rule_gen.proofs.States.{rule_of-drawn}
use Rattle.rule_gen.proofs.draws.Draws.rule.Goals as goal

pub returns-clause-rule : goal.returns-clause-rule
returns-clause-rule c =
    rw (c.list_rank.ensures, c.made_source-src.ensures, c.network.ensures, c.made_address-address.ensures, c.made_proto-proto.ensures, c.any.ensures, c.made_ports-dport.ensures)
    (rule_of-drawn _ _ _ _ _ _ _ _ _ _ _ _ _ _
    (record { state = c.draw.ensures.state; number_is = c.draw.ensures.number })
    (record { state = c.draw-2.ensures.state; number_is = c.draw-2.ensures.number })
    (record { state = c.draw-3.ensures.state; number_is = c.draw-3.ensures.number })
    (record { state = c.draw-4.ensures.state; number_is = c.draw-4.ensures.number })
    (record { state = c.draw-5.ensures.state; number_is = c.draw-5.ensures.number })
    (record { state = c.draw-answer.ensures.state; number_is = c.draw-answer.ensures.number }))

pub returns-clause-line : goal.returns-clause-line
returns-clause-line c =
    subst IsListRule (sym (returns-clause-rule c)) (rule_from-line c.args.self.now 0 c.args.sequence c.requires c.ranges.sequence.fits)
