use Rattle.std.proofs.Common.{◌∙◌}
use Rattle.cisco_lists.proofs.LineSteps.{rule-put}
use Rattle.cisco_lists.proofs.telling.put_rule.Goals as goal

pub returns : goal.returns
returns c =
    rule-put _ c.args.entry.now c.args.sport c.args.dport c.args.number _ _ _ _ _ _ _ _ _ _ _ c.entry.view_is (c.as_bytes.ensures.value ∙ c.action.ensures) c.in_ok-put_bytes.ensures c.in_ok-put_number.ensures c.in_ok-put_bytes-2.ensures
    c.in_ok-put_side.ensures c.in_ok-put_side-2.ensures c.in_ok-put_protocol.ensures c.in_ok-put_span.ensures c.in_ok-put_span-2.ensures c.in_ok-put_bytes-3.ensures
