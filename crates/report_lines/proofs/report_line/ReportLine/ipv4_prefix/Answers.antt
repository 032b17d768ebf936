-- The length and the address are the parts of the priority.
use Rattle.std.proofs.Common.{decimal}
use Rattle.rule_model.proofs.Ranks.{high_of-rank_of, low_of-rank_of}
use Rattle.report_lines.specs.Text.{dotted}
use Rattle.report_lines.proofs.Lines.{address_and_length}
use Rattle.report_lines.proofs.report_line.ReportLine.ipv4_prefix.Goals as goal

pub returns-clause-text : goal.returns-clause-text
returns-clause-text c =
    let low = low_of-rank_of c.priority.inside.high c.priority.inside.low c.priority.invariant in
    let high = high_of-rank_of c.priority.inside.high c.priority.inside.low c.priority.invariant in
    rw (c.digits.ensures.text, c.text-2.ensures.text, c.dotted.ensures.text, c.text.ensures.text, ← c.priority.view_is, low, high)
    (address_and_length c.args.self (dotted c.priority.inside.low) (decimal c.priority.inside.high))
