-- The last digit stands behind the others.
use Rattle.std.proofs.Common.{rules, arith, ◌≡◌, ◌<◌, ◌^◌, ◌*◌, ◌+◌}
use Rattle.rule_model.proofs.Ranks.{high_of-rank_of, low_of-rank_of}
use Rattle.report_lines.proofs.Lines.{last_digit}
use Rattle.report_lines.proofs.report_line.ReportLine.tag_number.Goals as goal

pub returns-else-tens-eq0-clause-text : goal.returns-else-tens-eq0-clause-text
returns-else-tens-eq0-clause-text c =
    let low = low_of-rank_of c.tag.inside.high c.tag.inside.low c.tag.invariant in
    let high = high_of-rank_of c.tag.inside.high c.tag.inside.low c.tag.invariant in
    let least : c.tag.inside.high < 256 = search rules in
    let most : c.tag.inside.low < 2 ^ 128 = c.tag.invariant in
    let from : c.from-high.result ≡ c.tag.inside.high = c.from-high.ensures in
    let other = c.if-tens-eq0.false in
    rw (c.digits-else-tens-eq0-2.ensures.text, c.digits-else-tens-eq0.ensures.text, c.text-line.ensures.text, ← c.tag.view_is, low, high)
    (last_digit c.args.self _ _ (c.tag.inside.high * 2 ^ 32 + c.tag.inside.low) (omega arith) (omega arith) (omega arith) (omega arith))
