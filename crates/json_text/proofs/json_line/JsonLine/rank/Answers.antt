-- The last digit stands behind the others.
use Rattle.std.proofs.Common.{rules, arith, ◌≡◌, ◌<◌, ◌^◌, ◌*◌, ◌+◌}
use Rattle.rule_model.proofs.Ranks.{high_of-rank_of, low_of-rank_of}
use Rattle.json_text.proofs.Parts.{last_digit}
use Rattle.json_text.proofs.json_line.JsonLine.rank.Goals as goal

pub returns-else-tens-eq0-clause-text : goal.returns-else-tens-eq0-clause-text
returns-else-tens-eq0-clause-text c =
    let low = low_of-rank_of c.rank.inside.high c.rank.inside.low c.rank.invariant in
    let high = high_of-rank_of c.rank.inside.high c.rank.inside.low c.rank.invariant in
    let least : c.rank.inside.high < 256 = search rules in
    let most : c.rank.inside.low < 2 ^ 128 = c.rank.invariant in
    let from : c.from-high.result ≡ c.rank.inside.high = c.from-high.ensures in
    let other = c.if-tens-eq0.false in
    rw (c.digits-else-tens-eq0-2.ensures.text, c.digits-else-tens-eq0.ensures.text, ← c.rank.view_is, low, high)
    (last_digit c.args.self _ _ (c.rank.inside.high * 2 ^ 32 + c.rank.inside.low) (omega arith) (omega arith) (omega arith) (omega arith))
