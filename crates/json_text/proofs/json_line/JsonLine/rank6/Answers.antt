-- The high part, and the words of the low part behind it.
use Rattle.std.proofs.Common.{decimal}
use Rattle.rule_model.proofs.Ranks.{high_of-rank_of, low_of-rank_of}
use Rattle.json_text.specs.JsonText.{comma_text, parts_text}
use Rattle.json_text.proofs.Parts.{behind_comma}
use Rattle.json_text.proofs.json_line.JsonLine.rank6.Goals as goal

pub returns-clause-text : goal.returns-clause-text
returns-clause-text c =
    let low = low_of-rank_of c.rank.inside.high c.rank.inside.low c.rank.invariant in
    let high = high_of-rank_of c.rank.inside.high c.rank.inside.low c.rank.invariant in
    rw (c.parts.ensures.text, c.text.ensures.text, c.digits.ensures.text, ← c.rank.view_is, low, high)
    (behind_comma c.args.self (decimal c.rank.inside.high) (comma_text (parts_text c.rank.inside.low)))
