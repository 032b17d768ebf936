-- The values stand one behind the other, with a comma between them.
use Rattle.std.proofs.Common.{decimal, ap, sym, ◌∙◌, ◌++◌}
use Rattle.rule_model.specs.declared.IpVersion.TheVariants.{V6}
use Rattle.json_text.specs.JsonText.{comma_text, lane_numbers, rank_numbers}
use Rattle.json_text.proofs.Parts.{entry_commas, four_parts}
use Rattle.json_text.proofs.json_line.JsonLine.entry6.Goals as goal

pub returns-clause-text : goal.returns-clause-text
returns-clause-text c =
    let entry = c.args.entry.now in
    rw (
      c.more.ensures.text,
      c.rank6.ensures.text,
      c.text-2.ensures.text,
      c.word6-2.ensures.text,
      c.text.ensures.text,
      c.word6.ensures.text,
    )
    (four_parts c.args.self (comma_text (lane_numbers V6 entry.value)) (comma_text (lane_numbers V6 entry.mask)) (comma_text (rank_numbers V6 entry.tag)) (decimal entry.result)
    ∙ ap (λ text. c.args.self ++ text) (sym (entry_commas entry)))
