-- The values stand one behind the other, with a comma between them.
use Rattle.std.proofs.Common.{decimal, ap, sym, ◌∙◌, ◌++◌}
use Rattle.rule_model.specs.declared.IpVersion.TheVariants.{V6}
use Rattle.json_text.specs.JsonText.{block_numbers, comma_text, protocol_text, rank_numbers}
use Rattle.json_text.proofs.Parts.{rule_commas, wide_values}
use Rattle.json_text.proofs.json_line.JsonLine.rule6.Goals as goal

pub returns-clause-text : goal.returns-clause-text
returns-clause-text c =
    let rule = c.args.rule.now in
    rw (
      c.more.ensures.text,
      c.ports-2.ensures.text,
      c.text-5.ensures.text,
      c.ports.ensures.text,
      c.text-4.ensures.text,
      c.protocol.ensures.text,
      c.text-3.ensures.text,
      c.block6-2.ensures.text,
      c.text-2.ensures.text,
      c.block6.ensures.text,
      c.text.ensures.text,
      c.rank6.ensures.text,
    )
    (wide_values c.args.self (comma_text (rank_numbers V6 rule.priority)) (comma_text (block_numbers V6 rule.src)) (comma_text (block_numbers V6 rule.dst))
    (protocol_text rule.proto) (decimal rule.sport.lo) (decimal rule.sport.hi) (decimal rule.dport.lo) (decimal rule.dport.hi) (decimal rule.result)
    ∙ ap (λ text. c.args.self ++ text) (sym (rule_commas rule)))
