-- The values stand one behind the other, with a comma between them.
use Rattle.std.proofs.Common.{decimal}
use Rattle.json_text.specs.JsonText.{address_text, protocol_text, rank_text}
use Rattle.json_text.proofs.Parts.{eleven_values}
use Rattle.json_text.proofs.json_line.JsonLine.rule.Goals as goal

pub returns-clause-text : goal.returns-clause-text
returns-clause-text c =
    let rule = c.args.rule.now in
    rw (
      c.more.ensures.text,
      c.ports-2.ensures.text,
      c.text-5.ensures.text,
      c.ports.ensures.text,
      c.text-4.ensures.text,
      c.protocol.ensures.text,
      c.text-3.ensures.text,
      c.block-2.ensures.text,
      c.text-2.ensures.text,
      c.block.ensures.text,
      c.text.ensures.text,
      c.rank.ensures.text,
    )
    (eleven_values c.args.self (rank_text rule.priority) (address_text rule.src.addr) (decimal rule.src.len) (address_text rule.dst.addr) (decimal rule.dst.len)
    (protocol_text rule.proto) (decimal rule.sport.lo) (decimal rule.sport.hi) (decimal rule.dport.lo) (decimal rule.dport.hi) (decimal rule.result))
