use Rattle.std.proofs.Common.{ap, ◌∙◌}
use Rattle.line_words.specs.Kinds.{address_of, ipv4_notation}
use Rattle.cisco_lists.specs.Sides.{masked_by, with_length}
use Rattle.cisco_lists.proofs.SideSteps.{by-word}
use Rattle.cisco_lists.proofs.sides.masked.Goals as goal

pub returns-in-Ok : goal.returns-in-Ok
returns-in-Ok c =
    by-word (masked_by c.args.address) (address_of ipv4_notation) c.args.at.now c.next-word.new.self c.next-word.result.now _ _ c.next-word.ensures.word c.next-word.ensures.behind c.in-Ok.ensures
    (c.with_length.ensures ∙ ap (λ l. with_length c.args.address l c.next-word.new.self) c.wild_length.ensures.length)

pub returns-in-Err : goal.returns-in-Err
returns-in-Err c = by-word (masked_by c.args.address) (address_of ipv4_notation) c.args.at.now c.next-word.new.self c.next-word.result.now _ _ c.next-word.ensures.word c.next-word.ensures.behind c.in-Err.ensures c.refuse.ensures
