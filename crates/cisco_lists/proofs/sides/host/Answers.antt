use Rattle.line_words.specs.Kinds.{address_of, ipv4_notation}
use Rattle.cisco_lists.specs.Sides.{host_by}
use Rattle.cisco_lists.proofs.SideSteps.{by-word}
use Rattle.cisco_lists.proofs.sides.host.Goals as goal

pub returns-in-Ok : goal.returns-in-Ok
returns-in-Ok c = by-word host_by (address_of ipv4_notation) c.args.at.now c.next-word.new.self c.next-word.result.now _ _ c.next-word.ensures.word c.next-word.ensures.behind c.in-Ok.ensures c.checked.ensures

pub returns-in-Err : goal.returns-in-Err
returns-in-Err c = by-word host_by (address_of ipv4_notation) c.args.at.now c.next-word.new.self c.next-word.result.now _ _ c.next-word.ensures.word c.next-word.ensures.behind c.in-Err.ensures c.refuse.ensures
