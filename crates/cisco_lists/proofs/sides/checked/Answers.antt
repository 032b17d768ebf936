use Rattle.std.proofs.Common.{ap, ◌∙◌}
use Rattle.cisco_lists.specs.Sides.{block_or}
use Rattle.cisco_lists.proofs.sides.checked.Goals as goal

pub returns-in-Ok : goal.returns-in-Ok
returns-in-Ok c = ap (λ r. block_or r c.args.at.now) c.in-Ok.ensures

pub returns-in-Err : goal.returns-in-Err
returns-in-Err c = c.refuse.ensures ∙ ap (λ r. block_or r c.args.at.now) c.in-Err.ensures
