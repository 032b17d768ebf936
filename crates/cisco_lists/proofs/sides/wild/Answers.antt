use Rattle.std.proofs.Common.{ap, ◌∙◌}
use Rattle.cisco_lists.specs.Sides.{wild_by}
use Rattle.cisco_lists.proofs.sides.wild.Goals as goal

pub returns-in-Ok : goal.returns-in-Ok
returns-in-Ok c = c.masked.ensures ∙ ap (λ r. wild_by r c.args.at.now) c.in-Ok.ensures

pub returns-in-Err : goal.returns-in-Err
returns-in-Err c = c.refuse.ensures ∙ ap (λ r. wild_by r c.args.at.now) c.in-Err.ensures
