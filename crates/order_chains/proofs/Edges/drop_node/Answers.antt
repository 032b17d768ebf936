use Rattle.std.proofs.Common.{map, ap, ◌∙◌}
use Rattle.order_chains.specs.Ends.{has_lower, without_those}
use Rattle.order_chains.proofs.Without.{both_gone}
use Rattle.order_chains.proofs.Edges.drop_node.Goals as goal

pub returns-clause-gone : goal.returns-clause-gone
returns-clause-gone c = c.drop_above.ensures.gone ∙ (ap (map (without_those (has_lower c.args.id))) c.drop_below.ensures.gone ∙ both_gone c.args.id c.args.self.now.places)
