use Rattle.std.proofs.Common.{sym, ◌∙◌}
use Rattle.ip_routes.proofs.Ways.{same-behind, new-behind}
use Rattle.ip_routes.proofs.format.behind_said.Goals as goal

pub returns-then-is_same : goal.returns-then-is_same
returns-then-is_same c = same-behind c.args.version c.args.last.now c.args.route.now _ _ _ (sym c.is_same.ensures ∙ c.if-is_same.true) c.prefix.ensures c.metric.ensures c.by_metric.ensures

pub returns : goal.returns
returns c = new-behind c.args.version c.args.last.now c.args.route.now _ (sym c.is_same.ensures ∙ c.if-is_same.false) c.prefix.ensures
