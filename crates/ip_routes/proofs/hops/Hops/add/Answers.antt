use Rattle.std.proofs.Common.{◌∙◌}
use Rattle.ip_routes.proofs.Ways.{way-added, way-count}
use Rattle.ip_routes.proofs.hops.Hops.add.Goals as goal

pub returns-clause-hops : goal.returns-clause-hops
returns-clause-hops c = way-added c.args.way.now _ _ _ _ c.self.view_is c.requires.new c.in_ok-words.ensures.items c.in_ok-insert.ensures.keys

pub returns-clause-number : goal.returns-clause-number
returns-clause-number c = c.len.ensures.len ∙ way-count c.args.way.now _ _ (way-added c.args.way.now _ _ _ _ c.self.view_is c.requires.new c.in_ok-words.ensures.items c.in_ok-insert.ensures.keys)
