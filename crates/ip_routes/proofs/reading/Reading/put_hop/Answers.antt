use Rattle.std.proofs.Common.{sym, ◌∙◌}
use Rattle.ip_routes.proofs.Steps.{hop-first, hop-next, hop-full}
use Rattle.ip_routes.proofs.reading.Reading.put_hop.Goals as goal

pub returns-then-is_without_hop : goal.returns-then-is_without_hop
returns-then-is_without_hop c = hop-first c.args.self.now c.args.word.now _ (sym c.is_without_hop.ensures ∙ c.if-is_without_hop.true) c.put_bytes.ensures

pub returns-in-Ok : goal.returns-in-Ok
returns-in-Ok c = hop-next _ c.args.self.now _ c.args.word.now _ c.self.view_is (sym c.is_without_hop.ensures ∙ c.if-is_without_hop.false) c.in-Ok.ensures.ok c.put_bytes-in-Ok.ensures

pub returns-in-Err : goal.returns-in-Err
returns-in-Err c = hop-full _ c.args.self.now c.args.word.now c.self.view_is (sym c.is_without_hop.ensures ∙ c.if-is_without_hop.false) c.in-Err.ensures.full
