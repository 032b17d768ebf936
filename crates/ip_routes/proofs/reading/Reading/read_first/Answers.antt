use Rattle.std.proofs.Common.{Some, None, Ok, sym, ap, ◌∙◌}
use Rattle.ip_routes.proofs.Steps.{first-other, first-by}
use Rattle.ip_routes.proofs.reading.Reading.read_first.Goals as goal

pub returns-then-is_another_kind : goal.returns-then-is_another_kind
returns-then-is_another_kind c = first-other c.args.version c.args.self.now c.args.word.now (sym c.is_another_kind.ensures ∙ c.if-is_another_kind.true)

pub returns-in-Some : goal.returns-in-Some
returns-in-Some c = first-by c.args.version c.args.self.now c.args.word.now (Some c.in-Some.kind) _ (sym c.is_another_kind.ensures ∙ c.if-is_another_kind.false) c.in-Some.ensures (ap Ok c.set_kind.ensures)

pub returns-in-None : goal.returns-in-None
returns-in-None c = first-by c.args.version c.args.self.now c.args.word.now None _ (sym c.is_another_kind.ensures ∙ c.if-is_another_kind.false) c.in-None.ensures c.read_prefix.ensures
