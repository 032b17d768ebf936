use Rattle.std.proofs.Common.{◌∙◌}
use Rattle.trace_draw.proofs.drawing.tell_fault.Goals as goal

pub tell-requires-clause-text : goal.tell-requires-clause-text
tell-requires-clause-text g c = (c.args.line, c.args.fault.now, c.requires, c.deref.ensures ∙ c.in-Ok.ensures.ok)
