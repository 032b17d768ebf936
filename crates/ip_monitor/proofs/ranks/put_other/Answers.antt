use Rattle.std.proofs.Common.{sym, ◌∙◌}
use Rattle.ip_monitor.proofs.Lists.{other-same, other-new}
use Rattle.ip_monitor.proofs.ranks.put_other.Goals as goal

pub returns-then-is_at : goal.returns-then-is_at
returns-then-is_at c = other-same _ _ c.args.rank (sym c.is_at.ensures ∙ c.if-is_at.true)

pub returns : goal.returns
returns c = other-new _ _ _ c.args.rank (sym c.is_at.ensures ∙ c.if-is_at.false) c.in_ok-push.ensures.items
