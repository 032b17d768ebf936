use Rattle.std.proofs.Common.{sym, ◌∙◌}
use Rattle.batch_order.proofs.under_way.Left.{none_left}
use Rattle.batch_order.proofs.manager.Manager.pass.Goals as goal

pub finish-requires : goal.finish-requires
finish-requires c = none_left c.args.self.now.held (sym c.next_write.ensures.next ∙ c.in-None.is) (sym c.drains_next.ensures ∙ c.if-drains_next.false)
