use Rattle.std.proofs.Common.{subst}
use Rattle.placement.specs.Live.{AreApart}
use Rattle.batch_order.specs.Entries.{Entries}
use Rattle.batch_order.proofs.entries.LiveEntries.are_apart.Goals as goal

pub returns : goal.returns
returns c = subst (λ (v : Entries). AreApart v.slots v.live) c.self.view_is c.self.invariant.0.apart
