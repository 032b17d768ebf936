use Rattle.std.proofs.Common.{◌≤◌}
use Rattle.std.specs.Prelude.{vec_capacity}
use Rattle.batch_order.specs.Entries.{AreAll}
use Rattle.batch_order.proofs.entries.all_ids.Given as goal

abbrev pub invariant-loop-id : goal.invariant-loop-id
invariant-loop-id l = AreAll l.id l.ids.items × (l.slots ≤ vec_capacity l.ids)
