use Rattle.any_order.proofs.Writes.{alike_slots_keep}
use Rattle.any_order.proofs.laws.alike_slots_keep_look_ups.Goals as goal

pub returns : goal.returns
returns c = alike_slots_keep
