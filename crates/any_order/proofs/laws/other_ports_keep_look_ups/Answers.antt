use Rattle.any_order.proofs.Writes.{other_ports_keep}
use Rattle.any_order.proofs.laws.other_ports_keep_look_ups.Goals as goal

pub returns : goal.returns
returns c = other_ports_keep
