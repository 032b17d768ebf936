use Rattle.batch_order.proofs.back.WayBack.{reverts_to_the_old_state}
use Rattle.batch_order.proofs.laws.reverts_to_the_old_state.Goals as goal

pub returns : goal.returns
returns c = reverts_to_the_old_state
