use Rattle.batch_order.proofs.back.Passed.{goes_back_through_states}
use Rattle.batch_order.proofs.laws.goes_back_through_states.Goals as goal

pub returns : goal.returns
returns c = goes_back_through_states
