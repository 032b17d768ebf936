use Rattle.readback.proofs.Narrow.{stages_narrow}
use Rattle.readback.proofs.rest_laws.stages_use_no_other_slots.Goals as goal

pub returns : goal.returns
returns c = stages_narrow
