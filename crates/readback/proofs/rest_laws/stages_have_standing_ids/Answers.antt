use Rattle.readback.proofs.ReadIds.{stages_have_ids}
use Rattle.readback.proofs.rest_laws.stages_have_standing_ids.Goals as goal

pub returns : goal.returns
returns c = stages_have_ids
