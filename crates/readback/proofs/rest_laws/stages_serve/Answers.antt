use Rattle.readback.proofs.Serving.{stages_serve}
use Rattle.readback.proofs.rest_laws.stages_serve.Goals as goal

pub returns : goal.returns
returns c = stages_serve
