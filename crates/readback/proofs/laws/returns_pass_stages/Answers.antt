use Rattle.readback.proofs.Returns.{returns_pass}
use Rattle.readback.proofs.laws.returns_pass_stages.Goals as goal

pub returns : goal.returns
returns c = returns_pass
