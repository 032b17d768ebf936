use Rattle.split_device.proofs.Twice.{twice_as_once}
use Rattle.split_device.proofs.laws.twice_as_once.Goals as goal

pub returns : goal.returns
returns c = twice_as_once
