use Rattle.split_device.proofs.Twice.{twice_in_time}
use Rattle.split_device.proofs.laws.twice_in_time.Goals as goal

pub returns : goal.returns
returns c = twice_in_time
