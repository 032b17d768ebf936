use Rattle.commit_writes.proofs.AtRest.{rests_on_wider_devices}
use Rattle.commit_writes.proofs.laws.rests_on_wider_devices.Goals as goal

pub returns : goal.returns
returns c = rests_on_wider_devices
