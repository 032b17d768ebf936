use Rattle.split_device.proofs.Whole.{split_lookup-is}
use Rattle.split_device.proofs.laws.answers_as_undivided.Goals as goal

pub returns : goal.returns
returns c = split_lookup-is
