use Rattle.split_device.proofs.Moments.{each_of_a_moment, all_waiting}
use Rattle.split_device.proofs.laws.reads_are_of_a_moment.Goals as goal

pub returns : goal.returns
returns c = λ line since events waiting may. (each_of_a_moment line since events waiting may, all_waiting line since events waiting may)
