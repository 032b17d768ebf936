use Rattle.write_judge.proofs.Events.{slots_by_cubes}
use Rattle.write_judge.proofs.laws.slots_are_judged_by_cubes.Goals as goal

pub returns : goal.returns
returns c = slots_by_cubes
