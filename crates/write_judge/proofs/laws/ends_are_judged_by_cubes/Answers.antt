use Rattle.write_judge.proofs.Events.{ends_by_cubes}
use Rattle.write_judge.proofs.laws.ends_are_judged_by_cubes.Goals as goal

pub returns : goal.returns
returns c = ends_by_cubes
