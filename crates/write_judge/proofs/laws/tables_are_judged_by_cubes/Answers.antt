use Rattle.write_judge.proofs.Events.{tables_by_cubes}
use Rattle.write_judge.proofs.laws.tables_are_judged_by_cubes.Goals as goal

pub returns : goal.returns
returns c = tables_by_cubes
