use Rattle.std.proofs.Common.{refl}
use Rattle.leak_search.proofs.Clear.{step_from_part}
use Rattle.leak_search.proofs.descent.step_from.Goals as goal

pub returns-in-None : goal.returns-in-None
returns-in-None c = λ is key valid within wrong. absurd (c.in-None.ensures.none refl key valid within)

pub returns-in-Some : goal.returns-in-Some
returns-in-Some c =
    step_from_part c.args.question c.args.tables.now.src c.args.tables.now.dst c.args.lists.now c.args.cube.now c.in-Some.part _ c.in-Some.ensures.some c.step_in.ensures
