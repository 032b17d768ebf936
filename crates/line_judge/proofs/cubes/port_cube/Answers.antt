use Rattle.std.proofs.Common.{refl}
use Rattle.rule_model.specs.Word.{word_of}
use Rattle.line_judge.proofs.KeyCubes.{all_match}
use Rattle.line_judge.proofs.cubes.port_cube.Goals as goal

pub returns-in-Some : goal.returns-in-Some
returns-in-Some c = λ key src dst valid same.
    c.in-Some.ensures.some (word_of key src dst) refl (all_match 11 (word_of key src dst).lane) (c.port_lane-tested.ensures key valid same)

pub returns-in-None : goal.returns-in-None
returns-in-None c = λ key src dst valid same. all_match 11 (word_of key src dst).lane
