-- A device that is watched, the sets by which it is judged, and what a judgement says.
use Rattle.std.specs.Prelude.{List, IsTrue}
use Rattle.rule_model.specs.declared.Key.{Key}
use Rattle.rule_model.specs.declared.Rule.{Rule}
use Rattle.rule_model.specs.Key.{IsKey}
use Rattle.rule_model.specs.RuleSet.{answer}
use Rattle.tcam_device.specs.State.{State, lookup, search_word}
use Rattle.word_cubes.specs.declared.Cube.{Cube}
use Rattle.word_cubes.specs.Cube.{cube_holds}
use Rattle.driver_trace.specs.declared.Compared.{Compared}
use Rattle.driver_trace.specs.declared.Asked.{Asked}
use Rattle.driver_trace.specs.Judged.{IsWrong, IsLeak}
use Rattle.write_judge.specs.declared.Judged.{Judged}
use Rattle.write_judge.specs.declared.Judged.TheVariants.{Right, Leaks, Unsettled}

-- what is judged: the device, and the old and the new set
pub record StateBetween : Type 0 where
  pub state : State
  pub old : List Rule
  pub new : List Rule

-- no key whose search word is in the cube gets a wrong answer
abbrev pub IsRightIn : Compared → Asked → StateBetween → Cube → Type 0
IsRightIn by asked now cube =
    (key : Key) → IsKey key → IsTrue (cube_holds cube (search_word now.state key))
    → IsWrong by (lookup now.state key) (answer now.old key) (answer now.new key) asked → ⊥

-- a judgement of such keys: that none is wrong, or one that is; or that it wasn't settled
abbrev pub IsJudgedIn : Compared → Asked → StateBetween → Cube → Judged → Type 0
IsJudgedIn by asked now cube Right = IsRightIn by asked now cube
IsJudgedIn by asked now cube (Leaks leak) = IsLeak by now.state now.old now.new asked leak
IsJudgedIn by asked now cube Unsettled = Unit {0}
