use Rattle.std.proofs.Common.{◌≡◌, drop}
use Rattle.std.specs.Prelude.{IsTrue}
use Rattle.rule_model.specs.declared.words.Word.{Word}
use Rattle.word_cubes.specs.Cube.{IsWord, cube_holds}
use Rattle.leak_search.specs.Found.{found_in}
use Rattle.leak_search.proofs.settled.settle.Given as goal

-- the first entries hit no word
abbrev pub invariant-loop-entry : goal.invariant-loop-entry
invariant-loop-entry l =
    (word : Word) → IsWord word → IsTrue (cube_holds l.cube word) → found_in l.entries word ≡ found_in (drop l.entry-index l.entries) word
