use Rattle.std.proofs.Common.{◌≡◌, ◌++◌, drop}
use Rattle.std.specs.Prelude.{IsTrue}
use Rattle.rule_model.specs.declared.words.Word.{Word}
use Rattle.word_cubes.specs.Cube.{IsWord, cube_holds}
use Rattle.leak_search.specs.Found.{found_in}
use Rattle.leak_search.proofs.narrowing.narrowed.Given as goal

-- those that are in, and the rest, answer as all do
abbrev pub invariant-loop-entry : goal.invariant-loop-entry
invariant-loop-entry l =
    (word : Word) → IsWord word → IsTrue (cube_holds l.cube word) → found_in l.entries word ≡ found_in (l.some.items ++ drop l.entry-index l.entries) word
