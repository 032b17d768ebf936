-- What is sought in a cube: a word of a key that gets a wrong answer.
use Rattle.std.specs.Prelude.{◌≡◌, ◌⊎◌, ℕ, IsTrue, List}
use Rattle.rule_model.specs.declared.Key.{Key}
use Rattle.rule_model.specs.Key.{IsKey}
use Rattle.rule_model.specs.RuleSet.{Answer}
use Rattle.rule_model.specs.declared.words.Word.{Word}
use Rattle.driver_trace.specs.Judged.{IsWrong}
use Rattle.word_cubes.specs.declared.Cube.{Cube}
use Rattle.word_cubes.specs.Cube.{IsWord, cube_holds}
use Rattle.leak_search.specs.declared.Sought.TheVariants.{Clear}
use Rattle.leak_search.specs.declared.descent.Step.{Step}
use Rattle.leak_search.specs.declared.descent.Step.TheVariants.{Ends, Cuts}
use Rattle.leak_search.specs.declared.settled.Settled.{Settled}
use Rattle.leak_search.specs.declared.settled.Settled.TheVariants.{Told, Open}
use Rattle.leak_search.specs.declared.Question.{Question}
use Rattle.leak_search.specs.declared.AnswerLists.{AnswerLists}
use Rattle.leak_search.specs.Found.{found_in, key_word}

-- a wrong answer to a word, by what is asked
abbrev pub IsWrongAt : Question → AnswerLists → Word → Type 0
IsWrongAt question lists word =
    IsWrong question.by (found_in lists.device.items word) (found_in lists.old.items word) (found_in lists.new.items word) question.asked

-- no key whose word is in the cube gets a wrong answer
abbrev pub IsClear : Question → AnswerLists → List ℕ → List ℕ → Cube → Type 0
IsClear question lists src dst cube =
    (key : Key) → IsKey key → IsTrue (cube_holds cube (key_word src dst key)) → IsWrongAt question lists (key_word src dst key) → ⊥

-- what is settled of an answer is right of it
abbrev pub IsSettledAs : Settled → Answer → Type 0
IsSettledAs (Told told) answer = told ≡ answer
IsSettledAs (Open lane bit) answer = Unit {0}

-- What a step tells of a cube: where the search ends with no leak there is none, and where it goes on with two halves none
-- in both of them is enough.
abbrev pub IsStep : Question → AnswerLists → List ℕ → List ℕ → Cube → Step → Type 0
IsStep question lists src dst cube (Ends sought) = sought ≡ Clear → IsClear question lists src dst cube
IsStep question lists src dst cube (Cuts cut) =
    IsClear question cut.lists src dst cut.lower → IsClear question cut.lists src dst cut.upper → IsClear question lists src dst cube

-- a cube is cut in two, or can't be
abbrev pub IsCutOf : AnswerLists → Cube → Step → Type 0
IsCutOf lists cube (Ends sought) = sought ≡ Clear → ⊥
IsCutOf lists cube (Cuts cut) = (cut.lists ≡ lists) × ((word : Word) → IsWord word → IsTrue (cube_holds cube word)
    → IsTrue (cube_holds cut.lower word) ⊎ IsTrue (cube_holds cut.upper word))
