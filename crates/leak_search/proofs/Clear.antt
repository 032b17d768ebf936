-- That no key of a cube gets a wrong answer, by parts of the cube and of the lists.
use Rattle.std.proofs.Common.{◌≡◌, ℕ, List, IsTrue, Result, Ok, Err, ◌⊎◌, inl, inr, refl, sym, subst}
use Rattle.std.specs.Prelude.{IfOk}
use Rattle.rule_model.specs.declared.Key.{Key}
use Rattle.rule_model.specs.Key.{IsKey}
use Rattle.rule_model.specs.RuleSet.{Answer}
use Rattle.rule_model.specs.declared.words.Word.{Word}
use Rattle.driver_trace.specs.declared.Compared.{Compared}
use Rattle.driver_trace.specs.declared.Asked.{Asked}
use Rattle.driver_trace.specs.Judged.{IsWrong}
use Rattle.word_cubes.specs.declared.Cube.{Cube}
use Rattle.word_cubes.specs.Cube.{IsWord, cube_holds}
use Rattle.leak_search.specs.declared.Question.{Question}
use Rattle.leak_search.specs.declared.AnswerLists.{AnswerLists}
use Rattle.leak_search.specs.Found.{AnswerAlike, key_word}
use Rattle.leak_search.specs.declared.descent.Step.{Step}
use Rattle.leak_search.specs.declared.descent.Step.TheVariants.{Ends, Cuts}
use Rattle.leak_search.specs.Sought.{IsClear, IsCutOf, IsStep, IsWrongAt}

wrong_alike : (by : Compared) (asked : Asked) (a b c a' b' c' : Answer) → a ≡ a' → b ≡ b' → c ≡ c' → IsWrong by a b c asked → IsWrong by a' b' c' asked
wrong_alike by asked a b c a' b' c' e f g wrong =
    subst (λ x. IsWrong by a' b' x asked) g (subst (λ x. IsWrong by a' x c asked) f (subst (λ x. IsWrong by x b c asked) e wrong))

module _ (question : Question) (src dst : List ℕ) where
  -- lists that answer the words of a cube alike
  pub narrowed_clear : (lists some : AnswerLists) (part : Cube) → AnswerAlike part some.device.items lists.device.items → AnswerAlike part some.old.items lists.old.items
      → AnswerAlike part some.new.items lists.new.items → IsClear question some src dst part → IsClear question lists src dst part
  narrowed_clear lists some part device old new clear key valid within wrong =
      clear key valid within (wrong_alike question.by question.asked _ _ _ _ _ _
      (sym (device (key_word src dst key) refl within)) (sym (old (key_word src dst key) refl within)) (sym (new (key_word src dst key) refl within)) wrong)

  -- all words of it
  pub words_clear : (lists : AnswerLists) (part : Cube) → ((word : Word) → IsWord word → IsTrue (cube_holds part word) → IsWrongAt question lists word → ⊥) → IsClear question lists src dst part
  words_clear lists part right key valid within = right (key_word src dst key) refl within

  -- two halves
  pub halves_clear : (lists : AnswerLists) (part lower upper : Cube)
      → ((word : Word) → IsWord word → IsTrue (cube_holds part word) → IsTrue (cube_holds lower word) ⊎ IsTrue (cube_holds upper word))
      → IsClear question lists src dst lower → IsClear question lists src dst upper → IsClear question lists src dst part
  halves_clear lists part lower upper parts low high key valid within = elim (parts (key_word src dst key) refl within) [
    | inl in_lower ↦ low key valid in_lower
    | inr in_upper ↦ high key valid in_upper
  ]

  -- a part that has all its keys
  pub part_clear : (lists : AnswerLists) (cube part : Cube)
      → ((key : Key) → IsKey key → IsTrue (cube_holds cube (key_word src dst key)) → IsTrue (cube_holds part (key_word src dst key)))
      → IsClear question lists src dst part → IsClear question lists src dst cube
  part_clear lists cube part within clear key valid inside = clear key valid (within key valid inside)

  -- a cut of a part, with lists that answer its words alike, is a step in it
  pub cut_step : (lists some : AnswerLists) (part : Cube) (step : Step) → AnswerAlike part some.device.items lists.device.items → AnswerAlike part some.old.items lists.old.items
      → AnswerAlike part some.new.items lists.new.items → IsCutOf some part step → IsStep question lists src dst part step
  cut_step lists some part (Ends sought) device old new cut = λ is. absurd (cut is)
  cut_step lists some part (Cuts halves) device old new cut = λ low high.
      narrowed_clear lists some part device old new (halves_clear some part halves.lower halves.upper cut.1
      (subst (λ (all : AnswerLists). IsClear question all src dst halves.lower) cut.0 low) (subst (λ (all : AnswerLists). IsClear question all src dst halves.upper) cut.0 high))

  -- a step in a part is one in the whole cube
  step_on : (lists : AnswerLists) (cube part : Cube) (step : Step)
      → ((key : Key) → IsKey key → IsTrue (cube_holds cube (key_word src dst key)) → IsTrue (cube_holds part (key_word src dst key)))
      → IsStep question lists src dst part step → IsStep question lists src dst cube step
  step_on lists cube part (Ends sought) within step = λ is. part_clear lists cube part within (step is)
  step_on lists cube part (Cuts halves) within step = λ low high. part_clear lists cube part within (step low high)

  pub step_from_part : {E : Type 0} (lists : AnswerLists) (cube part : Cube) (answer : Result Step E)
      → ((key : Key) → IsKey key → IsTrue (cube_holds cube (key_word src dst key)) → IsTrue (cube_holds part (key_word src dst key)))
      → IfOk answer (λ step. (src dst : List ℕ) → IsStep question lists src dst part step) → IfOk answer (IsStep question lists src dst cube)
  step_from_part lists cube part (Ok step) within is = step_on lists cube part step within (is src dst)
  step_from_part lists cube part (Err fault) within is = is
