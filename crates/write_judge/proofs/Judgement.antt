-- A cube without a wrong word has no key that gets a wrong answer.
use Rattle.std.proofs.Common.{◌≡◌, ℕ, ◌+◌, List, [], ◌∷◌, ◌++◌, Option, Some, None, IsTrue, take, refl, sym, ◌∙◌, subst, ap}
use Rattle.std.specs.Prelude.{if◌then◌else◌, option_map, slice_get}
use Rattle.std.proofs.lemmas.List.{take_more}
use Rattle.slot_order.proofs.Lists.{all_append}
use Rattle.rule_store.proofs.Sums.{slice_get-read, slice_get-within}
use Rattle.std.specs.List.{AllByRecursion}
use Rattle.slot_order.specs.Order.{first_hit}
use Rattle.rule_model.specs.declared.Key.{Key}
use Rattle.rule_model.specs.declared.Rule.{Rule}
use Rattle.rule_model.specs.Key.{IsKey}
use Rattle.rule_model.specs.Rule.{HasConditions}
use Rattle.rule_model.specs.RuleSet.{Answer, IsRuleSet, answer, best_rule}
use Rattle.rule_model.specs.declared.words.Word.{Word}
use Rattle.rule_model.specs.declared.words.Entry.{Entry}
use Rattle.rule_model.specs.Entry.{hits}
use Rattle.tcam_device.specs.State.{State, hits_key, search_word, told}
use Rattle.word_cubes.specs.declared.Cube.{Cube}
use Rattle.word_cubes.specs.Cube.{IsWord, cube_holds}
use Rattle.driver_trace.specs.declared.Compared.{Compared}
use Rattle.driver_trace.specs.declared.Asked.{Asked}
use Rattle.driver_trace.specs.Judged.{IsWrong}
use Rattle.leak_search.specs.declared.Question.{Question}
use Rattle.leak_search.specs.declared.AnswerLists.{AnswerLists}
use Rattle.leak_search.specs.Found.{AnswerAlike, AreWords, found_in}
use Rattle.leak_search.specs.Sought.{IsClear}
use Rattle.rule_entries.specs.RuleEntries.{rule_entries}
use Rattle.rule_entries.proofs.Answering.{set_found}
use Rattle.write_judge.specs.Judging.{StateBetween, IsRightIn}

-- a look-up is one of the key's word
pub by_word : (state : State) (slots : List (Option Entry)) (key : Key) → first_hit (hits_key state) slots key ≡ first_hit hits slots (search_word state key)
by_word state [] key = refl
by_word state (None ∷ slots) key = by_word state slots key
by_word state (Some entry ∷ slots) key = ap (λ (rest : Option Entry). if hits_key state entry key then Some entry else rest) (by_word state slots key)

wrong_as : (by : Compared) (asked : Asked) (a b c a' b' c' : Answer) → a ≡ a' → b ≡ b' → c ≡ c' → IsWrong by a b c asked → IsWrong by a' b' c' asked
wrong_as by asked a b c a' b' c' e f g wrong =
    subst (λ x. IsWrong by a' b' x asked) g (subst (λ x. IsWrong by a' x c asked) f (subst (λ x. IsWrong by x b c asked) e wrong))

module _ (question : Question) (now : StateBetween) (src_words : AreWords now.state.src) (dst_words : AreWords now.state.dst) (cube : Cube) (lists : AnswerLists) where
  of_set : (rules : List Rule) (some : List Entry) → IsRuleSet rules → AllByRecursion HasConditions rules → AnswerAlike cube some (rule_entries rules)
      → (key : Key) → IsKey key → IsTrue (cube_holds cube (search_word now.state key)) → answer rules key ≡ found_in some (search_word now.state key)
  of_set rules some set right alike key valid within =
      sym (alike (search_word now.state key) refl within ∙ set_found key valid _ _ (src_words key.sport) (dst_words key.dport) rules right set)

  pub clear_is_right : IsRuleSet now.old → AllByRecursion HasConditions now.old → IsRuleSet now.new → AllByRecursion HasConditions now.new
      → ((word : Word) → IsWord word → IsTrue (cube_holds cube word) → found_in lists.device.items word ≡ told (first_hit hits now.state.slots word))
      → AnswerAlike cube lists.old.items (rule_entries now.old) → AnswerAlike cube lists.new.items (rule_entries now.new)
      → IsClear question lists now.state.src now.state.dst cube → IsRightIn question.by question.asked now cube
  clear_is_right old_set old_right new_set new_right device old new clear key valid within wrong =
      clear key valid within (wrong_as question.by question.asked _ _ _ _ _ _
      (ap told (by_word now.state now.state.slots key) ∙ sym (device (search_word now.state key) refl within))
      (of_set now.old lists.old.items old_set old_right old key valid within)
      (of_set now.new lists.new.items new_set new_right new key valid within) wrong)

-- tables that are moved by equations
pub clear_at : (question : Question) (lists : AnswerLists) (a b x y : List ℕ) (cube : Cube) → a ≡ x → b ≡ y → IsClear question lists a b cube → IsClear question lists x y cube
clear_at question lists a b x y cube e f clear =
    subst (λ dst. IsClear question lists x dst cube) f (subst (λ src. IsClear question lists src b cube) e clear)

-- one rule more is right
pub right_next : (rules : List Rule) (i : ℕ) (rule : Rule) → slice_get rules i ≡ Some rule → AllByRecursion HasConditions (take i rules) → HasConditions rule
    → AllByRecursion HasConditions (take (i + 1) rules)
right_next rules i rule read before here =
    let more : take (i + 1) rules ≡ take i rules ++ rule ∷ [] =
    take_more rules i rule (slice_get-within rules i rule read) ∙ ap (λ (one : Rule). take i rules ++ one ∷ []) (slice_get-read rules i rule read) in
    subst (AllByRecursion HasConditions) (sym more) (all_append HasConditions (take i rules) (rule ∷ []) before (here, tt))

-- what a set answers by its best rule
pub none_answers : (rules now : List Rule) (key : Key) → rules ≡ now → None ≡ best_rule rules key → None ≡ answer now key
none_answers rules now key is none =
    ap (option_map (λ (rule : Rule). (rule.priority, rule.result))) none ∙ ap (λ (set : List Rule). answer set key) is

pub one_answers : (rules now : List Rule) (key : Key) (rule : Rule) → rules ≡ now → Some rule ≡ best_rule rules key → Some (rule.priority, rule.result) ≡ answer now key
one_answers rules now key rule is found =
    ap (option_map (λ (one : Rule). (one.priority, one.result))) found ∙ ap (λ (set : List Rule). answer set key) is
