-- What a list answers behind an entry that is taken in, or left out.
use Rattle.std.proofs.Common.{◌≡◌, ℕ, ◌+◌, ◌<◌, Bool, true, false, IsTrue, List, [], ◌∷◌, ◌++◌, Option, Some, None, drop, get_or, length, inl, inr, ◌⊎◌, sym, subst, ◌∙◌, ap}
use Rattle.rule_model.specs.declared.words.Word.{Word}
use Rattle.rule_model.specs.declared.words.Entry.{Entry}
use Rattle.word_cubes.specs.declared.Cube.{Cube}
use Rattle.word_cubes.specs.Cube.{IsWord, MissesCube, cube_holds}
use Rattle.leak_search.specs.Found.{IsSlotTakenIn, IsTakenIn, found_in}
use Rattle.leak_search.proofs.Finding.{by_slots, hit_by, last_entry, pushed_entry, skipped_entry, last_slot, pushed_slot, skipped_slot, skipped_empty}

module _ (cube : Cube) (entries : List Entry) (i : ℕ) (entry : Entry) (less : i < length entries) (is : entry ≡ get_or entries i entry) (before after : List Entry) where
  last_is : IsTakenIn cube before entry after true → (word : Word) → IsWord word → IsTrue (cube_holds cube word)
      → found_in (before ++ drop i entries) word ≡ found_in after word
  last_is taken word is_word within =
      last_entry entries i entry less is word before (taken.0 word is_word within) ∙ ap (λ (all : List Entry). found_in all word) (sym taken.1)

  on_is : (after ≡ before ++ entry ∷ []) ⊎ ((after ≡ before) × MissesCube entry cube) → (word : Word) → IsWord word → IsTrue (cube_holds cube word)
      → found_in (before ++ drop i entries) word ≡ found_in (after ++ drop (i + 1) entries) word
  on_is (inl more) word is_word within =
      pushed_entry entries i entry less is word before ∙ ap (λ (some : List Entry). found_in (some ++ drop (i + 1) entries) word) (sym more)
  on_is (inr taken) word is_word within =
      skipped_entry entries i entry less is word before (taken.1 word is_word within) ∙ ap (λ (some : List Entry). found_in (some ++ drop (i + 1) entries) word) (sym taken.0)

  -- the last one decides,
  pub taken_last : (last : Bool) → last ≡ true → IsTakenIn cube before entry after last → (word : Word) → IsWord word → IsTrue (cube_holds cube word)
      → found_in (before ++ drop i entries) word ≡ found_in after word
  taken_last last is_last taken = last_is (subst (IsTakenIn cube before entry after) is_last taken)

  -- and behind another one the rest does
  pub taken_on : (last : Bool) → last ≡ false → IsTakenIn cube before entry after last → (word : Word) → IsWord word → IsTrue (cube_holds cube word)
      → found_in (before ++ drop i entries) word ≡ found_in (after ++ drop (i + 1) entries) word
  taken_on last is_last taken = on_is (subst (IsTakenIn cube before entry after) is_last taken)

module _ (cube : Cube) (slots : List (Option Entry)) (i : ℕ) (less : i < length slots) (before after : List Entry) (word : Word) (is_word : IsWord word) (within : IsTrue (cube_holds cube word)) where
  last_held : (held : Option Entry) → held ≡ get_or slots i held → IsSlotTakenIn cube before held after true → by_slots word before (drop i slots) ≡ hit_by word after
  last_held None is taken = absurd (let e = taken.0 in cc)
  last_held (Some entry) is taken =
      last_slot slots i less word entry before is (taken.0 word is_word within) ∙ ap (hit_by word) (sym taken.1)

  on_entry : (entry : Entry) → Some entry ≡ get_or slots i (Some entry) → (after ≡ before ++ entry ∷ []) ⊎ ((after ≡ before) × MissesCube entry cube)
      → by_slots word before (drop i slots) ≡ by_slots word after (drop (i + 1) slots)
  on_entry entry is (inl more) = pushed_slot slots i less word entry before is ∙ ap (λ (some : List Entry). by_slots word some (drop (i + 1) slots)) (sym more)
  on_entry entry is (inr taken) =
      skipped_slot slots i less word entry before is (taken.1 word is_word within) ∙ ap (λ (some : List Entry). by_slots word some (drop (i + 1) slots)) (sym taken.0)

  on_held : (held : Option Entry) → held ≡ get_or slots i held → IsSlotTakenIn cube before held after false
      → by_slots word before (drop i slots) ≡ by_slots word after (drop (i + 1) slots)
  on_held None is taken = skipped_empty slots i less word before is ∙ ap (λ (some : List Entry). by_slots word some (drop (i + 1) slots)) (sym taken.1)
  on_held (Some entry) is taken = on_entry entry is taken

  -- the same of slots
  pub slot_last : (held : Option Entry) → held ≡ get_or slots i held → (last : Bool) → last ≡ true → IsSlotTakenIn cube before held after last
      → by_slots word before (drop i slots) ≡ hit_by word after
  slot_last held is last is_last taken = last_held held is (subst (IsSlotTakenIn cube before held after) is_last taken)

  pub slot_on : (held : Option Entry) → held ≡ get_or slots i held → (last : Bool) → last ≡ false → IsSlotTakenIn cube before held after last
      → by_slots word before (drop i slots) ≡ by_slots word after (drop (i + 1) slots)
  slot_on held is last is_last taken = on_held held is (subst (IsSlotTakenIn cube before held after) is_last taken)
