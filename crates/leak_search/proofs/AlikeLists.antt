-- Lists of alike entries answer alike.
use Rattle.std.proofs.Common.{◌≡◌, ℕ, zero, suc, ◌+◌, ◌<◌, Bool, true, false, List, [], ◌∷◌, length, get_or, Some, Option, inl, inr, refl, sym, ◌∙◌, subst, ap, ap₂, arith}
use Rattle.std.specs.Prelude.{if◌then◌else◌, slice_get, ◌&&◌}
use Rattle.std.proofs.lemmas.Bool.{and_parts, cases_eq}
use Rattle.std.proofs.lemmas.Option.{slice_get-get_or}
use Rattle.std.proofs.lemmas.Slice.Eq.{bytes_eq-Decides}
use Rattle.rule_model.specs.declared.words.Word.{Word}
use Rattle.rule_model.specs.declared.words.Entry.{Entry}
use Rattle.rule_model.specs.Entry.{hits, lanes_match, same_word}
use Rattle.tcam_device.specs.State.{told}
use Rattle.driver_trace.specs.declared.Compared.{Compared}
use Rattle.driver_trace.specs.Compared.{as_compared}
use Rattle.leak_search.specs.Found.{AreAlike, found_in, same_entry, same_told}
use Rattle.leak_search.proofs.Finding.{hit_by}
use Rattle.leak_search.proofs.Settling.{told_exact}

module _ (by : Compared) (word : Word) where
  hits_alike : (a b : Entry) → AreAlike by a b → hits a word ≡ hits b word
  hits_alike a b alike = ap₂ (λ v m. lanes_match word.lane v m) (ap (λ (w : Word). w.lane) alike.value) (ap (λ (w : Word). w.lane) alike.mask)

  first_alike : (hit : Bool) (a b : Entry) (x y : Option Entry) → AreAlike by a b → as_compared by (told x) ≡ as_compared by (told y)
      → as_compared by (told (if hit then Some a else x)) ≡ as_compared by (told (if hit then Some b else y))
  first_alike true a b x y alike rest = alike.told
  first_alike false a b x y alike rest = rest

  pub lists_alike : (a b : List Entry) → length a ≡ length b
      → ((i : ℕ) (one other : Entry) → i < length a → slice_get a i ≡ Some one → slice_get b i ≡ Some other → AreAlike by one other)
      → as_compared by (found_in a word) ≡ as_compared by (found_in b word)
  lists_alike [] [] size each = refl
  lists_alike [] (y ∷ b) size each = absurd (omega (arith, size))
  lists_alike (x ∷ a) [] size each = absurd (omega (arith, size))
  lists_alike (x ∷ a) (y ∷ b) size each =
      first_alike (hits x word) x y (hit_by word a) (hit_by word b) (each zero x y (omega arith) refl refl)
      (lists_alike a b (omega arith) (λ i one other less is_one is_other. each (suc i) one other (omega arith) is_one is_other))
      ∙ ap (λ (hit : Bool). as_compared by (told (if hit then Some y else hit_by word b))) (hits_alike x y (each zero x y (omega arith) refl refl))

  -- lists that are moved by equations
  pub moved : (a b x y : List Entry) → a ≡ x → b ≡ y → as_compared by (found_in a word) ≡ as_compared by (found_in b word)
      → as_compared by (found_in x word) ≡ as_compared by (found_in y word)
  moved a b x y e f same = ap (λ (some : List Entry). as_compared by (found_in some word)) (sym e) ∙ same ∙ ap (λ (some : List Entry). as_compared by (found_in some word)) f

-- equal lanes are one word
word_is : (a b : Word) → same_word a b ≡ true → a ≡ b
word_is a b same = ap (λ lanes. let w : Word = record { lane = lanes } in w) ((bytes_eq-Decides a.lane b.lane).0 same)

-- two entries that pass the test are alike
pub alike_from : (by : Compared) (a b : Entry) → same_entry by a b ≡ true → AreAlike by a b
alike_from by a b same =
    let p = and_parts (same_told by (a.tag, a.result) (b.tag, b.result) && same_word a.value b.value) (same_word a.mask b.mask) same in
    let q = and_parts (same_told by (a.tag, a.result) (b.tag, b.result)) (same_word a.value b.value) p.0 in
    record {
      value = word_is a.value b.value q.1;
      mask = word_is a.mask b.mask p.1;
      told = (told_exact by (a.tag, a.result) (b.tag, b.result)).0 q.0;
    }

-- one place more where two lists are alike
pub alike_more : (by : Compared) (a b : List Entry) (i : ℕ) (x y : Entry) → i < length a → i < length b → x ≡ get_or a i x → y ≡ get_or b i y → AreAlike by x y
    → ((j : ℕ) (one other : Entry) → j < i → slice_get a j ≡ Some one → slice_get b j ≡ Some other → AreAlike by one other)
    → (j : ℕ) (one other : Entry) → j < i + 1 → slice_get a j ≡ Some one → slice_get b j ≡ Some other → AreAlike by one other
alike_more by a b i x y la lb is_x is_y alike before j one other below is_one is_other = elim (cases_eq j i) [
  | inl same ↦
      let here_a : slice_get a i ≡ Some x = slice_get-get_or a i x la ∙ ap (λ (e : Entry). Some e) (sym is_x) in
      let here_b : slice_get b i ≡ Some y = slice_get-get_or b i y lb ∙ ap (λ (e : Entry). Some e) (sym is_y) in
      let at_a : slice_get a i ≡ Some one = subst (λ n. slice_get a n ≡ Some one) same is_one in
      let at_b : slice_get b i ≡ Some other = subst (λ n. slice_get b n ≡ Some other) same is_other in
      let first : x ≡ one = cc in
      let second : y ≡ other = cc in
      subst (λ e. AreAlike by e other) first (subst (λ e. AreAlike by x e) second alike)
  | inr elsewhere ↦ before j one other (omega arith) is_one is_other
]
