-- What a walk over the slots finds.
use Rattle.std.proofs.Common.{◌≡◌, ℕ, ◌+◌, ◌<◌, ◌≤◌, Bool, true, false, List, [], ◌∷◌, Option, Some, None, drop, get_or, length, replicate, refl, sym, ◌∙◌, ap, ap₂}
use Rattle.std.specs.Prelude.{if◌then◌else◌}
use Rattle.std.specs.Option.{option_or}
use Rattle.std.proofs.lemmas.List.{drop_all}
use Rattle.slot_order.specs.Order.{first_hit}
use Rattle.rule_model.specs.declared.Key.{Key}
use Rattle.rule_model.specs.declared.words.Word.{Word}
use Rattle.rule_model.specs.declared.words.Entry.{Entry}
use Rattle.rule_model.specs.Entry.{hits}
use Rattle.rule_model.specs.RuleSet.{Answer}
use Rattle.tcam_device.specs.State.{State, blank, blank_table, lookup, search_word, told}
use Rattle.leak_search.proofs.Finding.{item_first}
use Rattle.write_judge.proofs.Judgement.{by_word}

-- one slot decides, or the rest does
first_or_rest : (held : Option Entry) (slots : List (Option Entry)) (word : Word) → told (first_hit hits (held ∷ slots) word) ≡ option_or (told (first_hit hits (held ∷ []) word)) (told (first_hit hits slots word))
first_or_rest None slots word = refl
first_or_rest (Some entry) slots word = by (hits entry word)
  where
    by : (hit : Bool) → told (if hit then Some entry else first_hit hits slots word) ≡ option_or (told (if hit then Some entry else None)) (told (first_hit hits slots word))
    by true = refl
    by false = refl

module _ (slots : List (Option Entry)) (i : ℕ) (held : Option Entry) (less : i < length slots) (is : held ≡ get_or slots i held) (word : Word) where
  from_here : told (first_hit hits (drop i slots) word) ≡ option_or (told (first_hit hits (held ∷ []) word)) (told (first_hit hits (drop (i + 1) slots) word))
  from_here = ap (λ (some : List (Option Entry)). told (first_hit hits some word)) (item_first slots i held less is) ∙ first_or_rest held (drop (i + 1) slots) word

  pub held_hit : (answer : ℕ × ℕ) → Some answer ≡ told (first_hit hits (held ∷ []) word) → told (first_hit hits (drop i slots) word) ≡ Some answer
  held_hit answer hit = from_here ∙ ap (λ (found : Answer). option_or found (told (first_hit hits (drop (i + 1) slots) word))) (sym hit)

  pub held_miss : None ≡ told (first_hit hits (held ∷ []) word) → told (first_hit hits (drop i slots) word) ≡ told (first_hit hits (drop (i + 1) slots) word)
  held_miss miss = from_here ∙ ap (λ (found : Answer). option_or found (told (first_hit hits (drop (i + 1) slots) word))) (sym miss)

-- no slot is left
pub none_held : (slots : List (Option Entry)) (n : ℕ) (word : Word) → length slots ≤ n → told (first_hit hits (drop n slots) word) ≡ None
none_held slots n word past = ap (λ (some : List (Option Entry)). told (first_hit hits some word)) (drop_all n slots past)

-- so what is found by the key's word is its look-up
pub look_found : (state : State) (slots : List (Option Entry)) (word : Word) (key : Key) (answer : Answer) → slots ≡ state.slots → word ≡ search_word state key
    → answer ≡ told (first_hit hits slots word) → answer ≡ lookup state key
look_found state slots word key answer same is found =
    found ∙ ap (λ (some : List (Option Entry)). told (first_hit hits some word)) same
    ∙ ap (λ (w : Word). told (first_hit hits state.slots w)) is ∙ sym (ap told (by_word state state.slots key))

-- an empty device
abbrev made : List (Option Entry) → List ℕ → List ℕ → State
made slots src dst = record { slots = slots; src = src; dst = dst }

pub blank_is : (slots : ℕ) (held : List (Option Entry)) (src dst : List ℕ) → held ≡ replicate slots None → src ≡ blank_table → dst ≡ blank_table → made held src dst ≡ blank slots
blank_is slots held src dst empty is_src is_dst = ap (λ (some : List (Option Entry)). made some src dst) empty ∙ ap₂ (made (replicate slots None)) is_src is_dst
