-- What a list answers a word where an entry of it misses the word, or hits it.
use Rattle.std.proofs.Common.{◌≡◌, ℕ, suc, ◌+◌, ◌<◌, ◌≤◌, Bool, true, false, List, [], ◌∷◌, ◌++◌, Option, Some, None, drop, get_or, length, refl, sym, ◌∙◌, ap, append_assoc, append-nil, add-one, drop-cons}
use Rattle.std.specs.Prelude.{if◌then◌else◌}
use Rattle.std.specs.List.{find}
use Rattle.std.specs.Option.{option_or}
use Rattle.std.proofs.lemmas.Bool.{cond-true, cond-false}
use Rattle.std.proofs.lemmas.List.{drop_all}
use Rattle.std.proofs.lemmas.List.Folds.{find-append}
use Rattle.slot_order.specs.Order.{first_hit}
use Rattle.rule_model.specs.declared.words.Word.{Word}
use Rattle.rule_model.specs.declared.words.Entry.{Entry}
use Rattle.rule_model.specs.Entry.{hits}
use Rattle.tcam_device.specs.State.{told}
use Rattle.leak_search.specs.Found.{found_in}

abbrev pub hit_by : Word → List Entry → Option Entry
hit_by word entries = find (λ entry. hits entry word) entries

module _ (word : Word) where
  pub miss_first : (entry : Entry) (entries : List Entry) → hits entry word ≡ false → hit_by word (entry ∷ entries) ≡ hit_by word entries
  miss_first entry entries miss = cond-false _ _ _ miss

  pub hit_first : (entry : Entry) (entries : List Entry) → hits entry word ≡ true → hit_by word (entry ∷ entries) ≡ Some entry
  hit_first entry entries hit = cond-true _ _ _ hit

  -- an entry that misses is left out
  pub left_out : (front : List Entry) (entry : Entry) (rest : List Entry) → hits entry word ≡ false → found_in (front ++ (entry ∷ rest)) word ≡ found_in (front ++ rest) word
  left_out front entry rest miss =
      ap told (find-append _ front (entry ∷ rest) ∙ ap (option_or (hit_by word front)) (miss_first entry rest miss) ∙ sym (find-append _ front rest))

  -- one is put behind the front
  pub put_behind : (front : List Entry) (entry : Entry) (rest : List Entry) → found_in (front ++ (entry ∷ rest)) word ≡ found_in ((front ++ entry ∷ []) ++ rest) word
  put_behind front entry rest = ap (λ entries. found_in entries word) (sym (append_assoc front (entry ∷ []) rest))

  -- and what is behind one that hits counts for nothing
  pub cut_behind : (front : List Entry) (entry : Entry) (rest : List Entry) → hits entry word ≡ true → found_in (front ++ (entry ∷ rest)) word ≡ found_in (front ++ entry ∷ []) word
  cut_behind front entry rest hit =
      ap told (find-append _ front (entry ∷ rest) ∙ ap (option_or (hit_by word front)) (hit_first entry rest hit ∙ sym (hit_first entry [] hit))
      ∙ sym (find-append _ front (entry ∷ [])))

  -- the same of slots, some of which are empty
  abbrev pub by_slots : List Entry → List (Option Entry) → Option Entry
  by_slots front slots = option_or (hit_by word front) (first_hit hits slots word)

  pub left_out_slot : (front : List Entry) (entry : Entry) (slots : List (Option Entry)) → hits entry word ≡ false → by_slots front (Some entry ∷ slots) ≡ by_slots front slots
  left_out_slot front entry slots miss = ap (option_or (hit_by word front)) (cond-false _ _ _ miss)

  pub put_behind_slot : (front : List Entry) (entry : Entry) (slots : List (Option Entry)) → by_slots front (Some entry ∷ slots) ≡ by_slots (front ++ entry ∷ []) slots
  put_behind_slot front entry slots =
      or_if (hit_by word front) (hits entry word) entry (first_hit hits slots word) ∙ ap (λ found. option_or found (first_hit hits slots word)) (sym (find-append _ front (entry ∷ [])))
    where
      or_if : (found : Option Entry) (b : Bool) (entry : Entry) (rest : Option Entry)
          → option_or found (if b then Some entry else rest) ≡ option_or (option_or found (if b then Some entry else None)) rest
      or_if (Some x) b entry rest = refl
      or_if None true entry rest = refl
      or_if None false entry rest = refl

  pub cut_behind_slot : (front : List Entry) (entry : Entry) (slots : List (Option Entry)) → hits entry word ≡ true
      → by_slots front (Some entry ∷ slots) ≡ hit_by word (front ++ entry ∷ [])
  cut_behind_slot front entry slots hit =
      ap (option_or (hit_by word front)) (cond-true _ _ _ hit ∙ sym (hit_first entry [] hit)) ∙ sym (find-append _ front (entry ∷ []))

-- the next of some items is the first of the rest
pub item_first : {X : Type 0} (xs : List X) (i : ℕ) (x : X) → i < length xs → x ≡ get_or xs i x → drop i xs ≡ x ∷ drop (i + 1) xs
item_first xs i x less is = drop-cons xs i x less ∙ ap (λ y. y ∷ drop (suc i) xs) (sym is) ∙ ap (λ n. x ∷ drop n xs) (sym (add-one i))

module _ (entries : List Entry) (i : ℕ) (entry : Entry) (less : i < length entries) (is : entry ≡ get_or entries i entry) (word : Word) where
  pub skipped_entry : (some : List Entry) → hits entry word ≡ false → found_in (some ++ drop i entries) word ≡ found_in (some ++ drop (i + 1) entries) word
  skipped_entry some miss = ap (λ rest. found_in (some ++ rest) word) (item_first entries i entry less is) ∙ left_out word some entry (drop (i + 1) entries) miss

  pub pushed_entry : (some : List Entry) → found_in (some ++ drop i entries) word ≡ found_in ((some ++ entry ∷ []) ++ drop (i + 1) entries) word
  pushed_entry some = ap (λ rest. found_in (some ++ rest) word) (item_first entries i entry less is) ∙ put_behind word some entry (drop (i + 1) entries)

  pub last_entry : (some : List Entry) → hits entry word ≡ true → found_in (some ++ drop i entries) word ≡ found_in (some ++ entry ∷ []) word
  last_entry some hit = ap (λ rest. found_in (some ++ rest) word) (item_first entries i entry less is) ∙ cut_behind word some entry (drop (i + 1) entries) hit

module _ (slots : List (Option Entry)) (i : ℕ) (less : i < length slots) (word : Word) where
  pub skipped_empty : (some : List Entry) → None ≡ get_or slots i None → by_slots word some (drop i slots) ≡ by_slots word some (drop (i + 1) slots)
  skipped_empty some is = ap (by_slots word some) (item_first slots i None less is)

  pub skipped_slot : (entry : Entry) (some : List Entry) → Some entry ≡ get_or slots i (Some entry) → hits entry word ≡ false
      → by_slots word some (drop i slots) ≡ by_slots word some (drop (i + 1) slots)
  skipped_slot entry some is miss = ap (by_slots word some) (item_first slots i (Some entry) less is) ∙ left_out_slot word some entry (drop (i + 1) slots) miss

  pub pushed_slot : (entry : Entry) (some : List Entry) → Some entry ≡ get_or slots i (Some entry)
      → by_slots word some (drop i slots) ≡ by_slots word (some ++ entry ∷ []) (drop (i + 1) slots)
  pushed_slot entry some is = ap (by_slots word some) (item_first slots i (Some entry) less is) ∙ put_behind_slot word some entry (drop (i + 1) slots)

  pub last_slot : (entry : Entry) (some : List Entry) → Some entry ≡ get_or slots i (Some entry) → hits entry word ≡ true
      → by_slots word some (drop i slots) ≡ hit_by word (some ++ entry ∷ [])
  last_slot entry some is hit = ap (by_slots word some) (item_first slots i (Some entry) less is) ∙ cut_behind_slot word some entry (drop (i + 1) slots) hit

-- no slot is left
pub no_slot_left : (word : Word) (some : List Entry) (slots : List (Option Entry)) (n : ℕ) → length slots ≤ n → by_slots word some (drop n slots) ≡ hit_by word some
no_slot_left word some slots n past = ap (by_slots word some) (drop_all n slots past) ∙ none_behind (hit_by word some)
  where
    none_behind : (found : Option Entry) → option_or found None ≡ found
    none_behind None = refl
    none_behind (Some e) = refl

pub no_entry_left : (word : Word) (some entries : List Entry) (n : ℕ) → length entries ≤ n → found_in (some ++ drop n entries) word ≡ found_in some word
no_entry_left word some entries n past = ap (λ rest. found_in (some ++ rest) word) (drop_all n entries past) ∙ ap (λ all. found_in all word) (append-nil some)
