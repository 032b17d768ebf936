-- Who stands first below and last above, found id by id.
use Rattle.std.proofs.Common.{◌≡◌, ℕ, ◌+◌, ◌<◌, Bool, true, false, ◌||◌, Option, None, Some, List, [], ◌∷◌, ◌++◌, length, find, reverse, arith, inl, inr, ◌↔◌, Contains, refl, sym, ◌∙◌, subst, ap}
use Rattle.std.specs.Prelude.{◌==◌}
use Rattle.std.specs.List.{list_any, range_with_len}
use Rattle.std.proofs.lemmas.Bool.{cases_Bool, cases_lt, or_cases, or_left, or_right, eqb-true, eq-eqb, false_from_ne_true}
use Rattle.std.proofs.lemmas.List.Folds.{list_any-append}
use Rattle.std.proofs.Math.Path.{fun_ext}
use Rattle.slot_order.specs.Order.{slot}
use Rattle.slot_order.proofs.Lists.{any_is, any_from}
use Rattle.slot_pool.specs.Arrangement.{Slots, passes, first_slot, last_slot, home_of}
use Rattle.slot_pool.proofs.Places.{find_range, find_range_none}
use Rattle.slot_pool.proofs.Scan.{find_back, find_back_none}
use Rattle.slot_pool.proofs.Finds.{found_first, found_none, found_last, found_none_back}
use Rattle.move_planner.specs.Steps.{lesser, greater}

-- the id is among some
abbrev pub among : List ℕ → ℕ → Bool
among ids id = list_any (λ other. other == id) ids

passes_or : (p q r : ℕ → Bool) → ((id : ℕ) → r id ≡ (p id || q id)) → (held : Option ℕ) → passes r held ≡ (passes p held || passes q held)
passes_or p q r joined None = refl
passes_or p q r joined (Some id) = joined id

module _ (p q r : ℕ → Bool) (slots : Slots) (joined : (id : ℕ) → r id ≡ (p id || q id)) where
  abbrev P : ℕ → Bool
  P at = passes p (slot slots at)

  abbrev Q : ℕ → Bool
  Q at = passes q (slot slots at)

  abbrev R : ℕ → Bool
  R at = passes r (slot slots at)

  both : (at : ℕ) → R at ≡ (P at || Q at)
  both at = passes_or p q r joined (slot slots at)

  neither : (at : ℕ) → P at ≡ false → Q at ≡ false → R at ≡ false
  neither at a b = false_from_ne_true (R at) (λ e. elim (or_cases (P at) (Q at) (sym (both at) ∙ e)) [ inl h ↦ cc | inr h ↦ cc ])

  -- of tests that are one of two, the first place is the lesser of two
  pub first_joined : first_slot r slots ≡ lesser (first_slot p slots) (first_slot q slots)
  first_joined = go (first_slot p slots) (first_slot q slots) refl refl
    where
      none : find P (range_with_len 0 (length slots)) ≡ None → (at : ℕ) → at < length slots → P at ≡ false
      none e at b = find_range_none P 0 (length slots) e at (omega arith) (omega arith)

      none' : find Q (range_with_len 0 (length slots)) ≡ None → (at : ℕ) → at < length slots → Q at ≡ false
      none' e at b = find_range_none Q 0 (length slots) e at (omega arith) (omega arith)

      at_p : (a : ℕ) → find P (range_with_len 0 (length slots)) ≡ Some a → ((k : ℕ) → k < a → Q k ≡ false) → find R (range_with_len 0 (length slots)) ≡ Some a
      at_p a e clear = let f = find_range P 0 (length slots) a e in
          found_first R 0 (length slots) a record {
            low = f.low;
            inside = f.inside;
            passing = both a ∙ or_left (P a) (Q a) f.passing;
            none_before = λ k low b. neither k (f.none_before k low b) (clear k b);
          }

      at_q : (b : ℕ) → find Q (range_with_len 0 (length slots)) ≡ Some b → ((k : ℕ) → k < b → P k ≡ false) → find R (range_with_len 0 (length slots)) ≡ Some b
      at_q b e clear = let f = find_range Q 0 (length slots) b e in
          found_first R 0 (length slots) b record {
            low = f.low;
            inside = f.inside;
            passing = both b ∙ or_right (P b) (Q b) f.passing;
            none_before = λ k low l. neither k (clear k l) (f.none_before k low l);
          }

      go : (a b : Option ℕ) → find P (range_with_len 0 (length slots)) ≡ a → find Q (range_with_len 0 (length slots)) ≡ b
          → find R (range_with_len 0 (length slots)) ≡ lesser a b
      go None None ea eb = found_none R 0 (length slots) (λ j a b. neither j (none ea j (omega arith)) (none' eb j (omega arith)))
      go (Some a) None ea eb = at_p a ea (λ k l. let f = find_range P 0 (length slots) a ea in let i : a < 0 + length slots = f.inside in none' eb k (omega arith))
      go None (Some b) ea eb = at_q b eb (λ k l. let f = find_range Q 0 (length slots) b eb in let i : b < 0 + length slots = f.inside in none ea k (omega arith))
      go (Some a) (Some b) ea eb =
          let f = find_range P 0 (length slots) a ea in
          let g = find_range Q 0 (length slots) b eb in
          elim (cases_lt b a) [
            | inl l ↦ at_q b eb (λ k m. f.none_before k (omega arith) (omega arith)) ∙ ap Some (omega arith)
            | inr l ↦ at_p a ea (λ k m. g.none_before k (omega arith) (omega arith)) ∙ ap Some (omega arith)
          ]

  -- likewise the last place is the greater of two
  pub last_joined : last_slot r slots ≡ greater (last_slot p slots) (last_slot q slots)
  last_joined = go (last_slot p slots) (last_slot q slots) refl refl
    where
      none : find P (reverse (range_with_len 0 (length slots))) ≡ None → (at : ℕ) → at < length slots → P at ≡ false
      none e at b = find_back_none P 0 (length slots) e at (omega arith) (omega arith)

      none' : find Q (reverse (range_with_len 0 (length slots))) ≡ None → (at : ℕ) → at < length slots → Q at ≡ false
      none' e at b = find_back_none Q 0 (length slots) e at (omega arith) (omega arith)

      at_p : (a : ℕ) → find P (reverse (range_with_len 0 (length slots))) ≡ Some a → ((k : ℕ) → a < k → k < length slots → Q k ≡ false) → find R (reverse (range_with_len 0 (length slots))) ≡ Some a
      at_p a e clear = let f = find_back P 0 (length slots) a e in
          found_last R 0 (length slots) a record {
            low = f.low;
            inside = f.inside;
            passing = both a ∙ or_left (P a) (Q a) f.passing;
            none_after = λ k l h. neither k (f.none_after k l h) (clear k l (omega arith));
          }

      at_q : (b : ℕ) → find Q (reverse (range_with_len 0 (length slots))) ≡ Some b → ((k : ℕ) → b < k → k < length slots → P k ≡ false) → find R (reverse (range_with_len 0 (length slots))) ≡ Some b
      at_q b e clear = let f = find_back Q 0 (length slots) b e in
          found_last R 0 (length slots) b record {
            low = f.low;
            inside = f.inside;
            passing = both b ∙ or_right (P b) (Q b) f.passing;
            none_after = λ k l h. neither k (clear k l (omega arith)) (f.none_after k l h);
          }

      go : (a b : Option ℕ) → find P (reverse (range_with_len 0 (length slots))) ≡ a → find Q (reverse (range_with_len 0 (length slots))) ≡ b
          → find R (reverse (range_with_len 0 (length slots))) ≡ greater a b
      go None None ea eb = found_none_back R 0 (length slots) (λ j a b. neither j (none ea j (omega arith)) (none' eb j (omega arith)))
      go (Some a) None ea eb = at_p a ea (λ k l h. none' eb k h)
      go None (Some b) ea eb = at_q b eb (λ k l h. none ea k h)
      go (Some a) (Some b) ea eb =
          let f = find_back P 0 (length slots) a ea in
          let g = find_back Q 0 (length slots) b eb in
          elim (cases_lt a b) [
            | inl l ↦ at_q b eb (λ k m h. f.none_after k (omega arith) (omega arith)) ∙ ap Some (omega arith)
            | inr l ↦ at_p a ea (λ k m h. g.none_after k (omega arith) (omega arith)) ∙ ap Some (omega arith)
          ]

among_more : (ids : List ℕ) (next id : ℕ) → among (ids ++ next ∷ []) id ≡ (among ids id || (id == next))
among_more ids next id = list_any-append (λ other. other == id) ids (next ∷ []) ∙ ap (λ b. among ids id || b) (one next id)
  where
    one : (next id : ℕ) → list_any (λ other. other == id) (next ∷ []) ≡ (id == next)
    one next id = elim (cases_Bool (id == next)) [
      | inl y ↦ or_left (next == id) false (eq-eqb next id (sym (eqb-true id next y))) ∙ sym y
      | inr n ↦ false_from_ne_true (list_any (λ other. other == id) (next ∷ [])) (λ e. elim (or_cases (next == id) false e) [
        | inl h ↦ let k : (id == next) ≡ true = eq-eqb id next (sym (eqb-true next id h)) in let w : true ≡ false = sym k ∙ n in cc
        | inr h ↦ cc
      ]) ∙ sym n
    ]

nothing : (held : Option ℕ) → passes (among []) held ≡ false
nothing None = refl
nothing (Some id) = refl

-- the first of no ids, and of one more
pub first_of_none : (slots : Slots) → first_slot (among []) slots ≡ None
first_of_none slots = found_none (λ at. passes (among []) (slot slots at)) 0 (length slots) (λ j a b. nothing (slot slots j))

pub first_of_more : (slots : Slots) (ids : List ℕ) (next : ℕ) → first_slot (among (ids ++ next ∷ [])) slots ≡ lesser (first_slot (among ids) slots) (home_of slots next)
first_of_more slots ids next = first_joined (among ids) (λ held. held == next) (among (ids ++ next ∷ [])) slots (λ id. among_more ids next id)

pub last_of_none : (slots : Slots) → last_slot (among []) slots ≡ None
last_of_none slots = found_none_back (λ at. passes (among []) (slot slots at)) 0 (length slots) (λ j a b. nothing (slot slots j))

-- where each id stands once, the first slot that holds one is the last one
pub home_last : (slots : Slots) (id : ℕ) → ((i j other : ℕ) → slot slots i ≡ Some other → slot slots j ≡ Some other → i ≡ j)
    → last_slot (λ held. held == id) slots ≡ home_of slots id
home_last slots id once = go (home_of slots id) refl
  where
    test : ℕ → Bool
    test at = passes (λ held. held == id) (slot slots at)

    holds : (held : Option ℕ) → passes (λ other. other == id) held ≡ true → held ≡ Some id
    holds None e = absurd (cc)
    holds (Some x) e = ap Some (eqb-true x id e)

    go : (found : Option ℕ) → find test (range_with_len 0 (length slots)) ≡ found → find test (reverse (range_with_len 0 (length slots))) ≡ found
    go None e = found_none_back test 0 (length slots) (λ j a b. find_range_none test 0 (length slots) e j a b)
    go (Some at) e =
        let f = find_range test 0 (length slots) at e in
        found_last test 0 (length slots) at record {
          low = f.low;
          inside = f.inside;
          passing = f.passing;
          none_after = λ k l h. false_from_ne_true (test k) (λ hit.
              let same = once at k id (holds (slot slots at) f.passing) (holds (slot slots k) hit) in absurd (omega arith));
        }

pub last_of_more : (slots : Slots) (ids : List ℕ) (next : ℕ) → ((i j other : ℕ) → slot slots i ≡ Some other → slot slots j ≡ Some other → i ≡ j)
    → last_slot (among (ids ++ next ∷ [])) slots ≡ greater (last_slot (among ids) slots) (home_of slots next)
last_of_more slots ids next once =
    last_joined (among ids) (λ held. held == next) (among (ids ++ next ∷ [])) slots (λ id. among_more ids next id)
    ∙ ap (greater (last_slot (among ids) slots)) (home_last slots next once)

-- tests that name the same ids find the same
among_is : (ids : List ℕ) (test : ℕ → Bool) → ((other : ℕ) → Contains ids other ↔ (test other ≡ true)) → (id : ℕ) → among ids id ≡ test id
among_is ids test same id = elim (cases_Bool (test id)) [
  | inl y ↦ any_from (λ other. other == id) ids id ((same id).1 y) (eq-eqb id id refl) ∙ sym y
  | inr n ↦ false_from_ne_true (among ids id) (λ e.
      let w = any_is (λ other. other == id) ids e in
      let k : test id ≡ true = (same id).0 (subst (Contains ids) (eqb-true w.0 id w.2) w.1) in let v : true ≡ false = sym k ∙ n in cc) ∙ sym n
]

pub first_of_all : (slots : Slots) (ids : List ℕ) (test : ℕ → Bool) → ((other : ℕ) → Contains ids other ↔ (test other ≡ true)) → first_slot (among ids) slots ≡ first_slot test slots
first_of_all slots ids test same = ap (λ t. first_slot t slots) (fun_ext (among_is ids test same))

pub last_of_all : (slots : Slots) (ids : List ℕ) (test : ℕ → Bool) → ((other : ℕ) → Contains ids other ↔ (test other ≡ true)) → last_slot (among ids) slots ≡ last_slot test slots
last_of_all slots ids test same = ap (λ t. last_slot t slots) (fun_ext (among_is ids test same))

pub both_are : (xs ys : List ℕ) (test : ℕ → Bool) → ((other : ℕ) → Contains xs other ↔ Contains ys other) → ((other : ℕ) → Contains ys other ↔ (test other ≡ true))
    → (other : ℕ) → Contains xs other ↔ (test other ≡ true)
both_are xs ys test a b other = (λ c. (b other).0 ((a other).0 c), λ e. (a other).1 ((b other).1 e))
