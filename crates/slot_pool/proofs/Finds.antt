-- What a walk over the slots has found, as the searches of an arrangement say it.
use Rattle.std.proofs.Common.{◌≡◌, ℕ, zero, suc, ◌+◌, ◌<◌, ◌≤◌, Bool, true, false, None, Some, Option, find, filter, reverse, arith, inl, inr, ◌∙◌, ap, refl}
use Rattle.std.proofs.lemmas.Bool.{cases_Bool, cases_eq, cases_lt, cond-true, cond-false, lt-ltb, le-ltb}
use Rattle.std.specs.List.{range_with_len}
use Rattle.std.specs.Int.{abs_diff}
use Rattle.word_tree.specs.Marks.{IsNoFarther}
use Rattle.slot_pool.specs.Arrangement.{nearest, nearer}
use Rattle.slot_pool.proofs.Places.{IsFirst, find_range, find_range_none}
use Rattle.slot_pool.proofs.Scan.{IsLast, find_back, find_back_none, nearest_passes}

-- the first place that passes is found
pub found_first : (test : ℕ → Bool) (from size place : ℕ) → IsFirst test from size place → find test (range_with_len from size) ≡ Some place
found_first test from size place is = go (find test (range_with_len from size)) refl
  where
    go : (found : Option ℕ) → find test (range_with_len from size) ≡ found → find test (range_with_len from size) ≡ Some place
    go None e = absurd (let k : test place ≡ false = find_range_none test from size e place is.low is.inside in let w = is.passing in cc)
    go (Some other) e =
        let o = find_range test from size other e in
        elim (cases_lt other place) [
          | inl l ↦ absurd (let k : test other ≡ false = is.none_before other o.low l in let w = o.passing in cc)
          | inr m ↦ elim (cases_lt place other) [
            | inl l ↦ absurd (let k : test place ≡ false = o.none_before place is.low l in let w = is.passing in cc)
            | inr n ↦ e ∙ ap Some (omega arith)
          ]
        ]

pub found_none : (test : ℕ → Bool) (from size : ℕ) → ((j : ℕ) → from ≤ j → j < from + size → test j ≡ false) → find test (range_with_len from size) ≡ None
found_none test from size all = go (find test (range_with_len from size)) refl
  where
    go : (found : Option ℕ) → find test (range_with_len from size) ≡ found → find test (range_with_len from size) ≡ None
    go None e = e
    go (Some other) e =
        let o = find_range test from size other e in
        absurd (let k : test other ≡ false = all other o.low o.inside in let w = o.passing in cc)

-- the last place that passes is found from behind
pub found_last : (test : ℕ → Bool) (from size place : ℕ) → IsLast test from size place → find test (reverse (range_with_len from size)) ≡ Some place
found_last test from size place is = go (find test (reverse (range_with_len from size))) refl
  where
    go : (found : Option ℕ) → find test (reverse (range_with_len from size)) ≡ found → find test (reverse (range_with_len from size)) ≡ Some place
    go None e = absurd (let k : test place ≡ false = find_back_none test from size e place is.low is.inside in let w = is.passing in cc)
    go (Some other) e =
        let o = find_back test from size other e in
        elim (cases_lt other place) [
          | inl l ↦ absurd (let k : test place ≡ false = o.none_after place l is.inside in let w = is.passing in cc)
          | inr m ↦ elim (cases_lt place other) [
            | inl l ↦ absurd (let k : test other ≡ false = is.none_after other l o.inside in let w = o.passing in cc)
            | inr n ↦ e ∙ ap Some (omega arith)
          ]
        ]

pub found_none_back : (test : ℕ → Bool) (from size : ℕ) → ((j : ℕ) → from ≤ j → j < from + size → test j ≡ false) → find test (reverse (range_with_len from size)) ≡ None
found_none_back test from size all = go (find test (reverse (range_with_len from size))) refl
  where
    go : (found : Option ℕ) → find test (reverse (range_with_len from size)) ≡ found → find test (reverse (range_with_len from size)) ≡ None
    go None e = e
    go (Some other) e =
        let o = find_back test from size other e in
        absurd (let k : test other ≡ false = all other o.low o.inside in let w = o.passing in cc)

-- the place that passes nearest to another one
pub record IsNearest (mid : ℕ) (test : ℕ → Bool) (from size place : ℕ) : Type 0 where
  pub low : from ≤ place
  pub inside : place < from + size
  pub passing : test place ≡ true
  pub least : (j : ℕ) → from ≤ j → j < from + size → test j ≡ true → IsNoFarther mid place j

pub nearest_none : (mid : ℕ) (test : ℕ → Bool) (from size : ℕ) → ((j : ℕ) → from ≤ j → j < from + size → test j ≡ false) → nearest mid (filter test (range_with_len from size)) ≡ None
nearest_none mid test from zero all = refl
nearest_none mid test from (suc size) all =
    ap (nearest mid) (cond-false _ _ _ (all from (omega arith) (omega arith))) ∙ nearest_none mid test (from + 1) size (λ j a b. all j (omega arith) (omega arith))

-- what is nearest among rising places that pass
pub found_nearest : (mid : ℕ) (test : ℕ → Bool) (from size place : ℕ) → IsNearest mid test from size place → nearest mid (filter test (range_with_len from size)) ≡ Some place
found_nearest mid test from zero place is = absurd (let a = is.low in let b = is.inside in omega arith)
found_nearest mid test from (suc size) place is = elim (cases_Bool (test from)) [
  | inr miss ↦ ap (nearest mid) (cond-false _ _ _ miss) ∙ found_nearest mid test (from + 1) size place record {
    low = elim (cases_eq from place) [
      | inl same ↦ absurd (let k : test from ≡ true = ap test same ∙ is.passing in cc)
      | inr other ↦ let a = is.low in omega arith
    ];
    inside = let b = is.inside in omega arith;
    passing = is.passing;
    least = λ j a b t. is.least j (omega arith) (omega arith) t;
  }
  | inl hit ↦ ap (nearest mid) (cond-true _ _ _ hit) ∙ elim (cases_eq from place) [
    | inr other ↦
        let later : nearest mid (filter test (range_with_len (from + 1) size)) ≡ Some place = found_nearest mid test (from + 1) size place record {
          low = let a = is.low in omega arith;
          inside = let b = is.inside in omega arith;
          passing = is.passing;
          least = λ j a b t. is.least j (omega arith) (omega arith) t;
        } in
        ap (nearer mid from) later ∙ cond-true _ _ _ (lt-ltb (abs_diff place mid) (abs_diff from mid) (closer other (is.least from (omega arith) (omega arith) hit) is.low))
    | inl same ↦ here (nearest mid (filter test (range_with_len (from + 1) size))) refl hit same
  ]
]
  where
    closer : (from ≡ place → ⊥) → IsNoFarther mid place from → from ≤ place → abs_diff place mid < abs_diff from mid
    closer other (inl l) a = l
    closer other (inr e) a = absurd (let k = e.1 in other (omega arith))

    farther : (later : ℕ) → from ≡ place → IsNoFarther mid place later → abs_diff from mid ≤ abs_diff later mid
    farther later same (inl l) = let k : abs_diff from mid ≡ abs_diff place mid = ap (λ p. abs_diff p mid) same in omega arith
    farther later same (inr e) = let k : abs_diff from mid ≡ abs_diff place mid = ap (λ p. abs_diff p mid) same in let w = e.0 in omega arith

    here : (found : Option ℕ) → nearest mid (filter test (range_with_len (from + 1) size)) ≡ found → test from ≡ true → from ≡ place
        → nearer mid from (nearest mid (filter test (range_with_len (from + 1) size))) ≡ Some place
    here None e hit same = ap (nearer mid from) e ∙ ap Some same
    here (Some later) e hit same =
        let h = nearest_passes mid test (from + 1) size later e in
        let b : later < from + 1 + size = h.0 in
        let a : from + 1 ≤ later = h.2 in
        let far : abs_diff from mid ≤ abs_diff later mid = farther later same (is.least later (omega arith) (omega arith) h.1) in
        ap (nearer mid from) e ∙ (cond-false _ _ _ (le-ltb (abs_diff later mid) (abs_diff from mid) far) ∙ ap Some same)
