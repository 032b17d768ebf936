-- The nearest marked place, of the last one below the middle and the first one that isn't.
use Rattle.std.proofs.Common.{◌≡◌, ℕ, ◌<◌, ◌≤◌, Bool, true, false, List, Option, None, Some, min, max, arith, inl, inr, sym, subst}
use Rattle.std.specs.Prelude.{slice_index_or}
use Rattle.std.specs.Int.{abs_diff}
use Rattle.std.proofs.lemmas.Bool.{cases_lt, cond-true, cond-false, lt-ltb, le-ltb}
use Rattle.word_tree.specs.Marks.{IsNextSet, IsLastSet, IsNearestSet, IsNoFarther, nearer_of}

-- a marked place isn't one of a range with no mark
never : (marks : List Bool) (k : ℕ) → slice_index_or marks k false ≡ false → slice_index_or marks k false ≡ true → ⊥
never marks k none some = cc

pick : (mid a k : ℕ) → abs_diff a mid ≤ abs_diff k mid → (abs_diff a mid ≡ abs_diff k mid → a ≤ k) → IsNoFarther mid a k
pick mid a k near least = elim (cases_lt (abs_diff a mid) (abs_diff k mid)) [
  | inl closer ↦ inl closer
  | inr same ↦ let e : abs_diff a mid ≡ abs_diff k mid = omega arith in inr (e, least e)
]

-- what the last marked place below the middle says of one that is marked below it, and the first one of one that isn't
up_to : (marks : List Bool) (from to mid under k : ℕ) → IsLastSet marks from (min mid to) (Some under) → k < mid → k < to → slice_index_or marks k false ≡ true → k ≤ under
up_to marks from to mid under k is below end some = elim (cases_lt under k) [
  | inl after ↦ absurd (never marks k (is.3 k after (omega arith)) some)
  | inr fine ↦ fine
]

on_from : (marks : List Bool) (from to mid over k : ℕ) → IsNextSet marks (max mid from) to (Some over) → mid ≤ k → from ≤ k → slice_index_or marks k false ≡ true → over ≤ k
on_from marks from to mid over k is above start some = elim (cases_lt k over) [
  | inl before ↦ absurd (never marks k (is.3 k (omega arith) before) some)
  | inr fine ↦ fine
]

pub nearest_is : (marks : List Bool) (from to mid : ℕ) (below above : Option ℕ) → IsLastSet marks from (min mid to) below → IsNextSet marks (max mid from) to above → IsNearestSet marks from to mid (nearer_of mid below above)
nearest_is marks from to mid None None low high = λ k start end. elim (cases_lt k mid) [
  | inl below ↦ low k start (omega arith)
  | inr above ↦ high k (omega arith) end
]
nearest_is marks from to mid None (Some over) low high =
    let first : max mid from ≤ over = high.0 in (
      omega arith,
      high.1,
      high.2,
      λ k start end some. elim (cases_lt k mid) [
        | inl below ↦ absurd (never marks k (low k start (omega arith)) some)
        | inr above ↦ let far = on_from marks from to mid over k high above start some in pick mid over k (omega arith) (λ _. far)
      ],
    )
nearest_is marks from to mid (Some under) None low high =
    let last : under < min mid to = low.1 in (
      low.0,
      omega arith,
      low.2,
      λ k start end some. elim (cases_lt k mid) [
        | inl below ↦ let far = up_to marks from to mid under k low below end some in pick mid under k (omega arith) (λ e. omega arith)
        | inr above ↦ absurd (never marks k (high k (omega arith) end) some)
      ],
    )
nearest_is marks from to mid (Some under) (Some over) low high =
    let last : under < min mid to = low.1 in
    let first : max mid from ≤ over = high.0 in
    elim (cases_lt (abs_diff over mid) (abs_diff under mid)) [
      | inl closer ↦ subst (IsNearestSet marks from to mid) (sym (cond-true _ _ _ (lt-ltb (abs_diff over mid) (abs_diff under mid) closer))) (
        omega arith,
        high.1,
        high.2,
        λ k start end some. elim (cases_lt k mid) [
          | inl below ↦ let far = up_to marks from to mid under k low below end some in pick mid over k (omega arith) (λ e. omega arith)
          | inr above ↦ let far = on_from marks from to mid over k high above start some in pick mid over k (omega arith) (λ _. far)
        ],
      )
      | inr farther ↦ subst (IsNearestSet marks from to mid) (sym (cond-false _ _ _ (le-ltb (abs_diff over mid) (abs_diff under mid) farther))) (
        low.0,
        omega arith,
        low.2,
        λ k start end some. elim (cases_lt k mid) [
          | inl below ↦ let far = up_to marks from to mid under k low below end some in pick mid under k (omega arith) (λ e. omega arith)
          | inr above ↦ let far = on_from marks from to mid over k high above start some in pick mid under k (omega arith) (λ e. omega arith)
        ],
      )
    ]
