-- A place that holds a pair is one of the list, and once it is emptied there are fewer pairs.
use Rattle.std.proofs.Common.{◌≡◌, ℕ, ◌<◌, List, length, get_or, set, Option, Some, None, sym, ◌∙◌, inl, inr, arith, length-set}
use Rattle.std.specs.Prelude.{is_none, is_some, count_by}
use Rattle.std.proofs.lemmas.Bool.{cases_lt}
use Rattle.std.proofs.lemmas.List.{get_or_past}
use Rattle.order_chains.specs.Pairs.{Pair}
use Rattle.order_chains.proofs.Places.{count_emptied, count_both}

pub held_inside : (xs : List (Option Pair)) (k : ℕ) (p : Pair) → get_or xs k None ≡ Some p → k < length xs
held_inside xs k p e = elim (cases_lt k (length xs)) [
  | inl l ↦ l
  | inr m ↦ absurd (let n : None ≡ Some p = sym (get_or_past xs k None m) ∙ e in cc)
]

pub not_all_empty : (xs : List (Option Pair)) (k : ℕ) (p : Pair) → get_or xs k None ≡ Some p → count_by is_none xs < length xs
not_all_empty xs k p e =
    let f = count_emptied xs k p (held_inside xs k p e) e in
    let b = count_both (set xs k None) in
    let s = length-set xs k None in
    omega arith

pub fewer_pairs : (xs : List (Option Pair)) (k : ℕ) (p : Pair) → get_or xs k None ≡ Some p → count_by is_some (set xs k None) < count_by is_some xs
fewer_pairs xs k p e =
    let f = count_emptied xs k p (held_inside xs k p e) e in
    let b = count_both (set xs k None) in
    let c = count_both xs in
    let s = length-set xs k None in
    omega arith
