-- Stretches where a test holds of nothing: what is counted up to their ends is one number.
use Rattle.std.proofs.Common.{◌≡◌, ℕ, zero, suc, ◌+◌, ◌<◌, ◌≤◌, Bool, false, Option, None, Some, List, length, take, drop, inl, inr, arith, le_refl, ◌∙◌, ap}
use Rattle.std.specs.Prelude.{cond, count_by, slice_index_or}
use Rattle.std.specs.Option.{unwrap_or}
use Rattle.std.proofs.lemmas.Bool.{cases_eq}
use Rattle.std.proofs.lemmas.List.Sums.{sum_by_more, sum_by-take-drop}
use Rattle.slot_pool.specs.Arrangement.{Slots, IsFirstFree, is_free}
use Rattle.move_planner.specs.declared.sides.Sides.{Sides}
use Rattle.move_planner.specs.Steps.{IsFirstMarked, mark_at}
use Rattle.move_planner.specs.Boundary.{AreQuiet}

pub count_on : (A : Type 0) (test : A → Bool) (list : List A) (none : A) (from to : ℕ) → from ≤ to → to ≤ length list
    → ((at : ℕ) → from ≤ at → at < to → test (slice_index_or list at none) ≡ false) → count_by test (take to list) ≡ count_by test (take from list)
count_on A test list none from zero order inside clear = ap (λ n. count_by test (take n list)) (let z : zero ≡ from = omega arith in z)
count_on A test list none from (suc n) order inside clear = elim (cases_eq from (suc n)) [
  | inl same ↦ ap (λ m. count_by test (take m list)) (let z : suc n ≡ from = omega arith in z)
  | inr other ↦
      let k : suc n ≡ n + 1 = omega arith in
      ap (λ m. count_by test (take m list)) k ∙ (sum_by_more (λ (x : A). cond (test x) 1 0) list n none (omega arith)
      ∙ (ap (λ b. count_by test (take n list) + cond b 1 0) (clear n (omega arith) (omega arith))
      ∙ let e = count_on A test list none from n (omega arith) (omega arith) (λ at a b. clear at a (omega arith)) in omega arith))
]

pub count_behind : (A : Type 0) (test : A → Bool) (list : List A) (none : A) (from to : ℕ) → from ≤ to → to ≤ length list
    → ((at : ℕ) → from ≤ at → at < to → test (slice_index_or list at none) ≡ false) → count_by test (drop to list) ≡ count_by test (drop from list)
count_behind A test list none from to order inside clear =
    let e = count_on A test list none from to order inside clear in
    let a = sum_by-take-drop (λ (x : A). cond (test x) 1 0) list from in
    let b = sum_by-take-drop (λ (x : A). cond (test x) 1 0) list to in
    omega arith

-- what a search found, or else its end, goes no further than that
first_inside : (marks : List Bool) (start from end : ℕ) (found : Option ℕ) → IsFirstMarked marks start from end found → unwrap_or found end ≤ end
first_inside marks start from end None none = le_refl end
first_inside marks start from end (Some at) is = let high = is.1 in omega arith

first_clear : (marks : List Bool) (start from end : ℕ) (found : Option ℕ) → IsFirstMarked marks start from end found → (at : ℕ) → from ≤ at → at < unwrap_or found end → mark_at marks start at ≡ false
first_clear marks start from end None none = none
first_clear marks start from end (Some at) is = is.3

free_inside : (slots : Slots) (from end : ℕ) (found : Option ℕ) → IsFirstFree slots from end found → unwrap_or found end ≤ end
free_inside slots from end None none = le_refl end
free_inside slots from end (Some at) is = let high = is.1 in omega arith

free_clear : (slots : Slots) (from end : ℕ) (found : Option ℕ) → IsFirstFree slots from end found → (at : ℕ) → from ≤ at → at < unwrap_or found end → is_free slots at ≡ false
free_clear slots from end None none = none
free_clear slots from end (Some at) is = is.3

-- three searches, each up to what the one before found
pub quiet_up_to : (slots : Slots) (sides : Sides) (from last first second third : ℕ) (behind before free : Option ℕ)
    → IsFirstMarked sides.behind sides.start from last behind → first ≡ unwrap_or behind last
    → IsFirstMarked sides.before sides.start from first before → second ≡ unwrap_or before first
    → IsFirstFree slots from second free → third ≡ unwrap_or free second → AreQuiet slots sides from third
quiet_up_to slots sides from last first second third behind before free a first_is b second_is d third_is =
    let x = first_inside sides.before sides.start from first before b in
    let y = free_inside slots from second free d in
    record {
      no_behind = λ at low high. first_clear sides.behind sides.start from last behind a at low (omega arith);
      no_before = λ at low high. first_clear sides.before sides.start from first before b at low (omega arith);
      no_free = λ at low high. free_clear slots from second free d at low (omega arith);
    }
