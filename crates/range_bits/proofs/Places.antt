-- The first place of a list that passes a test, and how many places do.
use Rattle.std.proofs.Common.{◌≡◌, ℕ, zero, suc, ◌+◌, ◌<◌, ◌≤◌, Bool, true, false, cond, Option, Some, None, is_some, is_none, List, [], ◌∷◌, length, get_or, inl, inr, refl, ◌↔◌, ap, sym, ◌∙◌, arith}
use Rattle.std.specs.List.{position, position_or_len, count_by}
use Rattle.std.proofs.lemmas.Bool.{cases_lt, cond-true, lt-ltb}
use Rattle.std.proofs.lemmas.List.{get_or_read}
use Rattle.std.proofs.lemmas.List.Sums.{fails_before_first, count_by-le-length, sum_by-cons}
use Rattle.slot_order.proofs.Lists.{position_found, position_none}

-- where no place is found, each fails
pub fails_everywhere : {X : Type 0} (p : X → Bool) (xs : List X) (k : ℕ) (d : X) → position p xs ≡ None → k < length xs → p (get_or xs k d) ≡ false
fails_everywhere p xs k d none inside =
    elim (cases_lt (position_or_len p xs) (length xs)) [
      | inl found ↦ absurd (let e = cond-true _ (Some (position_or_len p xs)) None (lt-ltb (position_or_len p xs) (length xs) found) in cc)
      | inr past ↦ fails_before_first p xs k d (omega arith)
    ]

-- both returns of a walk over the places that looks for the first one that passes
pub found_first : {X : Type 0} (p : X → Bool) (xs ys : List X) (i : ℕ) (x d : X) → xs ≡ ys → i < length xs → ((k : ℕ) → k < i → p (get_or xs k d) ≡ false)
    → x ≡ get_or xs i x → p x ≡ true → Some i ≡ position p ys
found_first p xs ys i x d same inside before at here =
    let read = get_or_read xs i x inside at d in
    sym (ap (position p) (sym same) ∙ position_found p xs i d inside before (ap p (sym read) ∙ here))

pub found_none : {X : Type 0} (p : X → Bool) (xs ys : List X) (i : ℕ) (d : X) → xs ≡ ys → length xs ≤ i → ((k : ℕ) → k < i → p (get_or xs k d) ≡ false) → None ≡ position p ys
found_none p xs ys i d same all before = sym (ap (position p) (sym same) ∙ position_none p xs d (λ k inside. before k (omega arith)))

-- how many places have a value
abbrev pub some_count : {X : Type 0} → List (Option X) → ℕ
some_count xs = count_by (λ x. is_some x) xs

count-some : {X : Type 0} (x : X) (xs : List (Option X)) → some_count (Some x ∷ xs) ≡ 1 + some_count xs
count-some x xs = sum_by-cons (λ y. cond (is_some y) 1 0) (Some x) xs

count-none : {X : Type 0} (xs : List (Option X)) → some_count (None ∷ xs) ≡ 0 + some_count xs
count-none xs = sum_by-cons (λ y. cond (is_some y) 1 0) None xs

-- each place has one exactly where as many do as there are places
pub count-all : {X : Type 0} (xs : List (Option X)) → ((k : ℕ) → k < length xs → is_none (get_or xs k None) ≡ false) → some_count xs ≡ length xs
count-all [] all = refl
count-all (None ∷ xs) all = absurd (let here : true ≡ false = all 0 (omega arith) in cc)
count-all (Some x ∷ xs) all =
    let rest = count-all xs (λ k inside. all (suc k) (omega arith)) in
    let step = count-some x xs in
    omega arith

pub all_from_count : {X : Type 0} (xs : List (Option X)) → some_count xs ≡ length xs → (k : ℕ) → k < length xs → is_none (get_or xs k None) ≡ false
all_from_count [] count k inside = absurd (omega arith)
all_from_count (None ∷ xs) count k inside =
    let most = count_by-le-length (λ x. is_some x) xs in
    let step = count-none xs in
    absurd (omega arith)
all_from_count (Some x ∷ xs) count zero inside = refl
all_from_count (Some x ∷ xs) count (suc k) inside = let step = count-some x xs in all_from_count xs (omega arith) k (omega arith)

pub free-none : {X : Type 0} (xs : List (Option X)) → (position is_none xs ≡ None) ↔ (some_count xs ≡ length xs)
free-none xs = (
  λ none. count-all xs (λ k inside. fails_everywhere is_none xs k None none inside),
  λ count. position_none is_none xs None (all_from_count xs count),
)

pub no_count : {X : Type 0} (xs : List (Option X)) → ((k : ℕ) → get_or xs k None ≡ None) → some_count xs ≡ 0
no_count [] none = refl
no_count (None ∷ xs) none = let step = count-none xs in let rest = no_count xs (λ k. none (suc k)) in omega arith
no_count (Some x ∷ xs) none = absurd (let here = none 0 in cc)
