-- Counting the elements that pass a test, also of the products of two lists.
use Rattle.std.proofs.Common.{◌≡◌, ℕ, ◌+◌, ◌*◌, Bool, true, false, not, ◌&&◌, cond, List, [], ◌∷◌, ◌++◌, length, get_or, map, filter, count_by, All, refl, sym, ap, ap₂, ◌∙◌, arith}
use Rattle.std.proofs.Math.Bool.{not-not}
use Rattle.std.proofs.lemmas.List.Sums.{sum_by-cons, sum_by-append, length-filter}
use Rattle.std.proofs.lemmas.List.Elements.{All-head, All-tail}
use Rattle.std.proofs.lemmas.List.Filters.{length-filter_both}
use Rattle.std.proofs.lemmas.Bool.{cond-true, cond-false}
use Rattle.rule_model.proofs.Pairs.{products}

abbrev pub one : {X : Type 0} → (X → Bool) → X → ℕ
one test x = cond (test x) 1 0

pub count_by-cons : {X : Type 0} (test : X → Bool) (x : X) (xs : List X) → count_by test (x ∷ xs) ≡ cond (test x) 1 0 + count_by test xs
count_by-cons test x xs = sum_by-cons (one test) x xs

pub count_by-append : {X : Type 0} (test : X → Bool) (xs ys : List X) → count_by test (xs ++ ys) ≡ count_by test xs + count_by test ys
count_by-append test xs ys = sum_by-append (one test) xs ys

-- two tests that agree at each element
pub count_by-agree : {X : Type 0} (test other : X → Bool) (xs : List X) → All (λ x. test x ≡ other x) xs → count_by test xs ≡ count_by other xs
count_by-agree test other [] agree = refl
count_by-agree test other (x ∷ xs) agree =
    count_by-cons test x xs
    ∙ ap₂ (λ (t : Bool) (n : ℕ). cond t 1 0 + n) (All-head (λ y. test y ≡ other y) x xs agree) (count_by-agree test other xs (All-tail (λ y. test y ≡ other y) x xs agree))
    ∙ sym (count_by-cons other x xs)

pub count_by-map : {X Y : Type 0} (test : Y → Bool) (f : X → Y) (xs : List X) → count_by test (map f xs) ≡ count_by (λ x. test (f x)) xs
count_by-map test f [] = refl
count_by-map test f (x ∷ xs) =
    count_by-cons test (f x) (map f xs)
    ∙ ap (λ n. cond (test (f x)) 1 0 + n) (count_by-map test f xs)
    ∙ sym (count_by-cons (λ y. test (f y)) x xs)

-- those that pass and those that don't
pub count_by-left : {X : Type 0} (test : X → Bool) (xs : List X) → length (filter (λ x. not (test x)) xs) + count_by test xs ≡ length xs
count_by-left test xs =
    ap (λ n. length (filter (λ x. not (test x)) xs) + n) (sym (length-filter test xs))
    ∙ length-filter_both (λ x. not (test x)) test (λ x. sym (not-not (test x))) xs

-- a test beside a constant
pub count_by-beside : {X : Type 0} (base : Bool) (test : X → Bool) (xs : List X) → count_by (λ x. base && test x) xs ≡ cond base (count_by test xs) 0
count_by-beside true test xs = refl
count_by-beside false test [] = refl
count_by-beside {X} false test (x ∷ xs) =
    let none = λ (y : X). false && test y in
    let here : count_by none (x ∷ xs) ≡ 0 + count_by none xs = count_by-cons none x xs in
    let rest : count_by none xs ≡ 0 = count_by-beside false test xs in
    omega (arith, here, rest)

-- a test of products that is one of the first member and one of the second, beside a constant
pub count_by-products : {X Y Z : Type 0} (base : Bool) (first : X → Bool) (second : Y → Bool) (g : X → Y → Z) (test : Z → Bool) → ((x : X) (y : Y) → test (g x y) ≡ (base && first x && second y)) → (xs : List X) (ys : List Y) → count_by test (products g xs ys) ≡ cond base (count_by first xs * count_by second ys) 0
count_by-products base first second g test is [] ys = sym (none base)
  where
    none : (b : Bool) → cond b (0 * count_by second ys) 0 ≡ 0
    none true = omega arith
    none false = refl
count_by-products {X} {Y} base first second g test is (x ∷ xs) ys =
    count_by-append test (map (g x) ys) (products g xs ys)
    ∙ ap₂ (λ (a b : ℕ). a + b) row (count_by-products base first second g test is xs ys)
    ∙ sum base (first x) refl
  where
    row : count_by test (map (g x) ys) ≡ cond (base && first x) (count_by second ys) 0
    row =
        count_by-map test (g x) ys
        ∙ count_by-agree (λ y. test (g x y)) (λ y. base && first x && second y) ys (λ k y within. is x (get_or ys k y))
        ∙ count_by-beside (base && first x) second ys

    sum : (b t : Bool) → first x ≡ t → cond (b && first x) (count_by second ys) 0 + cond b (count_by first xs * count_by second ys) 0 ≡ cond b (count_by first (x ∷ xs) * count_by second ys) 0
    sum false t same = refl
    sum true true same =
        let here = count_by-cons first x xs in
        let passes = cond-true {A = ℕ} (first x) 1 0 same in
        let row' = cond-true {A = ℕ} (first x) (count_by second ys) 0 same in
        let count : count_by first (x ∷ xs) ≡ 1 + count_by first xs = omega arith in
        rw (row', count) (omega arith)
    sum true false same =
        let here = count_by-cons first x xs in
        let fails = cond-false {A = ℕ} (first x) 1 0 same in
        let row' = cond-false {A = ℕ} (first x) (count_by second ys) 0 same in
        let count : count_by first (x ∷ xs) ≡ count_by first xs = omega arith in
        rw (row', count) (omega arith)
