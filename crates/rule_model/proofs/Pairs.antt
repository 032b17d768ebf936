-- What holds of each element of a list and each later one, also of the products of two lists.
use Rattle.std.proofs.Common.{◌≡◌, zero, suc, ◌*◌, Bool, ◌&&◌, ◌||◌, List, [], ◌∷◌, ◌++◌, length, get_or, map, flat_map, All, AllPairs, sym, ◌∙◌, ap, ap₂, arith, length-append}
use Rattle.std.specs.List.{list_any}
use Rattle.std.proofs.Math.Bool.{and-false, and-or_distrib_left, and-or_distrib_right}
use Rattle.std.proofs.lemmas.List.{length-map}
use Rattle.std.proofs.lemmas.List.Elements.{All-nil, All-append, All-head, All-tail, All-map, All-weaker}
use Rattle.std.proofs.lemmas.List.Folds.{list_any-append}
use Rattle.std.proofs.lemmas.List.Kept.{AllPairs-cons}

pub pairs_none : {X : Type 0} (R : X → X → Type 0) → AllPairs R []
pairs_none R = λ i j d low high. absurd (omega (arith, high))

pub pairs_head : {X : Type 0} (R : X → X → Type 0) (x : X) (xs : List X) → AllPairs R (x ∷ xs) → All (R x) xs
pairs_head R x xs p = λ k d l. p zero (suc k) d (omega arith) (omega (arith, l))

pub pairs_tail : {X : Type 0} (R : X → X → Type 0) (x : X) (xs : List X) → AllPairs R (x ∷ xs) → AllPairs R xs
pairs_tail R x xs p = λ i j d low high. p (suc i) (suc j) d (omega (arith, low)) (omega (arith, high))

pub pairs_append : {X : Type 0} (R : X → X → Type 0) (xs ys : List X) → AllPairs R xs → AllPairs R ys → All (λ x. All (R x) ys) xs → AllPairs R (xs ++ ys)
pairs_append R [] ys p q r = q
pairs_append {X} R (x ∷ xs) ys p q r =
    let cross = λ (y : X). All (R y) ys in
    AllPairs-cons R x (xs ++ ys) (All-append (R x) xs ys (pairs_head R x xs p) (All-head cross x xs r))
    (pairs_append R xs ys (pairs_tail R x xs p) q (All-tail cross x xs r))

pub pairs_map : {X Y : Type 0} (R : Y → Y → Type 0) (f : X → Y) (xs : List X) → AllPairs (λ a b. R (f a) (f b)) xs → AllPairs R (map f xs)
pairs_map R f [] p = pairs_none R
pairs_map {X} R f (x ∷ xs) p =
    let between = λ (a b : X). R (f a) (f b) in
    AllPairs-cons R (f x) (map f xs) (All-map (R (f x)) f xs (pairs_head between x xs p)) (pairs_map R f xs (pairs_tail between x xs p))

-- each of one list with each of another, by the first and then by the second
abbrev pub products : {X Y Z : Type 0} → (X → Y → Z) → List X → List Y → List Z
products g xs ys = flat_map (λ x. map (g x) ys) xs

pub length-products : {X Y Z : Type 0} (g : X → Y → Z) (xs : List X) (ys : List Y) → length (products g xs ys) ≡ length xs * length ys
length-products g [] ys = let e : 0 * length ys ≡ 0 = omega arith in sym e
length-products g (x ∷ xs) ys =
    let here = length-append (map (g x) ys) (products g xs ys) in
    let one = length-map ys (g x) in
    let rest = length-products g xs ys in
    omega arith

pub all_products : {X Y Z : Type 0} (P : Z → Type 0) (g : X → Y → Z) (xs : List X) (ys : List Y) → All (λ x. All (λ y. P (g x y)) ys) xs → All P (products g xs ys)
all_products P g [] ys a = All-nil P
all_products {X} {Y} P g (x ∷ xs) ys a =
    let each = λ (z : X). All (λ (y : Y). P (g z y)) ys in
    All-append P (map (g x) ys) (products g xs ys) (All-map P (g x) ys (All-head each x xs a)) (all_products P g xs ys (All-tail each x xs a))

-- pairs of the products, from pairs of the first list and of the second
pub pairs_products : {X Y Z : Type 0} (R : Z → Z → Type 0) (Q : X → X → Type 0) (T : Y → Y → Type 0) (g : X → Y → Z) (xs : List X) (ys : List Y)
    → ((x x' : X) (y y' : Y) → Q x x' → R (g x y) (g x' y')) → ((x : X) (y y' : Y) → T y y' → R (g x y) (g x y'))
    → AllPairs Q xs → AllPairs T ys → AllPairs R (products g xs ys)
pairs_products R Q T g [] ys first second p q = pairs_none R
pairs_products {X} {Y} {Z} R Q T g (x ∷ xs) ys first second p q =
    pairs_append R (map (g x) ys) (products g xs ys) (pairs_map R (g x) ys (λ i j d low high. second x _ _ (q i j d low high)))
    (pairs_products R Q T g xs ys first second (pairs_tail Q x xs p) q)
    (All-map (λ (z : Z). All (R z) (products g xs ys)) (g x) ys (λ k d l. later (get_or ys k d)))
  where
    later : (y : Y) → All (R (g x y)) (products g xs ys)
    later y =
        all_products (R (g x y)) g xs ys
        (All-weaker (Q x) (λ (z : X). All (λ (w : Y). R (g x y) (g z w)) ys) (λ z r k d l. first x z y _ r) xs (pairs_head Q x xs p))

-- a test of images, and one of products that is a test of the first member and one of the second, each beside a constant
any_beside : {X Y : Type 0} (base : Bool) (second : Y → Bool) (f : Y → X) (test : X → Bool) → ((y : Y) → test (f y) ≡ (base && second y)) → (ys : List Y)
    → list_any test (map f ys) ≡ (base && list_any second ys)
any_beside base second f test is [] = sym (and-false base)
any_beside base second f test is (y ∷ ys) =
    ap₂ (λ (a b : Bool). a || b) (is y) (any_beside base second f test is ys) ∙ sym (and-or_distrib_left base (second y) (list_any second ys))

pub any_products : {X Y Z : Type 0} (base : Bool) (first : X → Bool) (second : Y → Bool) (g : X → Y → Z) (test : Z → Bool)
    → ((x : X) (y : Y) → test (g x y) ≡ (base && first x && second y)) → (xs : List X) (ys : List Y)
    → list_any test (products g xs ys) ≡ (base && list_any first xs && list_any second ys)
any_products base first second g test is [] ys = sym (ap (λ (b : Bool). b && list_any second ys) (and-false base))
any_products base first second g test is (x ∷ xs) ys =
    list_any-append test (map (g x) ys) (products g xs ys)
    ∙ ap₂ (λ (a b : Bool). a || b) (any_beside (base && first x) second (g x) test (is x) ys) (any_products base first second g test is xs ys)
    ∙ sym (ap (λ (b : Bool). b && list_any second ys) (and-or_distrib_left base (first x) (list_any first xs))
    ∙ and-or_distrib_right (base && first x) (base && list_any first xs) (list_any second ys))
