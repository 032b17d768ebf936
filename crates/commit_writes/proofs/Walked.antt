-- Lists that a loop goes over: what is done so far, one item more.
use Rattle.std.proofs.Common.{◌≡◌, ℕ, Bool, true, false, cond, ◌+◌, ◌<◌, List, [], ◌∷◌, ◌++◌, length, filter, flat_map, reverse, take, get_or, refl, ap, sym, ◌∙◌}
use Rattle.std.proofs.lemmas.List.{append-nil, take_more, flat_map_more, reverse-append}
use Rattle.std.proofs.lemmas.List.Elements.{filter-append}

pub take_next : {A : Type 0} (xs : List A) (place : ℕ) (x : A) → place < length xs → get_or xs place x ≡ x → take (place + 1) xs ≡ take place xs ++ x ∷ []
take_next xs place x within is = take_more xs place x within ∙ ap (λ y. take place xs ++ y ∷ []) is

-- the images of one element more
pub images_next : {X Y : Type 0} (images : X → List Y) (xs : List X) (place : ℕ) (x : X) → place < length xs → get_or xs place x ≡ x
    → flat_map images (take (place + 1) xs) ≡ flat_map images (take place xs) ++ images x
images_next images xs place x within is = ap (flat_map images) (take_next xs place x within is) ∙ sym (flat_map_more images [] (take place xs) x)

-- backwards the same are kept
pub kept_reverse : {X : Type 0} (test : X → Bool) (xs : List X) → filter test (reverse xs) ≡ reverse (filter test xs)
kept_reverse test [] = refl
kept_reverse test (x ∷ xs) =
    ap (filter test) (reverse-append (x ∷ []) xs) ∙ filter-append test (reverse xs) (x ∷ []) ∙ ap (λ some. some ++ filter test (x ∷ [])) (kept_reverse test xs) ∙ one (test x)
  where
    one : (passes : Bool) → reverse (filter test xs) ++ cond passes (x ∷ []) [] ≡ reverse (cond passes (x ∷ filter test xs) (filter test xs))
    one true = sym (reverse-append (x ∷ []) (filter test xs))
    one false = append-nil _
