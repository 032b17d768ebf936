-- Lists whose elements are mapped to lists, and lists backwards: their members, and what holds of each two of them.
use Rattle.std.proofs.Common.{◌-◌, ◌<◌, List, [], ◌∷◌, length, get_or, reverse, Contains, inl, inr, sym, subst, arith}
use Rattle.std.specs.Prelude.{flat_map, All, AllPairs}
use Rattle.std.specs.List.{AllByRecursion}
use Rattle.std.proofs.lemmas.List.{reverse-append, get_or-reverse, length-reverse, get_or_default}
use Rattle.std.proofs.lemmas.List.Elements.{All-contains, Contains-append_cases, Contains-append_left, Contains-append_right}
use Rattle.slot_order.proofs.Lists.{contains_head, contains_tail, contains_cases, contains_none}
use Rattle.rule_model.proofs.Pairs.{pairs_none, pairs_head, pairs_tail, pairs_append}

-- what holds of each member holds of the whole list
pub all_members : {X : Type 0} (P : X → Type 0) (xs : List X) → ((x : X) → Contains xs x → P x) → AllByRecursion P xs
all_members P [] each = tt
all_members P (x ∷ xs) each = (each x (contains_head x xs), all_members P xs (λ y member. each y (contains_tail x y xs member)))

pub all_from : {X : Type 0} (P : X → Type 0) (xs : List X) → ((x : X) → Contains xs x → P x) → All P xs
all_from P xs each k d less = each (get_or xs k d) (k, less, get_or_default xs k (get_or xs k d) d less)

-- a member of the images is one of an element's
pub in_images : {X Y : Type 0} (images : X → List Y) (xs : List X) (y : Y) → Contains (flat_map images xs) y → (x : X) × Contains xs x × Contains (images x) y
in_images images [] y member = absurd (contains_none y member)
in_images images (x ∷ xs) y member = elim (Contains-append_cases (images x) (flat_map images xs) y member) [
  | inl here ↦ (x, contains_head x xs, here)
  | inr later ↦ let w = in_images images xs y later in (w.0, contains_tail x w.0 xs w.1, w.2)
]

pub images_in : {X Y : Type 0} (images : X → List Y) (xs : List X) (x : X) (y : Y) → Contains xs x → Contains (images x) y → Contains (flat_map images xs) y
images_in images [] x y member is = absurd (contains_none x member)
images_in images (first ∷ xs) x y member is = elim (contains_cases first x xs member) [
  | inl same ↦ Contains-append_left (images first) (flat_map images xs) y (subst (λ z. Contains (images z) y) (sym same) is)
  | inr later ↦ Contains-append_right (images first) (flat_map images xs) y (images_in images xs x y later is)
]

-- what holds between the images of each two elements, and of each two images of one, holds of each two images
pub pairs_images : {X Y : Type 0} (R : Y → Y → Type 0) (images : X → List Y) (xs : List X)
    → AllPairs (λ a b. (p q : Y) → Contains (images a) p → Contains (images b) q → R p q) xs → ((x : X) → AllPairs R (images x)) → AllPairs R (flat_map images xs)
pairs_images R images [] between within = pairs_none R
pairs_images {X} {Y} R images (x ∷ xs) between within =
    pairs_append R (images x) (flat_map images xs) (within x) (pairs_images R images xs (pairs_tail across x xs between) within)
    (all_from (λ p. All (R p) (flat_map images xs)) (images x) (λ p is_p. all_from (R p) (flat_map images xs) (λ q later.
    let w = in_images images xs q later in
    All-contains (across x) xs w.0 (pairs_head across x xs between) w.1 p q is_p w.2)))
  where
    across : X → X → Type 0
    across a b = (p q : Y) → Contains (images a) p → Contains (images b) q → R p q

-- backwards
pub pairs_reverse : {X : Type 0} (R : X → X → Type 0) (xs : List X) → AllPairs (λ a b. R b a) xs → AllPairs R (reverse xs)
pairs_reverse R xs pairs i j d less inside =
    let size = length-reverse xs in
    let j_inside : j < length xs = omega arith in
    subst (λ a. R a (get_or (reverse xs) j d)) (sym (get_or-reverse xs i d (omega arith)))
    (subst (R (get_or xs (length xs - 1 - i) d)) (sym (get_or-reverse xs j d j_inside))
    (pairs (length xs - 1 - j) (length xs - 1 - i) d (omega arith) (omega arith)))

pub in_reverse : {X : Type 0} (xs : List X) (x : X) → Contains (reverse xs) x → Contains xs x
in_reverse [] x member = absurd (contains_none x member)
in_reverse (y ∷ xs) x member = elim (Contains-append_cases (reverse xs) (y ∷ []) x (subst (λ some. Contains some x) (reverse-append (y ∷ []) xs) member)) [
  | inl front ↦ contains_tail y x xs (in_reverse xs x front)
  | inr last ↦ elim (contains_cases y x [] last) [
    | inl same ↦ subst (Contains (y ∷ xs)) same (contains_head y xs)
    | inr none ↦ absurd (contains_none x none)
  ]
]

pub reverse_in : {X : Type 0} (xs : List X) (x : X) → Contains xs x → Contains (reverse xs) x
reverse_in [] x member = absurd (contains_none x member)
reverse_in (y ∷ xs) x member = subst (λ some. Contains some x) (sym (reverse-append (y ∷ []) xs)) (elim (contains_cases y x xs member) [
  | inl same ↦ Contains-append_right (reverse xs) (y ∷ []) x (subst (Contains (y ∷ [])) same (contains_head y []))
  | inr later ↦ Contains-append_left (reverse xs) (y ∷ []) x (reverse_in xs x later)
])
