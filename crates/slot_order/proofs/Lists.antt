-- What is in a list, in its beginnings, its images and what is filtered from it.
use Rattle.std.proofs.Common.{◌≡◌, ℕ, zero, suc, ◌<◌, Bool, true, false, List, [], ◌∷◌, ◌++◌, length, get_or, map, filter, take, drop, Contains, ◌⊎◌, inl, inr, refl, sym, ◌∙◌, subst, ap, ap₂, arith, le_refl, Some, None, get_or-take, length-take}
use Rattle.std.specs.List.{AllByRecursion, list_any, position, position_or_len, remove}
use Rattle.std.proofs.lemmas.Bool.{cases_Bool, cond-true, cond-false, or_cases, lt-ltb, le-ltb}
use Rattle.std.proofs.lemmas.List.{get_or-map, length-map, map-append, take-map, drop-map}
use Rattle.std.proofs.lemmas.List.Sums.{position_or_len_is}
use Rattle.std.proofs.lemmas.List.Elements.{All-contains, All-from_recursion}
use Rattle.std.proofs.lemmas.List.Folds.{list_any_at}

pub contains_head : {X : Type 0} (x : X) (xs : List X) → Contains (x ∷ xs) x
contains_head x xs = (0, omega arith, refl)

pub contains_tail : {X : Type 0} (x y : X) (xs : List X) → Contains xs y → Contains (x ∷ xs) y
contains_tail x y xs c = (suc c.0, omega arith, c.2)

pub contains_cases : {X : Type 0} (x y : X) (xs : List X) → Contains (x ∷ xs) y → (x ≡ y) ⊎ Contains xs y
contains_cases {X} x y xs c = at c.0 c.1 c.2
  where
    at : (k : ℕ) → k < length (x ∷ xs) → get_or (x ∷ xs) k y ≡ y → (x ≡ y) ⊎ Contains xs y
    at zero l e = inl e
    at (suc k) l e = inr (k, omega arith, e)

pub contains_none : {X : Type 0} (x : X) → Contains [] x → ⊥
contains_none x c = let l : c.0 < 0 = c.1 in omega arith

pub contains_take : {X : Type 0} (k : ℕ) (xs : List X) (x : X) → Contains (take k xs) x → (j : ℕ) × (j < k) × (j < length xs) × (get_or xs j x ≡ x)
contains_take k xs x c =
    let l : c.0 < length (take k xs) = c.1 in
    let n = length-take k xs in
    let lk : c.0 < k = omega arith in
    (c.0, lk, omega arith, sym (get_or-take k xs c.0 x lk) ∙ c.2)

pub take_contains : {X : Type 0} (k : ℕ) (xs : List X) (x : X) (j : ℕ) → j < k → j < length xs → get_or xs j x ≡ x → Contains (take k xs) x
take_contains k xs x j a b e = let n = length-take k xs in (j, omega arith, get_or-take k xs j x a ∙ e)

pub all_append : {A : Type 0} (P : A → Type 0) (xs ys : List A) → AllByRecursion P xs → AllByRecursion P ys → AllByRecursion P (xs ++ ys)
all_append P [] ys a b = b
all_append P (x ∷ xs) ys a b = (a.0, all_append P xs ys a.1 b)

-- what holds of each element of a list holds of a member
pub AllByRecursion-member : {X : Type 0} (P : X → Type 0) (xs : List X) (x : X) → AllByRecursion P xs → Contains xs x → P x
AllByRecursion-member P xs x all member = All-contains P xs x (All-from_recursion P xs all) member

-- a test passes a member exactly where it passes some
pub any_is : {X : Type 0} (p : X → Bool) (xs : List X) → list_any p xs ≡ true → (x : X) × Contains xs x × (p x ≡ true)
any_is p [] e = absurd (let k : false ≡ true = e in cc)
any_is p (x ∷ xs) e = elim (or_cases (p x) (list_any p xs) e) [
  | inl h ↦ (x, contains_head x xs, h)
  | inr h ↦ let w = any_is p xs h in (w.0, contains_tail x w.0 xs w.1, w.2)
]

pub any_from : {X : Type 0} (p : X → Bool) (xs : List X) (x : X) → Contains xs x → p x ≡ true → list_any p xs ≡ true
any_from p xs x c e = list_any_at p xs c.0 x c.1 (ap p c.2 ∙ e)

pub in_map : {X Y : Type 0} (g : X → Y) (xs : List X) (y : Y) → Contains (map g xs) y → (x : X) × Contains xs x × (g x ≡ y)
in_map g [] y c = absurd (contains_none y c)
in_map g (x ∷ xs) y c = elim (contains_cases (g x) y (map g xs) c) [
  | inl k ↦ (x, contains_head x xs, k)
  | inr k ↦ let w = in_map g xs y k in (w.0, contains_tail x w.0 xs w.1, w.2)
]

pub map_in : {X Y : Type 0} (g : X → Y) (xs : List X) (x : X) → Contains xs x → Contains (map g xs) (g x)
map_in g xs x c = let n = length-map xs g in (c.0, omega arith, get_or-map g xs c.0 x (g x) c.1 ∙ ap g c.2)

pub in_filter : {X : Type 0} (p : X → Bool) (xs : List X) (x : X) → Contains (filter p xs) x → Contains xs x × (p x ≡ true)
in_filter p [] x c = absurd (contains_none x c)
in_filter p (y ∷ xs) x c = elim (cases_Bool (p y)) [
  | inr n ↦ let w = in_filter p xs x (subst (λ l. Contains l x) (cond-false _ _ _ n) c) in (contains_tail y x xs w.0, w.1)
  | inl h ↦ elim (contains_cases y x (filter p xs) (subst (λ l. Contains l x) (cond-true _ _ _ h) c)) [
    | inl k ↦ (subst (λ z. Contains (y ∷ xs) z) k (contains_head y xs), subst (λ z. p z ≡ true) k h)
    | inr k ↦ let w = in_filter p xs x k in (contains_tail y x xs w.0, w.1)
  ]
]

pub filter_in : {X : Type 0} (p : X → Bool) (xs : List X) (x : X) → Contains xs x → p x ≡ true → Contains (filter p xs) x
filter_in p [] x c e = absurd (contains_none x c)
filter_in p (y ∷ xs) x c e = elim (contains_cases y x xs c) [
  | inl k ↦ subst (λ l. Contains l x) (sym (cond-true _ _ _ (ap p k ∙ e))) (subst (λ z. Contains (y ∷ filter p xs) z) k (contains_head y (filter p xs)))
  | inr k ↦ elim (cases_Bool (p y)) [
    | inl h ↦ subst (λ l. Contains l x) (sym (cond-true _ _ _ h)) (contains_tail y x (filter p xs) (filter_in p xs x k e))
    | inr n ↦ subst (λ l. Contains l x) (sym (cond-false _ _ _ n)) (filter_in p xs x k e)
  ]
]

-- a test that nothing passes keeps nothing
pub filter_nothing : {X : Type 0} (p : X → Bool) (xs : List X) → ((x : X) → Contains xs x → p x ≡ false) → filter p xs ≡ []
filter_nothing p [] none = refl
filter_nothing p (x ∷ xs) none =
    cond-false _ _ _ (none x (contains_head x xs)) ∙ filter_nothing p xs (λ y c. none y (contains_tail x y xs c))

-- the first place that passes a test, by what is known of the ones below it
pub position_found : {X : Type 0} (test : X → Bool) (xs : List X) (place : ℕ) (d : X) → place < length xs
    → ((k : ℕ) → k < place → test (get_or xs k d) ≡ false) → test (get_or xs place d) ≡ true → position test xs ≡ Some place
position_found test xs place d below fails passes =
    let same = position_or_len_is test xs place d (omega arith) fails (λ l. passes) in
    cond-true _ _ _ (lt-ltb (position_or_len test xs) (length xs) (omega arith)) ∙ ap Some same

pub position_none : {X : Type 0} (test : X → Bool) (xs : List X) (d : X) → ((k : ℕ) → k < length xs → test (get_or xs k d) ≡ false) → position test xs ≡ None
position_none test xs d fails =
    let same = position_or_len_is test xs (length xs) d (le_refl (length xs)) fails (λ l. absurd (omega arith)) in
    cond-false _ _ _ (le-ltb (position_or_len test xs) (length xs) (omega arith))

-- an element that goes from a place
pub map-remove : {X Y : Type 0} (f : X → Y) (xs : List X) (place : ℕ) → map f (remove xs place) ≡ remove (map f xs) place
map-remove {X} {Y} f xs place =
    map-append f (take place xs) (drop (suc place) xs)
    ∙ ap₂ (λ (a b : List Y). a ++ b) (sym (take-map f place xs)) (sym (drop-map f (suc place) xs))
