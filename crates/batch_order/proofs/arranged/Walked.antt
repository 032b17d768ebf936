-- Lists that a loop goes over: what is done so far, one item more.
use Rattle.std.proofs.Common.{◌≡◌, ℕ, zero, suc, false, ◌+◌, ◌<◌, List, [], ◌∷◌, ◌++◌, length, map, take, get_or, Contains, inl, inr, ap, subst, sym, ◌∙◌}
use Rattle.std.specs.Prelude.{nat_eq}
use Rattle.std.specs.List.{AllByRecursion, AllZip, IsDistinct}
use Rattle.std.proofs.lemmas.List.{get_or_default, map-append}
use Rattle.std.proofs.lemmas.List.Elements.{Contains-push}
use Rattle.slot_order.proofs.Lists.{contains_cases, contains_none, AllByRecursion-member}
use Rattle.placement.proofs.Live.{all_apart}
use Rattle.tcam_device.proofs.Wider.{all_take}
use Rattle.commit_writes.proofs.Walked.{take_next}

-- what holds of all holds at a place
pub all_at : {A : Type 0} (P : A → Type 0) (xs : List A) (place : ℕ) (x : A) → AllByRecursion P xs → place < length xs → get_or xs place x ≡ x → P x
all_at P xs place x all within is = AllByRecursion-member P xs x all (place, within, is)

-- likewise of a number, which a loop reads with 0 past the end
pub number_is : (xs : List ℕ) (place : ℕ) → place < length xs → get_or xs place (get_or xs place 0) ≡ get_or xs place 0
number_is xs place within = get_or_default xs place (get_or xs place 0) 0 within

distinct_take : (n : ℕ) (ids : List ℕ) → IsDistinct nat_eq ids → IsDistinct nat_eq (take n ids)
unfolding IsDistinct
distinct_take zero ids apart = tt
distinct_take (suc n) [] apart = tt
distinct_take (suc n) (id ∷ ids) apart = (all_take (λ other. nat_eq id other ≡ false) n ids apart.0, distinct_take n ids apart.1)

-- the last of distinct numbers is none of the others
not_earlier : (ids : List ℕ) (last : ℕ) → IsDistinct nat_eq (ids ++ last ∷ []) → Contains ids last → ⊥
unfolding IsDistinct
not_earlier [] last apart member = contains_none last member
not_earlier (id ∷ ids) last apart member = elim (contains_cases id last ids member) [
  | inl same ↦ all_apart id (ids ++ last ∷ []) apart.0 (subst (Contains (ids ++ last ∷ [])) (sym same) (Contains-push ids last))
  | inr later ↦ not_earlier ids last apart.1 later
]

-- what a loop over distinct numbers has done, and does next
pub record IsNext (P : ℕ → Type 0) (ids : List ℕ) (place : ℕ) : Type 0 where
  pub before : AllByRecursion P (take place ids)
  pub here : P (get_or ids place 0)
  pub apart : IsDistinct nat_eq (take place ids)
  pub other : Contains (take place ids) (get_or ids place 0) → ⊥
  pub more : take (place + 1) ids ≡ take place ids ++ get_or ids place 0 ∷ []

pub next_number : (P : ℕ → Type 0) (ids : List ℕ) (place : ℕ) → IsDistinct nat_eq ids → AllByRecursion P ids → place < length ids → IsNext P ids place
next_number P ids place apart all within =
    let one = get_or ids place 0 in
    let more = take_next ids place one within (number_is ids place within) in
    record {
      before = all_take P place ids all;
      here = all_at P ids place one all within (number_is ids place within);
      apart = distinct_take place ids apart;
      other = not_earlier (take place ids) one (subst (IsDistinct nat_eq) more (distinct_take (place + 1) ids apart));
      more = more;
    }

pub map_next : {A B : Type 0} (f : A → B) (xs : List A) (place : ℕ) (x : A) → place < length xs → get_or xs place x ≡ x
    → map f (take (place + 1) xs) ≡ map f (take place xs) ++ f x ∷ []
map_next f xs place x within is = ap (map f) (take_next xs place x within is) ∙ map-append f (take place xs) (x ∷ [])

zip_more : {A B : Type 0} (R : A → B → Type 0) (xs : List A) (ys : List B) (x : A) (y : B) → AllZip R xs ys → R x y → AllZip R (xs ++ x ∷ []) (ys ++ y ∷ [])
zip_more R [] [] x y all one = (one, tt)
zip_more R [] (other ∷ ys) x y all one = absurd all
zip_more R (first ∷ xs) [] x y all one = absurd all
zip_more R (first ∷ xs) (other ∷ ys) x y all one = (all.0, zip_more R xs ys x y all.1 one)

pub zip_next : {A B : Type 0} (R : A → B → Type 0) (xs : List A) (ys : List B) (place : ℕ) (x : A) (y : B) → place < length xs → get_or xs place x ≡ x
    → AllZip R (take place xs) ys → R x y → AllZip R (take (place + 1) xs) (ys ++ y ∷ [])
zip_next R xs ys place x y within is all one =
    subst (λ some. AllZip R some (ys ++ y ∷ [])) (sym (take_next xs place x within is)) (zip_more R (take place xs) ys x y all one)
