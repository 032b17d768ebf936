-- Places that all hold a value.
use Rattle.std.proofs.Common.{◌≡◌, ℕ, ◌+◌, ◌<◌, ◌≤◌, List, [], ◌∷◌, ◌++◌, length, get_or, set, map, replicate, Option, Some, None, refl, sym, ap, ◌∙◌, arith, ext_get_or, inl, inr, length-append, ◌-◌}
use Rattle.std.proofs.lemmas.Bool.{cases_lt}
use Rattle.std.proofs.lemmas.List.{length-map, map-set, get_or-map, length-replicate, get_or-replicate, get_or_append_left, get_or-append_right}
use Rattle.order_chains.specs.Whole.{somes}

somes-map : {X : Type 0} (xs : List X) → somes (map Some xs) ≡ xs
somes-map [] = refl
somes-map (x ∷ xs) = ap (λ ys. x ∷ ys) (somes-map xs)

-- what a list of filled places says
pub record IsOf {X : Type 0} (cs : List (Option X)) (xs : List X) : Type 0 where
  pub items : somes cs ≡ xs
  pub full : cs ≡ map Some (somes cs)

is_of : {X : Type 0} (cs : List (Option X)) (xs : List X) → cs ≡ map Some xs → IsOf cs xs
is_of cs xs e = let s : somes cs ≡ xs = ap somes e ∙ somes-map xs in record { items = s; full = e ∙ ap (map Some) (sym s) }

pub full_size : {X : Type 0} (cs : List (Option X)) → cs ≡ map Some (somes cs) → length (somes cs) ≡ length cs
full_size cs e = sym (length-map (somes cs) Some) ∙ sym (ap length e)

pub full_at : {X : Type 0} (cs : List (Option X)) (i : ℕ) (d : X) → cs ≡ map Some (somes cs) → i < length (somes cs) → get_or cs i None ≡ Some (get_or (somes cs) i d)
full_at cs i d e l = ap (λ ys. get_or ys i None) e ∙ get_or-map Some (somes cs) i d None l

pub full_set : {X : Type 0} (cs : List (Option X)) (i : ℕ) (x : X) → cs ≡ map Some (somes cs) → IsOf (set cs i (Some x)) (set (somes cs) i x)
full_set cs i x e = is_of _ _ (ap (λ ys. set ys i (Some x)) e ∙ sym (map-set Some (somes cs) i x))

-- xs, and x in the places after them
pub filled_more : {X : Type 0} (cs : List (Option X)) (xs : List X) (n : ℕ) (d x : X) → length cs ≡ length xs + n
    → ((k : ℕ) → k < length xs → get_or cs k None ≡ Some (get_or xs k d)) → ((k : ℕ) → length xs ≤ k → k < length xs + n → get_or cs k None ≡ Some x) → IsOf cs (xs ++ replicate n x)
filled_more cs xs n d x e f g =
    let r = length-replicate n x in
    let s = length-append xs (replicate n x) in
    let m = length-map (xs ++ replicate n x) Some in
    is_of cs (xs ++ replicate n x) (ext_get_or None cs (map Some (xs ++ replicate n x)) (omega arith)
    (λ k l. elim (cases_lt k (length xs)) [
      | inl a ↦ f k a ∙ ap Some (sym (get_or_append_left xs (replicate n x) d k a)) ∙ sym (get_or-map Some (xs ++ replicate n x) k d None (omega arith))
      | inr b ↦ g k b (omega arith) ∙ ap Some (sym (get_or-append_right xs (replicate n x) (length xs) k d refl b ∙ get_or-replicate n (k - length xs) x d (omega arith))) ∙ sym (get_or-map Some (xs ++ replicate n x) k d None (omega arith))
    ]))
