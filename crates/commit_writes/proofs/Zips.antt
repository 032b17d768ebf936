-- Two lists, each of whose members is related to its partner.
use Rattle.std.proofs.Common.{ℕ, zero, suc, ◌<◌, List, [], ◌∷◌, length, get_or, Contains, inl, inr, subst, arith}
use Rattle.std.specs.List.{AllZip}
use Rattle.slot_order.proofs.Lists.{contains_head, contains_tail, contains_cases, contains_none}

-- each of the first has its partner,
pub zip_left : {X Y : Type 0} (R : X → Y → Type 0) (xs : List X) (ys : List Y) (x : X) → AllZip R xs ys → Contains xs x → (y : Y) × Contains ys y × R x y
zip_left R [] [] x all member = absurd (contains_none x member)
zip_left R [] (y ∷ ys) x all member = absurd all
zip_left R (first ∷ xs) [] x all member = absurd all
zip_left R (first ∷ xs) (y ∷ ys) x all member = elim (contains_cases first x xs member) [
  | inl same ↦ (y, contains_head y ys, subst (λ z. R z y) same all.0)
  | inr later ↦ let w = zip_left R xs ys x all.1 later in (w.0, contains_tail y w.0 ys w.1, w.2)
]

-- and each of the second
pub zip_right : {X Y : Type 0} (R : X → Y → Type 0) (xs : List X) (ys : List Y) (y : Y) → AllZip R xs ys → Contains ys y → (x : X) × Contains xs x × R x y
zip_right R [] [] y all member = absurd (contains_none y member)
zip_right R [] (first ∷ ys) y all member = absurd all
zip_right R (x ∷ xs) [] y all member = absurd all
zip_right R (x ∷ xs) (first ∷ ys) y all member = elim (contains_cases first y ys member) [
  | inl same ↦ (x, contains_head x xs, subst (λ z. R x z) same all.0)
  | inr later ↦ let w = zip_right R xs ys y all.1 later in (w.0, contains_tail x w.0 xs w.1, w.2)
]

-- at each place
pub zip_at : {X Y : Type 0} (R : X → Y → Type 0) (xs : List X) (ys : List Y) (at : ℕ) (none : X) (other : Y) → AllZip R xs ys → at < length ys → R (get_or xs at none) (get_or ys at other)
zip_at R [] [] at none other all inside = absurd (omega arith)
zip_at R [] (y ∷ ys) at none other all inside = absurd all
zip_at R (x ∷ xs) [] at none other all inside = absurd all
zip_at R (x ∷ xs) (y ∷ ys) zero none other all inside = all.0
zip_at R (x ∷ xs) (y ∷ ys) (suc at) none other all inside = zip_at R xs ys at none other all.1 (omega arith)
