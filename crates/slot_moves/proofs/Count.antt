use Rattle.std.proofs.Common.{◌≡◌, ℕ, suc, ◌+◌, ◌<◌, ◌≤◌, List, [], ◌∷◌, length, Option, Some, refl, arith, inl, inr, sym, ◌∙◌, subst, ap, Contains, length-append, map}
use Rattle.slot_order.specs.Order.{slot, Ordered}
use Rattle.slot_moves.specs.Moves.{Downwards, Upwards, IsMoveChain, chain_moves}
use Rattle.slot_order.specs.Chains.{IsChain, BoundsMemberChains}
use Rattle.std.proofs.lemmas.List.{length-map}
use Rattle.slot_order.proofs.Lists.{contains_head, contains_tail, contains_cases, contains_none, in_map}

pub length-chain_moves : {E : Type 0} (d : List (Option E)) (f s : ℕ) (rest : List ℕ) → length (chain_moves d f s rest) ≡ suc (length rest)
length-chain_moves d f s [] = refl
length-chain_moves d f s (t ∷ rest) = let h = length-chain_moves d f t rest in let a = length-append (chain_moves d f t rest) ((t, slot d s) ∷ []) in omega arith

-- the entries of a down chain are a chain
pub record Members {E : Type 0} (over : E → E → Type 0) (tag : E → ℕ) (P : E → Type 0) (n : ℕ) (e : E) : Type 0 where
  pub rest : List E
  pub chain : IsChain over tag (e ∷ rest)
  pub inside : (x : E) → Contains (e ∷ rest) x → P x
  pub many : length rest ≡ n

pub chain_members : {E : Type 0} (over : E → E → Type 0) (tag : E → ℕ) (P : E → Type 0) (d : List (Option E)) (f s : ℕ) (rest : List ℕ) (e : E)
    → Ordered over tag P d → slot d s ≡ Some e → IsMoveChain Downwards over tag d f s rest → Members over tag P (length rest) e
chain_members over tag P d f s [] e o stands c = record {
  rest = [];
  chain = tt;
  many = refl;
  inside = λ x i. elim (contains_cases e x [] i) [ inl k ↦ subst P k (o.within s e stands) | inr n ↦ absurd (contains_none x n) ];
}
chain_members over tag P d f s (t ∷ rest) e o stands c =
    let a = c.0 in let g = a.4.0 in
    let same : a.0 ≡ e = let k : Some a.0 ≡ Some e = sym a.1 ∙ stands in cc in
    let h = chain_members over tag P d f t rest g o a.4.1 c.1 in
    record {
      rest = g ∷ h.rest;
      chain = (subst (λ z. over z g) same a.4.2, subst (λ z. tag g < tag z) same a.4.3, h.chain);
      many = ap suc h.many;
      inside = λ x i. elim (contains_cases e x (g ∷ h.rest) i) [ inl k ↦ subst P k (o.within s e stands) | inr n ↦ h.inside x n ];
    }

-- a chain below a new entry e: its moves and the write of e are at most m
pub chain_bound : {E : Type 0} (over : E → E → Type 0) (tag : E → ℕ) (P Q : E → Type 0) (d : List (Option E)) (f s m : ℕ) (rest : List ℕ) (e x : E)
    → Ordered over tag P d → slot d s ≡ Some x → IsMoveChain Downwards over tag d f s rest → over e x → tag x < tag e
    → ((g : E) → P g → Q g) → Q e → BoundsMemberChains over tag Q m → length (chain_moves d f s rest) + 1 ≤ m
chain_bound over tag P Q d f s m rest e x o stands c v less up here bound =
    let h = chain_members over tag P d f s rest x o stands c in
    let b : length (e ∷ x ∷ h.rest) ≤ m = bound (e ∷ x ∷ h.rest)
    (λ y i. elim (contains_cases e y (x ∷ h.rest) i) [ inl k ↦ subst Q k here | inr n ↦ up y (h.inside y n) ]) (v, less, h.chain) in
    let n = length-chain_moves d f s rest in
    let k : length h.rest ≡ length rest = h.many in omega arith

-- an up chain, with what stands below it in the chain of entries
pub up_chain_bound : {E : Type 0} (over : E → E → Type 0) (tag : E → ℕ) (P Q : E → Type 0) (d : List (Option E)) (f s m : ℕ) (rest : List ℕ) (x : E) (acc : List E)
    → ((x y : E) → over x y → over y x) → Ordered over tag P d → slot d s ≡ Some x → IsMoveChain Upwards over tag d f s rest → IsChain over tag (x ∷ acc)
    → ((y : E) → Contains (x ∷ acc) y → Q y) → ((y : E) → P y → Q y) → BoundsMemberChains over tag Q m → length rest + length (x ∷ acc) ≤ m
up_chain_bound over tag P Q d f s m [] x acc mirror o stands c chain all up bound = let b = bound (x ∷ acc) all chain in omega arith
up_chain_bound over tag P Q d f s m (t ∷ rest) x acc mirror o stands c chain all up bound =
    let a = c.0 in let y = a.4.0 in
    let same : a.0 ≡ x = let k : Some a.0 ≡ Some x = sym a.1 ∙ stands in cc in
    let h : length rest + length (y ∷ x ∷ acc) ≤ m =
    up_chain_bound over tag P Q d f t m rest y (x ∷ acc) mirror o a.4.1 c.1
    (mirror x y (subst (λ z. over z y) same a.4.2), subst (λ z. tag z < tag y) same a.4.3, chain)
    (λ z i. elim (contains_cases y z (x ∷ acc) i) [ inl k ↦ subst Q k (up y (o.within t y a.4.1)) | inr n ↦ all z n ]) up bound in omega arith

chain_image : {E F : Type 0} (over : E → E → Type 0) (tag : E → ℕ) (over' : F → F → Type 0) (tag' : F → ℕ) (f : E → F) (xs : List E)
    → ((a b : E) → Contains xs a → Contains xs b → over a b → over' (f a) (f b)) → ((a : E) → Contains xs a → tag' (f a) ≡ tag a)
    → IsChain over tag xs → IsChain over' tag' (map f xs)
chain_image over tag over' tag' f [] o t c = tt
chain_image over tag over' tag' f (a ∷ []) o t c = tt
chain_image over tag over' tag' f (a ∷ b ∷ xs) o t c =
    let ia = contains_head a (b ∷ xs) in
    let ib = contains_tail a b (b ∷ xs) (contains_head b xs) in
    let ta = t a ia in let tb = t b ib in let l = c.1 in (
      o a b ia ib c.0,
      omega arith,
      chain_image over tag over' tag' f (b ∷ xs) (λ x y p q. o x y (contains_tail a x (b ∷ xs) p) (contains_tail a y (b ∷ xs) q)) (λ x p. t x (contains_tail a x (b ∷ xs) p)) c.2,
    )

-- a bound on the chains of images bounds those of the members
pub image_bound : {E F : Type 0} (over : E → E → Type 0) (tag : E → ℕ) (P : E → Type 0) (over' : F → F → Type 0) (tag' : F → ℕ) (Q : F → Type 0) (f : E → F) (m : ℕ)
    → ((a : E) → P a → Q (f a)) → ((a : E) → P a → tag' (f a) ≡ tag a) → ((a b : E) → P a → P b → over a b → over' (f a) (f b))
    → BoundsMemberChains over' tag' Q m → BoundsMemberChains over tag P m
image_bound over tag P over' tag' Q f m member same meets bound chain all c =
    let b = bound (map f chain) (λ y i. let w = in_map f chain y i in subst Q w.2 (member w.0 (all w.0 w.1)))
    (chain_image over tag over' tag' f chain (λ x y p q v. meets x y (all x p) (all y q) v) (λ x p. same x (all x p)) c) in
    let n = length-map chain f in omega arith
