use Rattle.std.proofs.Common.{◌≡◌, ℕ, ◌<◌, List, [], ◌∷◌, ◌++◌, length, set, Option, None, Some, refl, arith, inl, inr, ◌⊎◌, sym, ◌∙◌, subst, ap, length-set}
use Rattle.std.proofs.lemmas.Bool.{cases_eq}
use Rattle.slot_order.specs.Order.{slot, Ordered}
use Rattle.slot_order.specs.Chains.{applied, Along}
use Rattle.slot_moves.specs.Moves.{Way, IsBefore, IsNoLater, IsClear, IsMoveChain, chain_moves}
use Rattle.slot_order.proofs.Writes.{slot_same, slot_other, HasCopy, slot_inside}
use Rattle.slot_moves.proofs.Ways.{no_later_self, no_later, before_all, clash, apart, sorted_on, put_on}

pub Along_push : {E : Type 0} (G : List (Option E) → Type 0) (d : List (Option E)) (ms : List (ℕ × Option E)) (m : ℕ × Option E)
    → Along G d ms → G (set (applied d ms) m.0 m.1) → Along G d (ms ++ m ∷ [])
Along_push G d [] m a g = (a, g)
Along_push G d (n ∷ ms) m a g = (a.0, Along_push G (set d n.0 n.1) ms m a.1 g)

pub applied_push : {E : Type 0} (d : List (Option E)) (ms : List (ℕ × Option E)) (m : ℕ × Option E) → applied d (ms ++ m ∷ []) ≡ set (applied d ms) m.0 m.1
applied_push d [] m = refl
applied_push d (n ∷ ms) m = applied_push (set d n.0 n.1) ms m

-- what a chain that has moved away from slot s leaves: b is d after its moves, e stood in s
pub record IsMoved {E : Type 0} (way : Way) (over : E → E → Type 0) (tag : E → ℕ) (P : E → Type 0) (d b : List (Option E)) (s : ℕ) (e : E) : Type 0 where
  pub ordered : Ordered over tag P b
  pub size : length b ≡ length d
  pub stood : slot d s ≡ Some e
  pub before : (j : ℕ) → IsNoLater way j s → slot b j ≡ slot d j
  pub copy : (i : ℕ) × IsBefore way s i × (slot b i ≡ Some e)
  -- what stands in another place than before may stand as far on as e, and what must stand nearer stands where it stood
  pub low : (j : ℕ) (g : E) → slot b j ≡ Some g → (slot d j ≡ Some g) ⊎ IsNoLater way (tag g) (tag e)
  pub high : (j : ℕ) (g : E) → slot d j ≡ Some g → IsBefore way (tag e) (tag g) → slot b j ≡ Some g

-- one step: in b, e stands in s, and is put to t, where nothing stands or what has a copy; e may stand before t
pub step : {E : Type 0} (way : Way) (over : E → E → Type 0) (tag : E → ℕ) (P : E → Type 0) (d b : List (Option E)) (s t : ℕ) (e : E)
    → ((x y : E) → over x y → over y x) → Ordered over tag P b → length b ≡ length d → t < length d → slot d s ≡ Some e → IsBefore way s t
    → IsClear way over tag d e t → ((j : ℕ) → IsBefore way j t → slot b j ≡ slot d j) → HasCopy b t
    → ((g : E) → slot d t ≡ Some g → IsNoLater way (tag g) (tag e))
    → ((j : ℕ) (g : E) → slot b j ≡ Some g → (slot d j ≡ Some g) ⊎ IsNoLater way (tag g) (tag e))
    → ((j : ℕ) (g : E) → slot d j ≡ Some g → IsBefore way (tag e) (tag g) → slot b j ≡ Some g)
    → IsMoved way over tag P d (set b t (Some e)) s e
step {E} way over tag P d b s t e mirror o size room stood less is_clear same copy lower low high = record {
  ordered = put_on way over tag P P b t e mirror o (λ g p. p) (o.within s e still) (λ g p. inl p) fits copy
      (λ j g l a v. is_clear j g l (sym (same j l) ∙ a) v)
      (λ j g l a v. sorted_on way over tag P b s j e g mirror o (before_all way s t j (no_later way s t less) l) still a v);
  size = length-set b t (Some e) ∙ size;
  stood = stood;
  before = λ j l. let near = before_all way j s t l less in slot_other b t (Some e) j (apart way j t near) ∙ same j near;
  copy = (t, less, there);
  low = low';
  high = high';
}
  where
    fits : t < length b
    fits = omega arith

    still : slot b s ≡ Some e
    still = same s less ∙ stood

    there : slot (set b t (Some e)) t ≡ Some e
    there = slot_same b t (Some e) fits

    low' : (j : ℕ) (g : E) → slot (set b t (Some e)) j ≡ Some g → (slot d j ≡ Some g) ⊎ IsNoLater way (tag g) (tag e)
    low' j g a = elim (cases_eq j t) [
      | inl k ↦ inr (let w : Some e ≡ Some g = sym there ∙ (ap (slot (set b t (Some e))) (sym k) ∙ a) in subst (λ z. IsNoLater way (tag z) (tag e)) (let v : e ≡ g = cc in v) (no_later_self way _))
      | inr n ↦ low j g (sym (slot_other b t (Some e) j n) ∙ a)
    ]

    high' : (j : ℕ) (g : E) → slot d j ≡ Some g → IsBefore way (tag e) (tag g) → slot (set b t (Some e)) j ≡ Some g
    high' j g a l = elim (cases_eq j t) [
      | inl k ↦ absurd (clash way _ _ l (lower g (ap (slot d) (sym k) ∙ a)))
      | inr n ↦ slot_other b t (Some e) j n ∙ high j g a l
    ]

-- each write of a chain keeps the order
pub chain_keeps : {E : Type 0} (way : Way) (over : E → E → Type 0) (tag : E → ℕ) (P : E → Type 0) (d : List (Option E)) (f s : ℕ) (rest : List ℕ) (e : E)
    → ((x y : E) → over x y → over y x) → Ordered over tag P d → f < length d → slot d f ≡ None → slot d s ≡ Some e → IsMoveChain way over tag d f s rest
    → Along (Ordered over tag P) d (chain_moves d f s rest) × IsMoved way over tag P d (applied d (chain_moves d f s rest)) s e
chain_keeps {E} way over tag P d f s [] e mirror o room free stands c =
    let same : c.0 ≡ e = let k : Some c.0 ≡ Some e = sym c.1 ∙ stands in cc in
    let m : IsMoved way over tag P d (set d f (Some e)) s e =
    step way over tag P d d s f e mirror o refl room stands c.2 (subst (λ z. IsClear way over tag d z f) same c.3) (λ j l. refl)
    (λ g a. absurd (let k : None ≡ Some g = sym free ∙ a in cc)) (λ g a. absurd (let k : None ≡ Some g = sym free ∙ a in cc)) (λ j g a. inl a) (λ j g a l. a) in
    let w = subst (λ z. IsMoved way over tag P d (set d f z) s e) (sym stands) m in
    ((o, w.ordered), w)
chain_keeps {E} way over tag P d f s (t ∷ rest) e mirror o room free stands c =
    let a = c.0 in let g = a.4.0 in
    let same : a.0 ≡ e = let k : Some a.0 ≡ Some e = sym a.1 ∙ stands in cc in
    let h = chain_keeps way over tag P d f t rest g mirror o room free a.4.1 c.1 in
    let b = applied d (chain_moves d f t rest) in
    let m = h.1 in
    let further : IsBefore way (tag g) (tag e) = subst (λ z. IsBefore way (tag g) (tag z)) same a.4.3 in
    let inside : t < length d = slot_inside d t g a.4.1 in
    let w : IsMoved way over tag P d (set b t (Some e)) s e =
    step way over tag P d b s t e mirror m.ordered m.size inside stands a.2 (subst (λ z. IsClear way over tag d z t) same a.3) (λ j l. m.before j (no_later way j t l))
    (λ x y. let k : Some g ≡ Some x = sym a.4.1 ∙ (sym (m.before t (no_later_self way t)) ∙ y) in let z : g ≡ x = cc in
    (m.copy.0, (λ k. apart way t m.copy.0 m.copy.1 (sym k)), m.copy.2 ∙ ap Some z))
    (λ x y. let k : Some g ≡ Some x = sym a.4.1 ∙ y in let z : g ≡ x = cc in subst (λ u. IsNoLater way (tag u) (tag e)) z (no_later way _ _ further))
    (λ j x y. elim (m.low j x y) [ inl i ↦ inl i | inr l ↦ inr (no_later way _ _ (before_all way _ _ _ l further)) ])
    (λ j x y l. m.high j x y (before_all way _ _ _ (no_later way _ _ further) l)) in
    let w' = subst (λ z. IsMoved way over tag P d (set b t z) s e) (sym stands) w in (
      Along_push (Ordered over tag P) d (chain_moves d f t rest) (t, slot d s) h.0 w'.ordered,
      subst (λ z. IsMoved way over tag P d z s e) (sym (applied_push d (chain_moves d f t rest) (t, slot d s))) w',
    )
