use Rattle.std.proofs.Common.{◌≡◌, ℕ, suc, ◌<◌, ◌≤◌, List, length, set, Option, None, Some, refl, arith, inl, inr, ◌⊎◌, sym, ◌∙◌}
use Rattle.std.proofs.lemmas.Bool.{cases_lt}
use Rattle.slot_order.specs.Order.{slot, Ordered}
use Rattle.slot_moves.specs.Moves.{Way, Downwards, Upwards, IsBefore, IsNoLater, IsFloor, IsCeiling}
use Rattle.slot_order.proofs.Writes.{put_keeps, slot_inside}
use Rattle.slot_moves.proofs.Chains.{IsMoved}
use Rattle.slot_moves.proofs.Ways.{no_later_self, no_later, clash, not_before, before_all, apart, put_on}

-- the members of P and e
abbrev pub Plus : {E : Type 0} → (E → Type 0) → E → E → Type 0
Plus P e g = P g ⊎ (e ≡ g)

-- the new entry goes to a free slot between its floor and its ceiling
pub new_keeps : {E : Type 0} (over : E → E → Type 0) (tag : E → ℕ) (P : E → Type 0) (d : List (Option E)) (e : E) (l u t : ℕ)
    → ((x y : E) → over x y → over y x) → Ordered over tag P d → IsFloor over tag d e l → IsCeiling over tag d e u → l ≤ t → t < u → t < length d → slot d t ≡ None
    → Ordered over tag (Plus P e) (set d t (Some e))
new_keeps over tag P d e l u t mirror o lo hi a b room free =
    put_keeps over tag P (Plus P e) d t e o (λ g p. inl p) (inr refl) (λ g q. q) room (λ g s. absurd (let k : None ≡ Some g = sym free ∙ s in cc))
    (λ j g m s v. elim (cases_lt (tag g) (tag e)) [ inr n ↦ n | inl n ↦ absurd (let w : u ≤ j = hi.over_it j g s (mirror g e v) n in omega arith) ])
    (λ j g m s v. elim (cases_lt (tag e) (tag g)) [ inr n ↦ n | inl n ↦ absurd (let w : j < l = lo.under j g s v n in omega arith) ])

-- the new entry goes over the first member of a chain that has moved on: what must stand further on doesn't stand before that
-- one, and what must stand before it does
new_over : {E : Type 0} (way : Way) (over : E → E → Type 0) (tag : E → ℕ) (P : E → Type 0) (d b : List (Option E)) (e x : E) (s : ℕ)
    → ((x y : E) → over x y → over y x)
    → ((j : ℕ) (g : E) → slot d j ≡ Some g → over e g → IsBefore way (tag g) (tag e) → IsNoLater way s j)
    → ((j : ℕ) (g : E) → slot d j ≡ Some g → over e g → IsBefore way (tag e) (tag g) → IsBefore way j s)
    → IsMoved way over tag P d b s x → IsBefore way (tag x) (tag e) → Ordered over tag (Plus P e) (set b s (Some e))
new_over way over tag P d b e x s mirror further nearer m less =
    let still : slot b s ≡ Some x = m.before s (no_later_self way s) ∙ m.stood in
    put_on way over tag P (Plus P e) b s e mirror m.ordered (λ g p. inl p) (inr refl) (λ g q. q) (slot_inside b s x still)
    (λ g y. (m.copy.0, (λ k. apart way s m.copy.0 m.copy.1 (sym k)), m.copy.2 ∙ (sym still ∙ y)))
    (λ j g l y v. not_before way _ _ (λ n. clash way j s l (further j g (sym (m.before j (no_later way j s l)) ∙ y) v n)))
    (λ j g l y v. not_before way _ _ (λ n. elim (m.low j g y) [
      | inl z ↦ clash way s j l (no_later way j s (nearer j g z v n))
      | inr z ↦ clash way _ _ (before_all way _ _ _ z less) (no_later way _ _ n)
    ]))

-- from its ceiling down, or up from just below its floor: l is one more than that slot
pub new_over_keeps : {E : Type 0} (over : E → E → Type 0) (tag : E → ℕ) (P : E → Type 0) (d b : List (Option E)) (e x : E) (l u : ℕ)
    → ((x y : E) → over x y → over y x) → IsFloor over tag d e l → IsCeiling over tag d e u → l ≤ u → IsMoved Downwards over tag P d b u x → tag x < tag e
    → Ordered over tag (Plus P e) (set b u (Some e))
new_over_keeps over tag P d b e x l u mirror lo hi a m less =
    new_over Downwards over tag P d b e x u mirror hi.over_it (λ j g y v n. let w : j < l = lo.under j g y v n in omega arith) m less

pub new_over_keeps_up : {E : Type 0} (over : E → E → Type 0) (tag : E → ℕ) (P : E → Type 0) (d b : List (Option E)) (e x : E) (l u : ℕ)
    → ((x y : E) → over x y → over y x) → IsFloor over tag d e (suc l) → IsCeiling over tag d e u → l < u → IsMoved Upwards over tag P d b l x → tag e < tag x
    → Ordered over tag (Plus P e) (set b l (Some e))
new_over_keeps_up over tag P d b e x l u mirror lo hi a m less =
    new_over Upwards over tag P d b e x l mirror (λ j g y v n. let w : j < suc l = lo.under j g y v n in omega arith)
    (λ j g y v n. let w : u ≤ j = hi.over_it j g y v n in omega arith) m less
