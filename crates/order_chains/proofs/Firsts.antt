-- The first place of an id's list: a pair with that end, or there is none.
use Rattle.std.proofs.Common.{◌≡◌, ◌≢◌, ℕ, ◌<◌, not, eqb, List, length, get_or, map, Option, Some, None, Contains, sym, ap, ◌∙◌, subst, inl, inr, arith}
use Rattle.std.specs.Prelude.{IfSome, IfNone}
use Rattle.std.specs.Bool.{then_some}
use Rattle.std.proofs.lemmas.Bool.{cases_Bool, eqb-false, eqb-true}
use Rattle.std.proofs.lemmas.List.{length-map, get_or_default}
use Rattle.order_chains.specs.declared.node.Node.{Node}
use Rattle.order_chains.specs.declared.chains.Side.TheVariants.{Below, Above}
use Rattle.order_chains.specs.Chains.{nil, next_at, back_at}
use Rattle.order_chains.specs.Pairs.{AreChains, Pair, pair_of, upper_at, lower_at}
use Rattle.order_chains.proofs.Held.{held_inside}
use Rattle.order_chains.proofs.Listed.{head_there, head_in}
use Rattle.order_chains.proofs.Places.{pair, at_place, pair_taken, pair_free}

-- what a place is answered as, if it is one
some_place : (at : ℕ) (P : ℕ → Type 0) → (at ≢ nil → P at) → IfSome (then_some (not (eqb at nil)) at) P
some_place at P f = elim (cases_Bool (eqb at nil)) [
  | inl t ↦ subst (λ b. IfSome (then_some (not b) at) P) (sym t) tt
  | inr g ↦ subst (λ b. IfSome (then_some (not b) at) P) (sym g) (f (eqb-false _ _ g))
]

no_place : (at : ℕ) (P : Type 0) → (at ≡ nil → P) → IfNone (then_some (not (eqb at nil)) at) P
no_place at P f = elim (cases_Bool (eqb at nil)) [
  | inl t ↦ subst (λ b. IfNone (then_some (not b) at) P) (sym t) (f (eqb-true _ _ t))
  | inr g ↦ subst (λ b. IfNone (then_some (not b) at) P) (sym g) tt
]

abbrev pair_in : Option Pair → Pair
pair_in None = (0, 0)
pair_in (Some p) = p

same_pair : (ids u l x y : ℕ) → pair ids u l ≡ Some (x, y) → (u ≡ x) × (l ≡ y)
same_pair ids u l x y e = elim (cases_Bool (eqb u ids)) [
  | inl t ↦ absurd (let n : None ≡ Some (x, y) = sym (pair_free ids u l (eqb-true _ _ t)) ∙ e in cc)
  | inr f ↦ let s : Some (u, l) ≡ Some (x, y) = sym (pair_taken ids u l (eqb-false _ _ f)) ∙ e in (ap (λ o. (pair_in o).0) s, ap (λ o. (pair_in o).1) s)
]

module _ (ids : ℕ) (ns : List Node) (below above : List ℕ) (a : AreChains ids ns below above (length ns)) where
  abbrev places : List (Option Pair)
  places = map (pair_of ids) ns

  ends_of : (k x y : ℕ) → get_or places k None ≡ Some (x, y) → (k < length ns) × (upper_at ns k ≡ x) × (lower_at ns k ≡ y)
  ends_of k x y e =
      let i = held_inside places k (x, y) e in
      let m = length-map ns (pair_of ids) in
      let l : k < length ns = omega arith in
      let s = same_pair ids (upper_at ns k) (lower_at ns k) x y (sym (at_place ids ns k l) ∙ e) in
      (l, s.0, s.1)

  module _ (id at : ℕ) (small : id < ids) where
    pub first_upper : at ≡ get_or below id at → IfSome (then_some (not (eqb at nil)) at) (λ p. (lower : ℕ) × (get_or places p None ≡ Some (id, lower)))
    first_upper r = some_place at (λ p. (lower : ℕ) × (get_or places p None ≡ Some (id, lower))) (λ n.
        let h = a.heads.0 in
        let m : id < length below = omega arith in
        let e : at ≡ get_or below id nil = r ∙ get_or_default below id at nil m in
        let i = head_in (next_at Below ns) (back_at Below ns) (upper_at ns) below (length ns) a.downs id m (λ z. n (e ∙ z)) in
        let l : at < length ns = subst (λ z. z < length ns) (sym e) i.0 in
        let u : upper_at ns at ≡ id = ap (upper_at ns) e ∙ i.1 in
        (lower_at ns at, at_place ids ns at l ∙ (ap (λ z. pair ids z (lower_at ns at)) u ∙ pair_taken ids id (lower_at ns at) (λ z. absurd (omega arith)))))

    pub none_upper : at ≡ get_or below id at → IfNone (then_some (not (eqb at nil)) at) ((k lower : ℕ) → get_or places k None ≡ Some (id, lower) → ⊥)
    none_upper r = no_place at ((k lower : ℕ) → get_or places k None ≡ Some (id, lower) → ⊥) (λ n k lower e.
        let h = a.heads.0 in
        let m : id < length below = omega arith in
        let s = ends_of k id lower e in
        let c = a.downs.each k s.0 (subst (λ z. z < length below) (sym s.1) m) in
        head_there (next_at Below ns) (back_at Below ns) (upper_at ns) below (length ns) a.downs id k m (subst (λ z. Contains (a.downs.lists z) k) s.1 c) (sym (get_or_default below id at nil m) ∙ (sym r ∙ n)))

    pub first_lower : at ≡ get_or above id at → IfSome (then_some (not (eqb at nil)) at) (λ p. (upper : ℕ) × (get_or places p None ≡ Some (upper, id)))
    first_lower r = some_place at (λ p. (upper : ℕ) × (get_or places p None ≡ Some (upper, id))) (λ n.
        let h = a.heads.1 in
        let m : id < length above = omega arith in
        let e : at ≡ get_or above id nil = r ∙ get_or_default above id at nil m in
        let i = head_in (next_at Above ns) (back_at Above ns) (lower_at ns) above (length ns) a.ups id m (λ z. n (e ∙ z)) in
        let l : at < length ns = subst (λ z. z < length ns) (sym e) i.0 in
        let u : lower_at ns at ≡ id = ap (lower_at ns) e ∙ i.1 in
        let t : upper_at ns at ≢ ids = (λ z. elim (a.ends at l) [ inl w ↦ (let x = w.1 in absurd (omega arith)) | inr w ↦ (let x = w.0 in absurd (omega arith)) ]) in
        (upper_at ns at, at_place ids ns at l ∙ (ap (pair ids (upper_at ns at)) u ∙ pair_taken ids (upper_at ns at) id t)))

    pub none_lower : at ≡ get_or above id at → IfNone (then_some (not (eqb at nil)) at) ((k upper : ℕ) → get_or places k None ≡ Some (upper, id) → ⊥)
    none_lower r = no_place at ((k upper : ℕ) → get_or places k None ≡ Some (upper, id) → ⊥) (λ n k upper e.
        let h = a.heads.1 in
        let m : id < length above = omega arith in
        let s = ends_of k upper id e in
        let c = a.ups.each k s.0 (subst (λ z. z < length above) (sym s.2) m) in
        head_there (next_at Above ns) (back_at Above ns) (lower_at ns) above (length ns) a.ups id k m (subst (λ z. Contains (a.ups.lists z) k) s.2 c) (sym (get_or_default above id at nil m) ∙ (sym r ∙ n)))
