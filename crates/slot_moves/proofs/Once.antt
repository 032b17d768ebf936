-- After an insertion each entry stands in one slot again.
use Rattle.std.proofs.Common.{◌≡◌, ◌≢◌, ℕ, ◌<◌, Option, None, Some, List, [], ◌∷◌, length, inl, inr, ◌⊎◌, sym, ◌∙◌, subst, ap, set}
use Rattle.std.proofs.lemmas.Bool.{cases_eq}
use Rattle.slot_order.specs.Order.{slot, Ordered}
use Rattle.slot_order.specs.Chains.{applied}
use Rattle.slot_moves.specs.Moves.{Way, Downwards, Upwards, IsBefore, IsMoveChain, chain_moves}
use Rattle.slot_order.proofs.Writes.{slot_same, slot_other, slot_inside, put_here, put_away}
use Rattle.slot_moves.proofs.Chains.{applied_push, chain_keeps}
use Rattle.slot_moves.proofs.Ways.{no_later, apart}
use Rattle.slot_moves.proofs.End.{IsEnd, onto_free, over_down, over_up}

-- each entry that stands does so in one slot
abbrev pub AllOnce : {E : Type 0} → List (Option E) → Type 0
AllOnce {E} d = (i j : ℕ) (a : E) → slot d i ≡ Some a → slot d j ≡ Some a → i ≡ j

-- all but the one in slot s, which stands in one more
pub record OneTwice {E : Type 0} (d : List (Option E)) (s : ℕ) (e : E) : Type 0 where
  pub here : slot d s ≡ Some e
  pub twin : ℕ
  pub apart : twin ≢ s
  pub there : slot d twin ≡ Some e
  pub others : (i j : ℕ) (a : E) → slot d i ≡ Some a → slot d j ≡ Some a → (i ≡ j) ⊎ (a ≡ e)
  pub only : (i : ℕ) → slot d i ≡ Some e → (i ≡ s) ⊎ (i ≡ twin)

-- the one that stands twice stands elsewhere in its twin alone
twin_at : {E : Type 0} (b : List (Option E)) (t : ℕ) (g : E) (w : OneTwice b t g) (i : ℕ) (a : E) → i ≢ t → slot b i ≡ Some a → a ≡ g → i ≡ w.twin
twin_at b t g w i a n s k = elim (w.only i (s ∙ ap Some k)) [ inl y ↦ absurd (n y) | inr y ↦ y ]

-- what stands nowhere, or nothing, goes over the one that stands twice
settle : {E : Type 0} (b : List (Option E)) (t : ℕ) (g : E) (x : Option E) → OneTwice b t g
    → ((j : ℕ) (a : E) → x ≡ Some a → slot b j ≡ Some a → ⊥) → AllOnce (set b t x)
settle {E} b t g x w new = once
  where
    inside : t < length b
    inside = slot_inside b t g w.here

    once : AllOnce (set b t x)
    once i j a s r = elim (cases_eq i t) [
      | inl k ↦ elim (cases_eq j t) [ inl m ↦ k ∙ sym m | inr m ↦ absurd (new j a (put_here b t x i a inside k s) (put_away b t x j a m r)) ]
      | inr k ↦ elim (cases_eq j t) [
        | inl m ↦ absurd (new i a (put_here b t x j a inside m r) (put_away b t x i a k s))
        | inr m ↦
            let y = put_away b t x i a k s in
            let z = put_away b t x j a m r in
            elim (w.others i j a y z) [ inl same ↦ same | inr one ↦ twin_at b t g w i a k y one ∙ sym (twin_at b t g w j a m z one) ]
      ]
    ]

-- what stands elsewhere goes over it, and is the one from then on
pass : {E : Type 0} (b : List (Option E)) (s t : ℕ) (e g : E) → OneTwice b t g → slot b s ≡ Some e → e ≢ g → s ≢ t → OneTwice (set b t (Some e)) s e
pass {E} b s t e g w stands differ n = record {
  here = slot_other b t (Some e) s n ∙ stands;
  twin = t;
  apart = λ k. n (sym k);
  there = slot_same b t (Some e) inside;
  others = λ i j a x y. elim (cases_eq i t) [
    | inl k ↦ inr (let z : Some e ≡ Some a = put_here b t (Some e) i a inside k x in cc)
    | inr k ↦ elim (cases_eq j t) [
      | inl m ↦ inr (let z : Some e ≡ Some a = put_here b t (Some e) j a inside m y in cc)
      | inr m ↦
          let x' = put_away b t (Some e) i a k x in
          let y' = put_away b t (Some e) j a m y in
          inl (elim (w.others i j a x' y') [ inl same ↦ same | inr one ↦ twin_at b t g w i a k x' one ∙ sym (twin_at b t g w j a m y' one) ])
    ]
  ];
  only = λ i x. elim (cases_eq i t) [
    | inl k ↦ inr k
    | inr k ↦ elim (w.others i s e (put_away b t (Some e) i e k x) stands) [ inl z ↦ inl z | inr z ↦ absurd (differ z) ]
  ];
}
  where
    inside : t < length b
    inside = slot_inside b t g w.here

-- into a free slot
begin : {E : Type 0} (d : List (Option E)) (s f : ℕ) (e : E) → AllOnce d → slot d s ≡ Some e → slot d f ≡ None → f < length d → OneTwice (set d f (Some e)) s e
begin {E} d s f e once stands free inside = record {
  here = slot_other d f (Some e) s n ∙ stands;
  twin = f;
  apart = λ k. n (sym k);
  there = slot_same d f (Some e) inside;
  others = λ i j a x y. elim (cases_eq i f) [
    | inl k ↦ inr (let z : Some e ≡ Some a = put_here d f (Some e) i a inside k x in cc)
    | inr k ↦ elim (cases_eq j f) [
      | inl m ↦ inr (let z : Some e ≡ Some a = put_here d f (Some e) j a inside m y in cc)
      | inr m ↦ inl (once i j a (put_away d f (Some e) i a k x) (put_away d f (Some e) j a m y))
    ]
  ];
  only = λ i x. elim (cases_eq i f) [ inl k ↦ inr k | inr k ↦ inl (once i s e (put_away d f (Some e) i e k x) stands) ];
}
  where
    n : s ≢ f
    n k = let z : None ≡ Some e = sym free ∙ (ap (slot d) (sym k) ∙ stands) in cc

pub moved_once : {E : Type 0} (way : Way) (over : E → E → Type 0) (tag : E → ℕ) (P : E → Type 0) (d : List (Option E)) (f s : ℕ) (rest : List ℕ) (e : E)
    → ((x y : E) → over x y → over y x) → Ordered over tag P d → AllOnce d → f < length d → slot d f ≡ None → slot d s ≡ Some e → IsMoveChain way over tag d f s rest
    → OneTwice (applied d (chain_moves d f s rest)) s e
moved_once way over tag P d f s [] e mirror o once room free stands c =
    subst (λ z. OneTwice (set d f z) s e) (sym stands) (begin d s f e once stands free room)
moved_once way over tag P d f s (t ∷ rest) e mirror o once room free stands c =
    let a = c.0 in let g = a.4.0 in
    let same : a.0 ≡ e = let k : Some a.0 ≡ Some e = sym a.1 ∙ stands in cc in
    let further : IsBefore way (tag g) (tag e) = subst (λ z. IsBefore way (tag g) (tag z)) same a.4.3 in
    let h = moved_once way over tag P d f t rest g mirror o once room free a.4.1 c.1 in
    let m = (chain_keeps way over tag P d f t rest g mirror o room free a.4.1 c.1).1 in
    let b = applied d (chain_moves d f t rest) in
    let p = pass b s t e g h (m.before s (no_later way s t a.2) ∙ stands) (λ k. apart way _ _ further (ap tag (sym k))) (apart way s t a.2) in
    subst (λ z. OneTwice z s e) (ap (λ x. set b t x) (sym stands) ∙ sym (applied_push d (chain_moves d f t rest) (t, slot d s))) p

-- the chain moved, and its first slot was erased
pub moved_clears : {E : Type 0} (way : Way) (over : E → E → Type 0) (tag : E → ℕ) (P : E → Type 0) (d : List (Option E)) (f s : ℕ) (rest : List ℕ) (e : E)
    → ((x y : E) → over x y → over y x) → Ordered over tag P d → AllOnce d → f < length d → slot d f ≡ None → slot d s ≡ Some e → IsMoveChain way over tag d f s rest
    → AllOnce (set (applied d (chain_moves d f s rest)) s None)
moved_clears way over tag P d f s rest e mirror o once room free stands c =
    settle (applied d (chain_moves d f s rest)) s e None (moved_once way over tag P d f s rest e mirror o once room free stands c) (λ j a k x. let z : None ≡ Some a = k in cc)

-- and a new entry, which stands nowhere, was put there in its place
over_once : {E : Type 0} (way : Way) (over : E → E → Type 0) (tag : E → ℕ) (P : E → Type 0) (d : List (Option E)) (f s : ℕ) (rest : List ℕ) (e x : E)
    → ((x y : E) → over x y → over y x) → Ordered over tag P d → AllOnce d → (P e → ⊥) → f < length d → slot d f ≡ None → slot d s ≡ Some x → IsMoveChain way over tag d f s rest
    → AllOnce (set (applied d (chain_moves d f s rest)) s (Some e))
over_once way over tag P d f s rest e x mirror o once new room free stands c =
    let k = (chain_keeps way over tag P d f s rest x mirror o room free stands c).1 in
    settle (applied d (chain_moves d f s rest)) s x (Some e) (moved_once way over tag P d f s rest x mirror o once room free stands c)
    (λ j y z w. let q : e ≡ y = (let v : Some e ≡ Some y = z in cc) in new (subst P (sym q) (k.ordered.within j y w)))

-- from here on the new entry e is not of P
pub end_once : {E : Type 0} (over : E → E → Type 0) (tag : E → ℕ) (P : E → Type 0) (d : List (Option E)) (e : E) (front : List (ℕ × Option E)) (place : ℕ)
    → ((x y : E) → over x y → over y x) → Ordered over tag P d → AllOnce d → (P e → ⊥) → IsEnd over tag d e front place → AllOnce (set (applied d front) place (Some e))
end_once {E} over tag P d e front place mirror o once new (onto_free l u at floor ceiling a b inside free) = fresh
  where
    fresh : AllOnce (set d place (Some e))
    fresh i j x s r = elim (cases_eq i place) [
      | inl k ↦ elim (cases_eq j place) [ inl m ↦ k ∙ sym m | inr m ↦ absurd (no_two j x m (is i x k s) r) ]
      | inr k ↦ elim (cases_eq j place) [
        | inl m ↦ absurd (no_two i x k (is j x m r) s)
        | inr m ↦ once i j x (sym (slot_other d place (Some e) i k) ∙ s) (sym (slot_other d place (Some e) j m) ∙ r)
      ]
    ]
      where
        is : (i : ℕ) (x : E) → i ≡ place → slot (set d place (Some e)) i ≡ Some x → e ≡ x
        is i x k s = let z : Some e ≡ Some x = sym (slot_same d place (Some e) inside) ∙ (ap (slot (set d place (Some e))) (sym k) ∙ s) in cc

        no_two : (j : ℕ) (x : E) → j ≢ place → e ≡ x → slot (set d place (Some e)) j ≡ Some x → ⊥
        no_two j x m k s = new (subst P (sym k) (o.within j x (sym (slot_other d place (Some e) j m) ∙ s)))
end_once over tag P d e front place mirror o once new (over_down l u free rest lower floor ceiling a stands meets less inside empty chain) =
    over_once Downwards over tag P d free u rest e lower mirror o once new inside empty stands chain
end_once over tag P d e front place mirror o once new (over_up l u free rest upper floor ceiling a stands meets more inside empty chain) =
    over_once Upwards over tag P d free l rest e upper mirror o once new inside empty stands chain
