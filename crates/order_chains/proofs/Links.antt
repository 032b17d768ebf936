-- A place is put in front of a doubly linked list, or taken out of it.
use Rattle.std.proofs.Common.{◌≡◌, ◌≢◌, ℕ, List, [], ◌∷◌, ◌++◌, refl, sym, ap, ◌∙◌, subst, inl, inr, ◌⊎◌, Contains}
use Rattle.std.proofs.lemmas.List.Elements.{Contains-append_left, Contains-append_right}
use Rattle.slot_order.proofs.Lists.{contains_head, contains_tail, contains_cases, contains_none}
use Rattle.order_chains.specs.Chains.{nil}
use Rattle.order_chains.specs.Lists.{Seg, Apart}

abbrev pub head_or : ℕ → List ℕ → ℕ
head_or h [] = h
head_or h (x ∷ xs) = x

pub Seg_frame : (nx pv nx' pv' : ℕ → ℕ) (before h : ℕ) (xs : List ℕ)
    → ((y : ℕ) → Contains xs y → (nx' y ≡ nx y) × (pv' y ≡ pv y)) → Seg nx pv before h xs → Seg nx' pv' before h xs
Seg_frame nx pv nx' pv' before h [] f s = s
Seg_frame nx pv nx' pv' before h (x ∷ xs) f s =
    let e = f x (contains_head x xs) in
    (s.0, s.1, e.1 ∙ s.2, subst (λ z. Seg nx' pv' x z xs) (sym e.0) (Seg_frame nx pv nx' pv' x (nx x) xs (λ y c. f y (contains_tail x y xs c)) s.3))

-- a new place x in front
pub Seg_push : (nx pv nx' pv' : ℕ → ℕ) (h x : ℕ) (xs : List ℕ)
    → x ≢ nil → (Contains xs x → ⊥) → nx' x ≡ h → pv' x ≡ nil → Apart xs
    → ((y : ℕ) → Contains xs y → nx' y ≡ nx y) → ((y : ℕ) → Contains xs y → y ≢ h → pv' y ≡ pv y) → (h ≢ nil → pv' h ≡ x)
    → Seg nx pv nil h xs → Seg nx' pv' nil x (x ∷ xs)
Seg_push nx pv nx' pv' h x [] ok new a b apart f g k s = (refl, ok, b, a ∙ s)
Seg_push nx pv nx' pv' h x (y ∷ xs) ok new a b apart f g k s = (
  refl,
  ok,
  b,
  (
    a ∙ s.0,
    s.1,
    ap pv' (sym s.0) ∙ k (λ z. s.1 (sym s.0 ∙ z)),
    subst (λ z. Seg nx' pv' y z xs) (sym (f y (contains_head y xs)))
        (Seg_frame nx pv nx' pv' y (nx y) xs (λ w c. (f w (contains_tail y w xs c), g w (contains_tail y w xs c) (λ e. apart.0 (subst (Contains xs) (e ∙ s.0) c)))) s.3),
  ),
)

-- what comes after x is no place, or is one of the list
pub after_in : (nx pv : ℕ → ℕ) (before h x : ℕ) (us cs : List ℕ) → Seg nx pv before h (us ++ x ∷ cs) → (nx x ≡ nil) ⊎ Contains (us ++ x ∷ cs) (nx x)
after_in nx pv before h x [] [] s = inl s.3
after_in nx pv before h x [] (c ∷ cs) s = inr (subst (Contains (x ∷ c ∷ cs)) (sym s.3.0) (contains_tail x c (c ∷ cs) (contains_head c cs)))
after_in nx pv before h x (u ∷ us) cs s = elim (after_in nx pv u (nx u) x us cs s.3) [ inl e ↦ inl e | inr c ↦ inr (contains_tail u (nx x) (us ++ x ∷ cs) c) ]

not_next : (nx pv : ℕ → ℕ) (before h a x : ℕ) (us cs : List ℕ) → (Contains (us ++ x ∷ cs) a → ⊥) → Seg nx pv before h (a ∷ us ++ x ∷ cs) → a ≢ nx x
not_next nx pv before h a x us cs apart s e = elim (after_in nx pv a (nx a) x us cs s.3) [
  | inl n ↦ s.1 (e ∙ n)
  | inr c ↦ apart (subst (Contains (us ++ x ∷ cs)) (sym e) c)
]

-- what comes before x is one of those before it
pub before_in : (nx pv : ℕ → ℕ) (before h x u : ℕ) (us cs : List ℕ) → Seg nx pv before h (u ∷ us ++ x ∷ cs) → Contains (u ∷ us) (pv x)
before_in nx pv before h x u [] cs s = subst (Contains (u ∷ [])) (sym s.3.2) (contains_head u [])
before_in nx pv before h x u (w ∷ us) cs s = contains_tail u (pv x) (w ∷ us) (before_in nx pv u (nx u) x w us cs s.3)

-- the place x is taken out: its neighbours are linked to each other
pub Seg_unlink : (nx pv nx' pv' : ℕ → ℕ) (before h x : ℕ) (us cs : List ℕ)
    → (Contains (us ++ x ∷ cs) before → ⊥) → Apart (us ++ x ∷ cs)
    → ((y : ℕ) → y ≢ nil → y ≡ pv x → nx' y ≡ nx x) → ((y : ℕ) → y ≢ pv x → nx' y ≡ nx y)
    → ((y : ℕ) → y ≢ nil → y ≡ nx x → pv' y ≡ pv x) → ((y : ℕ) → y ≢ nx x → pv' y ≡ pv y)
    → Seg nx pv before h (us ++ x ∷ cs) → Seg nx' pv' before (head_or (nx x) us) (us ++ cs)
Seg_unlink nx pv nx' pv' before h x [] [] fresh apart n1 n2 p1 p2 s = s.3
Seg_unlink nx pv nx' pv' before h x [] (c ∷ cs) fresh apart n1 n2 p1 p2 s =
    let t = s.3 in
    let off : c ≢ pv x = (λ e. fresh (contains_tail x before (c ∷ cs) (subst (Contains (c ∷ cs)) (e ∙ s.2) (contains_head c cs)))) in (
      t.0,
      t.1,
      p1 c t.1 (sym t.0) ∙ s.2,
      subst (λ z. Seg nx' pv' c z cs) (sym (n2 c off))
          (Seg_frame nx pv nx' pv' c (nx c) cs (λ y i. (
            n2 y (λ e. fresh (contains_tail x before (c ∷ cs) (contains_tail c before cs (subst (Contains cs) (e ∙ s.2) i)))),
            p2 y (λ e. apart.1.0 (subst (Contains cs) (e ∙ t.0) i)),
          )) t.3),
    )
Seg_unlink nx pv nx' pv' before h x (a ∷ []) cs fresh apart n1 n2 p1 p2 s =
    let deep = Seg_unlink nx pv nx' pv' a (nx a) x [] cs apart.0 apart.1 n1 n2 p1 p2 s.3 in (
      refl,
      s.1,
      p2 a (not_next nx pv before h a x [] cs apart.0 s) ∙ s.2,
      subst (λ z. Seg nx' pv' a z cs) (sym (n1 a s.1 (sym s.3.2))) deep,
    )
Seg_unlink nx pv nx' pv' before h x (a ∷ u ∷ us) cs fresh apart n1 n2 p1 p2 s =
    let deep = Seg_unlink nx pv nx' pv' a (nx a) x (u ∷ us) cs apart.0 apart.1 n1 n2 p1 p2 s.3 in (
      refl,
      s.1,
      p2 a (not_next nx pv before h a x (u ∷ us) cs apart.0 s) ∙ s.2,
      subst (λ z. Seg nx' pv' a z (u ∷ us ++ cs)) (sym s.3.0 ∙ sym (n2 a (λ e. apart.0 (Contains-append_left (u ∷ us) (x ∷ cs) a (subst (Contains (u ∷ us)) (sym e) (before_in nx pv a (nx a) x u us cs s.3)))))) deep,
    )

pub Seg_places : (nx pv : ℕ → ℕ) (before h : ℕ) (xs : List ℕ) (p : ℕ) → Seg nx pv before h xs → Contains xs p → p ≢ nil
Seg_places nx pv before h [] p s c = absurd (contains_none p c)
Seg_places nx pv before h (x ∷ xs) p s c = elim (contains_cases x p xs c) [
  | inl e ↦ λ z. s.1 (e ∙ z)
  | inr i ↦ Seg_places nx pv x (nx x) xs p s.3 i
]

-- a list that has x, cut at x
pub cut_at : (xs : List ℕ) (x : ℕ) → Contains xs x → (us : List ℕ) × (cs : List ℕ) × (xs ≡ us ++ x ∷ cs)
cut_at [] x c = absurd (contains_none x c)
cut_at (y ∷ xs) x c = elim (contains_cases y x xs c) [
  | inl e ↦ ([], xs, ap (λ z. z ∷ xs) e)
  | inr i ↦ let r = cut_at xs x i in (y ∷ r.0, r.1, ap (λ zs. y ∷ zs) r.2)
]

pub shorter : (us cs : List ℕ) (x p : ℕ) → Contains (us ++ cs) p → Contains (us ++ x ∷ cs) p
shorter [] cs x p c = contains_tail x p cs c
shorter (u ∷ us) cs x p c = elim (contains_cases u p (us ++ cs) c) [
  | inl e ↦ subst (Contains (u ∷ us ++ x ∷ cs)) e (contains_head u (us ++ x ∷ cs))
  | inr i ↦ contains_tail u p (us ++ x ∷ cs) (shorter us cs x p i)
]

pub longer : (us cs : List ℕ) (x p : ℕ) → Contains (us ++ x ∷ cs) p → p ≢ x → Contains (us ++ cs) p
longer [] cs x p c n = elim (contains_cases x p cs c) [ inl e ↦ absurd (n (sym e)) | inr i ↦ i ]
longer (u ∷ us) cs x p c n = elim (contains_cases u p (us ++ x ∷ cs) c) [
  | inl e ↦ subst (Contains (u ∷ us ++ cs)) e (contains_head u (us ++ cs))
  | inr i ↦ contains_tail u p (us ++ cs) (longer us cs x p i n)
]

pub apart_shorter : (us cs : List ℕ) (x : ℕ) → Apart (us ++ x ∷ cs) → Apart (us ++ cs)
apart_shorter [] cs x a = a.1
apart_shorter (u ∷ us) cs x a = (λ c. a.0 (shorter us cs x u c), apart_shorter us cs x a.1)

pub apart_without : (us cs : List ℕ) (x : ℕ) → Apart (us ++ x ∷ cs) → Contains (us ++ cs) x → ⊥
apart_without [] cs x a c = a.0 c
apart_without (u ∷ us) cs x a c = elim (contains_cases u x (us ++ cs) c) [
  | inl e ↦ a.0 (subst (Contains (us ++ x ∷ cs)) (sym e) (Contains-append_right us (x ∷ cs) x (contains_head x cs)))
  | inr i ↦ apart_without us cs x a.1 i
]
