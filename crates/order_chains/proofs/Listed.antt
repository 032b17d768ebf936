-- The lists of all ids, as one place is put into a list or taken out of it.
use Rattle.std.proofs.Common.{◌≡◌, ◌≢◌, ℕ, ◌<◌, ◌≤◌, true, cond, eqb, List, [], ◌∷◌, ◌++◌, length, get_or, set, refl, sym, ap, ◌∙◌, subst, inl, inr, ◌⊎◌, Contains, arith, get_or-set_same, get_or-set_other, length-set, ne_eqb, le_refl}
use Rattle.std.proofs.lemmas.List.Elements.{Contains-append_left}
use Rattle.std.proofs.lemmas.Bool.{cases_Bool, cases_eq, cases_lt, cond-true, cond-false, eqb-false, eqb-true}
use Rattle.slot_order.proofs.Lists.{contains_head, contains_tail, contains_cases, contains_none}
use Rattle.order_chains.specs.Chains.{nil}
use Rattle.order_chains.specs.Lists.{Seg, Apart, AreLists}
use Rattle.order_chains.proofs.Links.{Seg_frame, Seg_push, Seg_unlink, Seg_places, head_or, after_in, before_in, cut_at, shorter, longer, apart_shorter, apart_without}

-- what a push of the place `at` before the first place `head` does to the links
pub record IsPush (nx pv nx' pv' : ℕ → ℕ) (at head : ℕ) : Type 0 where
  pub next : nx' at ≡ head
  pub back : pv' at ≡ nil
  pub nexts : (y : ℕ) → y ≢ at → nx' y ≡ nx y
  pub first : head ≢ nil → head ≢ at → pv' head ≡ at
  pub backs : (y : ℕ) → y ≢ at → y ≢ head → pv' y ≡ pv y

-- what taking out the place `at` does to them
pub record IsUnlink (nx pv nx' pv' : ℕ → ℕ) (at : ℕ) : Type 0 where
  pub next : (y : ℕ) → y ≢ nil → y ≡ pv at → nx' y ≡ nx at
  pub nexts : (y : ℕ) → y ≢ pv at → nx' y ≡ nx y
  pub back : (y : ℕ) → y ≢ nil → y ≡ nx at → pv' y ≡ pv at
  pub backs : (y : ℕ) → y ≢ nx at → pv' y ≡ pv y

seg_at : (nx pv : ℕ → ℕ) (h h' : ℕ) (xs xs' : List ℕ) → h ≡ h' → xs ≡ xs' → Seg nx pv nil h xs → Seg nx pv nil h' xs'
seg_at nx pv h h' xs xs' e f s = subst (λ z. Seg nx pv nil z xs') e (subst (λ z. Seg nx pv nil h z) f s)

is_nil : (p : ℕ) → p ≡ nil → eqb p nil ≡ true
is_nil p e = elim (cases_Bool (eqb p nil)) [ inl t ↦ t | inr f ↦ absurd (eqb-false _ _ f e) ]

pub first_in : (nx pv : ℕ → ℕ) (before h : ℕ) (xs : List ℕ) → Seg nx pv before h xs → h ≢ nil → Contains xs h
first_in nx pv before h [] s n = absurd (n s)
first_in nx pv before h (x ∷ xs) s n = subst (λ z. Contains (x ∷ xs) z) (sym s.0) (contains_head x xs)

-- more places, that no id with a list owns
pub AreLists_more : (nx pv owner nx' pv' owner' : ℕ → ℕ) (heads : List ℕ) (len len' : ℕ) → len ≤ len' → ((y : ℕ) → len ≤ y → y < len' → length heads ≤ owner' y)
    → ((y : ℕ) → y < len → nx' y ≡ nx y) → ((y : ℕ) → y < len → pv' y ≡ pv y) → ((y : ℕ) → y < len → owner' y ≡ owner y)
    → AreLists nx pv owner heads len → AreLists nx' pv' owner' heads len'
AreLists_more nx pv owner nx' pv' owner' heads len len' grows free f g o a = record {
  lists = a.lists;
  linked = λ id l. Seg_frame nx pv nx' pv' nil (get_or heads id nil) (a.lists id) (λ y c. let i = (a.inside id y l c).0 in (f y i, g y i)) (a.linked id l);
  apart = a.apart;
  inside = λ id p l c. let i = a.inside id p l c in let lt = i.0 in (omega arith, o p i.0 ∙ i.1);
  each = λ p l m. elim (cases_lt p len) [
    | inl i ↦ subst (λ z. Contains (a.lists z) p) (sym (o p i)) (a.each p i (let e = o p i in omega arith))
    | inr n ↦ let z = free p n l in absurd (omega arith)
  ];
}

pub AreLists_same : (nx pv owner nx' pv' owner' : ℕ → ℕ) (heads : List ℕ) (len : ℕ) → ((y : ℕ) → nx' y ≡ nx y) → ((y : ℕ) → pv' y ≡ pv y) → ((y : ℕ) → owner' y ≡ owner y)
    → AreLists nx pv owner heads len → AreLists nx' pv' owner' heads len
AreLists_same nx pv owner nx' pv' owner' heads len f g o a = AreLists_more nx pv owner nx' pv' owner' heads len len (le_refl len) (λ y m n. absurd (omega arith)) (λ y l. f y) (λ y l. g y) (λ y l. o y) a

module _ (nx pv owner : ℕ → ℕ) (heads : List ℕ) (len : ℕ) (a : AreLists nx pv owner heads len) where
  -- a list with a member has a first one
  pub head_there : (id p : ℕ) → id < length heads → Contains (a.lists id) p → get_or heads id nil ≢ nil
  head_there id p l c = first_of (get_or heads id nil) (a.lists id) p (a.linked id l) c where
    first_of : (h : ℕ) (xs : List ℕ) (q : ℕ) → Seg nx pv nil h xs → Contains xs q → h ≢ nil
    first_of h [] q s c = absurd (contains_none q c)
    first_of h (x ∷ xs) q s c = λ e. s.1 (sym s.0 ∙ e)

  pub head_in : (id : ℕ) → id < length heads → get_or heads id nil ≢ nil → (get_or heads id nil < len) × (owner (get_or heads id nil) ≡ id)
  head_in id l n = a.inside id (get_or heads id nil) l (first_in nx pv nil (get_or heads id nil) (a.lists id) (a.linked id l) n)

  -- a place that no id with a list owns is the first of none
  pub head_off : (id at : ℕ) → id < length heads → at ≢ nil → (at < len → length heads ≤ owner at) → at ≢ get_or heads id nil
  head_off id at l n out e =
      let i = head_in id l (λ z. n (e ∙ z)) in
      let lt : at < len = subst (λ z. z < len) (sym e) i.0 in
      let o = out lt in
      let m : owner at ≡ id = ap owner e ∙ i.1 in
      absurd (omega arith)

  module _ (p : ℕ) (l : p < len) (m : owner p < length heads) where
    abbrev mine : (us : List ℕ) × (cs : List ℕ) × (a.lists (owner p) ≡ us ++ p ∷ cs)
    mine = cut_at (a.lists (owner p)) p (a.each p l m)

    seg : Seg nx pv nil (get_or heads (owner p) nil) (mine.0 ++ p ∷ mine.1)
    seg = seg_at nx pv (get_or heads (owner p) nil) (get_or heads (owner p) nil) (a.lists (owner p)) (mine.0 ++ p ∷ mine.1) refl mine.2 (a.linked (owner p) m)

    member : (q : ℕ) → Contains (mine.0 ++ p ∷ mine.1) q → q < len
    member q c = (a.inside (owner p) q m (subst (λ z. Contains z q) (sym mine.2) c)).0

    pub next_in : nx p ≢ nil → nx p < len
    next_in n = elim (after_in nx pv nil (get_or heads (owner p) nil) p mine.0 mine.1 seg) [ inl e ↦ absurd (n e) | inr c ↦ member (nx p) c ]

    back_of : (us cs : List ℕ) (h : ℕ) → Seg nx pv nil h (us ++ p ∷ cs) → pv p ≢ nil → Contains (us ++ p ∷ cs) (pv p)
    back_of [] cs h s n = absurd (n s.2)
    back_of (u ∷ us) cs h s n = Contains-append_left (u ∷ us) (p ∷ cs) (pv p) (before_in nx pv nil h p u us cs s)

    pub back_in_list : pv p ≢ nil → pv p < len
    back_in_list n = member (pv p) (back_of mine.0 mine.1 (get_or heads (owner p) nil) seg n)

module _ (nx pv owner nx' pv' owner' : ℕ → ℕ) (heads : List ℕ) (len at id : ℕ) (a : AreLists nx pv owner heads len) (small : id < length heads) where
  module _ (xs : List ℕ) where
    abbrev changed : ℕ → List ℕ
    changed k = cond (eqb k id) xs (a.lists k)

    changed_at : (k : ℕ) → k ≡ id → changed k ≡ xs
    changed_at k e = elim (cases_Bool (eqb k id)) [ inl t ↦ cond-true _ _ _ t | inr f ↦ absurd (eqb-false _ _ f e) ]

    changed_off : (k : ℕ) → k ≢ id → changed k ≡ a.lists k
    changed_off k n = elim (cases_Bool (eqb k id)) [ inl t ↦ absurd (n (eqb-true _ _ t)) | inr f ↦ cond-false _ _ _ f ]

  module _ (len' : ℕ) (ok : at ≢ nil) (new : at < len') (grows : len ≤ len') (others : (y : ℕ) → y < len' → y ≢ at → y < len) (out : at < len → length heads ≤ owner at)
      (own : owner' at ≡ id) (owns : (y : ℕ) → y ≢ at → owner' y ≡ owner y) (p : IsPush nx pv nx' pv' at (get_or heads id nil)) where
    abbrev xs : List ℕ
    xs = at ∷ a.lists id

    in_none : (k : ℕ) → k < length heads → Contains (a.lists k) at → ⊥
    in_none k l c = let i = a.inside k at l c in let o = out i.0 in let e = i.1 in absurd (omega arith)

    off : (k y : ℕ) → k < length heads → Contains (a.lists k) y → y ≢ at
    off k y l c e = in_none k l (subst (Contains (a.lists k)) e c)

    abbrev head : ℕ
    head = get_or heads id nil

    not_head : (k y : ℕ) → k < length heads → k ≢ id → Contains (a.lists k) y → y ≢ head
    not_head k y l n c e =
        let ne : head ≢ nil = (λ z. Seg_places nx pv nil (get_or heads k nil) (a.lists k) y (a.linked k l) c (e ∙ z)) in
        let there = first_in nx pv nil head (a.lists id) (a.linked id small) ne in
        n (sym (a.inside k y l c).1 ∙ ap owner e ∙ (a.inside id head small there).1)

    pushed_seg : Seg nx' pv' nil at xs
    pushed_seg =
        Seg_push nx pv nx' pv' head at (a.lists id) ok (in_none id small) p.next p.back (a.apart id small) (λ y c. p.nexts y (off id y small c)) (λ y c n. p.backs y (off id y small c) n)
        (λ n. p.first n (off id head small (first_in nx pv nil head (a.lists id) (a.linked id small) n))) (a.linked id small)

    pub lists_push : AreLists nx' pv' owner' (set heads id at) len'
    lists_push = record {
      lists = changed xs;
      linked = λ k l. let m : k < length heads = subst (λ z. k < z) (length-set heads id at) l in elim (cases_eq k id) [
        | inl e ↦ seg_at nx' pv' at (get_or (set heads id at) k nil) xs (changed xs k) (sym (ap (λ z. get_or (set heads id at) z nil) e ∙ get_or-set_same heads id at nil small)) (sym (changed_at xs k e)) pushed_seg
        | inr n ↦ seg_at nx' pv' (get_or heads k nil) (get_or (set heads id at) k nil) (a.lists k) (changed xs k) (sym (get_or-set_other heads id k at nil n)) (sym (changed_off xs k n))
            (Seg_frame nx pv nx' pv' nil (get_or heads k nil) (a.lists k) (λ y c. (p.nexts y (off k y m c), p.backs y (off k y m c) (not_head k y m n c))) (a.linked k m))
      ];
      apart = λ k l. let m : k < length heads = subst (λ z. k < z) (length-set heads id at) l in elim (cases_eq k id) [
        | inl e ↦ subst Apart (sym (changed_at xs k e)) (in_none id small, a.apart id small)
        | inr n ↦ subst Apart (sym (changed_off xs k n)) (a.apart k m)
      ];
      inside = λ k q l c. let m : k < length heads = subst (λ z. k < z) (length-set heads id at) l in elim (cases_eq k id) [
        | inl e ↦ elim (contains_cases at q (a.lists id) (subst (λ z. Contains z q) (changed_at xs k e) c)) [
          | inl f ↦ (subst (λ z. z < len') f new, ap owner' (sym f) ∙ own ∙ sym e)
          | inr i ↦ let r = a.inside id q small i in let lt = r.0 in (omega arith, owns q (off id q small i) ∙ r.1 ∙ sym e)
        ]
        | inr n ↦ let i = subst (λ z. Contains z q) (changed_off xs k n) c in let r = a.inside k q m i in let lt = r.0 in (omega arith, owns q (off k q m i) ∙ r.1)
      ];
      each = λ q l o. elim (cases_eq q at) [
        | inl e ↦ subst (λ z. Contains z q) (sym (changed_at xs (owner' q) (ap owner' e ∙ own))) (subst (λ z. Contains xs z) (sym e) (contains_head at (a.lists id)))
        | inr n ↦
            let k : ℕ = owner' q in
            let s : owner' q ≡ owner q = owns q n in
            let m : owner q < length heads = (let sz = length-set heads id at in omega arith) in
            let c : Contains (a.lists k) q = subst (λ z. Contains (a.lists z) q) (sym s) (a.each q (others q l n) m) in
            elim (cases_eq k id) [
              | inl e ↦ subst (λ z. Contains z q) (sym (changed_at xs k e)) (contains_tail at q (a.lists id) (subst (λ z. Contains (a.lists z) q) e c))
              | inr f ↦ subst (λ z. Contains z q) (sym (changed_off xs k f)) c
            ]
      ];
    }

  module _ (inside : at < len) (mine : owner at ≡ id) (out : length heads ≤ owner' at) (owns : (y : ℕ) → y ≢ at → owner' y ≡ owner y) (u : IsUnlink nx pv nx' pv' at) where
    abbrev cut : (us : List ℕ) × (cs : List ℕ) × (a.lists id ≡ us ++ at ∷ cs)
    cut = cut_at (a.lists id) at (subst (λ z. Contains (a.lists z) at) mine (a.each at inside (let e = mine in omega arith)))

    abbrev us : List ℕ
    us = cut.0

    abbrev cs : List ℕ
    cs = cut.1

    abbrev first : ℕ
    first = get_or heads id nil

    abbrev pub heads' : List ℕ
    heads' = cond (eqb (pv at) nil) (set heads id (nx at)) heads

    whole : Seg nx pv nil first (us ++ at ∷ cs)
    whole = seg_at nx pv first first (a.lists id) (us ++ at ∷ cs) refl cut.2 (a.linked id small)

    apart_whole : Apart (us ++ at ∷ cs)
    apart_whole = subst Apart cut.2 (a.apart id small)

    pub heads'_size : length heads' ≡ length heads
    heads'_size = elim (cases_Bool (eqb (pv at) nil)) [
      | inl t ↦ ap length (cond-true _ _ _ t) ∙ length-set heads id (nx at)
      | inr f ↦ ap length (cond-false _ _ _ f)
    ]

    heads'_off : (k : ℕ) → k ≢ id → get_or heads' k nil ≡ get_or heads k nil
    heads'_off k n = elim (cases_Bool (eqb (pv at) nil)) [
      | inl t ↦ ap (λ z. get_or z k nil) (cond-true _ _ _ t) ∙ get_or-set_other heads id k (nx at) nil n
      | inr f ↦ ap (λ z. get_or z k nil) (cond-false _ _ _ f)
    ]

    -- the place before it, if there is one, is in its list
    back_in : (vs ws : List ℕ) (h : ℕ) → Seg nx pv nil h (vs ++ at ∷ ws) → (pv at ≡ nil) ⊎ Contains (vs ++ at ∷ ws) (pv at)
    back_in [] ws h s = inl s.2
    back_in (v ∷ vs) ws h s = inr (Contains-append_left (v ∷ vs) (at ∷ ws) (pv at) (before_in nx pv nil h at v vs ws s))

    head_of : (vs ws : List ℕ) → Seg nx pv nil first (vs ++ at ∷ ws) → get_or heads' id nil ≡ head_or (nx at) vs
    head_of [] ws s = ap (λ z. get_or z id nil) (cond-true _ _ _ (is_nil (pv at) s.2)) ∙ get_or-set_same heads id (nx at) nil small
    head_of (v ∷ vs) ws s =
        let c : Contains (v ∷ vs ++ at ∷ ws) (pv at) = Contains-append_left (v ∷ vs) (at ∷ ws) (pv at) (before_in nx pv nil first at v vs ws s) in
        ap (λ z. get_or z id nil) (cond-false _ _ _ (ne_eqb _ _ (Seg_places nx pv nil first (v ∷ vs ++ at ∷ ws) (pv at) s c))) ∙ s.0

    -- a place of another list isn't beside it
    beside : (k y : ℕ) → k < length heads → k ≢ id → Contains (a.lists k) y → (nx' y ≡ nx y) × (pv' y ≡ pv y)
    beside k y l n c =
        let ok : y ≢ nil = Seg_places nx pv nil (get_or heads k nil) (a.lists k) y (a.linked k l) c in
        let mine' : owner y ≡ k = (a.inside k y l c).1 in
        let other : (z : ℕ) → (z ≡ nil) ⊎ Contains (us ++ at ∷ cs) z → y ≢ z = (λ z w e. elim w [
          | inl g ↦ ok (e ∙ g)
          | inr i ↦ n (sym mine' ∙ ap owner e ∙ (a.inside id z small (subst (λ q. Contains q z) (sym cut.2) i)).1)
        ]) in
        (u.nexts y (other (pv at) (back_in us cs first whole)), u.backs y (other (nx at) (after_in nx pv nil first at us cs whole)))

    abbrev rest : List ℕ
    rest = us ++ cs

    in_whole : (q : ℕ) → Contains rest q → Contains (a.lists id) q
    in_whole q c = subst (λ z. Contains z q) (sym cut.2) (shorter us cs at q c)

    pub lists_unlink : AreLists nx' pv' owner' heads' len
    lists_unlink = record {
      lists = changed rest;
      linked = λ k l. let m : k < length heads = subst (λ z. k < z) heads'_size l in elim (cases_eq k id) [
        | inl e ↦ seg_at nx' pv' (head_or (nx at) us) (get_or heads' k nil) rest (changed rest k) (sym (ap (λ z. get_or heads' z nil) e ∙ head_of us cs whole)) (sym (changed_at rest k e))
            (Seg_unlink nx pv nx' pv' nil first at us cs (λ c. Seg_places nx pv nil first (us ++ at ∷ cs) nil whole c refl) apart_whole u.next u.nexts u.back u.backs whole)
        | inr n ↦ seg_at nx' pv' (get_or heads k nil) (get_or heads' k nil) (a.lists k) (changed rest k) (sym (heads'_off k n)) (sym (changed_off rest k n))
            (Seg_frame nx pv nx' pv' nil (get_or heads k nil) (a.lists k) (λ y c. beside k y m n c) (a.linked k m))
      ];
      apart = λ k l. let m : k < length heads = subst (λ z. k < z) heads'_size l in elim (cases_eq k id) [
        | inl e ↦ subst Apart (sym (changed_at rest k e)) (apart_shorter us cs at apart_whole)
        | inr n ↦ subst Apart (sym (changed_off rest k n)) (a.apart k m)
      ];
      inside = λ k q l c. let m : k < length heads = subst (λ z. k < z) heads'_size l in elim (cases_eq k id) [
        | inl e ↦
            let i : Contains rest q = subst (λ z. Contains z q) (changed_at rest k e) c in
            let r = a.inside id q small (in_whole q i) in
            (r.0, owns q (λ g. apart_without us cs at apart_whole (subst (Contains rest) g i)) ∙ r.1 ∙ sym e)
        | inr n ↦
            let i = subst (λ z. Contains z q) (changed_off rest k n) c in
            let r = a.inside k q m i in
            (r.0, owns q (λ g. n (sym r.1 ∙ ap owner g ∙ mine)) ∙ r.1)
      ];
      each = λ q l o.
          let k : ℕ = owner' q in
          let off : q ≢ at = (λ g. let s : owner' q ≡ owner' at = ap owner' g in let z = heads'_size in absurd (omega arith)) in
          let s : owner' q ≡ owner q = owns q off in
          let m : owner q < length heads = (let z = heads'_size in omega arith) in
          let c : Contains (a.lists k) q = subst (λ z. Contains (a.lists z) q) (sym s) (a.each q l m) in
          elim (cases_eq k id) [
            | inl e ↦ subst (λ z. Contains z q) (sym (changed_at rest k e)) (longer us cs at q (subst (λ z. Contains z q) cut.2 (subst (λ z. Contains (a.lists z) q) e c)) off)
            | inr f ↦ subst (λ z. Contains z q) (sym (changed_off rest k f)) c
          ];
    }
