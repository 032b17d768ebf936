-- How many slots pass a test, before a boundary and from it on.
use Rattle.std.proofs.Common.{◌≡◌, ◌≢◌, ℕ, zero, suc, ◌+◌, ◌-◌, ◌<◌, ◌≤◌, Bool, true, false, Option, None, List, length, take, drop, refl, arith, inl, inr, sym, ◌∙◌, ap, le_refl}
use Rattle.std.specs.Prelude.{cond, count_by}
use Rattle.std.proofs.lemmas.Bool.{cases_eq}
use Rattle.std.proofs.lemmas.List.{take_all}
use Rattle.std.proofs.lemmas.List.Sums.{sum_by_more, sum_by-take-drop}
use Rattle.slot_order.specs.Order.{slot}

-- 1 for a test that passes
abbrev pub one : Bool → ℕ
one passes = cond passes 1 0

-- how many of the numbers below one pass a test
abbrev pub tally : (ℕ → Bool) → ℕ → ℕ
tally test zero = 0
tally test (suc n) = tally test n + one (test n)

pub tally_same : (g h : ℕ → Bool) (n : ℕ) → ((i : ℕ) → i < n → g i ≡ h i) → tally g n ≡ tally h n
tally_same g h zero same = refl
tally_same g h (suc n) same =
    let a = tally_same g h n (λ i l. same i (omega arith)) in
    let b : one (g n) ≡ one (h n) = ap (λ x. one x) (same n (omega arith)) in
    omega arith

-- one passes no more, and a later one does
pub tally_moved : (g h : ℕ → Bool) (s f n : ℕ) → s < f → f < n → g s ≡ true → h s ≡ false → g f ≡ false → h f ≡ true
    → ((i : ℕ) → i ≢ s → i ≢ f → g i ≡ h i) → tally g n ≡ tally h n
tally_moved g h s f zero l m hit miss off on same = absurd (omega arith)
tally_moved g h s f (suc n) l m hit miss off on same = elim (cases_eq f n) [
  | inl k ↦
      let a = below f (omega arith) in
      let b : tally g n ≡ tally g f = ap (tally g) (sym k) in
      let c : tally h n ≡ tally h f = ap (tally h) (sym k) in
      let x : one (g n) ≡ 0 = ap (λ z. one (g z)) (sym k) ∙ ap (λ v. one v) off in
      let y : one (h n) ≡ 1 = ap (λ z. one (h z)) (sym k) ∙ ap (λ v. one v) on in
      omega arith
  | inr k ↦
      let a = tally_moved g h s f n l (omega arith) hit miss off on same in
      let b : one (g n) ≡ one (h n) = ap (λ x. one x) (same n (λ e. absurd (omega arith)) (λ e. k (sym e))) in
      omega arith
]
  where
    below : (top : ℕ) → top ≤ f → (s < top → tally g top ≡ tally h top + 1) × (top ≤ s → tally g top ≡ tally h top)
    below zero le = ((λ q. absurd (omega arith)), λ q. refl)
    below (suc top) le =
        let h' = below top (omega arith) in (
          (λ q. elim (cases_eq s top) [
            | inl e ↦
                let a = h'.1 (omega arith) in
                let b : one (g top) ≡ 1 = ap (λ z. one (g z)) (sym e) ∙ ap (λ x. one x) hit in
                let c : one (h top) ≡ 0 = ap (λ z. one (h z)) (sym e) ∙ ap (λ x. one x) miss in
                omega arith
            | inr e ↦
                let a = h'.0 (omega arith) in
                let b : one (g top) ≡ one (h top) = ap (λ x. one x) (same top (λ z. e (sym z)) (λ z. absurd (omega arith))) in
                omega arith
          ]),
          (λ q.
              let a = h'.1 (omega arith) in
              let b : one (g top) ≡ one (h top) = ap (λ x. one x) (same top (λ z. absurd (omega arith)) (λ z. absurd (omega arith))) in
              omega arith),
        )

module _ {E : Type 0} (p : Option E → Bool) where
  pub count_take : (d : List (Option E)) (n : ℕ) → n ≤ length d → count_by p (take n d) ≡ tally (λ i. p (slot d i)) n
  count_take d zero l = refl
  count_take d (suc n) l =
      let k : suc n ≡ n + 1 = omega arith in
      ap (λ z. count_by p (take z d)) k ∙ (sum_by_more (λ y. cond (p y) 1 0) d n None (omega arith) ∙ ap (λ z. z + one (p (slot d n))) (count_take d n (omega arith)))

  pub count_all : (d : List (Option E)) → count_by p d ≡ tally (λ i. p (slot d i)) (length d)
  count_all d = ap (count_by p) (sym (take_all (length d) d (le_refl (length d)))) ∙ count_take d (length d) (le_refl (length d))

  pub count_both : (d : List (Option E)) (n : ℕ) → count_by p (take n d) + count_by p (drop n d) ≡ count_by p d
  count_both d n = sum_by-take-drop (λ y. cond (p y) 1 0) d n

-- what passes a test stands at one slot no more, and at another from now on
pub record Moved {E : Type 0} (p : Option E → Bool) (d c : List (Option E)) (s f : ℕ) : Type 0 where
  pub size : length c ≡ length d
  pub here : p (slot d s) ≡ true
  pub gone : p (slot c s) ≡ false
  pub empty : p (slot d f) ≡ false
  pub there : p (slot c f) ≡ true
  pub others : (i : ℕ) → i ≢ s → i ≢ f → p (slot d i) ≡ p (slot c i)

-- seen from the end
pub moved_back : {E : Type 0} (p : Option E → Bool) (d c : List (Option E)) (s f : ℕ) → Moved p d c s f → Moved p c d f s
moved_back p d c s f w = record {
  size = sym w.size;
  here = w.there;
  gone = w.empty;
  empty = w.gone;
  there = w.here;
  others = λ i n m. sym (w.others i m n);
}

-- one fewer before a boundary, and one more from it on
pub moved_counts : {E : Type 0} (p : Option E → Bool) (d c : List (Option E)) (s f cut : ℕ) → Moved p d c s f → s < cut → cut ≤ f → f < length d
    → (count_by p (take cut d) ≡ count_by p (take cut c) + 1) × (count_by p (drop cut c) ≡ count_by p (drop cut d) + 1)
moved_counts p d c s f cut w a b inside =
    let size = w.size in
    let x = count_take p d cut (omega arith) in
    let y = count_take p c cut (omega arith) in
    let t : tally (λ i. p (slot d i)) cut ≡ tally (λ i. p (slot c i)) cut + 1 = before cut b a in
    let u : tally (λ i. p (slot d i)) (length d) ≡ tally (λ i. p (slot c i)) (length d) = tally_moved (λ i. p (slot d i)) (λ i. p (slot c i)) s f (length d) (omega arith) inside w.here w.gone w.empty w.there w.others in
    let v : tally (λ i. p (slot c i)) (length c) ≡ tally (λ i. p (slot c i)) (length d) = ap (tally (λ i. p (slot c i))) size in
    let all_d = count_all p d in
    let all_c = count_all p c in
    let both_d = count_both p d cut in
    let both_c = count_both p c cut in
    (omega arith, omega arith)
  where
    before : (n : ℕ) → n ≤ f → s < n → tally (λ i. p (slot d i)) n ≡ tally (λ i. p (slot c i)) n + 1
    before zero le l = absurd (omega arith)
    before (suc n) le l = elim (cases_eq s n) [
      | inl k ↦
          let e = tally_same (λ i. p (slot d i)) (λ i. p (slot c i)) n (λ i m. w.others i (λ z. absurd (omega arith)) (λ z. absurd (omega arith))) in
          let hit : one (p (slot d n)) ≡ 1 = ap (λ z. one (p (slot d z))) (sym k) ∙ ap (λ x. one x) w.here in
          let miss : one (p (slot c n)) ≡ 0 = ap (λ z. one (p (slot c z))) (sym k) ∙ ap (λ x. one x) w.gone in
          omega arith
      | inr k ↦
          let e = before n (omega arith) (omega arith) in
          let same : one (p (slot d n)) ≡ one (p (slot c n)) = ap (λ x. one x) (w.others n (λ z. k (sym z)) (λ z. absurd (omega arith))) in
          omega arith
    ]

-- the test sees no difference
pub same_counts : {E : Type 0} (p : Option E → Bool) (d c : List (Option E)) (cut : ℕ) → length c ≡ length d → ((i : ℕ) → p (slot d i) ≡ p (slot c i)) → cut ≤ length d
    → (count_by p (take cut d) ≡ count_by p (take cut c)) × (count_by p (drop cut c) ≡ count_by p (drop cut d))
same_counts p d c cut size same inside =
    let x = count_take p d cut inside in
    let y = count_take p c cut (omega arith) in
    let t = tally_same (λ i. p (slot d i)) (λ i. p (slot c i)) cut (λ i l. same i) in
    let u = tally_same (λ i. p (slot d i)) (λ i. p (slot c i)) (length d) (λ i l. same i) in
    let v : tally (λ i. p (slot c i)) (length c) ≡ tally (λ i. p (slot c i)) (length d) = ap (tally (λ i. p (slot c i))) size in
    let all_d = count_all p d in
    let all_c = count_all p c in
    let both_d = count_both p d cut in
    let both_c = count_both p c cut in
    (omega arith, omega arith)

-- none passes where the count is 0
tally_none : (g : ℕ → Bool) (n i : ℕ) → tally g n ≡ 0 → i < n → g i ≡ false
tally_none g zero i z l = absurd (omega arith)
tally_none g (suc n) i z l = elim (cases_eq i n) [
  | inr k ↦ tally_none g n i (omega arith) (omega arith)
  | inl k ↦ ap g k ∙ is (g n) (omega arith)
]
  where
    is : (b : Bool) → one b ≡ 0 → b ≡ false
    is false e = refl
    is true e = absurd (omega arith)

pub take_clear : {E : Type 0} (p : Option E → Bool) (d : List (Option E)) (n i : ℕ) → n ≤ length d → count_by p (take n d) ≡ 0 → i < n → p (slot d i) ≡ false
take_clear p d n i inside none l = tally_none (λ i. p (slot d i)) n i (sym (count_take p d n inside) ∙ none) l

pub drop_clear : {E : Type 0} (p : Option E → Bool) (d : List (Option E)) (n i : ℕ) → n ≤ length d → count_by p (drop n d) ≡ 0 → n ≤ i → i < length d → p (slot d i) ≡ false
drop_clear p d n i inside none low high =
    let a = count_both p d n in
    let b = count_all p d in
    let c = count_take p d n inside in
    let r : tally (λ i. p (slot d i)) (n + (length d - n)) ≡ tally (λ i. p (slot d i)) (length d) = ap (tally (λ i. p (slot d i))) (let z : n + (length d - n) ≡ length d = omega arith in z) in
    tally_rest (λ i. p (slot d i)) n (length d - n) i (omega arith) low (omega arith)
  where
    tally_rest : (g : ℕ → Bool) (n more i : ℕ) → tally g (n + more) ≡ tally g n → n ≤ i → i < n + more → g i ≡ false
    tally_rest g n zero i same low l = absurd (omega arith)
    tally_rest g n (suc more) i same low l =
        let q : tally g (n + suc more) ≡ tally g (suc (n + more)) = ap (tally g) (let z : n + suc more ≡ suc (n + more) = omega arith in z) in
        let grows : tally g n ≤ tally g (n + more) = rises g n more in
        elim (cases_eq i (n + more)) [
          | inl k ↦ ap g k ∙ is (g (n + more)) (omega arith)
          | inr k ↦ tally_rest g n more i (omega arith) low (omega arith)
        ]
      where
        is : (b : Bool) → one b ≡ 0 → b ≡ false
        is false e = refl
        is true e = absurd (omega arith)

        rises : (g : ℕ → Bool) (n more : ℕ) → tally g n ≤ tally g (n + more)
        rises g n zero = let q : tally g (n + 0) ≡ tally g n = ap (tally g) (let z : n + 0 ≡ n = omega arith in z) in omega arith
        rises g n (suc more) =
            let q : tally g (n + suc more) ≡ tally g (suc (n + more)) = ap (tally g) (let z : n + suc more ≡ suc (n + more) = omega arith in z) in
            let h = rises g n more in omega arith

-- of those from one on
pub tally_from : (g : ℕ → Bool) (start n : ℕ) → tally g (start + n) ≡ tally g start + tally (λ i. g (start + i)) n
tally_from g start zero = let q : tally g (start + 0) ≡ tally g start = ap (tally g) (let z : start + 0 ≡ start = omega arith in z) in omega arith
tally_from g start (suc n) =
    let q : tally g (start + suc n) ≡ tally g (suc (start + n)) = ap (tally g) (let z : start + suc n ≡ suc (start + n) = omega arith in z) in
    let h = tally_from g start n in omega arith
