-- Some boundary between the first lower and the last upper entry has room, and on the wrong side of the best one stand no
-- more entries than the span has slots.
use Rattle.std.proofs.Common.{◌≡◌, ℕ, zero, suc, ◌+◌, ◌-◌, ◌<◌, ◌≤◌, Bool, true, false, Option, None, Some, List, length, take, drop, refl, arith, inl, inr, sym, ◌∙◌, ap, le_refl}
use Rattle.std.specs.Prelude.{cond, count_by, is_none}
use Rattle.std.proofs.lemmas.Bool.{cases_eq, cases_lt, cases_Bool}
use Rattle.std.proofs.lemmas.List.Sums.{sum_by_more, sum_by-drop_more}
use Rattle.slot_order.specs.Order.{slot}
use Rattle.slot_moves.specs.Cuts.{holds, early, late, wrong_side, free_before, free_behind, near_before, near_behind, HasRoom, HasRoomNear}
use Rattle.slot_moves.proofs.Tally.{one, tally, count_take, count_all, count_both}

-- what a boundary passes: an entry that must stand behind, one that must stand before, an empty slot, or none of these
pub record IsStep (e t a b : ℕ → ℕ) (c : ℕ) : Type 0 where
  pub x : ℕ
  pub y : ℕ
  pub z : ℕ
  pub at_most : x + y + z ≤ 1
  pub e_is : e (suc c) ≡ e c + x
  pub t_is : t c ≡ t (suc c) + y
  pub a_is : a (suc c) ≡ a c + z
  pub b_is : b c ≡ b (suc c) + z

-- the numbers on either side of the boundaries from one on to another
pub record AreSteps (e t a b : ℕ → ℕ) (u l : ℕ) : Type 0 where
  pub less : u < l
  pub first : e u ≡ 0
  pub last : t l ≡ 0
  pub step : (c : ℕ) → u ≤ c → c < l → IsStep e t a b c
  pub free : (c : ℕ) → u ≤ c → c ≤ l → 0 < a c + b c
  pub at_first : t u ≡ t (suc u)
  pub at_last : (k : ℕ) → l ≡ suc k → e l ≡ e k

-- room, in numbers
pub record Fits (e t a b : ℕ → ℕ) (c : ℕ) : Type 0 where
  pub behind : e c ≤ b c + t c
  pub before : t c ≤ a c + e c

-- from a boundary that has room behind it on, one has room
find_room : (e t a b : ℕ → ℕ) (u l c rest : ℕ) → AreSteps e t a b u l → u ≤ c → c + rest ≡ l → e c ≤ b c + t c
    → (k : ℕ) × (u ≤ k) × (k ≤ l) × Fits e t a b k
find_room e t a b u l c zero w low at room =
    let same : c ≡ l = omega arith in
    let none : t c ≡ 0 = ap t same ∙ w.last in
    (c, low, omega arith, record { behind = room; before = omega arith })
find_room e t a b u l c (suc rest) w low at room =
    let s = w.step c low (omega arith) in
    let p0 = s.at_most in let p1 = s.e_is in let p2 = s.t_is in let p3 = s.a_is in let p4 = s.b_is in
    elim (cases_lt (b (suc c) + t (suc c)) (e (suc c))) [
      | inr fits ↦ find_room e t a b u l (suc c) rest w (omega arith) (omega arith) fits
      | inl over ↦ (c, low, omega arith, record { behind = room; before = omega arith })
    ]

pub some_room : (e t a b : ℕ → ℕ) (u l : ℕ) → AreSteps e t a b u l → (k : ℕ) × (u ≤ k) × (k ≤ l) × Fits e t a b k
some_room e t a b u l w = let n = w.first in let m = w.less in find_room e t a b u l u (l - u) w (le_refl u) (omega arith) (omega arith)

-- no more than there are slots on either side
at_most_before : (e t a b : ℕ → ℕ) (u l n : ℕ) → AreSteps e t a b u l → u + n ≤ l → e (u + n) ≤ n
at_most_before e t a b u l zero w le = let n = w.first in let k : e (u + 0) ≡ e u = ap e (let z : u + 0 ≡ u = omega arith in z) in omega arith
at_most_before e t a b u l (suc n) w le =
    let h = at_most_before e t a b u l n w (omega arith) in
    let s = w.step (u + n) (omega arith) (omega arith) in
    let k : e (u + suc n) ≡ e (suc (u + n)) = ap e (let z : u + suc n ≡ suc (u + n) = omega arith in z) in
    let p0 = s.at_most in let p1 = s.e_is in omega arith

at_most_behind : (e t a b : ℕ → ℕ) (u l c n : ℕ) → AreSteps e t a b u l → u ≤ c → c + n ≡ l → t c ≤ n
at_most_behind e t a b u l c zero w low at = let k : t c ≡ t l = ap t (let z : c ≡ l = omega arith in z) in let n = w.last in omega arith
at_most_behind e t a b u l c (suc n) w low at =
    let h = at_most_behind e t a b u l (suc c) n w (omega arith) (omega arith) in
    let s = w.step c low (omega arith) in
    let p0 = s.at_most in let p2 = s.t_is in omega arith

-- the best one
pub within_span : (e t a b : ℕ → ℕ) (u l c : ℕ) → AreSteps e t a b u l → u ≤ c → c ≤ l → Fits e t a b c
    → ((k : ℕ) → u ≤ k → k ≤ l → Fits e t a b k → e c + t c ≤ e k + t k) → e c + t c ≤ (l - 1) - u
within_span e t a b u l c w low high room fewest = elim (cases_lt (e c + t c) (l - u)) [
  | inl less ↦ omega arith
  | inr full ↦ absurd (elim (cases_eq c u) [
    | inl k ↦
        let m = w.less in
        let x : t c ≡ t (suc u) = ap t k ∙ w.at_first in
        let y = at_most_behind e t a b u l (suc u) (l - suc u) w (omega arith) (omega arith) in
        let z : e c ≡ 0 = ap e k ∙ w.first in
        omega arith
    | inr nu ↦ elim (cases_eq c l) [
      | inl k ↦
          let m = w.less in
          let p : l ≡ suc (l - 1) = omega arith in
          let x : e c ≡ e (l - 1) = ap e k ∙ w.at_last (l - 1) p in
          let q : l - 1 ≡ u + (l - 1 - u) = omega arith in
          let y = at_most_before e t a b u l (l - 1 - u) w (omega arith) in
          let y' : e (l - 1) ≡ e (u + (l - 1 - u)) = ap e q in
          let z : t c ≡ 0 = ap t k ∙ w.last in
          omega arith
      | inr nl ↦ between nu nl full
    ]
  ])
]
  where
    between : (c ≡ u → ⊥) → (c ≡ l → ⊥) → l - u ≤ e c + t c → ⊥
    between nu nl full =
        let here = at_most_before e t a b u l (c - u) w (omega arith) in
        let here' : e c ≡ e (u + (c - u)) = ap e (let z : c ≡ u + (c - u) = omega arith in z) in
        let back = at_most_before e t a b u l (c - 1 - u) w (omega arith) in
        let back' : e (c - 1) ≡ e (u + (c - 1 - u)) = ap e (let z : c - 1 ≡ u + (c - 1 - u) = omega arith in z) in
        let there = at_most_behind e t a b u l c (l - c) w low (omega arith) in
        let on = at_most_behind e t a b u l (suc c) (l - suc c) w (omega arith) (omega arith) in
        let s = w.step c low (omega arith) in
        let p0 = s.at_most in let p1 = s.e_is in let p2 = s.t_is in let p3 = s.a_is in let p4 = s.b_is in
        let r = w.step (c - 1) (omega arith) (omega arith) in
        let up : suc (c - 1) ≡ c = omega arith in
        let q0 = r.at_most in
        let q1 : e c ≡ e (c - 1) + r.x = ap e (sym up) ∙ r.e_is in
        let q2 : t (c - 1) ≡ t c + r.y = r.t_is ∙ ap (λ n. t n + r.y) up in
        let q3 : a c ≡ a (c - 1) + r.z = ap a (sym up) ∙ r.a_is in
        let q4 : b (c - 1) ≡ b c + r.z = r.b_is ∙ ap (λ n. b n + r.z) up in
        let f0 = room.behind in let f1 = room.before in
        let some = w.free c low high in
        elim (cases_lt (b (suc c) + t (suc c)) (e (suc c))) [
          | inr fits ↦ let k = fewest (suc c) (omega arith) (omega arith) (record { behind = fits; before = omega arith }) in omega arith
          | inl over ↦ elim (cases_lt (a (c - 1) + e (c - 1)) (t (c - 1))) [
            | inr fits ↦ let k = fewest (c - 1) (omega arith) (omega arith) (record { behind = omega arith; before = fits }) in omega arith
            | inl more ↦ omega arith
          ]
        ]

module _ {E : Type 0} (p : Option E → Bool) where
  take_step : (d : List (Option E)) (c : ℕ) → c < length d → count_by p (take (suc c) d) ≡ count_by p (take c d) + one (p (slot d c))
  take_step d c l =
      let k : suc c ≡ c + 1 = omega arith in
      ap (λ z. count_by p (take z d)) k ∙ sum_by_more (λ y. cond (p y) 1 0) d c None l

  drop_step : (d : List (Option E)) (c : ℕ) → c < length d → count_by p (drop c d) ≡ count_by p (drop (suc c) d) + one (p (slot d c))
  drop_step d c l =
      let k : suc c ≡ c + 1 = omega arith in
      let a : count_by p (drop c d) ≡ one (p (slot d c)) + count_by p (drop (c + 1) d) = sum_by-drop_more (λ y. cond (p y) 1 0) d c None l in
      let b : count_by p (drop (suc c) d) ≡ count_by p (drop (c + 1) d) = ap (λ z. count_by p (drop z d)) k in
      omega arith

  none_in : (g : ℕ → Bool) (n : ℕ) → ((i : ℕ) → i < n → g i ≡ false) → tally g n ≡ 0
  none_in g zero none = refl
  none_in g (suc n) none =
      let h = none_in g n (λ i l. none i (omega arith)) in
      let k : one (g n) ≡ 0 = ap one (none n (omega arith)) in omega arith

  none_more : (g : ℕ → Bool) (n more : ℕ) → ((i : ℕ) → n ≤ i → i < n + more → g i ≡ false) → tally g (n + more) ≡ tally g n
  none_more g n zero none = ap (tally g) (let z : n + 0 ≡ n = omega arith in z)
  none_more g n (suc more) none =
      let h = none_more g n more (λ i l m. none i l (omega arith)) in
      let q : tally g (n + suc more) ≡ tally g (suc (n + more)) = ap (tally g) (let z : n + suc more ≡ suc (n + more) = omega arith in z) in
      let k : one (g (n + more)) ≡ 0 = ap one (none (n + more) (omega arith) (omega arith)) in omega arith

  pub take_none : (d : List (Option E)) (n : ℕ) → n ≤ length d → ((i : ℕ) → i < n → p (slot d i) ≡ false) → count_by p (take n d) ≡ 0
  take_none d n l none = count_take p d n l ∙ none_in (λ i. p (slot d i)) n none

  pub drop_none : (d : List (Option E)) (n : ℕ) → n ≤ length d → ((i : ℕ) → n ≤ i → i < length d → p (slot d i) ≡ false) → count_by p (drop n d) ≡ 0
  drop_none d n l none =
      let a = count_both p d n in
      let b = count_all p d in
      let c = count_take p d n l in
      let k : tally (λ i. p (slot d i)) (length d) ≡ tally (λ i. p (slot d i)) (n + (length d - n)) = ap (tally (λ i. p (slot d i))) (let z : length d ≡ n + (length d - n) = omega arith in z) in
      let e = none_more (λ i. p (slot d i)) n (length d - n) (λ i a b. none i a (omega arith)) in omega arith

-- further on no fewer are empty before, and no more behind
pub before_rises : {E : Type 0} (d : List (Option E)) (u c : ℕ) → u ≤ c → c ≤ length d → free_before u d ≤ free_before c d
before_rises {E} d u c low inside = go (c - u) c (omega arith) inside
  where
    go : (n c : ℕ) → c ≡ u + n → c ≤ length d → free_before u d ≤ free_before c d
    go zero c is inside = let k : free_before c d ≡ free_before u d = ap (λ z. free_before z d) (let z : c ≡ u = omega arith in z) in omega arith
    go (suc n) c is inside =
        let h = go n (u + n) (let z : u + n ≡ u + n = omega arith in z) (omega arith) in
        let s = take_step (λ (h : Option E). is_none h) d (u + n) (omega arith) in
        let k : free_before c d ≡ free_before (suc (u + n)) d = ap (λ z. free_before z d) (let z : c ≡ suc (u + n) = omega arith in z) in omega arith

pub behind_falls : {E : Type 0} (d : List (Option E)) (c l : ℕ) → c ≤ l → l ≤ length d → free_behind l d ≤ free_behind c d
behind_falls {E} d c l low inside =
    let a = count_both (λ (h : Option E). is_none h) d c in
    let b = count_both (λ (h : Option E). is_none h) d l in
    let r = before_rises d c l low inside in omega arith

-- near room is room
pub room_from_near : {E : Type 0} (behind before : E → Bool) (u l cut : ℕ) (d : List (Option E)) → u ≤ cut → cut ≤ l → l ≤ length d → HasRoomNear behind before u l cut d → HasRoom behind before cut d
room_from_near behind before u l cut d low high inside r =
    let a = before_rises d u cut low (omega arith) in let b = behind_falls d cut l high inside in
    let x = r.room_behind in let y = r.room_before in
    record { room_behind = omega arith; room_before = omega arith }

-- what must stand behind and before, between a ceiling and a floor that crosses it
pub record AreCrossed {E : Type 0} (behind before : E → Bool) (d : List (Option E)) (u l : ℕ) : Type 0 where
  pub less : u < l
  pub inside : l ≤ length d
  pub none_early : (i : ℕ) → i < u → holds behind (slot d i) ≡ false
  pub none_late : (i : ℕ) → l ≤ i → holds before (slot d i) ≡ false
  pub low : holds before (slot d u) ≡ false
  pub high : (k : ℕ) → l ≡ suc k → holds behind (slot d k) ≡ false
  pub apart : (i : ℕ) (x : E) → slot d i ≡ Some x → behind x ≡ true → before x ≡ false
  pub free : 0 < count_by (λ (held : Option E). is_none held) d

steps_of : {E : Type 0} (behind before : E → Bool) (d : List (Option E)) (u l : ℕ) → AreCrossed behind before d u l
    → AreSteps (λ c. early behind c d) (λ c. late before c d) (λ c. near_before u c d) (λ c. near_behind l c d) u l
steps_of {E} behind before d u l w = record {
  less = w.less;
  first = let m = w.less in let n = w.inside in take_none (λ (h : Option E). holds behind h) d u (omega arith) w.none_early;
  last = drop_none (λ (h : Option E). holds before h) d l w.inside (λ i a b. w.none_late i a);
  step = λ c lo hi. let n = w.inside in step c lo hi;
  free = λ c lo hi.
      let k = count_both (λ (h : Option E). is_none h) d c in let f = w.free in let n = w.inside in
      let a = before_rises d u c lo (omega arith) in let b = behind_falls d c l hi (omega arith) in omega arith;
  at_first =
      let m = w.less in let n = w.inside in
      let k = drop_step (λ (h : Option E). holds before h) d u (omega arith) in
      let q : one (holds before (slot d u)) ≡ 0 = ap one w.low in omega arith;
  at_last = λ k is.
      let n = w.inside in
      let s = take_step (λ (h : Option E). holds behind h) d k (omega arith) in
      let q : one (holds behind (slot d k)) ≡ 0 = ap one (w.high k is) in
      let r : early behind l d ≡ early behind (suc k) d = ap (λ z. early behind z d) is in omega arith;
}
  where
    flags : (held : Option E) → ((x : E) → held ≡ Some x → behind x ≡ true → before x ≡ false)
        → one (holds behind held) + one (holds before held) + one (is_none held) ≤ 1
    flags None apart = omega arith
    flags (Some x) apart = elim (cases_Bool (behind x)) [
      | inl y ↦
          let p : one (behind x) ≡ 1 = ap one y in
          let q : one (before x) ≡ 0 = ap one (apart x refl y) in omega arith
      | inr n ↦
          let p : one (behind x) ≡ 0 = ap one n in
          elim (cases_Bool (before x)) [
            | inl y ↦ let q : one (before x) ≡ 1 = ap one y in omega arith
            | inr m ↦ let q : one (before x) ≡ 0 = ap one m in omega arith
          ]
    ]

    step : (c : ℕ) → u ≤ c → c < l → IsStep (λ c. early behind c d) (λ c. late before c d) (λ c. near_before u c d) (λ c. near_behind l c d) c
    step c lo hi = let n = w.inside in let inside : c < length d = omega arith in record {
      x = one (holds behind (slot d c));
      y = one (holds before (slot d c));
      z = one (is_none (slot d c));
      at_most = flags (slot d c) (w.apart c);
      e_is = take_step (λ (h : Option E). holds behind h) d c inside;
      t_is = drop_step (λ (h : Option E). holds before h) d c inside;
      a_is = let a = take_step (λ (h : Option E). is_none h) d c inside in let r = before_rises d u c lo (omega arith) in omega arith;
      b_is = let b = drop_step (λ (h : Option E). is_none h) d c inside in let r = behind_falls d (suc c) l (omega arith) n in omega arith;
    }

-- a boundary with room
pub has_cut : {E : Type 0} (behind before : E → Bool) (d : List (Option E)) (u l : ℕ) → AreCrossed behind before d u l → (cut : ℕ) × (u ≤ cut) × (cut ≤ l) × HasRoomNear behind before u l cut d
has_cut behind before d u l w =
    let k = some_room _ _ _ _ u l (steps_of behind before d u l w) in
    (k.0, k.1, k.2, record { room_behind = k.3.behind; room_before = k.3.before })

-- the best one has at most as many on its wrong side as the span has slots
pub best_cut : {E : Type 0} (behind before : E → Bool) (d : List (Option E)) (u l cut : ℕ) → AreCrossed behind before d u l → u ≤ cut → cut ≤ l → HasRoomNear behind before u l cut d
    → ((other : ℕ) → u ≤ other → other ≤ l → HasRoomNear behind before u l other d → wrong_side behind before cut d ≤ wrong_side behind before other d)
    → wrong_side behind before cut d ≤ (l - 1) - u
best_cut behind before d u l cut w low high room fewest =
    within_span _ _ _ _ u l cut (steps_of behind before d u l w) low high (record { behind = room.room_behind; before = room.room_before })
    (λ k a b r. fewest k a b (record { room_behind = r.behind; room_before = r.before }))
