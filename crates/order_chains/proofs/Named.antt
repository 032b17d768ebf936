-- The partners of an id are the other ends of its pairs.
use Rattle.std.proofs.Common.{◌≡◌, ◌≢◌, ℕ, ◌<◌, ◌≤◌, ◌↔◌, List, length, get_or, map, Option, Some, None, sym, ap, ◌∙◌, subst, inl, inr, Contains, arith}
use Rattle.std.specs.Prelude.{nat_eq}
use Rattle.std.specs.List.{IsDistinct}
use Rattle.std.proofs.Math.ListN.{get_or-eq_default}
use Rattle.std.proofs.lemmas.Bool.{cases_eq, cases_lt}
use Rattle.std.proofs.lemmas.List.{length-map, get_or_default}
use Rattle.std.proofs.lemmas.List.Elements.{Contains-get_or}
use Rattle.slot_order.proofs.Lists.{in_map, map_in}
use Rattle.order_chains.specs.declared.node.Node.{Node}
use Rattle.order_chains.specs.declared.chains.Side.TheVariants.{Below, Above}
use Rattle.order_chains.specs.Chains.{nil}
use Rattle.order_chains.specs.Pairs.{Pair, Pairs, HasPair, AreDistinct, AreChains, pair_of, upper_at, lower_at}
use Rattle.order_chains.specs.Partners.{along, IsOnList}
use Rattle.order_chains.proofs.Places.{pair, at_place, pair_taken, pair_free}
use Rattle.order_chains.proofs.Along.{distinct_map, ends, on_list, along_whole}

upper_or : Option Pair → ℕ → ℕ
upper_or None d = d
upper_or (Some p) d = p.0

lower_or : Option Pair → ℕ → ℕ
lower_or None d = d
lower_or (Some p) d = p.1

-- what the ends x and y of a node are whose place holds a pair
record IsPair (ids x y u l : ℕ) : Type 0 where
  pub taken : x ≢ ids
  pub upper : x ≡ u
  pub lower : y ≡ l

is_pair : (ids x y u l : ℕ) → pair ids x y ≡ Some (u, l) → IsPair ids x y u l
unfolding upper_or lower_or
is_pair ids x y u l e = elim (cases_eq x ids) [
  | inl f ↦ absurd (let k : None ≡ Some (u, l) = sym (pair_free ids x y f) ∙ e in cc)
  | inr n ↦ let k : Some (x, y) ≡ Some (u, l) = sym (pair_taken ids x y n) ∙ e in record { taken = n; upper = ap (λ o. upper_or o 0) k; lower = ap (λ o. lower_or o 0) k }
]

-- the ids of an answer, each once, are those that have a pair
pub record ArePartners (e : Pairs) (has : ℕ → Type 0) (xs : List ℕ) : Type 0 where
  pub exact : (other : ℕ) → Contains xs other ↔ has other
  pub once : IsDistinct nat_eq xs
  pub distinct : AreDistinct e.ids e.places

module _ (ids : ℕ) (ns : List Node) where
  abbrev pub places : List (Option Pair)
  places = map (pair_of ids) ns

  abbrev pub seen : Pairs
  seen = record { ids = ids; places = places }

  read_pair : (k u l : ℕ) → get_or places k None ≡ Some (u, l) → (k < length ns) × IsPair ids (upper_at ns k) (lower_at ns k) u l
  read_pair k u l e = elim (cases_lt k (length ns)) [
    | inl i ↦ (i, is_pair ids (upper_at ns k) (lower_at ns k) u l (sym (at_place ids ns k i) ∙ e))
    | inr m ↦ absurd (let size = length-map ns (pair_of ids) in let past : length places ≤ k = omega arith in let k : None ≡ Some (u, l) = sym (get_or-eq_default places None past) ∙ e in cc)
  ]

  has_pair : (k u l : ℕ) → k < length ns → u < ids → upper_at ns k ≡ u → lower_at ns k ≡ l → HasPair seen u l
  has_pair k u l inside small e f =
      let size = length-map ns (pair_of ids) in
      subst (Contains places) (at_place ids ns k inside ∙ ap (λ z. pair ids z (lower_at ns k)) e ∙ ap (pair ids u) f ∙ pair_taken ids u l (λ z. absurd (omega arith))) (Contains-get_or places k None (omega arith))

  of_pair : (u l : ℕ) → HasPair seen u l → (k : ℕ) × (k < length ns) × IsPair ids (upper_at ns k) (lower_at ns k) u l
  of_pair u l c = let r = read_pair c.0 u l (get_or_default places c.0 None (Some (u, l)) c.1 ∙ c.2) in (c.0, r.0, r.1)

  module _ (below above : List ℕ) (a : AreChains ids ns below above (length ns)) where
    -- the ends of a node that isn't free
    taken_ends : (k : ℕ) → k < length ns → upper_at ns k ≢ ids → (upper_at ns k < ids) × (lower_at ns k < ids) × (upper_at ns k ≢ lower_at ns k)
    taken_ends k inside n = elim (a.ends k inside) [ inl f ↦ absurd (n f.0) | inr t ↦ t ]

    are_distinct : AreDistinct ids places
    are_distinct = record {
      ends = λ k u l e.
          let r = read_pair k u l e in
          let t = taken_ends k r.0 r.1.taken in
          let x = r.1.upper in
          let y = r.1.lower in
          (subst (λ z. z < ids) x t.0, subst (λ z. z < ids) y t.1, λ z. t.2 (x ∙ z ∙ sym y));
      once = λ j k p e f.
          let r = read_pair j p.0 p.1 e in
          let s = read_pair k p.0 p.1 f in
          a.once j k r.0 s.0 (taken_ends j r.0 r.1.taken).0 (r.1.upper ∙ sym s.1.upper) (r.1.lower ∙ sym s.1.lower);
    }

    module _ (id : ℕ) (small : id < ids) where
      small_below : id < length below
      small_below = let h = a.heads.0 in omega arith

      small_above : id < length above
      small_above = let h = a.heads.1 in omega arith

      whole_below : ArePartners seen (HasPair seen id) (along Below ns (length ns) (get_or below id nil))
      whole_below =
          let xs = a.downs.lists id in
          let inside : (q : ℕ) → Contains xs q → (q < length ns) × (upper_at ns q ≡ id) = (λ q c. a.downs.inside id q small_below c) in
          subst (ArePartners seen (HasPair seen id)) (sym (along_whole Below ns (upper_at ns) below id a.downs small_below)) (record {
            exact = λ other. (
              λ c. let w = in_map (λ p. lower_at ns p) xs other c in let i = inside w.0 w.1 in has_pair w.0 id other i.0 small i.1 w.2,
              λ c.
                  let r = of_pair id other c in
                  let e = r.2.upper in
                  let there : Contains xs r.0 = subst (λ z. Contains (a.downs.lists z) r.0) e (a.downs.each r.0 r.1 (let l = small_below in omega arith)) in
                  subst (Contains (ends Below ns xs)) r.2.lower (map_in (λ p. lower_at ns p) xs r.0 there),
            );
            once = distinct_map (λ p. lower_at ns p) xs (a.downs.apart id small_below) (λ p q c d e.
                let i = inside p c in
                let j = inside q d in
                a.once p q i.0 j.0 (subst (λ z. z < ids) (sym i.1) small) (i.1 ∙ sym j.1) e);
            distinct = are_distinct;
          })

      whole_above : ArePartners seen (λ other. HasPair seen other id) (along Above ns (length ns) (get_or above id nil))
      whole_above =
          let xs = a.ups.lists id in
          let inside : (q : ℕ) → Contains xs q → (q < length ns) × (lower_at ns q ≡ id) = (λ q c. a.ups.inside id q small_above c) in
          let taken : (q : ℕ) → Contains xs q → upper_at ns q < ids = (λ q c. let i = inside q c in elim (a.ends q i.0) [ inl f ↦ (let y = f.1 in let z = i.1 in absurd (omega arith)) | inr t ↦ t.0 ]) in
          subst (ArePartners seen (λ other. HasPair seen other id)) (sym (along_whole Above ns (lower_at ns) above id a.ups small_above)) (record {
            exact = λ other. (
              λ c. let w = in_map (λ p. upper_at ns p) xs other c in let i = inside w.0 w.1 in has_pair w.0 other id i.0 (subst (λ z. z < ids) w.2 (taken w.0 w.1)) w.2 i.1,
              λ c.
                  let r = of_pair other id c in
                  let e = r.2.lower in
                  let there : Contains xs r.0 = subst (λ z. Contains (a.ups.lists z) r.0) e (a.ups.each r.0 r.1 (let l = small_above in omega arith)) in
                  subst (Contains (ends Above ns xs)) r.2.upper (map_in (λ p. upper_at ns p) xs r.0 there),
            );
            once = distinct_map (λ p. upper_at ns p) xs (a.ups.apart id small_above) (λ p q c d e.
                let i = inside p c in
                let j = inside q d in
                a.once p q i.0 j.0 (taken p c) e (i.1 ∙ sym j.1));
            distinct = are_distinct;
          })

    -- the same of what is seen from outside, with the head as it is read
    module _ (e : Pairs) (is : seen ≡ e) (id : ℕ) (small : id < e.ids) (at : ℕ) where
      inner : id < ids
      inner = subst (λ z. id < z.ids) (sym is) small

      module _ (read : at ≡ get_or below id at) where
        head_below : get_or below id nil ≡ at
        head_below = get_or_default below id nil at (small_below id inner) ∙ sym read

        pub on_below : IsOnList Below ns at
        on_below = subst (IsOnList Below ns) head_below (on_list Below ns (upper_at ns) below id a.downs (small_below id inner))

        pub partners_below : (xs : List ℕ) → xs ≡ along Below ns (length ns) at → ArePartners e (HasPair e id) xs
        partners_below xs f =
            subst (λ z. ArePartners z (HasPair z id) xs) is (subst (ArePartners seen (HasPair seen id)) (ap (along Below ns (length ns)) head_below ∙ sym f) (whole_below id inner))

      module _ (read : at ≡ get_or above id at) where
        head_above : get_or above id nil ≡ at
        head_above = get_or_default above id nil at (small_above id inner) ∙ sym read

        pub on_above : IsOnList Above ns at
        on_above = subst (IsOnList Above ns) head_above (on_list Above ns (lower_at ns) above id a.ups (small_above id inner))

        pub partners_above : (xs : List ℕ) → xs ≡ along Above ns (length ns) at → ArePartners e (λ other. HasPair e other id) xs
        partners_above xs f =
            subst (λ z. ArePartners z (λ other. HasPair z other id) xs) is
            (subst (ArePartners seen (λ other. HasPair seen other id)) (ap (along Above ns (length ns)) head_above ∙ sym f) (whole_above id inner))
