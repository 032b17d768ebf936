-- A pair is linked: a free node is taken out of its list and put into those of its ends.
use Rattle.std.proofs.Common.{◌≡◌, ◌≢◌, ℕ, ◌+◌, ◌<◌, ◌≤◌, cond, eqb, List, length, get_or, set, map, Some, refl, sym, ap, ◌∙◌, subst, inl, inr, Contains, arith, ne_eqb, get_or-set_same, get_or-set_other, length-set, le_refl}
use Rattle.std.specs.Prelude.{is_none, count_by}
use Rattle.std.proofs.lemmas.Bool.{cases_eq, cases_Bool, cond-true, cond-false, eqb-false}
use Rattle.order_chains.specs.declared.node.Node.{Node}
use Rattle.order_chains.specs.declared.chains.Side.TheVariants.{Below, Above}
use Rattle.order_chains.specs.Nodes.{no_node}
use Rattle.order_chains.specs.Chains.{nil, next_at, back_at, pushed, unlinked, heads_unlinked}
use Rattle.order_chains.specs.Lists.{AreLists}
use Rattle.order_chains.specs.Pairs.{AreChains, AreEnds, pair_of, upper_at, lower_at, IsLinked, with_ends}
use Rattle.order_chains.proofs.Listed.{AreLists_same, lists_push, lists_unlink, heads'_size, head_there, head_in, head_off, next_in, back_in_list}
use Rattle.order_chains.proofs.Written.{pushed_field, unlinked_field, set_field, pushed_length, unlinked_length, push_is, unlink_is}
use Rattle.std.proofs.lemmas.List.{length-map, get_or_default}
use Rattle.order_chains.proofs.Places.{pair, at_place, pair_taken, pair_free, free_of, other_pair, one_changed, empty_place}

-- who owns the places but for one, which nobody does
abbrev pub but : ℕ → ℕ → (ℕ → ℕ) → ℕ → ℕ
but at nobody owner y = cond (eqb y at) nobody (owner y)

pub but_at : (at nobody : ℕ) (owner : ℕ → ℕ) → but at nobody owner at ≡ nobody
but_at at nobody owner = elim (cases_Bool (eqb at at)) [ inl t ↦ cond-true _ _ _ t | inr f ↦ absurd (eqb-false _ _ f refl) ]

pub but_off : (at nobody : ℕ) (owner : ℕ → ℕ) (y : ℕ) → y ≢ at → but at nobody owner y ≡ owner y
but_off at nobody owner y n = cond-false _ _ _ (ne_eqb _ _ n)

-- the first free place is one
pub record IsFree (ids : ℕ) (ns : List Node) (at : ℕ) : Type 0 where
  pub place : at ≢ nil
  pub inside : at < length ns
  pub upper : upper_at ns at ≡ ids
  pub lower : lower_at ns at ≡ ids

module _ (ids : ℕ) (ns : List Node) (below above : List ℕ) (a : AreChains ids ns below above (length ns)) where
  pub first_free : 1 ≤ count_by is_none (map (pair_of ids) ns) → IsFree ids ns (get_or below ids nil)
  first_free room =
      let e = empty_place (map (pair_of ids) ns) room in
      let m = length-map ns (pair_of ids) in
      let inside : e.0 < length ns = (let i = e.1 in omega arith) in
      let h = a.heads.0 in
      let small : ids < length below = omega arith in
      let owned : upper_at ns e.0 ≡ ids = free_of ids (upper_at ns e.0) (lower_at ns e.0) (sym (at_place ids ns e.0 inside) ∙ e.2) in
      let c : Contains (a.downs.lists ids) e.0 = subst (λ z. Contains (a.downs.lists z) e.0) owned (a.downs.each e.0 inside (omega arith)) in
      let ok = head_there (next_at Below ns) (back_at Below ns) (upper_at ns) below (length ns) a.downs ids e.0 small c in
      let i = head_in (next_at Below ns) (back_at Below ns) (upper_at ns) below (length ns) a.downs ids small ok in
      record {
        place = ok;
        inside = i.0;
        upper = i.1;
        lower = elim (a.ends (get_or below ids nil) i.0) [ inl w ↦ w.1 | inr w ↦ (let x = w.0 in let y = i.1 in absurd (omega arith)) ];
      }

  -- the same, as it is read where there is a list
  pub first_read : 1 ≤ count_by is_none (map (pair_of ids) ns) → IsFree ids ns (get_or below ids 0)
  first_read room = let h = a.heads.0 in subst (IsFree ids ns) (get_or_default below ids nil 0 (omega arith)) (first_free room)

  -- its neighbours are places
  pub first_links : (at : ℕ) → IsFree ids ns at → (next_at Below ns at ≢ nil → next_at Below ns at < length ns) × (back_at Below ns at ≢ nil → back_at Below ns at < length ns)
  first_links at free =
      let h = a.heads.0 in
      let e = free.upper in
      let owned : upper_at ns at < length below = omega arith in
      (next_in (next_at Below ns) (back_at Below ns) (upper_at ns) below (length ns) a.downs at free.inside owned, back_in_list (next_at Below ns) (back_at Below ns) (upper_at ns) below (length ns) a.downs at free.inside owned)

  module _ (upper lower at : ℕ) (free : IsFree ids ns at) (us : upper < ids) (ls : lower < ids) (differ : upper ≢ lower) (absent : Contains (map (pair_of ids) ns) (Some (upper, lower)) → ⊥) where
    abbrev pub ns1 : List Node
    ns1 = unlinked Below ns at

    abbrev pub below1 : List ℕ
    below1 = heads_unlinked Below ns below ids at

    abbrev pub ns2 : List Node
    ns2 = with_ends ns1 at upper lower

    abbrev pub ns3 : List Node
    ns3 = pushed Below ns2 at (get_or below1 upper nil)

    abbrev pub below3 : List ℕ
    below3 = set below1 upper at

    abbrev pub ns4 : List Node
    ns4 = pushed Above ns3 at (get_or above lower nil)

    abbrev pub above4 : List ℕ
    above4 = set above lower at

    abbrev len : ℕ
    len = length ns

    abbrev owner1 : ℕ → ℕ
    owner1 = but at (ids + 1) (upper_at ns)

    size1 : length ns1 ≡ len
    size1 = unlinked_length Below ns at

    size2 : length ns2 ≡ len
    size2 = length-set _ _ _ ∙ size1

    size3 : length ns3 ≡ len
    size3 = pushed_length Below ns2 at _ ∙ size2

    pub size4 : length ns4 ≡ len
    size4 = pushed_length Above ns3 at _ ∙ size3

    inside1 : at < length ns1
    inside1 = subst (λ z. at < z) (sym size1) free.inside

    -- the ends after the second step, and so after all
    upper_here : upper_at ns4 at ≡ upper
    upper_here = pushed_field (λ n. n.upper) Above (λ n l. refl) ns3 at _ at ∙ (pushed_field (λ n. n.upper) Below (λ n l. refl) ns2 at _ at ∙ ap (λ n. n.upper) (get_or-set_same ns1 at _ no_node inside1))

    lower_here : lower_at ns4 at ≡ lower
    lower_here = pushed_field (λ n. n.lower) Above (λ n l. refl) ns3 at _ at ∙ (pushed_field (λ n. n.lower) Below (λ n l. refl) ns2 at _ at ∙ ap (λ n. n.lower) (get_or-set_same ns1 at _ no_node inside1))

    upper_off : (y : ℕ) → y ≢ at → upper_at ns4 y ≡ upper_at ns y
    upper_off y n = pushed_field (λ n. n.upper) Above (λ n l. refl) ns3 at _ y ∙ (pushed_field (λ n. n.upper) Below (λ n l. refl) ns2 at _ y ∙ (ap (λ n. n.upper) (get_or-set_other ns1 at y _ no_node n) ∙ unlinked_field (λ n. n.upper) Below (λ n l. refl) ns at y))

    lower_off : (y : ℕ) → y ≢ at → lower_at ns4 y ≡ lower_at ns y
    lower_off y n = pushed_field (λ n. n.lower) Above (λ n l. refl) ns3 at _ y ∙ (pushed_field (λ n. n.lower) Below (λ n l. refl) ns2 at _ y ∙ (ap (λ n. n.lower) (get_or-set_other ns1 at y _ no_node n) ∙ unlinked_field (λ n. n.lower) Below (λ n l. refl) ns at y))

    small : ids < length below
    small = let h = a.heads.0 in omega arith

    owned : upper_at ns at < length below
    owned = let h = a.heads.0 in let e = free.upper in omega arith

    downs1 : AreLists (next_at Below ns1) (back_at Below ns1) owner1 below1 len
    downs1 = lists_unlink (next_at Below ns) (back_at Below ns) (upper_at ns) (next_at Below ns1) (back_at Below ns1) owner1 below len at ids a.downs small
        free.inside free.upper (let h = a.heads.0 in let e = but_at at (ids + 1) (upper_at ns) in omega arith) (but_off at (ids + 1) (upper_at ns))
        (unlink_is Below ns at (back_in_list (next_at Below ns) (back_at Below ns) (upper_at ns) below len a.downs at free.inside owned) (next_in (next_at Below ns) (back_at Below ns) (upper_at ns) below len a.downs at free.inside owned))

    size_below1 : length below1 ≡ ids + 1
    size_below1 = heads'_size (next_at Below ns) (back_at Below ns) (upper_at ns) (next_at Below ns1) (back_at Below ns1) owner1 below len at ids a.downs small
        free.inside free.upper (let h = a.heads.0 in let e = but_at at (ids + 1) (upper_at ns) in omega arith) (but_off at (ids + 1) (upper_at ns))
        (unlink_is Below ns at (back_in_list (next_at Below ns) (back_at Below ns) (upper_at ns) below len a.downs at free.inside owned) (next_in (next_at Below ns) (back_at Below ns) (upper_at ns) below len a.downs at free.inside owned))
        ∙ a.heads.0

    downs2 : AreLists (next_at Below ns2) (back_at Below ns2) owner1 below1 len
    downs2 = AreLists_same (next_at Below ns1) (back_at Below ns1) owner1 (next_at Below ns2) (back_at Below ns2) owner1 below1 len
        (λ y. set_field (λ n. n.below.next) ns1 at _ y refl) (λ y. set_field (λ n. n.below.back) ns1 at _ y refl) (λ y. refl) downs1

    nobody : at < len → length below1 ≤ owner1 at
    nobody l = let h = size_below1 in let e = but_at at (ids + 1) (upper_at ns) in omega arith

    fits1 : upper < length below1
    fits1 = let h = size_below1 in omega arith

    pub first_down : (at < length ns2) × (upper < length below1) × (get_or below1 upper nil ≢ nil → get_or below1 upper nil < length ns2)
    first_down = (
      subst (λ z. at < z) (sym size2) free.inside,
      fits1,
      λ n. subst (λ z. get_or below1 upper nil < z) (sym size2) (head_in (next_at Below ns2) (back_at Below ns2) owner1 below1 len downs2 upper fits1 n).0,
    )

    downs3 : AreLists (next_at Below ns3) (back_at Below ns3) (upper_at ns4) below3 len
    downs3 = lists_push (next_at Below ns2) (back_at Below ns2) owner1 (next_at Below ns3) (back_at Below ns3) (upper_at ns4) below1 len at upper downs2 fits1
        len free.place free.inside (le_refl len) (λ y l n. l) nobody upper_here (λ y n. upper_off y n ∙ sym (but_off at (ids + 1) (upper_at ns) y n))
        (push_is Below ns2 at (get_or below1 upper nil) first_down.0 first_down.2
        (head_off (next_at Below ns2) (back_at Below ns2) owner1 below1 len downs2 upper at fits1 free.place nobody))

    downs4 : AreLists (next_at Below ns4) (back_at Below ns4) (upper_at ns4) below3 len
    downs4 = AreLists_same (next_at Below ns3) (back_at Below ns3) (upper_at ns4) (next_at Below ns4) (back_at Below ns4) (upper_at ns4) below3 len
        (λ y. pushed_field (λ n. n.below.next) Above (λ n l. refl) ns3 at _ y) (λ y. pushed_field (λ n. n.below.back) Above (λ n l. refl) ns3 at _ y) (λ y. refl) downs3

    ups3 : AreLists (next_at Above ns3) (back_at Above ns3) (lower_at ns) above len
    ups3 = AreLists_same (next_at Above ns) (back_at Above ns) (lower_at ns) (next_at Above ns3) (back_at Above ns3) (lower_at ns) above len
        (λ y. pushed_field (λ n. n.above.next) Below (λ n l. refl) ns2 at _ y ∙ (set_field (λ n. n.above.next) ns1 at _ y refl ∙ unlinked_field (λ n. n.above.next) Below (λ n l. refl) ns at y))
        (λ y. pushed_field (λ n. n.above.back) Below (λ n l. refl) ns2 at _ y ∙ (set_field (λ n. n.above.back) ns1 at _ y refl ∙ unlinked_field (λ n. n.above.back) Below (λ n l. refl) ns at y))
        (λ y. refl) a.ups

    fits : lower < length above
    fits = let h = a.heads.1 in omega arith

    nobody3 : at < len → length above ≤ lower_at ns at
    nobody3 l = let h = a.heads.1 in let e = free.lower in omega arith

    pub first_up : (at < length ns3) × (lower < length above) × (get_or above lower nil ≢ nil → get_or above lower nil < length ns3)
    first_up = (
      subst (λ z. at < z) (sym size3) free.inside,
      fits,
      λ n. subst (λ z. get_or above lower nil < z) (sym size3) (head_in (next_at Above ns3) (back_at Above ns3) (lower_at ns) above len ups3 lower fits n).0,
    )

    ups4 : AreLists (next_at Above ns4) (back_at Above ns4) (lower_at ns4) above4 len
    ups4 = lists_push (next_at Above ns3) (back_at Above ns3) (lower_at ns) (next_at Above ns4) (back_at Above ns4) (lower_at ns4) above len at lower ups3 fits
        len free.place free.inside (le_refl len) (λ y l n. l) nobody3 lower_here lower_off
        (push_is Above ns3 at (get_or above lower nil) first_up.0 first_up.2
        (head_off (next_at Above ns3) (back_at Above ns3) (lower_at ns) above len ups3 lower at fits free.place nobody3))

    pub chains_linked : AreChains ids ns4 below3 above4 (length ns4)
    chains_linked = record {
      size = (a.size.0, a.size.1, (let s = size4 in let z = a.size.2 in omega arith));
      heads = (length-set below1 upper at ∙ size_below1, length-set above lower at ∙ a.heads.1);
      downs = subst (λ z. AreLists (next_at Below ns4) (back_at Below ns4) (upper_at ns4) below3 z) (sym size4) downs4;
      ups = subst (λ z. AreLists (next_at Above ns4) (back_at Above ns4) (lower_at ns4) above4 z) (sym size4) ups4;
      ends = λ p l. elim (cases_eq p at) [
        | inl e ↦ subst (λ z. AreEnds ids (upper_at ns4 z) (lower_at ns4 z)) (sym e) (subst (λ z. AreEnds ids z (lower_at ns4 at)) (sym upper_here) (subst (λ z. AreEnds ids upper z) (sym lower_here) (inr (us, ls, differ))))
        | inr n ↦ subst (λ z. AreEnds ids z (lower_at ns4 p)) (sym (upper_off p n)) (subst (λ z. AreEnds ids (upper_at ns p) z) (sym (lower_off p n)) (a.ends p (let s = size4 in omega arith)))
      ];
      once = λ p q l m s e f.
          let z = size4 in
          elim (cases_eq p at) [
            | inl g ↦ elim (cases_eq q at) [
              | inl h ↦ g ∙ sym h
              | inr n ↦ absurd (other_pair ids ns q upper lower (omega arith) absent us (sym (upper_off q n) ∙ (sym e ∙ (ap (upper_at ns4) g ∙ upper_here))) (sym (lower_off q n) ∙ (sym f ∙ (ap (lower_at ns4) g ∙ lower_here))))
            ]
            | inr n ↦ elim (cases_eq q at) [
              | inl h ↦ absurd (other_pair ids ns p upper lower (omega arith) absent us (sym (upper_off p n) ∙ (e ∙ (ap (upper_at ns4) h ∙ upper_here))) (sym (lower_off p n) ∙ (f ∙ (ap (lower_at ns4) h ∙ lower_here))))
              | inr k ↦ a.once p q (omega arith) (omega arith) (let t = upper_off p n in omega arith) (sym (upper_off p n) ∙ (e ∙ upper_off q k)) (sym (lower_off p n) ∙ (f ∙ lower_off q k))
            ]
          ];
    }

    pub is_linked : IsLinked (map (pair_of ids) ns) (map (pair_of ids) ns4) (upper, lower)
    is_linked = (
      at,
      (let m = length-map ns (pair_of ids) in let i = free.inside in omega arith),
      at_place ids ns at free.inside ∙ pair_free ids (upper_at ns at) (lower_at ns at) free.upper,
      one_changed ids ns ns4 at (Some (upper, lower)) size4 free.inside
          (ap (λ z. pair ids z (lower_at ns4 at)) upper_here ∙ (ap (pair ids upper) lower_here ∙ pair_taken ids upper lower (λ e. absurd (omega arith)))) upper_off lower_off,
    )
